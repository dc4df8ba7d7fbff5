use Rattle.line_tokens.specs.Views.{token_seen}
use Rattle.request_lines.proofs.MarkFirst.{mark_first}
use Rattle.request_lines.proofs.rest.Rest.behind.Goals as goal

pub returns-in-Some-clause-letters : goal.returns-in-Some-clause-letters
returns-in-Some-clause-letters c = mark_first c.args.mark (token_seen c.in-Some.first.token) c.in-Some.first.at _ _ c.in-Some.ensures.letters (c.if-is_mark.ensures)
