use Rattle.line_tokens.specs.Views.{token_seen}
use Rattle.line_tokens.proofs.Skips.{tokens_of-first}
use Rattle.line_tokens.proofs.token.placed_at.Goals as goal

pub returns-in-Some-clause-tokens : goal.returns-in-Some-clause-tokens
returns-in-Some-clause-tokens c =
    tokens_of-first c.args.text.now (token_seen c.in-Some.token) c.in-Some.length c.split_at.result.1.now c.requires c.in-Some.ensures.value c.in-Some.ensures.within.0 c.split_at.ensures.back
