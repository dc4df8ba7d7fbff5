use Rattle.std.proofs.Common.{sym}
use Rattle.tsv_values.proofs.Numerals.{cut_nowhere, cut_there}
use Rattle.tsv_values.proofs.quotes.cut_number.Goals as goal

pub returns-in-Some : goal.returns-in-Some
returns-in-Some c = cut_there c.args.text.now c.split_at.result.0.now c.split_at.result.1.now c.in-Some.at (sym c.in-Some.ensures) c.split_at.ensures.front c.split_at.ensures.back

pub returns-in-None : goal.returns-in-None
returns-in-None c = cut_nowhere c.args.text.now c.split_at-in-None.result.0.now c.split_at-in-None.result.1.now (sym c.in-None.ensures) c.split_at-in-None.ensures.front c.split_at-in-None.ensures.back
