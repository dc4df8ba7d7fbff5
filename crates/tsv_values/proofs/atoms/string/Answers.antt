use Rattle.std.proofs.Common.{subst, sym}
use Rattle.tsv_values.specs.Elements.{QuotedSays}
use Rattle.tsv_values.specs.proving.Reading.{IsMissing}
use Rattle.tsv_values.proofs.Quoted.{bytes_said, cut_none, string_found, string_missing}
use Rattle.tsv_values.proofs.atoms.string.Goals as goal

pub returns-in-Ok-clause-read : goal.returns-in-Ok-clause-read
returns-in-Ok-clause-read c = string_found c.law_one_answer.ensures c.args.text.now c.in-Some.inside.now c.in-Some.rest.now c.in-Some.ensures c.in-Ok.value c.in-Ok.ensures.read

pub returns-in-Err-clause-read : goal.returns-in-Err-clause-read
returns-in-Err-clause-read c =
    subst (IsMissing (QuotedSays bytes_said) c.args.text.now) (sym c.missing_of.ensures)
    (string_missing c.law_one_answer.ensures c.args.text.now c.in-Some.inside.now c.in-Some.rest.now c.in-Some.ensures c.in-Err.fault c.in-Err.ensures.read)

pub returns-in-None-clause-read : goal.returns-in-None-clause-read
returns-in-None-clause-read c = cut_none bytes_said c.args.text.now c.in-None.ensures
