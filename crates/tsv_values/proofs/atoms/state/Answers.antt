use Rattle.std.proofs.Common.{Ok, subst, sym}
use Rattle.value_types.specs.Folds.{ty_of}
use Rattle.scalar_texts.specs.Answer.{state_answer}
use Rattle.tsv_text.specs.Escapes.{IsUnescaped}
use Rattle.tsv_values.specs.Elements.{QuotedSays}
use Rattle.tsv_values.specs.proving.Reading.{IsMissing}
use Rattle.tsv_values.proofs.Quoted.{cut_none, escape_nothing, state_found, state_refused}
use Rattle.tsv_values.proofs.atoms.state.Goals as goal

pub returns-in_default-clause-read : goal.returns-in_default-clause-read
returns-in_default-clause-read g c = cut_none (state_answer (g.R.StateReader.reads c.args.reader.now) (ty_of c.args.ty.now)) c.args.text.now c.in_default.ensures

pub returns-in-Err-clause-read : goal.returns-in-Err-clause-read
returns-in-Err-clause-read g c =
    let meaning = state_answer (g.R.StateReader.reads c.args.reader.now) (ty_of c.args.ty.now) in
    subst (IsMissing (QuotedSays meaning) c.args.text.now) (sym c.escape_missing.ensures)
    (escape_nothing c.law_one_answer.ensures c.args.text.now c.in-Some.inside.now c.in-Some.rest.now c.in-Some.ensures meaning c.in-Err.fault c.in-Err.ensures)

pub returns-in-Ok-read_state-clause-read : goal.returns-in-Ok-read_state-clause-read
returns-in-Ok-read_state-clause-read g c =
    state_found c.law_one_answer.ensures c.args.text.now c.in-Some.inside.now c.in-Some.rest.now c.in-Some.ensures (g.R.StateReader.reads c.args.reader.now) (ty_of c.args.ty.now) c.as_slice.result.now c.in-Ok-read_state.value
    (subst (λ t. IsUnescaped c.in-Some.inside.now (Ok t)) (sym c.as_slice.ensures) c.in-Ok.ensures) c.in-Ok-read_state.ensures.read

pub returns-clause-read : goal.returns-clause-read
returns-clause-read g c =
    state_refused c.law_one_answer.ensures c.args.text.now c.in-Some.inside.now c.in-Some.rest.now c.in-Some.ensures (g.R.StateReader.reads c.args.reader.now) (ty_of c.args.ty.now) c.as_slice.result.now c.in-Err-read_state.fault
    (subst (λ t. IsUnescaped c.in-Some.inside.now (Ok t)) (sym c.as_slice.ensures) c.in-Ok.ensures) c.in-Err-read_state.ensures.read
