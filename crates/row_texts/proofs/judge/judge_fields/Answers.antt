use Rattle.std.proofs.Common.{◌≡◌, ◌+◌, subst, ap, sym, ◌∙◌}
use Rattle.row_texts.specs.Rows.{IsRowAnswer, refusal_of}
use Rattle.row_texts.proofs.Reading.{IsReadSoFar, first-fault, more, refused, whole, whole-fits}
use Rattle.std.specs.Prelude.{Err}
use Rattle.row_texts.proofs.judge.judge_fields.Goals as goal

pub loop-left-preserved : goal.loop-left-preserved
loop-left-preserved g c =
    let reads = g.R.StateReader.reads c.args.reader.now in
    let so_far = subst (IsReadSoFar reads c.args.types.now c.args.line.now c.loop-left.row) c.in-Some.is c.loop-left.invariant in
    more reads c.args.types.now c.args.line.now c.loop-left.row c.push.new.self c.in-Some.text c.first_field.result.0.now c.first_field.result.1
    c.len.result c.index-types-len.result c.in-Ok.value so_far c.first_field.ensures.fields c.len.ensures c.index-types-len.is c.in-Ok.ensures.read c.in-Ok.ensures.fits c.in_ok-push-in-Ok.ensures.ok

pub returns-in-Err-clause-row : goal.returns-in-Err-clause-row
returns-in-Err-clause-row g c =
    let reads = g.R.StateReader.reads c.args.reader.now in
    let so_far = subst (IsReadSoFar reads c.args.types.now c.args.line.now c.loop-left.row) c.in-Some.is c.loop-left.invariant in
    let first = refused reads c.args.types.now c.args.line.now c.loop-left.row c.in-Some.text c.first_field.result.0.now c.first_field.result.1
    c.len.result c.index-types-len.result c.in-Err.fault so_far c.first_field.ensures.fields c.len.ensures c.index-types-len.is c.in-Err.ensures.read in
    let told = first-fault reads c.args.types.now c.args.line.now _ c.in-Err.fault c.requires.count first in
    let column = ap (λ k. refusal_of (k + 1) c.in-Err.fault) c.len-in-Err.ensures in
    subst (λ r. IsRowAnswer reads c.args.types.now c.args.line.now (Err r)) (sym (c.refusal_of.ensures ∙ column)) told

pub returns-clause-row : goal.returns-clause-row
returns-clause-row g c =
    let reads = g.R.StateReader.reads c.args.reader.now in
    whole reads c.args.types.now c.args.line.now c.loop-left.row
    (subst (IsReadSoFar reads c.args.types.now c.args.line.now c.loop-left.row) c.in_default.is c.loop-left.invariant)

pub returns-clause-fits : goal.returns-clause-fits
returns-clause-fits g c =
    let reads = g.R.StateReader.reads c.args.reader.now in
    whole-fits reads c.args.types.now c.args.line.now c.loop-left.row
    (subst (IsReadSoFar reads c.args.types.now c.args.line.now c.loop-left.row) c.in_default.is c.loop-left.invariant)
