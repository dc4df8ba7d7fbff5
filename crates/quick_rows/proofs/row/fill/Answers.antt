use Rattle.std.proofs.Common.{◌+◌, [], length, map, set, ap, ◌∙◌, subst, refl, arith}
use Rattle.std.specs.Prelude.{Ok}
use Rattle.std.proofs.lemmas.List.{set-get_or}
use Rattle.tsv_text.specs.Lines.{fields_of}
use Rattle.typed_columns.specs.Growth.{trim}
use Rattle.columns.proofs.Rows.{length_pushed}
use Rattle.quick_rows.specs.Taking.{TakesField, TakesFirst}
use Rattle.quick_rows.proofs.Fronts.{field_alone, field_then_tab, front_one, nothing}
use Rattle.quick_rows.proofs.RowLaws.{filled_all, filled_more, filled_none, undone, unfilled}
use Rattle.quick_rows.proofs.row.fill.Goals as goal

pub loop-i-init : goal.loop-i-init
loop-i-init c = filled_none c.args.columns.now.items c.args.line.now

pub returns-in-Ok-Irregular : goal.returns-in-Ok-Irregular
returns-in-Ok-Irregular c =
    let all = c.loop-i.columns.items in
    let i = c.loop-i.i in
    let e = c.index_mut.result.now in
    let same = subst (λ f. TakesFirst TakesField e c.loop-i.text.now c.take_first.new.column (Ok f)) c.in-Ok-Irregular.field-0-is c.in-Ok-Irregular.ensures ∙ c.index_mut.ensures.value in
    ap (map (trim c.args.count)) (ap (λ x. set all i x) same ∙ set-get_or all i e)
    ∙ unfilled c.args.count c.args.columns.now.items all c.args.line.now i (fields_of c.loop-i.text.now) c.loop-i.invariant c.requires.long

pub returns-in-Err : goal.returns-in-Err
returns-in-Err c =
    let all = c.loop-i.columns.items in
    let i = c.loop-i.i in
    let e = c.index_mut.result.now in
    ap (map (trim c.args.count)) (ap (λ x. set all i x) (c.in-Err.ensures ∙ c.index_mut.ensures.value) ∙ set-get_or all i e)
    ∙ unfilled c.args.count c.args.columns.now.items all c.args.line.now i (fields_of c.loop-i.text.now) c.loop-i.invariant c.requires.long

pub loop-i-preserved : goal.loop-i-preserved
loop-i-preserved c =
    let e = c.index_mut.result.now in
    let text = c.loop-i.text.now in
    let left = c.in-Ok-Taken.left.now in
    let first = subst (λ f. TakesFirst TakesField e text c.take_first.new.column (Ok f)) c.in-Ok-Taken.field-0-is c.in-Ok-Taken.ensures in
    filled_more c.args.columns.now.items c.loop-i.columns.items c.args.line.now c.loop-i.i (fields_of text) _ first.0 e c.take_first.new.column c.loop-i.invariant
    (field_then_tab text first.0 left _ first.1 (front_one left 9 (omega arith) (omega arith))) (omega (arith, c.loop-i-test.true, c.len-i-end.ensures, c.args.columns.now.ok)) c.index_mut.ensures.value first.2

pub returns-then-i-len : goal.returns-then-i-len
returns-then-i-len c =
    let e = c.index_mut.result.now in
    let text = c.loop-i.text.now in
    let left = c.in-Ok-Taken.left.now in
    let first = subst (λ f. TakesFirst TakesField e text c.take_first.new.column (Ok f)) c.in-Ok-Taken.field-0-is c.in-Ok-Taken.ensures in
    let more = filled_more c.args.columns.now.items c.loop-i.columns.items c.args.line.now c.loop-i.i (fields_of text) [] first.0 e c.take_first.new.column c.loop-i.invariant
    (field_alone text first.0 left first.1 (nothing left (omega arith))) (omega (arith, c.loop-i-test.true, c.len-i-end.ensures, c.args.columns.now.ok)) c.index_mut.ensures.value first.2 in
    filled_all c.args.count c.args.columns.now.items _ c.args.line.now (c.loop-i.i + 1) [] more (omega (arith, c.if-i-len.true, c.len.ensures, c.loop-i.columns.ok, ap length c.loop-i.invariant.stand, length_pushed c.args.columns.now.items c.loop-i.invariant.row)) refl

pub returns-in-empty : goal.returns-in-empty
returns-in-empty c =
    let e = c.index_mut.result.now in
    let text = c.loop-i.text.now in
    let first = subst (λ f. TakesFirst TakesField e text c.take_first.new.column (Ok f)) c.in-Ok-Taken.field-0-is c.in-Ok-Taken.ensures in
    undone c.args.count c.args.columns.now.items c.loop-i.columns.items c.args.line.now c.loop-i.i (fields_of text) first.0 e c.take_first.new.column c.loop-i.invariant c.requires.long
    (omega (arith, c.loop-i-test.true, c.len-i-end.ensures, c.args.columns.now.ok)) c.index_mut.ensures.value first.2

pub returns-in_default : goal.returns-in_default
returns-in_default c =
    let e = c.index_mut.result.now in
    let text = c.loop-i.text.now in
    let first = subst (λ f. TakesFirst TakesField e text c.take_first.new.column (Ok f)) c.in-Ok-Taken.field-0-is c.in-Ok-Taken.ensures in
    undone c.args.count c.args.columns.now.items c.loop-i.columns.items c.args.line.now c.loop-i.i (fields_of text) first.0 e c.take_first.new.column c.loop-i.invariant c.requires.long
    (omega (arith, c.loop-i-test.true, c.len-i-end.ensures, c.args.columns.now.ok)) c.index_mut.ensures.value first.2

pub returns : goal.returns
returns c = unfilled c.args.count c.args.columns.now.items c.loop-i.columns.items c.args.line.now c.loop-i.i (fields_of c.loop-i.text.now) c.loop-i.invariant c.requires.long
