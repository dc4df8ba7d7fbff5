use Rattle.std.proofs.Common.{◌<◌, ◌+◌, ◌-◌, [], false, drop, get_or, map, take, ap, sym, ◌∙◌, subst, refl, arith, length}
use Rattle.std.specs.Prelude.{Ok}
use Rattle.tsv_text.specs.Lines.{fields_of}
use Rattle.std.proofs.lemmas.List.Elements.{All-get_or}
use Rattle.scalar_texts.specs.States.{AllStates}
use Rattle.value_types.specs.Folds.{ty_of}
use Rattle.value_types.specs.declared.ty.Ty.{Ty}
use Rattle.value_types.specs.declared.ty.Ty.TheVariants.{Str}
use Rattle.typed_columns.specs.Growth.{trim}
use Rattle.quick_rows.specs.declared.walk.Step.TheVariants.{Keep}
use Rattle.quick_rows.specs.proving.Walking.{StepsFirst}
use Rattle.quick_rows.proofs.Fronts.{front_one, nothing}
use Rattle.quick_rows.proofs.KeptRows.{column_within, type_kept, get_within, state_of, filled_all, filled_none, filled_step, left_none, left_tab, mark_of, undone, unfilled}
use Rattle.quick_rows.proofs.Walks.{steps_long}
use Rattle.quick_rows.proofs.kept.fill_kept.Goals as goal

pub loop-i-init : goal.loop-i-init
loop-i-init g c = filled_none (g.R.StateReader.reads c.args.reader.now) c.args.types.now c.args.keep.now c.args.columns.now.items c.args.line.now

pub bounds-steps-i : goal.bounds-steps-i
bounds-steps-i g c = omega (arith, c.loop-i-test.true, (steps_long c.args.types.now c.args.keep.now c.args.steps.now c.requires.steps).1)

pub step_first-requires-clause-readable : goal.step_first-requires-clause-readable
step_first-requires-clause-readable g c =
    let all_long = steps_long c.args.types.now c.args.keep.now c.args.steps.now c.requires.steps in
    let here : c.loop-i.i < length c.args.types.now = omega (arith, c.loop-i-test.true, all_long.1) in
    let t = c.index-types-i.result in
    subst (λ (u : Ty). AllStates (g.R.StateReader.takes c.args.reader.now) (ty_of u)) (sym c.index-types-i.is)
    (All-get_or (λ (u : Ty). AllStates (g.R.StateReader.takes c.args.reader.now) (ty_of u)) c.args.types.now c.loop-i.i t here c.requires.readable)

pub step_first-requires-clause-within : goal.step_first-requires-clause-within
step_first-requires-clause-within g c is =
    let all_long = steps_long c.args.types.now c.args.keep.now c.args.steps.now c.requires.steps in
    let here : c.loop-i.i < length c.args.types.now = omega (arith, c.loop-i-test.true, all_long.1) in
    column_within (g.R.StateReader.reads c.args.reader.now) c.args.types.now c.args.keep.now c.args.columns.now.items c.loop-i.columns.items c.args.line.now c.loop-i.i c.loop-i.at (fields_of c.loop-i.text.now) false Str c.loop-i.invariant
    all_long.0 c.requires.types here (mark_of c.args.types.now c.args.keep.now c.args.steps.now c.loop-i.i false _ c.requires.steps here is)

pub step_first-requires-clause-ty : goal.step_first-requires-clause-ty
step_first-requires-clause-ty g c is column at =
    let all_long = steps_long c.args.types.now c.args.keep.now c.args.steps.now c.requires.steps in
    let here : c.loop-i.i < length c.args.types.now = omega (arith, c.loop-i-test.true, all_long.1) in
    let of = type_kept (g.R.StateReader.reads c.args.reader.now) c.args.types.now c.args.keep.now c.args.columns.now.items c.loop-i.columns.items c.args.line.now c.loop-i.i c.loop-i.at (fields_of c.loop-i.text.now) false column c.loop-i.invariant
    all_long.0 c.requires.types here (mark_of c.args.types.now c.args.keep.now c.args.steps.now c.loop-i.i false _ c.requires.steps here is) at in
    c.index-types-i.is ∙ get_within c.args.types.now c.loop-i.i c.index-types-i.result column.ty here ∙ sym of

pub step_first-requires-clause-state : goal.step_first-requires-clause-state
step_first-requires-clause-state g c is =
    let all_long = steps_long c.args.types.now c.args.keep.now c.args.steps.now c.requires.steps in
    let here : c.loop-i.i < length c.args.types.now = omega (arith, c.loop-i-test.true, all_long.1) in
    state_of c.args.types.now c.args.keep.now c.args.steps.now c.loop-i.i c.index-types-i.result false _ c.requires.steps here c.index-types-i.is is

pub returns-in-Ok-Irregular : goal.returns-in-Ok-Irregular
returns-in-Ok-Irregular g c =
    let text = c.loop-i.text.now in
    let same = subst (λ f. StepsFirst (g.R.StateReader.reads c.args.reader.now) (get_or c.args.steps.now c.loop-i.i Keep) c.index-types-i.result c.loop-i.columns.items c.loop-i.at text c.step_first.new.columns.items c.step_first.new.at (Ok f)) c.in-Ok-Irregular.field-0-is c.in-Ok-Irregular.ensures in
    ap (map (trim c.args.count)) same
    ∙ unfilled (g.R.StateReader.reads c.args.reader.now) c.args.count c.args.types.now c.args.keep.now c.args.columns.now.items c.loop-i.columns.items c.args.line.now c.loop-i.i c.loop-i.at (fields_of text) c.loop-i.invariant c.requires.long

pub returns-in-Err : goal.returns-in-Err
returns-in-Err g c =
    ap (map (trim c.args.count)) c.in-Err.ensures
    ∙ unfilled (g.R.StateReader.reads c.args.reader.now) c.args.count c.args.types.now c.args.keep.now c.args.columns.now.items c.loop-i.columns.items c.args.line.now c.loop-i.i c.loop-i.at (fields_of c.loop-i.text.now) c.loop-i.invariant c.requires.long

pub loop-i-preserved : goal.loop-i-preserved
loop-i-preserved g c =
    let all_long = steps_long c.args.types.now c.args.keep.now c.args.steps.now c.requires.steps in
    let here : c.loop-i.i < length c.args.types.now = omega (arith, c.loop-i-test.true, all_long.1) in
    let text = c.loop-i.text.now in
    let left = c.in-Ok-Taken.left.now in
    let stepped = subst (λ f. StepsFirst (g.R.StateReader.reads c.args.reader.now) (get_or c.args.steps.now c.loop-i.i Keep) c.index-types-i.result c.loop-i.columns.items c.loop-i.at text c.step_first.new.columns.items c.step_first.new.at (Ok f)) c.in-Ok-Taken.field-0-is c.in-Ok-Taken.ensures in
    filled_step (g.R.StateReader.reads c.args.reader.now) c.args.types.now c.args.keep.now c.args.steps.now c.args.columns.now.items c.loop-i.columns.items c.step_first.new.columns.items c.args.line.now c.loop-i.i c.loop-i.at c.step_first.new.at
    (fields_of (take (length left - 1) (drop 1 left))) text left Keep c.index-types-i.result c.loop-i.invariant c.requires.steps c.requires.types here c.index-types-i.is stepped (left_tab left _ (front_one left 9 (omega arith) (omega arith)))

pub returns-then-i-types : goal.returns-then-i-types
returns-then-i-types g c =
    let all_long = steps_long c.args.types.now c.args.keep.now c.args.steps.now c.requires.steps in
    let here : c.loop-i.i < length c.args.types.now = omega (arith, c.loop-i-test.true, all_long.1) in
    let text = c.loop-i.text.now in
    let left = c.in-Ok-Taken.left.now in
    let stepped = subst (λ f. StepsFirst (g.R.StateReader.reads c.args.reader.now) (get_or c.args.steps.now c.loop-i.i Keep) c.index-types-i.result c.loop-i.columns.items c.loop-i.at text c.step_first.new.columns.items c.step_first.new.at (Ok f)) c.in-Ok-Taken.field-0-is c.in-Ok-Taken.ensures in
    let more = filled_step (g.R.StateReader.reads c.args.reader.now) c.args.types.now c.args.keep.now c.args.steps.now c.args.columns.now.items c.loop-i.columns.items c.step_first.new.columns.items c.args.line.now c.loop-i.i c.loop-i.at c.step_first.new.at
    [] text left Keep c.index-types-i.result c.loop-i.invariant c.requires.steps c.requires.types here c.index-types-i.is stepped (left_none left (nothing left (omega arith))) in
    filled_all (g.R.StateReader.reads c.args.reader.now) c.args.count c.args.types.now c.args.keep.now c.args.columns.now.items c.step_first.new.columns.items c.args.line.now (c.loop-i.i + 1) c.step_first.new.at [] more
    (omega (arith, c.if-i-types.true, all_long.1)) refl

pub returns-in-empty : goal.returns-in-empty
returns-in-empty g c =
    let all_long = steps_long c.args.types.now c.args.keep.now c.args.steps.now c.requires.steps in
    let here : c.loop-i.i < length c.args.types.now = omega (arith, c.loop-i-test.true, all_long.1) in
    let text = c.loop-i.text.now in
    let left = c.in-Ok-Taken.left.now in
    let stepped = subst (λ f. StepsFirst (g.R.StateReader.reads c.args.reader.now) (get_or c.args.steps.now c.loop-i.i Keep) c.index-types-i.result c.loop-i.columns.items c.loop-i.at text c.step_first.new.columns.items c.step_first.new.at (Ok f)) c.in-Ok-Taken.field-0-is c.in-Ok-Taken.ensures in
    undone (g.R.StateReader.reads c.args.reader.now) c.args.count c.args.types.now c.args.keep.now c.args.steps.now c.args.columns.now.items c.loop-i.columns.items c.step_first.new.columns.items c.args.line.now c.loop-i.i c.loop-i.at c.step_first.new.at
    (fields_of text) text left Keep c.index-types-i.result c.loop-i.invariant c.requires.long c.requires.steps c.requires.types here stepped

pub returns-in_default : goal.returns-in_default
returns-in_default g c =
    let all_long = steps_long c.args.types.now c.args.keep.now c.args.steps.now c.requires.steps in
    let here : c.loop-i.i < length c.args.types.now = omega (arith, c.loop-i-test.true, all_long.1) in
    let text = c.loop-i.text.now in
    let left = c.in-Ok-Taken.left.now in
    let stepped = subst (λ f. StepsFirst (g.R.StateReader.reads c.args.reader.now) (get_or c.args.steps.now c.loop-i.i Keep) c.index-types-i.result c.loop-i.columns.items c.loop-i.at text c.step_first.new.columns.items c.step_first.new.at (Ok f)) c.in-Ok-Taken.field-0-is c.in-Ok-Taken.ensures in
    undone (g.R.StateReader.reads c.args.reader.now) c.args.count c.args.types.now c.args.keep.now c.args.steps.now c.args.columns.now.items c.loop-i.columns.items c.step_first.new.columns.items c.args.line.now c.loop-i.i c.loop-i.at c.step_first.new.at
    (fields_of text) text left Keep c.index-types-i.result c.loop-i.invariant c.requires.long c.requires.steps c.requires.types here stepped

pub returns : goal.returns
returns g c =
    unfilled (g.R.StateReader.reads c.args.reader.now) c.args.count c.args.types.now c.args.keep.now c.args.columns.now.items c.loop-i.columns.items c.args.line.now c.loop-i.i c.loop-i.at (fields_of c.loop-i.text.now) c.loop-i.invariant c.requires.long
