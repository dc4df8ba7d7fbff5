use Rattle.std.proofs.Common.{length, map, subst, sym}
use Rattle.group_keys.specs.Sets.{IsSetOf}
use Rattle.group_keys.specs.Tuples.{IsTupleAt}
use Rattle.key_methods.specs.Kinds.{AreKeyTypes}
use Rattle.value_types.specs.Folds.{value_of}
use Rattle.group_tables.specs.proving.Lines.{AddsValues}
use Rattle.group_tables.proofs.Facts.{kinds}
use Rattle.group_tables.proofs.LineLaws.{ask-columns, ask-place, ask-tuple, line-is}
use Rattle.group_tables.proofs.table.GroupTable.line.Goals as goal

pub tuple-requires-clause-types : goal.tuple-requires-clause-types
tuple-requires-clause-types c = subst AreKeyTypes (sym c.as_slice-types.ensures) (kinds c.args.grouping.now c.requires.ready)

pub tuple-requires-clause-set : goal.tuple-requires-clause-set
tuple-requires-clause-set c = subst (λ types. IsSetOf types c.args.self.now.keys) (sym c.as_slice-types.ensures) (c.requires.table.1.keys, c.requires.table.1.held)

pub tuple-requires-clause-place : goal.tuple-requires-clause-place
tuple-requires-clause-place c = ask-tuple c.args.grouping.now c.args.self.now c.args.place c.requires.place c.requires.table

pub add_values-requires-clause-shape : goal.add_values-requires-clause-shape
add_values-requires-clause-shape c =
    ask-columns c.args.grouping.now c.args.self.now c.args.place c.requires.place c.requires.table c.as_slice-calls.result.now c.as_slice-columns.result.now
    c.as_slice-calls.ensures c.as_slice-columns.ensures.value

pub add_values-requires-clause-place : goal.add_values-requires-clause-place
add_values-requires-clause-place c =
    ask-place c.args.grouping.now c.args.self.now c.args.place c.requires.place c.requires.table c.as_slice-columns.result.now c.as_slice-columns.ensures.value

pub returns : goal.returns
returns c =
    let calls = c.as_slice-calls.result.now in
    let columns = c.as_slice-columns.result.now in
    let key = map value_of c.in_ok-values.values in
    line-is c.args.grouping.now c.args.self.now c.args.place c.requires.place c.requires.ready c.law_typing.ensures.legal_is_lawful calls columns
    c.as_slice-calls.ensures c.as_slice-columns.ensures.value key (map value_of c.add_values.new.values)
    (subst (λ types. IsTupleAt types c.args.self.now.keys c.args.place key) c.as_slice-types.ensures c.in_ok-values.ensures)
    (subst (λ values. AddsValues calls columns c.args.place (length calls) (map value_of values) (map value_of c.add_values.new.values)) c.in_ok-reserve.ensures c.in_ok-add_values.ensures)
