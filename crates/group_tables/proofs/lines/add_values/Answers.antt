use Rattle.std.proofs.Common.{◌<◌, ◌∙◌, ap, get_or, length, map, subst, sym, arith}
use Rattle.std.proofs.lemmas.List.{map_push}
use Rattle.state_columns.specs.Trees.{IsColumnOf}
use Rattle.value_types.specs.Folds.{value_of}
use Rattle.group_tables.proofs.LineLaws.{one-more-value}
use Rattle.group_tables.proofs.lines.add_values.Goals as goal

pub call_value-requires-clause-shape : goal.call_value-requires-clause-shape
call_value-requires-clause-shape c =
    let call = c.index-calls-i.result in
    let column = c.index-columns-i.result in
    subst (λ k. IsColumnOf k.ready column) (sym c.index-calls-i.is)
    (subst (IsColumnOf (get_or c.args.calls.now c.loop-i.i call).ready) (sym c.index-columns-i.is) (c.requires.shape.each c.loop-i.i call column c.loop-i-test.true))

pub loop-i-preserved : goal.loop-i-preserved
loop-i-preserved c =
    let within : c.loop-i.i < length c.args.columns.now = omega (arith, c.loop-i-test.true, c.requires.shape.many) in
    one-more-value c.args.calls.now c.args.columns.now c.args.place (map value_of c.args.values.now) (map value_of c.loop-i.values) (map value_of c.push.new.self) c.loop-i.i
    c.index-calls-i.result c.index-columns-i.result (value_of c.in_ok-call_value.field-0) c.loop-i.invariant c.loop-i-test.true within c.index-calls-i.is c.index-columns-i.is
    c.in_ok-call_value.ensures (ap (map value_of) c.in_ok-push.ensures.ok ∙ map_push value_of c.loop-i.values c.in_ok-call_value.field-0)
