use Rattle.std.proofs.Common.{map, rules}
use Rattle.std.specs.Ordering.{is_lt}
use Rattle.agg_terms.specs.Order.{compare_rows}
use Rattle.value_types.specs.Folds.{value_of}
use Rattle.agg_values.proofs.Neighbours.{over}
use Rattle.agg_values.proofs.in_order.rows_rise.Goals as goal

pub returns : goal.returns
returns c = over (λ x y. is_lt (compare_rows (map value_of x) (map value_of y))) c.args.rows.now c.loop-i.i c.loop-i.invariant (search rules) (search rules)
