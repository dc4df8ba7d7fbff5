use Rattle.std.proofs.Common.{rules}
use Rattle.std.specs.Ordering.{is_le}
use Rattle.agg_terms.specs.Order.{compare}
use Rattle.value_types.specs.Folds.{value_of}
use Rattle.agg_values.proofs.Neighbours.{over}
use Rattle.agg_values.proofs.in_order.values_do_not_fall.Goals as goal

pub returns : goal.returns
returns c = over (λ x y. is_le (compare (value_of x) (value_of y))) c.args.items.now c.loop-i.i c.loop-i.invariant (search rules) (search rules)
