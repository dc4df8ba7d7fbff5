use Rattle.std.proofs.Common.{rules}
use Rattle.std.specs.Ordering.{is_lt}
use Rattle.agg_terms.specs.Order.{compare}
use Rattle.value_types.specs.Folds.{entry_of}
use Rattle.agg_values.proofs.Neighbours.{over}
use Rattle.agg_values.proofs.in_order.keys_rise.Goals as goal

pub returns : goal.returns
returns c = over (λ x y. is_lt (compare (entry_of x).0 (entry_of y).0)) c.args.entries.now c.loop-i.i c.loop-i.invariant (search rules) (search rules)
