use Rattle.agg_terms.specs.Order.{event_cmp}
use Rattle.value_types.specs.Folds.{event_of}
use Rattle.agg_values.proofs.Compared.{ends}
use Rattle.agg_values.proofs.tree_order.compare_events.Goals as goal
use Rattle.std.proofs.Common.{rules}

pub returns : goal.returns
returns c = ends (λ x y. event_cmp (event_of x) (event_of y)) c.args.a.now c.args.b.now c.loop-i.i c.cmp-2.result c.loop-i.invariant (search rules) (search rules) c.cmp-2.ensures
