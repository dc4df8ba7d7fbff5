use Rattle.std.proofs.Common.{rules}
use Rattle.std.specs.Ordering.{is_lt}
use Rattle.std.proofs.lemmas.Fn.{always_returns_same}
use Rattle.std.proofs.lemmas.List.Sorted.{ranks_by}
use Rattle.set_leaves.specs.proving.Orders.{rows_total}
use Rattle.group_keys.specs.proving.Placed.{tuple_cmp, tuple_of}
use Rattle.group_keys.proofs.tuple_order.put_in_order.Goals as goal

pub returns-clause-ascending : goal.returns-clause-ascending
returns-clause-ascending c =
    c.sort_unstable_by.ensures.sorted (λ a b. is_lt (tuple_cmp a b)) (ranks_by rows_total tuple_of)
    (always_returns_same _ _ _ (λ a r q k. search rules))
