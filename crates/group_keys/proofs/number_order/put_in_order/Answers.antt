use Rattle.std.proofs.Common.{rules}
use Rattle.std.specs.Ordering.{is_lt}
use Rattle.std.proofs.lemmas.Fn.{always_returns_same}
use Rattle.std.proofs.lemmas.List.Sorted.{ranks_by}
use Rattle.group_keys.specs.proving.Placed.{by_key}
use Rattle.group_keys.proofs.number_order.put_in_order.Goals as goal

pub returns-clause-ascending : goal.returns-clause-ascending
returns-clause-ascending g c =
    c.sort_unstable_by.ensures.sorted (λ a b. is_lt (by_key g.N.Ord.cmp a b)) (ranks_by g.met.N.Ord.total (λ e. e.key))
    (always_returns_same _ _ _ (λ a r q k. search rules))
