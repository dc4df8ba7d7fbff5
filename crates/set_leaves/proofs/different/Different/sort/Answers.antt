use Rattle.std.proofs.Common.{◌≡◌, map, subst}
use Rattle.agg_terms.specs.Order.{compare_rows, different}
use Rattle.set_leaves.proofs.Keys.{keys_sorted}
use Rattle.set_leaves.proofs.different.Different.sort.Goals as goal

pub returns : goal.returns
returns g c =
    subst (λ ks. map g.K.Key.tuple c.sort_unstable.new.self.keys ≡ different compare_rows (map g.K.Key.tuple ks)) c.self.view_is
    (keys_sorted g.K.Key.tuple g.K.Ord.cmp g.K.PartialEq.eq g.met.K.Key.ranks g.met.K.Ord.matches_eq c.self.inside.keys.keys c.sort_unstable.new.self.keys
    c.in_ok-sort_unstable.ensures.sorted c.in_ok-sort_unstable.ensures.unique c.in_ok-sort_unstable.ensures.reordered.2)
