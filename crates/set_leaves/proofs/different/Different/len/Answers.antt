use Rattle.std.proofs.Common.{◌≡◌, ◌∙◌, length, map, subst}
use Rattle.agg_terms.specs.Order.{compare_rows, different}
use Rattle.set_leaves.proofs.Keys.{keys_counted}
use Rattle.set_leaves.proofs.different.Different.len.Goals as goal

pub returns-clause-count : goal.returns-clause-count
returns-clause-count g c =
    subst (λ ks. c.len.result ≡ length (different compare_rows (map g.K.Key.tuple ks))) c.self.view_is
    (c.len.ensures.len ∙ keys_counted g.K.Key.tuple g.K.Ord.cmp g.K.PartialEq.eq g.met.K.Key.ranks g.met.K.Ord.matches_eq c.self.inside.keys.keys c.len.ensures.unique)
