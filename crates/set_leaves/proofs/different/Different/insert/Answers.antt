use Rattle.std.proofs.Common.{◌++◌, ◌∷◌, [], map, subst, sym}
use Rattle.set_leaves.specs.Tuples.{SameSet}
use Rattle.set_leaves.proofs.Keys.{key_inserted}
use Rattle.set_leaves.proofs.different.Different.insert.Goals as goal

pub returns-clause-ok : goal.returns-clause-ok
returns-clause-ok g c =
    subst (λ ks. SameSet (map g.K.Key.tuple c.insert.new.self.keys) (map g.K.Key.tuple ks ++ g.K.Key.tuple c.args.key ∷ [])) c.self.view_is
    (subst (λ ks. SameSet (map g.K.Key.tuple ks) (map g.K.Key.tuple c.self.inside.keys.keys ++ g.K.Key.tuple c.args.key ∷ [])) (sym c.in_ok-insert.ensures.keys)
    (key_inserted g.K.Key.tuple g.K.Ord.cmp g.K.PartialEq.eq g.met.K.Key.ranks g.met.K.Ord.matches_eq c.self.inside.keys.keys c.args.key))
