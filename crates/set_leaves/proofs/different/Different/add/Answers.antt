use Rattle.std.proofs.Common.{◌++◌, ◌∷◌, [], map, subst, sym, ◌∙◌}
use Rattle.set_leaves.specs.Tuples.{SameSet}
use Rattle.set_leaves.proofs.Keys.{key_there}
use Rattle.set_leaves.proofs.different.Different.add.Goals as goal

pub returns-then-contains-clause-ok : goal.returns-then-contains-clause-ok
returns-then-contains-clause-ok g c =
    subst (λ ks. SameSet (map g.K.Key.tuple ks) (map g.K.Key.tuple ks ++ g.K.Key.tuple c.args.key.now ∷ [])) c.self.view_is
    (key_there g.K.Key.tuple g.K.Ord.cmp g.K.PartialEq.eq g.met.K.Key.ranks g.met.K.Ord.matches_eq c.self.inside.keys.keys c.args.key.now (sym c.contains.ensures ∙ c.if-contains.true))
