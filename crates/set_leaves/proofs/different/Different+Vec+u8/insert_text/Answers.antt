use Rattle.std.proofs.Common.{Global, Vec, ℕ, ◌++◌, ◌∷◌, [], ◌∙◌, map, subst, sym}
use Rattle.set_leaves.specs.Tuples.{SameSet, text_tuple}
use Rattle.set_leaves.proofs.Keys.{text_there}
use Rattle.set_leaves.proofs.different.Different+Vec+u8.insert_text.Goals as goal

pub returns-then-contains-clause-ok : goal.returns-then-contains-clause-ok
returns-then-contains-clause-ok c =
    let bytes_of = λ (text : Vec ℕ Global). text.items in
    subst (λ ks. SameSet (map (λ text. text_tuple (bytes_of text)) ks) (map (λ text. text_tuple (bytes_of text)) ks ++ text_tuple c.args.bytes.now ∷ [])) c.self.view_is
    (text_there bytes_of c.self.inside.keys.keys c.args.bytes.now (sym c.contains.ensures ∙ c.if-contains.true))
