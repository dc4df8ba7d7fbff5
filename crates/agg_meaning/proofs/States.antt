-- From what a state stands for to its tree: the instances at the feeds that the tree unfolds to.
use Rattle.std.proofs.Common.{◌≡◌, List, [], ◌∷◌, ◌++◌, true, Bool, refl, sym, ap, ◌∙◌}
use Rattle.agg_terms.specs.Chains.{Chain, Leaf, Of, Ty}
use Rattle.agg_terms.specs.Trees.{IsTree}
use Rattle.agg_terms.specs.Values.{Tree, Value}
use Rattle.agg_meaning.specs.Feeds.{Feed, IsFeed, IsLeafFeed, no_null, opened}
use Rattle.agg_meaning.specs.Lawful.{TakesSome, TakesTypes}
use Rattle.agg_meaning.specs.Laws.{AreFeeds, IsLegal}
use Rattle.agg_meaning.specs.States.{Held, IsFedBy, IsFedChain, Joins, Means, MeansChain, StandsFor, Takes, TakesRow, TakesState, made_for}
use Rattle.agg_meaning.specs.Suffixes.{fed, meaning, normal, unfolded}
use Rattle.agg_meaning.proofs.ChainLaws.{joins}
use Rattle.agg_meaning.proofs.Formed.{again, unfolds}
use Rattle.agg_meaning.proofs.TreeLaws.{back}

-- a tree stands for the feeds that it unfolds to
pub stands_unfolded : (c : Chain) (ts : List Ty) (t : Tree) → IsLegal c ts → IsTree c ts t → StandsFor c ts (unfolded c ts t) t
stands_unfolded c ts t l k = sym (back c ts l.0 t k)

pub tree_of_fed : (c : Chain) (ts : List Ty) (r : List Value) (t v : Tree) → IsLegal c ts → IsTree c ts t → IsFeed c ts (opened c r) → Takes c ts r t v → v ≡ normal c ts (unfolded c ts t ++ opened c r ∷ [])
tree_of_fed c ts r t v l k i a = a (unfolded c ts t) l (i, tt) (stands_unfolded c ts t l k)

pub tree_of_joined : (c : Chain) (ts : List Ty) (t u v : Tree) → IsLegal c ts → IsTree c ts t → IsTree c ts u → Joins c ts t u v → v ≡ normal c ts (unfolded c ts t ++ unfolded c ts u)
tree_of_joined c ts t u v l h k a = a (unfolded c ts t) (unfolded c ts u) (stands_unfolded c ts t l h) (stands_unfolded c ts u l k)

pub value_of_meant : (c : Chain) (ts : List Ty) (t : Tree) (x : Value) → IsLegal c ts → IsTree c ts t → MeansChain c ts t x → x ≡ meaning c ts (unfolded c ts t)
value_of_meant c ts t x l k a = a (unfolded c ts t) l (unfolds c ts l.0 l.1 t k) (stands_unfolded c ts t l k)

pub fed_of_told : (c : Chain) (ts : List Ty) (t : Tree) (b : Bool) → IsLegal c ts → IsTree c ts t → IsFedChain c ts t b → b ≡ fed c ts (unfolded c ts t)
fed_of_told c ts t b l k a = a (unfolded c ts t) l (unfolds c ts l.0 l.1 t k) (stands_unfolded c ts t l k)

pub stands_more : (c : Chain) (ts : List Ty) (L fs : List (Feed c)) (t : Tree) → IsLegal c ts → AreFeeds c ts L → StandsFor c ts L t → StandsFor c ts (L ++ fs) (normal c ts (unfolded c ts t ++ fs))
stands_more c ts L fs t l k e =
    joins c ts (unfolded c ts t) L fs fs (ap (λ z. normal c ts (unfolded c ts z)) e ∙ again c ts l.0 l.1 L k) refl

pub leaf_tree_of_fed : (f : Leaf) (ts : List Ty) (r : List Value) (s v : Held) → TakesSome f → TakesTypes f ts → s.made ≡ made_for f ts → IsTree (Of f) ts s.tree → IsLeafFeed f ts r → no_null r ≡ true → TakesRow s r v → v.tree ≡ normal (Of f) ts (unfolded (Of f) ts s.tree ++ r ∷ [])
leaf_tree_of_fed f ts r s v g y m k i n a = (a f ts (unfolded (Of f) ts s.tree) y i n (m, stands_unfolded (Of f) ts s.tree (g, y) k)).1

pub leaf_tree_of_joined : (f : Leaf) (ts : List Ty) (s u v : Held) → TakesSome f → TakesTypes f ts → s.made ≡ made_for f ts → u.made ≡ made_for f ts → IsTree (Of f) ts s.tree → IsTree (Of f) ts u.tree → TakesState s u v → v.tree ≡ normal (Of f) ts (unfolded (Of f) ts s.tree ++ unfolded (Of f) ts u.tree)
leaf_tree_of_joined f ts s u v g y m n h k a =
    (a f ts (unfolded (Of f) ts s.tree) (unfolded (Of f) ts u.tree) (m, stands_unfolded (Of f) ts s.tree (g, y) h) (n, stands_unfolded (Of f) ts u.tree (g, y) k)).1

pub leaf_value_of_meant : (f : Leaf) (ts : List Ty) (s : Held) (x : Value) → TakesSome f → TakesTypes f ts → s.made ≡ made_for f ts → IsTree (Of f) ts s.tree → Means s x → x ≡ meaning (Of f) ts (unfolded (Of f) ts s.tree)
leaf_value_of_meant f ts s x g y m k a = a f ts (unfolded (Of f) ts s.tree) y (m, stands_unfolded (Of f) ts s.tree (g, y) k)

pub leaf_fed_of_told : (f : Leaf) (ts : List Ty) (s : Held) (b : Bool) → TakesSome f → TakesTypes f ts → s.made ≡ made_for f ts → IsTree (Of f) ts s.tree → IsFedBy s b → b ≡ fed (Of f) ts (unfolded (Of f) ts s.tree)
leaf_fed_of_told f ts s b g y m k a = a f ts (unfolded (Of f) ts s.tree) (m, stands_unfolded (Of f) ts s.tree (g, y) k)
