-- What the words of States bring: a state's tree is the normal form of what it unfolds to.
use Rattle.std.specs.Prelude.{◌≡◌, Bool, true, List, [], ◌∷◌, ◌++◌}
use Rattle.agg_terms.specs.Chains.{Chain, Leaf, Of, Ty}
use Rattle.agg_terms.specs.Trees.{IsTree}
use Rattle.agg_terms.specs.Values.{Tree, Value}
use Rattle.agg_meaning.specs.Feeds.{Feed, IsFeed, IsLeafFeed, no_null, opened}
use Rattle.agg_meaning.specs.Lawful.{TakesSome, TakesTypes}
use Rattle.agg_meaning.specs.Laws.{AreFeeds, IsLegal}
use Rattle.agg_meaning.specs.States.{Held, IsFedBy, IsFedChain, Joins, Means, MeansChain, StandsFor, Takes, TakesRow, TakesState, made_for}
use Rattle.agg_meaning.specs.Suffixes.{fed, meaning, normal, unfolded}

-- A row that a state takes leaves the normal form of its unfolding and the row,
abbrev pub RowsAreAdded : Type 0
RowsAreAdded = (c : Chain) (ts : List Ty) (r : List Value) (t v : Tree) → IsLegal c ts → IsTree c ts t → IsFeed c ts (opened c r) →
    Takes c ts r t v → v ≡ normal c ts (unfolded c ts t ++ opened c r ∷ [])

-- two states that join leave the normal form of their unfoldings,
abbrev pub UnfoldingsAreJoined : Type 0
UnfoldingsAreJoined = (c : Chain) (ts : List Ty) (t u v : Tree) → IsLegal c ts → IsTree c ts t → IsTree c ts u →
    Joins c ts t u v → v ≡ normal c ts (unfolded c ts t ++ unfolded c ts u)

-- the value of a state is the meaning of its unfolding,
abbrev pub UnfoldingIsMeant : Type 0
UnfoldingIsMeant = (c : Chain) (ts : List Ty) (t : Tree) (x : Value) → IsLegal c ts → IsTree c ts t →
    MeansChain c ts t x → x ≡ meaning c ts (unfolded c ts t)

-- and it was fed where its unfolding was.
abbrev pub UnfoldingIsFed : Type 0
UnfoldingIsFed = (c : Chain) (ts : List Ty) (t : Tree) (b : Bool) → IsLegal c ts → IsTree c ts t →
    IsFedChain c ts t b → b ≡ fed c ts (unfolded c ts t)

-- The other way round: the normal form of a state's unfolding and more feeds stands for its feeds and those.
abbrev pub UnfoldingTakesFeeds : Type 0
UnfoldingTakesFeeds = (c : Chain) (ts : List Ty) (L fs : List (Feed c)) (t : Tree) → IsLegal c ts → AreFeeds c ts L →
    StandsFor c ts L t → StandsFor c ts (L ++ fs) (normal c ts (unfolded c ts t ++ fs))

-- The same of a function's state: a live row,
abbrev pub LeafRowsAreAdded : Type 0
LeafRowsAreAdded = (f : Leaf) (ts : List Ty) (r : List Value) (s v : Held) → TakesSome f → TakesTypes f ts →
    s.made ≡ made_for f ts → IsTree (Of f) ts s.tree → IsLeafFeed f ts r → no_null r ≡ true →
    TakesRow s r v → v.tree ≡ normal (Of f) ts (unfolded (Of f) ts s.tree ++ r ∷ [])

-- two states joined,
abbrev pub LeafUnfoldingsAreJoined : Type 0
LeafUnfoldingsAreJoined = (f : Leaf) (ts : List Ty) (s u v : Held) → TakesSome f → TakesTypes f ts →
    s.made ≡ made_for f ts → u.made ≡ made_for f ts → IsTree (Of f) ts s.tree → IsTree (Of f) ts u.tree →
    TakesState s u v → v.tree ≡ normal (Of f) ts (unfolded (Of f) ts s.tree ++ unfolded (Of f) ts u.tree)

-- its value,
abbrev pub LeafUnfoldingIsMeant : Type 0
LeafUnfoldingIsMeant = (f : Leaf) (ts : List Ty) (s : Held) (x : Value) → TakesSome f → TakesTypes f ts →
    s.made ≡ made_for f ts → IsTree (Of f) ts s.tree → Means s x → x ≡ meaning (Of f) ts (unfolded (Of f) ts s.tree)

-- and whether it was fed.
abbrev pub LeafUnfoldingIsFed : Type 0
LeafUnfoldingIsFed = (f : Leaf) (ts : List Ty) (s : Held) (b : Bool) → TakesSome f → TakesTypes f ts →
    s.made ≡ made_for f ts → IsTree (Of f) ts s.tree → IsFedBy s b → b ≡ fed (Of f) ts (unfolded (Of f) ts s.tree)
