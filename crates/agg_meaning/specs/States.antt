-- What a state stands for, whatever keeps it: the words in which the contract of every state is written.
-- A state stands for each list of feeds whose normal form its tree is.
use Rattle.std.specs.Prelude.{◌≡◌, ℕ, Bool, true, List, [], ◌∷◌, ◌++◌, length}
use Rattle.agg_terms.specs.Chains.{Chain, Leaf, Of, Ty}
use Rattle.agg_terms.specs.Values.{Tree, Value}
use Rattle.agg_meaning.specs.Feeds.{Feed, IsLeafFeed, no_null, opened}
use Rattle.agg_meaning.specs.Lawful.{TakesTypes}
use Rattle.agg_meaning.specs.Laws.{AreFeeds, IsLegal}
use Rattle.agg_meaning.specs.Results.{leaf_result}
use Rattle.agg_meaning.specs.Suffixes.{fed, meaning, normal}

-- what a state of a function knows of the function and its argument types
pub record Made : Type 0 where
  pub leaf : Leaf
  pub result : Ty
  pub arguments : ℕ

abbrev pub made_for : Leaf → List Ty → Made
made_for f ts = record { leaf = f; result = leaf_result f ts; arguments = length ts }

-- a state of a function: what it was made for, and its tree
pub record Held : Type 0 where
  pub made : Made
  pub tree : Tree

-- a function's state that stands for these feeds
abbrev pub Stands : Leaf → List Ty → List (List Value) → Held → Type 0
Stands f ts L s = (s.made ≡ made_for f ts) × (s.tree ≡ normal (Of f) ts L)

-- after a live row, it stands for whatever it stood for and that row
abbrev pub TakesRow : Held → List Value → Held → Type 0
TakesRow s r v = (f : Leaf) (ts : List Ty) (L : List (List Value)) → TakesTypes f ts → IsLeafFeed f ts r → no_null r ≡ true →
    Stands f ts L s → Stands f ts (L ++ r ∷ []) v

-- after a later state was merged into it, it stands for the rows of both, in order
abbrev pub TakesState : Held → Held → Held → Type 0
TakesState s u v = (f : Leaf) (ts : List Ty) (A B : List (List Value)) → Stands f ts A s → Stands f ts B u → Stands f ts (A ++ B) v

-- the value of a state: what the rows mean that it stands for
abbrev pub Means : Held → Value → Type 0
Means s v = (f : Leaf) (ts : List Ty) (L : List (List Value)) → TakesTypes f ts → Stands f ts L s → v ≡ meaning (Of f) ts L

-- whether a state stands for some row
abbrev pub IsFedBy : Held → Bool → Type 0
IsFedBy s b = (f : Leaf) (ts : List Ty) (L : List (List Value)) → Stands f ts L s → b ≡ fed (Of f) ts L

-- a chain's state, known by its tree, that stands for these feeds
abbrev pub StandsFor : (c : Chain) → List Ty → List (Feed c) → Tree → Type 0
StandsFor c ts L t = t ≡ normal c ts L

-- after these feeds, it stands for whatever it stood for and these feeds
abbrev pub TakesFeeds : (c : Chain) → List Ty → List (Feed c) → Tree → Tree → Type 0
TakesFeeds c ts fs t v = (L : List (Feed c)) → IsLegal c ts → AreFeeds c ts fs → StandsFor c ts L t → StandsFor c ts (L ++ fs) v

-- after a row
abbrev pub Takes : Chain → List Ty → List Value → Tree → Tree → Type 0
Takes c ts r t v = TakesFeeds c ts (opened c r ∷ []) t v

-- after a later state was merged into it
abbrev pub Joins : Chain → List Ty → Tree → Tree → Tree → Type 0
Joins c ts t u v = (A B : List (Feed c)) → StandsFor c ts A t → StandsFor c ts B u → StandsFor c ts (A ++ B) v

-- the value of a chain's state that stands for feeds
abbrev pub MeansChain : Chain → List Ty → Tree → Value → Type 0
MeansChain c ts t x = (L : List (Feed c)) → IsLegal c ts → AreFeeds c ts L → StandsFor c ts L t → x ≡ meaning c ts L

-- whether it stands for rows that reached the function
abbrev pub IsFedChain : Chain → List Ty → Tree → Bool → Type 0
IsFedChain c ts t b = (L : List (Feed c)) → IsLegal c ts → AreFeeds c ts L → StandsFor c ts L t → b ≡ fed c ts L
