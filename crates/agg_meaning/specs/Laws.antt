-- The laws of normal forms: merging, storing and reloading states lose nothing.
use Rattle.std.specs.Prelude.{◌≡◌, [], List, ◌++◌, filter}
use Rattle.agg_terms.specs.Chains.{Chain, Ty}
use Rattle.agg_terms.specs.Lists.{Each}
use Rattle.agg_terms.specs.Trees.{IsTree}
use Rattle.agg_terms.specs.Values.{Tree}
use Rattle.agg_meaning.specs.Feeds.{Feed, IsFeed, live}
use Rattle.agg_meaning.specs.Lawful.{IsSound, IsTyped}
use Rattle.agg_meaning.specs.Results.{blank}
use Rattle.agg_meaning.specs.Suffixes.{fed, meaning, normal, unfolded}

-- a chain that the rules on parameters and types take, over these argument types
abbrev pub IsLegal : Chain → List Ty → Type 0
IsLegal c ts = IsSound c × IsTyped c ts

-- feeds of a chain
abbrev pub AreFeeds : (c : Chain) → List Ty → List (Feed c) → Type 0
AreFeeds c ts L = Each (IsFeed c ts) L

-- what a state unfolds to means what its rows meant
abbrev pub MeaningIsKept : Type 0
MeaningIsKept = (c : Chain) (ts : List Ty) (L : List (Feed c)) → IsLegal c ts → AreFeeds c ts L →
    meaning c ts (unfolded c ts (normal c ts L)) ≡ meaning c ts L

-- and reached the function where they did
abbrev pub FedIsKept : Type 0
FedIsKept = (c : Chain) (ts : List Ty) (L : List (Feed c)) → IsLegal c ts → AreFeeds c ts L →
    fed c ts (unfolded c ts (normal c ts L)) ≡ fed c ts L

-- two states merged are the state of all their rows
abbrev pub MergesAre : Type 0
MergesAre = (c : Chain) (ts : List Ty) (A B : List (Feed c)) → IsLegal c ts → AreFeeds c ts A → AreFeeds c ts B →
    normal c ts (unfolded c ts (normal c ts A) ++ unfolded c ts (normal c ts B)) ≡ normal c ts (A ++ B)

-- a state tree that was stored and reloaded is the same tree
abbrev pub TreesAreNormal : Type 0
TreesAreNormal = (c : Chain) (ts : List Ty) (t : Tree) → IsLegal c ts → IsTree c ts t → normal c ts (unfolded c ts t) ≡ t

-- the state of any feeds is a state tree
abbrev pub NormalsAreTrees : Type 0
NormalsAreTrees = (c : Chain) (ts : List Ty) (L : List (Feed c)) → IsLegal c ts → AreFeeds c ts L → IsTree c ts (normal c ts L)

-- a state tree unfolds to feeds of its chain
abbrev pub TreesUnfold : Type 0
TreesUnfold = (c : Chain) (ts : List Ty) (t : Tree) → IsLegal c ts → IsTree c ts t → AreFeeds c ts (unfolded c ts t)

-- lists with equal states may stand for one another wherever lists are joined
abbrev pub StatesJoin : Type 0
StatesJoin = (c : Chain) (ts : List Ty) (A A' B B' : List (Feed c)) →
    normal c ts A ≡ normal c ts A' → normal c ts B ≡ normal c ts B' → normal c ts (A ++ B) ≡ normal c ts (A' ++ B')

-- equal states mean the same
abbrev pub SameStatesMean : Type 0
SameStatesMean = (c : Chain) (ts : List Ty) (A B : List (Feed c)) → IsLegal c ts →
    normal c ts A ≡ normal c ts B → meaning c ts A ≡ meaning c ts B

-- and are both of rows that reached the function, or both not
abbrev pub SameStatesAreFed : Type 0
SameStatesAreFed = (c : Chain) (ts : List Ty) (A B : List (Feed c)) → IsLegal c ts →
    normal c ts A ≡ normal c ts B → fed c ts A ≡ fed c ts B

-- only live feeds count: in the meaning, in whether a row reached the function, and in the state
abbrev pub OnlyLiveMean : Type 0
OnlyLiveMean = (c : Chain) (ts : List Ty) (L : List (Feed c)) → meaning c ts (filter (live c) L) ≡ meaning c ts L

abbrev pub OnlyLiveFeed : Type 0
OnlyLiveFeed = (c : Chain) (ts : List Ty) (L : List (Feed c)) → fed c ts (filter (live c) L) ≡ fed c ts L

abbrev pub OnlyLiveStay : Type 0
OnlyLiveStay = (c : Chain) (ts : List Ty) (L : List (Feed c)) → normal c ts (filter (live c) L) ≡ normal c ts L

-- the default of a state type is the state of no rows
abbrev pub NoneIsBlank : Type 0
NoneIsBlank = (c : Chain) (ts : List Ty) → normal c ts [] ≡ blank c
