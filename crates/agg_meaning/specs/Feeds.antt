-- Feeds: what a chain works on, what a row opens to, which feeds count, and which have the types of the chain.
use Rattle.std.specs.Prelude.{neg_ℤ, Bool, ℕ, ℤ, List, [], ◌∷◌, Option, ◌^◌, pos, true, false, cond, map, Some, None, ◌<◌, ◌<ℤ◌, is_some, ◌≤ℤ◌}
use mir.Syntax.{w64}
use Rattle.agg_terms.specs.Chains.{Array, Chain, Distinct, ForEach, If, Leaf, MapOf, Merge, Nullable, Of, OrDefault, OrNull, Resample, SequenceMatch, Signed, State, Sum, Ty, Whole, WindowFunnel}
use Rattle.agg_terms.specs.Values.{Cell, Empty, Items, Nil, Num, Pairs, Tree, Value, entries_list, is_null, values_list}
use Rattle.agg_terms.specs.Lists.{Each, front}
use Rattle.agg_terms.specs.Trees.{IsPlain, IsTree, IsValue}
use Rattle.agg_terms.specs.Types.{first_type, inward, key_type}

-- A feed of a chain: a row of arguments for a function; with its condition for -If, with its key for -Resample;
-- a list of feeds for -Array, by places for -ForEach, by keys for -Map; a state for -Merge.
-- A place or a key may hold None, a hole that no row has; None is also a condition or a key that is NULL.
-- This project's own choice.
abbrev pub Feed : Chain → Type 0
Feed (Of f) = List Value
Feed (If c) = Feed c × Option ℕ
Feed (Array c) = List (Feed c)
Feed (MapOf c) = List (Value × Option (Feed c))
Feed (ForEach c) = List (Option (Feed c))
Feed (OrNull c) = Feed c
Feed (OrDefault c) = Feed c
Feed (Distinct c) = List Value
Feed (State c) = Feed c
Feed (Merge c) = Tree
Feed (Resample start end step c) = Feed c × Option ℤ

-- the elements of an array
abbrev pub items_of : Value → List Value
items_of (Items vs) = values_list vs
items_of _ = []

-- the entries of a map, in order
abbrev pub entries_of : Value → List (Value × Value)
entries_of (Pairs es) = entries_list es
entries_of _ = []

-- the last argument, v before it is met
abbrev pub last : Value → List Value → Value
last v [] = v
last v (w ∷ ws) = last w ws

-- a condition, a key and a state as arguments; NULL is None
abbrev pub as_condition : Value → Option ℕ
as_condition (Num (pos n)) = Some n
as_condition _ = None

abbrev pub as_key : Value → Option ℤ
as_key (Num z) = Some z
as_key _ = None

abbrev pub as_tree : Value → Tree
as_tree (Cell t) = t
as_tree _ = Empty

-- two lists side by side, as far as the shorter one
abbrev pub zip_with : {X Y Z : Type 0} → (X → Y → Z) → List X → List Y → List Z
zip_with f [] ys = []
zip_with f (x ∷ xs) [] = []
zip_with f (x ∷ xs) (y ∷ ys) = f x y ∷ zip_with f xs ys

-- the rows of elements at equal places of some arrays, below the length of the shortest (this project's own choice)
abbrev pub tuples : List Value → List (List Value)
tuples [] = []
tuples (v ∷ []) = map (λ x. x ∷ []) (items_of v)
tuples (v ∷ w ∷ ws) = zip_with (λ x r. x ∷ r) (items_of v) (tuples (w ∷ ws))

-- The feed that a row's arguments open to: manual, "Aggregate function combinators", -If, -Array, -Map, -ForEach, -Resample, -Merge.
abbrev pub opened : (c : Chain) → List Value → Feed c
opened (Of f) r = r
opened (If c) r = (opened c (front r), as_condition (last Nil r))
opened (Array c) r = map (opened c) (tuples r)
opened (MapOf c) r = map (λ e. (e.0, Some (opened c (e.1 ∷ [])))) (entries_of (last Nil r))
opened (ForEach c) r = map (λ t. Some (opened c t)) (tuples r)
opened (OrNull c) r = opened c r
opened (OrDefault c) r = opened c r
opened (Distinct c) r = r
opened (State c) r = opened c r
opened (Merge c) r = as_tree (last Nil r)
opened (Resample start end step c) r = (opened c (front r), as_key (last Nil r))

-- a row without NULL among its arguments
abbrev pub no_null : List Value → Bool
no_null [] = true
no_null (v ∷ vs) = cond (is_null v) false (no_null vs)

-- A feed that counts: no argument of its function is NULL, nor its condition or key. Manual: "Aggregate functions", NULL processing.
abbrev pub live : (c : Chain) → Feed c → Bool
live (Of f) r = no_null r
live (If c) f = is_some f.1
live (Array c) f = true
live (MapOf c) f = true
live (ForEach c) f = true
live (OrNull c) f = true
live (OrDefault c) f = true
live (Distinct c) r = no_null r
live (State c) f = true
live (Merge c) t = true
live (Resample start end step c) f = is_some f.1

-- arguments that are each a value of its type
abbrev pub AreValues : List Ty → List Value → Type 0
AreValues [] [] = Unit {0}
AreValues (t ∷ ts) (v ∷ vs) = IsValue t v × AreValues ts vs
AreValues _ _ = ⊥

-- the type with 64 bits of a number's type
abbrev pub widened : Ty → Ty
widened (Whole n) = Whole 64
widened (Signed w) = Signed w64
widened (Nullable t) = Nullable (widened t)
widened t = t

-- the first type widened
abbrev pub widened_first : List Ty → List Ty
widened_first [] = []
widened_first (t ∷ ts) = widened t ∷ ts

-- A function's feed: an argument of a sum, and a time, may be any number of 64 bits, as states hold such.
abbrev pub IsLeafFeed : Leaf → List Ty → List Value → Type 0
IsLeafFeed Sum ts r = AreValues (map widened ts) r
IsLeafFeed (WindowFunnel window strict) ts r = AreValues (widened_first ts) r
IsLeafFeed (SequenceMatch pattern) ts r = AreValues (widened_first ts) r
IsLeafFeed f ts r = AreValues ts r

-- what holds of something that is there
abbrev pub IfHere : {X : Type 0} → (X → Type 0) → Option X → Type 0
IfHere P None = Unit {0}
IfHere P (Some x) = P x

-- a key of -Resample: any number of UInt64 or Int64, also where its type is narrower, since an interval may begin below it
abbrev pub IsKey : ℤ → Type 0
IsKey z = (neg_ℤ (pos (2 ^ 63)) ≤ℤ z) × (z <ℤ pos (2 ^ 64))

-- a feed that has the types of its chain over these argument types
abbrev pub IsFeed : (c : Chain) → List Ty → Feed c → Type 0
IsFeed (Of f) ts r = IsLeafFeed f ts r
IsFeed (If c) ts f = IsFeed c (inward (If c) ts) f.0 × IfHere (λ n. n < 2 ^ 8) f.1
IsFeed (Array c) ts f = Each (IsFeed c (inward (Array c) ts)) f
IsFeed (MapOf c) ts f =
    Each (λ e. IsPlain (key_type (first_type ts)) e.0 × IfHere (IsFeed c (inward (MapOf c) ts)) e.1) f
IsFeed (ForEach c) ts f = Each (IfHere (IsFeed c (inward (ForEach c) ts))) f
IsFeed (OrNull c) ts f = IsFeed c ts f
IsFeed (OrDefault c) ts f = IsFeed c ts f
IsFeed (Distinct c) ts r = AreValues ts r
IsFeed (State c) ts f = IsFeed c ts f
IsFeed (Merge c) ts t = IsTree c (inward (Merge c) ts) t
IsFeed (Resample start end step c) ts f = IsFeed c (inward (Resample start end step c) ts) f.0 × IfHere IsKey f.1
