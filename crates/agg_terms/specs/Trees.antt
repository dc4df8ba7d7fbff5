-- Values of a type, and the state trees of a chain, by cases: this project's own choice of what a stored state holds.
use Rattle.std.specs.Prelude.{ℕ, zero, suc, ◌^◌, pos, Bool, true, false, List, [], ◌∷◌, map, length, ℤ, Option, Some, None, ◌≡◌, ◌⊎◌, ◌<◌, ◌≤◌, FitsSigned}
use Rattle.std.specs.declared.cmp.Ordering.{Ordering}
use Rattle.std.specs.Ordering.{nat_cmp}
use mir.Syntax.{w64}
use Rattle.agg_terms.specs.Lists.{Apart, Each, NotFalling, Rising}
use Rattle.agg_terms.specs.Chains.{ArgMax, ArgMin, Arr, Array, Chain, Count, Distinct, ForEach, GroupArray, GroupBit, If, Leaf, MapOf, MapTy, Max, Merge, Min, Nullable, Of, OrDefault, OrNull, QuantileExact, Resample, Retention, SequenceMatch, Signed, State, StateOf, Str, Sum, Ty, UniqExact, Whole, WindowFunnel, tys_list}
use Rattle.agg_terms.specs.Values.{Bytes, Cell, Empty, Event, Events, Nil, Num, Tree, Value, Word, keyed_tree, list_value, map_value, rows_tree, slots_tree, tuple_tree, values_tree}
use Rattle.agg_terms.specs.Types.{bare, conditions, first_type, intervals, inward, is_signed, key_type}
use Rattle.agg_terms.specs.Order.{compare, compare_rows}

-- whether a mask has a bit
abbrev pub is_one : ℕ → Bool
is_one zero = false
is_one (suc m) = true

-- events by time alone
abbrev pub by_time : Event → Event → Ordering
by_time a b = nat_cmp a.time b.time

-- the tree of one value, or of none: a number is a word, another value a tuple of it
abbrev pub one_tree : Option Value → Tree
one_tree None = Empty
one_tree (Some (Num n)) = Word n
one_tree (Some v) = tuple_tree (v ∷ [])

-- the tree of two values, or of none
abbrev pub pair_tree : Option (Value × Value) → Tree
pair_tree None = Empty
pair_tree (Some p) = tuple_tree (p.0 ∷ p.1 ∷ [])

-- a value of a type without a state
abbrev pub IsPlain : Ty → Value → Type 0
IsPlain (Whole n) v = (k : ℕ) × (v ≡ Num (pos k)) × (k < 2 ^ n)
IsPlain (Signed w) v = (z : ℤ) × (v ≡ Num z) × FitsSigned w z
IsPlain Str v = (bytes : List ℕ) × (v ≡ Bytes bytes) × Each (λ b. b < 2 ^ 8) bytes
IsPlain (Arr t) v = (vs : List Value) × (v ≡ list_value vs) × Each (IsPlain t) vs
IsPlain (MapTy k t) v = (es : List (Value × Value)) × (v ≡ map_value es) × Each (λ e. IsPlain k e.0 × IsPlain t e.1) es
IsPlain (Nullable t) v = (v ≡ Nil) ⊎ IsPlain t v
IsPlain (StateOf c ts) v = ⊥

-- a tuple of values of these types, taken without Nullable
abbrev pub IsRow : List Ty → List Value → Type 0
IsRow [] [] = Unit {0}
IsRow (t ∷ ts) (v ∷ vs) = IsPlain (bare t) v × IsRow ts vs
IsRow _ _ = ⊥

-- a word of sum: a number of Int64 where the argument is signed, and of UInt64 where it is not
abbrev pub IsWord : Bool → ℤ → Type 0
IsWord true z = FitsSigned w64 z
IsWord false z = (k : ℕ) × (z ≡ pos k) × (k < 2 ^ 64)

-- no more than the limit, if there is one
abbrev pub IsUpTo : Option ℕ → ℕ → Type 0
IsUpTo None n = Unit {0}
IsUpTo (Some most) n = n ≤ most

-- an event meets some of n conditions
abbrev pub IsEvent : ℕ → Event → Type 0
IsEvent n e = (e.time < 2 ^ 64) × (is_one e.mask ≡ true) × (e.mask < 2 ^ n)

-- no rows, or events by time, each of which meets some condition and none beyond the n
abbrev pub IsEventTree : ℕ → Tree → Type 0
IsEventTree n t = (t ≡ Empty) ⊎ ((es : List Event) × (t ≡ Events es) × Each (IsEvent n) es × NotFalling by_time es)

-- the state trees of a function
abbrev pub IsLeafTree : Leaf → List Ty → Tree → Type 0
IsLeafTree Count ts t = (t ≡ Empty) ⊎ ((k : ℕ) × (t ≡ Word (pos k)) × (k < 2 ^ 64))
IsLeafTree Sum ts t = (t ≡ Empty) ⊎ ((z : ℤ) × (t ≡ Word z) × IsWord (is_signed (first_type ts)) z)
IsLeafTree Min ts t = (t ≡ Empty) ⊎ ((v : Value) × (t ≡ one_tree (Some v)) × IsPlain (bare (first_type ts)) v)
IsLeafTree Max ts t = (t ≡ Empty) ⊎ ((v : Value) × (t ≡ one_tree (Some v)) × IsPlain (bare (first_type ts)) v)
IsLeafTree ArgMin ts t = (t ≡ Empty) ⊎ ((p : Value × Value) × (t ≡ pair_tree (Some p)) × IsRow ts (p.0 ∷ p.1 ∷ []))
IsLeafTree ArgMax ts t = (t ≡ Empty) ⊎ ((p : Value × Value) × (t ≡ pair_tree (Some p)) × IsRow ts (p.0 ∷ p.1 ∷ []))
IsLeafTree (GroupArray most) ts t =
    (vs : List Value) × (t ≡ values_tree vs) × Each (IsPlain (bare (first_type ts))) vs × IsUpTo most (length vs)
IsLeafTree UniqExact ts t = (rs : List (List Value)) × (t ≡ rows_tree rs) × Each (IsRow ts) rs × Rising compare_rows rs
IsLeafTree (QuantileExact level) ts t =
    (vs : List Value) × (t ≡ values_tree vs) × Each (IsPlain (bare (first_type ts))) vs × NotFalling compare vs
IsLeafTree (WindowFunnel window strict) ts t = IsEventTree (conditions ts) t
IsLeafTree (SequenceMatch pattern) ts t = IsEventTree (conditions ts) t
IsLeafTree (GroupBit op) ts t = (t ≡ Empty) ⊎ ((z : ℤ) × (t ≡ Word z) × IsPlain (bare (first_type ts)) (Num z))
IsLeafTree Retention ts t = (t ≡ Empty) ⊎ ((m : ℕ) × (t ≡ Word (pos m)) × (m < 2 ^ length ts))

-- the state trees of a chain over these argument types
abbrev pub IsTree : Chain → List Ty → Tree → Type 0
IsTree (Of f) ts t = IsLeafTree f ts t
IsTree (If c) ts t = IsTree c (inward (If c) ts) t
IsTree (Array c) ts t = IsTree c (inward (Array c) ts) t
IsTree (MapOf c) ts t =
    (es : List (Value × Tree))
    × (t ≡ keyed_tree es)
    × Each (λ e. IsPlain (key_type (first_type ts)) e.0 × IsTree c (inward (MapOf c) ts) e.1) es
    × Rising compare (map (λ e. e.0) es)
IsTree (ForEach c) ts t = (slots : List Tree) × (t ≡ slots_tree slots) × Each (IsTree c (inward (ForEach c) ts)) slots
IsTree (OrNull c) ts t = IsTree c ts t
IsTree (OrDefault c) ts t = IsTree c ts t
IsTree (Distinct c) ts t = (rs : List (List Value)) × (t ≡ rows_tree rs) × Each (IsRow ts) rs × Apart rs
IsTree (State c) ts t = IsTree c ts t
IsTree (Merge c) ts t = IsTree c (inward (Merge c) ts) t
IsTree (Resample start end step c) ts t =
    (slots : List Tree)
    × (t ≡ slots_tree slots)
    × Each (IsTree c (inward (Resample start end step c) ts)) slots
    × (length slots ≡ intervals start end step)

-- a value of any type
abbrev pub IsValue : Ty → Value → Type 0
IsValue (Whole n) v = IsPlain (Whole n) v
IsValue (Signed n) v = IsPlain (Signed n) v
IsValue Str v = IsPlain Str v
IsValue (Arr t) v = (vs : List Value) × (v ≡ list_value vs) × Each (IsValue t) vs
IsValue (MapTy k t) v = (es : List (Value × Value)) × (v ≡ map_value es) × Each (λ e. IsPlain k e.0 × IsValue t e.1) es
IsValue (Nullable t) v = (v ≡ Nil) ⊎ IsValue t v
IsValue (StateOf c ts) v = (t : Tree) × (v ≡ Cell t) × IsTree c (tys_list ts) t

-- a type that holds no state
abbrev pub IsStateless : Ty → Type 0
IsStateless (Whole n) = Unit {0}
IsStateless (Signed w) = Unit {0}
IsStateless Str = Unit {0}
IsStateless (Arr t) = IsStateless t
IsStateless (MapTy k t) = IsStateless k × IsStateless t
IsStateless (Nullable t) = IsStateless t
IsStateless (StateOf c ts) = ⊥
