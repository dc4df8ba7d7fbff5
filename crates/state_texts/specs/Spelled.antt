-- Which trees have a text, and what the texts need of types and parameters: the rules on typing ask for more.
use Rattle.std.specs.Prelude.{◌≡◌, ◌⊎◌, ℕ, ◌*◌, ◌/◌, ◌^◌, ◌<◌, ◌≤◌, ℤ, pos, FitsSigned, false, List, [], ◌∷◌, map, length, Some}
use Rattle.agg_terms.specs.Chains.{ArgMax, ArgMin, Arr, Array, Chain, Count, Distinct, ForEach, GroupArray, GroupBit, If, Leaf, MapOf, MapTy, Max, Merge, Min, Nullable, Of, OrDefault, OrNull, QuantileExact, Resample, Retention, SequenceMatch, Signed, State, StateOf, Str, Sum, Ty, UniqExact, Whole, WindowFunnel}
use Rattle.agg_terms.specs.Lists.{Apart, Each, NotFalling, Rising}
use Rattle.agg_terms.specs.Order.{compare, compare_rows}
use Rattle.agg_terms.specs.Trees.{IsEvent, IsUpTo, IsWord, by_time, one_tree, pair_tree}
use Rattle.agg_terms.specs.Types.{bare, conditions, first_type, intervals, inward, is_signed, key_type}
use Rattle.agg_terms.specs.Values.{Bytes, Empty, Event, Events, Nil, Num, Tree, Value, Word, keyed_tree, list_value, map_value, rows_tree, slots_tree, values_tree}
use Rattle.agg_meaning.specs.Lawful.{IsNumber}
use Rattle.state_texts.specs.declared.version.Version.{Version}
use Rattle.state_texts.specs.declared.version.Version.TheVariants.{One}

-- a length that 8 bytes hold
abbrev pub IsCount : {X : Type 0} → List X → Type 0
IsCount xs = length xs < 2 ^ 64

-- a value of a type without a state, each length in it below 2^64
abbrev pub HasValueText : Ty → Value → Type 0
HasValueText (Whole n) v = (k : ℕ) × (v ≡ Num (pos k)) × (k < 2 ^ n)
HasValueText (Signed w) v = (z : ℤ) × (v ≡ Num z) × FitsSigned w z
HasValueText Str v = (bytes : List ℕ) × (v ≡ Bytes bytes) × Each (λ b. b < 2 ^ 8) bytes × IsCount bytes
HasValueText (Arr t) v = (vs : List Value) × (v ≡ list_value vs) × Each (HasValueText t) vs × IsCount vs
HasValueText (MapTy k t) v =
    (es : List (Value × Value)) × (v ≡ map_value es) × Each (λ e. HasValueText k e.0 × HasValueText t e.1) es × IsCount es
HasValueText (Nullable t) v = (v ≡ Nil) ⊎ HasValueText t v
HasValueText (StateOf c ts) v = ⊥

-- a tuple of such values
abbrev pub HasRowText : List Ty → List Value → Type 0
HasRowText [] [] = Unit {0}
HasRowText (t ∷ ts) (v ∷ vs) = HasValueText (bare t) v × HasRowText ts vs
HasRowText _ _ = ⊥

-- no rows, or events by time, each of which meets some of n conditions
abbrev pub HasEvents : ℕ → Tree → Type 0
HasEvents n t = (t ≡ Empty) ⊎ ((es : List Event) × (t ≡ Events es) × Each (IsEvent n) es × NotFalling by_time es × IsCount es)

-- the state of quantileExact
abbrev pub HasQuantileText : Version → Ty → Tree → Type 0
HasQuantileText One ty t = (vs : List Value) × (t ≡ values_tree vs) × Each (HasValueText ty) vs × NotFalling compare vs × IsCount vs

-- the state trees of a function in which each length is below 2^64
abbrev pub HasLeafText : Version → Leaf → List Ty → Tree → Type 0
HasLeafText v Count ts t = (t ≡ Empty) ⊎ ((z : ℤ) × (t ≡ Word z) × IsWord false z)
HasLeafText v Sum ts t = (t ≡ Empty) ⊎ ((z : ℤ) × (t ≡ Word z) × IsWord (is_signed (first_type ts)) z)
HasLeafText v Min ts t = (t ≡ Empty) ⊎ ((x : Value) × (t ≡ one_tree (Some x)) × HasValueText (bare (first_type ts)) x)
HasLeafText v Max ts t = (t ≡ Empty) ⊎ ((x : Value) × (t ≡ one_tree (Some x)) × HasValueText (bare (first_type ts)) x)
HasLeafText v ArgMin ts t = (t ≡ Empty) ⊎ ((p : Value × Value) × (t ≡ pair_tree (Some p)) × HasRowText ts (p.0 ∷ p.1 ∷ []))
HasLeafText v ArgMax ts t = (t ≡ Empty) ⊎ ((p : Value × Value) × (t ≡ pair_tree (Some p)) × HasRowText ts (p.0 ∷ p.1 ∷ []))
HasLeafText v (GroupArray most) ts t =
    (vs : List Value) × (t ≡ values_tree vs) × Each (HasValueText (bare (first_type ts))) vs × IsUpTo most (length vs) × IsCount vs
HasLeafText v UniqExact ts t =
    (rs : List (List Value)) × (t ≡ rows_tree rs) × Each (HasRowText ts) rs × Rising compare_rows rs × IsCount rs
HasLeafText v (QuantileExact level) ts t = HasQuantileText v (bare (first_type ts)) t
HasLeafText v (WindowFunnel window strict) ts t = HasEvents (conditions ts) t
HasLeafText v (SequenceMatch pattern) ts t = HasEvents (conditions ts) t
HasLeafText v (GroupBit op) ts t = (t ≡ Empty) ⊎ ((z : ℤ) × (t ≡ Word z) × HasValueText (bare (first_type ts)) (Num z))
HasLeafText v Retention ts t = (t ≡ Empty) ⊎ ((m : ℕ) × (t ≡ Word (pos m)) × (m < 2 ^ length ts))

-- the state trees of a chain in which each length is below 2^64
abbrev pub HasText : Version → Chain → List Ty → Tree → Type 0
HasText v (Of f) ts t = HasLeafText v f ts t
HasText v (If c) ts t = HasText v c (inward (If c) ts) t
HasText v (Array c) ts t = HasText v c (inward (Array c) ts) t
HasText v (MapOf c) ts t =
    (es : List (Value × Tree))
    × (t ≡ keyed_tree es)
    × Each (λ e. HasValueText (key_type (first_type ts)) e.0 × HasText v c (inward (MapOf c) ts) e.1) es
    × Rising compare (map (λ e. e.0) es)
    × IsCount es
HasText v (ForEach c) ts t =
    (slots : List Tree) × (t ≡ slots_tree slots) × Each (HasText v c (inward (ForEach c) ts)) slots × IsCount slots
HasText v (OrNull c) ts t = HasText v c ts t
HasText v (OrDefault c) ts t = HasText v c ts t
HasText v (Distinct c) ts t =
    (rs : List (List Value)) × (t ≡ rows_tree rs) × Each (HasRowText ts) rs × Apart rs × IsCount rs
HasText v (State c) ts t = HasText v c ts t
HasText v (Merge c) ts t = HasText v c (inward (Merge c) ts) t
HasText v (Resample start end step c) ts t =
    (slots : List Tree)
    × (t ≡ slots_tree slots)
    × Each (HasText v c (inward (Resample start end step c) ts)) slots
    × (length slots ≡ intervals start end step)

-- a number or a string
abbrev pub IsBase : Ty → Type 0
IsBase (Whole n) = Unit {0}
IsBase (Signed w) = Unit {0}
IsBase Str = Unit {0}
IsBase _ = ⊥

-- the widths are whole bytes, and NULL is no value of the type in Nullable
abbrev pub IsSpelledType : Ty → Type 0
IsSpelledType (Whole n) = (n ≡ 8 * (n / 8)) × (0 < n)
IsSpelledType (Signed w) = Unit {0}
IsSpelledType Str = Unit {0}
IsSpelledType (Arr t) = IsSpelledType t
IsSpelledType (MapTy k t) = IsSpelledType k × IsSpelledType t
IsSpelledType (Nullable t) = IsBase t × IsSpelledType t
IsSpelledType (StateOf c ts) = Unit {0}

-- the same of types that are taken without Nullable
abbrev pub AreSpelledTypes : List Ty → Type 0
AreSpelledTypes ts = Each (λ t. IsSpelledType (bare t)) ts

-- a mask has a bit for each condition, and a tuple has a value
abbrev pub IsSpelledLeaf : Leaf → List Ty → Type 0
IsSpelledLeaf Count ts = Unit {0}
IsSpelledLeaf Sum ts = Unit {0}
IsSpelledLeaf ArgMin ts = (t : Ty) × (u : Ty) × (ts ≡ t ∷ u ∷ []) × AreSpelledTypes ts
IsSpelledLeaf ArgMax ts = (t : Ty) × (u : Ty) × (ts ≡ t ∷ u ∷ []) × AreSpelledTypes ts
IsSpelledLeaf UniqExact ts = AreSpelledTypes ts × (0 < length ts)
IsSpelledLeaf (WindowFunnel window strict) ts = conditions ts ≤ 32
IsSpelledLeaf (SequenceMatch pattern) ts = conditions ts ≤ 32
IsSpelledLeaf Retention ts = length ts ≤ 32
IsSpelledLeaf (GroupBit op) ts = IsNumber (bare (first_type ts)) × IsSpelledType (bare (first_type ts))
IsSpelledLeaf _ ts = IsSpelledType (bare (first_type ts))

-- and Resample has an interval
abbrev pub IsSpelledChain : Chain → List Ty → Type 0
IsSpelledChain (Of f) ts = IsSpelledLeaf f ts
IsSpelledChain (If c) ts = IsSpelledChain c (inward (If c) ts)
IsSpelledChain (Array c) ts = IsSpelledChain c (inward (Array c) ts)
IsSpelledChain (MapOf c) ts = IsSpelledType (key_type (first_type ts)) × IsSpelledChain c (inward (MapOf c) ts)
IsSpelledChain (ForEach c) ts = IsSpelledChain c (inward (ForEach c) ts)
IsSpelledChain (OrNull c) ts = IsSpelledChain c ts
IsSpelledChain (OrDefault c) ts = IsSpelledChain c ts
IsSpelledChain (Distinct c) ts = AreSpelledTypes ts × (0 < length ts)
IsSpelledChain (State c) ts = IsSpelledChain c ts
IsSpelledChain (Merge c) ts = IsSpelledChain c (inward (Merge c) ts)
IsSpelledChain (Resample start end step c) ts =
    (0 < intervals start end step) × IsSpelledChain c (inward (Resample start end step c) ts)
