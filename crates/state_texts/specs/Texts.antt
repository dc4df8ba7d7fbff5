-- The text of each state tree: the byte of the version, and the body of the chain by the table of that version. What a state is
-- stored as is this project's own choice.
use Rattle.std.specs.Prelude.{ℕ, ◌/◌, ℤ, List, [], ◌∷◌, ◌++◌, length, flat_map, Option, Some, None}
use Rattle.std.specs.Int.{byte_len}
use Rattle.agg_terms.specs.Chains.{ArgMax, ArgMin, Arr, Array, Chain, Count, Distinct, ForEach, GroupArray, GroupBit, If, Leaf, MapOf, MapTy, Max, Merge, Min, Nullable, Of, OrDefault, OrNull, QuantileExact, Resample, Retention, SequenceMatch, Signed, State, StateOf, Str, Sum, Ty, UniqExact, Whole, WindowFunnel}
use Rattle.agg_terms.specs.Types.{bare, first_type, inward, key_type}
use Rattle.agg_terms.specs.Values.{Bytes, Event, Events, Items, Nil, Num, Pairs, Tree, Tuple, Value, Word, entries_list, keyed_of, rows_of, slots_of, values_list, values_of}
use Rattle.agg_meaning.specs.Functions.{number}
use Rattle.state_texts.specs.declared.version.Version.{Version}
use Rattle.state_texts.specs.declared.version.Version.TheVariants.{One}
use Rattle.state_texts.specs.Figures.{high, number_text}
use Rattle.state_texts.specs.Versions.{version_byte}

-- a length in 8 bytes, and the items
abbrev pub list_text : {X : Type 0} → (X → List ℕ) → List X → List ℕ
list_text text xs = high 8 (length xs) ++ flat_map text xs

-- a length in 8 bytes, and the bytes
abbrev pub bytes_text : List ℕ → List ℕ
bytes_text bytes = high 8 (length bytes) ++ bytes

-- 00 for nothing, or 01 and what is there
abbrev pub flag_text : {X : Type 0} → (X → List ℕ) → Option X → List ℕ
flag_text text None = 0 ∷ []
flag_text text (Some x) = 1 ∷ text x

-- what a value is made of, empty at a value of another form
abbrev pub bytes_of : Value → List ℕ
bytes_of (Bytes b) = b
bytes_of _ = []

abbrev pub items_of : Value → List Value
items_of (Items vs) = values_list vs
items_of _ = []

abbrev pub pairs_of : Value → List (Value × Value)
pairs_of (Pairs es) = entries_list es
pairs_of _ = []

abbrev pub not_nil : Value → Option Value
not_nil Nil = None
not_nil v = Some v

-- A value of a type: a number in the bytes of its width, a string and a list behind its length, the entries of a map in their order,
-- and under Nullable 00 for NULL or 01 and the value. A value of a state type stands in no body.
abbrev pub value_text : Ty → Value → List ℕ
value_text (Whole n) v = number_text (n / 8) (number v)
value_text (Signed w) v = number_text (byte_len w) (number v)
value_text Str v = bytes_text (bytes_of v)
value_text (Arr t) v = list_text (value_text t) (items_of v)
value_text (MapTy k t) v = list_text (λ e. value_text k e.0 ++ value_text t e.1) (pairs_of v)
value_text (Nullable t) v = flag_text (value_text t) (not_nil v)
value_text (StateOf c ts) v = []

-- a tuple of values of these types, which are taken without Nullable
abbrev pub row_text : List Ty → List Value → List ℕ
row_text [] vs = []
row_text (t ∷ ts) [] = []
row_text (t ∷ ts) (v ∷ vs) = value_text (bare t) v ++ row_text ts vs

-- the time of an event in 8 bytes, its mask in 4
abbrev pub event_text : Event → List ℕ
event_text e = high 8 e.time ++ high 4 e.mask

-- what stands behind 01, nothing at the tree of no rows
abbrev pub word_of : Tree → Option ℤ
word_of (Word z) = Some z
word_of _ = None

abbrev pub first_of : List Value → Option Value
first_of [] = None
first_of (v ∷ ws) = Some v

abbrev pub one_of : Tree → Option Value
one_of (Word z) = Some (Num z)
one_of (Tuple vs) = first_of (values_list vs)
one_of _ = None

abbrev pub row_of : Tree → Option (List Value)
row_of (Tuple vs) = Some (values_list vs)
row_of _ = None

abbrev pub events_of : Tree → Option (List Event)
events_of (Events es) = Some es
events_of _ = None

-- the state of quantileExact: in version 1 the values, ascending
abbrev pub quantile_text : Version → Ty → Tree → List ℕ
quantile_text One ty t = list_text (value_text ty) (values_of t)

-- the state of a function
abbrev pub leaf_text : Version → Leaf → List Ty → Tree → List ℕ
leaf_text v Count ts t = flag_text (number_text 8) (word_of t)
leaf_text v Sum ts t = flag_text (number_text 8) (word_of t)
leaf_text v Min ts t = flag_text (value_text (bare (first_type ts))) (one_of t)
leaf_text v Max ts t = flag_text (value_text (bare (first_type ts))) (one_of t)
leaf_text v ArgMin ts t = flag_text (row_text ts) (row_of t)
leaf_text v ArgMax ts t = flag_text (row_text ts) (row_of t)
leaf_text v (GroupArray most) ts t = list_text (value_text (bare (first_type ts))) (values_of t)
leaf_text v UniqExact ts t = list_text (row_text ts) (rows_of t)
leaf_text v (QuantileExact level) ts t = quantile_text v (bare (first_type ts)) t
leaf_text v (WindowFunnel window strict) ts t = flag_text (list_text event_text) (events_of t)
leaf_text v (SequenceMatch pattern) ts t = flag_text (list_text event_text) (events_of t)
leaf_text v Retention ts t = flag_text (number_text 4) (word_of t)
leaf_text v (GroupBit op) ts t = flag_text (value_text (bare (first_type ts))) (one_of t)

-- the state of a chain over these argument types
abbrev pub body : Version → Chain → List Ty → Tree → List ℕ
body v (Of f) ts t = leaf_text v f ts t
body v (If c) ts t = body v c (inward (If c) ts) t
body v (Array c) ts t = body v c (inward (Array c) ts) t
body v (MapOf c) ts t =
    list_text (λ e. value_text (key_type (first_type ts)) e.0 ++ body v c (inward (MapOf c) ts) e.1) (keyed_of t)
body v (ForEach c) ts t = list_text (body v c (inward (ForEach c) ts)) (slots_of t)
body v (OrNull c) ts t = body v c ts t
body v (OrDefault c) ts t = body v c ts t
body v (Distinct c) ts t = list_text (row_text ts) (rows_of t)
body v (State c) ts t = body v c ts t
body v (Merge c) ts t = body v c (inward (Merge c) ts) t
body v (Resample start end step c) ts t = flat_map (body v c (inward (Resample start end step c) ts)) (slots_of t)

-- the byte of the version, and the body
abbrev pub text : Version → Chain → List Ty → Tree → List ℕ
text v c ts t = version_byte v ∷ body v c ts t
