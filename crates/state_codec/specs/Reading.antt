-- Reading from left to right, with the first fault that is met.
use Rattle.state_texts.specs.declared.version.Version.{Version}
use Rattle.state_texts.specs.declared.version.Version.TheVariants.{One}
use Rattle.state_texts.specs.Versions.{version_of}
use Rattle.std.specs.Prelude.{ℕ, zero, suc, ◌-◌, ◌/◌, ◌^◌, ℤ, pos, Bool, true, false, not, ◌&&◌, List, [], ◌∷◌, map, length, take, drop, Option, Some, None, Result, Ok, Err, nat_lt, nat_le, if◌then◌else◌}
use Rattle.std.specs.Int.{byte_len, cast_signed}
use Rattle.std.specs.declared.cmp.Ordering.{Ordering}
use Rattle.std.specs.Ordering.{is_lt, is_le, is_eq}
use mir.Syntax.{w64}
use Rattle.agg_terms.specs.Chains.{Leaf, Count, Sum, Min, Max, ArgMin, ArgMax, GroupArray, UniqExact, QuantileExact, WindowFunnel, SequenceMatch, Retention, GroupBit, Chain, Of, If, Array, MapOf, ForEach, OrNull, OrDefault, Distinct, State, Merge, Resample, Ty, Whole, Signed, Str, Arr, MapTy, Nullable, StateOf}
use Rattle.agg_terms.specs.Lists.{some}
use Rattle.agg_terms.specs.Order.{compare, compare_rows}
use Rattle.agg_terms.specs.Trees.{by_time, is_one, one_tree}
use Rattle.agg_terms.specs.Types.{intervals, conditions, bare, first_type, is_signed, inward, key_type}
use Rattle.agg_terms.specs.Values.{Event, Events, Value, Num, Bytes, Nil, Tree, Empty, Word, tuple_tree, list_value, map_value, values_tree, rows_tree, slots_tree, keyed_tree}
use Rattle.scalar_texts.specs.declared.fault.StateFault.{StateFault}
use Rattle.scalar_texts.specs.declared.fault.StateFault.TheVariants.{Short, Version as OtherVersion, BadTag, NotCanonical, Long}
use Rattle.state_texts.specs.Figures.{worth}

-- what is read and the bytes after it, or the first fault
abbrev pub Read : Type 0 → Type 0
Read X = Result (X × List ℕ) StateFault

infixl 10 ◌>>=◌
abbrev pub ◌>>=◌ : {A B : Type 0} → Result A StateFault → (A → Result B StateFault) → Result B StateFault
(Ok x) >>= f = f x
(Err e) >>= f = Err e

abbrev pub made : {X Y : Type 0} → (X → Y) → Read X → Read Y
made f read = read >>= λ x. Ok (f x.0, x.1)

-- the place of what is left of so many bytes
abbrev pub place : ℕ → List ℕ → ℕ
place whole rest = whole - length rest

unfoldable pub bytes_at : ℕ → List ℕ → Read (List ℕ)
bytes_at k bytes = if nat_lt (length bytes) k then Err Short else Ok (take k bytes, drop k bytes)

abbrev pub number_at : ℕ → List ℕ → Read ℕ
number_at k bytes = made worth (bytes_at k bytes)

unfoldable pub string_at : List ℕ → Read (List ℕ)
string_at bytes = number_at 8 bytes >>= λ n. bytes_at n.0 n.1

-- what is read has to pass a test
unfoldable pub kept_at : {X : Type 0} → ℕ → (X → Bool) → (List ℕ → Read X) → List ℕ → Read X
kept_at whole test read bytes = read bytes >>= λ x. if test x.0 then Ok x else Err (NotCanonical (place whole bytes))

unfoldable pub both_at : {X Y : Type 0} → (List ℕ → Read X) → (List ℕ → Read Y) → List ℕ → Read (X × Y)
both_at first second bytes = first bytes >>= λ x. second x.1 >>= λ y. Ok ((x.0, y.0), y.1)

-- a byte that has to be 00 or 01
unfoldable pub tag_at : ℕ → List ℕ → Read Bool
tag_at whole [] = Err Short
tag_at whole (zero ∷ rest) = Ok (false, rest)
tag_at whole (suc zero ∷ rest) = Ok (true, rest)
tag_at whole (suc (suc b) ∷ rest) = Err (BadTag (place whole (suc (suc b) ∷ rest)))

abbrev pub behind_tag : {X : Type 0} → (List ℕ → Read X) → Bool × List ℕ → Read (Option X)
behind_tag read (false, rest) = Ok (None, rest)
behind_tag read (true, rest) = made (λ x. Some x) (read rest)

-- 00 for nothing, or 01 and what is there
unfoldable pub flag_at : {X : Type 0} → ℕ → (List ℕ → Read X) → List ℕ → Read (Option X)
flag_at whole read bytes = tag_at whole bytes >>= behind_tag read

-- n items, each read in view of those before it, the last first
unfoldable pub items_at : {X : Type 0} → (List X → List ℕ → Read X) → ℕ → List X → List ℕ → Read (List X)
items_at read zero earlier bytes = Ok ([], bytes)
items_at read (suc n) earlier bytes =
    read earlier bytes >>= λ x. items_at read n (x.0 ∷ earlier) x.1 >>= λ xs. Ok (x.0 ∷ xs.0, xs.1)

-- a length that passes a test, and the items
unfoldable pub list_at : {X : Type 0} → ℕ → (ℕ → Bool) → (List X → List ℕ → Read X) → List ℕ → Read (List X)
list_at whole test read bytes = kept_at whole test (number_at 8) bytes >>= λ n. items_at read n.0 [] n.1

abbrev pub any_length : ℕ → Bool
any_length n = true

abbrev pub up_to : Option ℕ → ℕ → Bool
up_to None n = true
up_to (Some most) n = nat_le n most

-- above, or not below, the one before it; none of those before it
abbrev pub rises : {X : Type 0} → (X → X → Ordering) → List X → X → Bool
rises cmp [] x = true
rises cmp (y ∷ ys) x = is_lt (cmp y x)

abbrev pub holds_up : {X : Type 0} → (X → X → Ordering) → List X → X → Bool
holds_up cmp [] x = true
holds_up cmp (y ∷ ys) x = is_le (cmp y x)

abbrev pub is_new : {X : Type 0} → (X → X → Ordering) → List X → X → Bool
is_new cmp earlier x = not (some (λ y. is_eq (cmp y x)) earlier)

abbrev pub or_nil : Option Value → Value
or_nil None = Nil
or_nil (Some v) = v

abbrev pub value_at : ℕ → Ty → List ℕ → Read Value
value_at whole (Whole n) bytes = made (λ k. Num (pos k)) (number_at (n / 8) bytes)
value_at whole (Signed w) bytes = made (λ k. Num (cast_signed w k)) (number_at (byte_len w) bytes)
value_at whole Str bytes = made Bytes (string_at bytes)
value_at whole (Arr t) bytes = made list_value (list_at whole any_length (λ earlier. value_at whole t) bytes)
value_at whole (MapTy k t) bytes =
    made map_value (list_at whole any_length (λ earlier. both_at (value_at whole k) (value_at whole t)) bytes)
value_at whole (Nullable t) bytes = made or_nil (flag_at whole (value_at whole t) bytes)
value_at whole (StateOf c ts) bytes = Err Short

-- an entry of a map's type
abbrev pub pair_at : ℕ → Ty → List ℕ → Read (Value × Value)
pair_at whole (MapTy k t) bytes = both_at (value_at whole k) (value_at whole t) bytes
pair_at whole t bytes = Err Short

-- a map of such entries
abbrev pub map_at : ℕ → Ty → List ℕ → Read Value
map_at whole t bytes = made map_value (list_at whole any_length (λ earlier. pair_at whole t) bytes)

abbrev pub row_at : ℕ → List Ty → List ℕ → Read (List Value)
row_at whole [] bytes = Ok ([], bytes)
row_at whole (t ∷ ts) bytes = made (λ p. p.0 ∷ p.1) (both_at (value_at whole (bare t)) (row_at whole ts) bytes)

abbrev pub is_event : ℕ → List Event → Event → Bool
is_event n earlier e = is_one e.mask && (nat_lt e.mask (2 ^ n) && holds_up by_time earlier e)

abbrev pub an_event : ℕ × ℕ → Event
an_event p = record { time = p.0; mask = p.1 }

abbrev pub event_at : List ℕ → Read Event
event_at bytes = made an_event (both_at (number_at 8) (number_at 4) bytes)

-- a tree, Empty where nothing is there
abbrev pub or_empty : {X : Type 0} → (X → Tree) → Option X → Tree
or_empty f None = Empty
or_empty f (Some x) = f x

abbrev pub word_at : Bool → List ℕ → Read ℤ
word_at true bytes = made (cast_signed w64) (number_at 8 bytes)
word_at false bytes = made pos (number_at 8 bytes)

abbrev pub events_at : ℕ → ℕ → List ℕ → Read Tree
events_at whole n bytes =
    made (or_empty Events) (flag_at whole (list_at whole any_length (λ earlier. kept_at whole (is_event n earlier) event_at)) bytes)

abbrev pub one_at : ℕ → Ty → List ℕ → Read Tree
one_at whole ty bytes = made one_tree (flag_at whole (value_at whole ty) bytes)

-- the state of quantileExact: in version 1 the values, none below the one before it
abbrev pub quantile_at : Version → ℕ → Ty → List ℕ → Read Tree
quantile_at One whole ty bytes =
    made values_tree (list_at whole any_length (λ earlier. kept_at whole (holds_up compare earlier) (value_at whole ty)) bytes)

abbrev pub leaf_at : Version → ℕ → Leaf → List Ty → List ℕ → Read Tree
leaf_at v whole Count ts bytes = made (or_empty Word) (flag_at whole (word_at false) bytes)
leaf_at v whole Sum ts bytes = made (or_empty Word) (flag_at whole (word_at (is_signed (first_type ts))) bytes)
leaf_at v whole Min ts bytes = one_at whole (bare (first_type ts)) bytes
leaf_at v whole Max ts bytes = one_at whole (bare (first_type ts)) bytes
leaf_at v whole ArgMin ts bytes = made (or_empty tuple_tree) (flag_at whole (row_at whole ts) bytes)
leaf_at v whole ArgMax ts bytes = made (or_empty tuple_tree) (flag_at whole (row_at whole ts) bytes)
leaf_at v whole (GroupArray most) ts bytes =
    made values_tree (list_at whole (up_to most) (λ earlier. value_at whole (bare (first_type ts))) bytes)
leaf_at v whole UniqExact ts bytes =
    made rows_tree (list_at whole any_length (λ earlier. kept_at whole (rises compare_rows earlier) (row_at whole ts)) bytes)
leaf_at v whole (QuantileExact level) ts bytes = quantile_at v whole (bare (first_type ts)) bytes
leaf_at v whole (WindowFunnel window strict) ts bytes = events_at whole (conditions ts) bytes
leaf_at v whole (SequenceMatch pattern) ts bytes = events_at whole (conditions ts) bytes
leaf_at v whole Retention ts bytes =
    made (or_empty (λ m. Word (pos m))) (flag_at whole (kept_at whole (λ m. nat_lt m (2 ^ length ts)) (number_at 4)) bytes)
leaf_at v whole (GroupBit op) ts bytes = one_at whole (bare (first_type ts)) bytes

-- a key that stands above those before it, and what is read behind it
abbrev pub entry_at : ℕ → Ty → (List ℕ → Read Tree) → List (Value × Tree) → List ℕ → Read (Value × Tree)
entry_at whole key read earlier bytes = both_at (kept_at whole (rises compare (map (λ e. e.0) earlier)) (value_at whole key)) read bytes

abbrev pub body_at : Version → ℕ → Chain → List Ty → List ℕ → Read Tree
body_at v whole (Of f) ts bytes = leaf_at v whole f ts bytes
body_at v whole (If c) ts bytes = body_at v whole c (inward (If c) ts) bytes
body_at v whole (Array c) ts bytes = body_at v whole c (inward (Array c) ts) bytes
body_at v whole (MapOf c) ts bytes =
    made keyed_tree (list_at whole any_length (entry_at whole (key_type (first_type ts)) (body_at v whole c (inward (MapOf c) ts))) bytes)
body_at v whole (ForEach c) ts bytes =
    made slots_tree (list_at whole any_length (λ earlier. body_at v whole c (inward (ForEach c) ts)) bytes)
body_at v whole (OrNull c) ts bytes = body_at v whole c ts bytes
body_at v whole (OrDefault c) ts bytes = body_at v whole c ts bytes
body_at v whole (Distinct c) ts bytes =
    made rows_tree (list_at whole any_length (λ earlier. kept_at whole (is_new compare_rows earlier) (row_at whole ts)) bytes)
body_at v whole (State c) ts bytes = body_at v whole c ts bytes
body_at v whole (Merge c) ts bytes = body_at v whole c (inward (Merge c) ts) bytes
body_at v whole (Resample start end step c) ts bytes =
    made slots_tree (items_at (λ earlier. body_at v whole c (inward (Resample start end step c) ts)) (intervals start end step) [] bytes)

-- no byte may follow
abbrev pub whole_of : {X : Type 0} → ℕ → X × List ℕ → Result X StateFault
whole_of whole (x, []) = Ok x
whole_of whole (x, b ∷ rest) = Err (Long (place whole (b ∷ rest)))

-- a text of a version, if the first byte is that of one
abbrev pub read_in : Option Version → ℕ → Chain → List Ty → List ℕ → Result Tree StateFault
read_in None b c ts bytes = Err (OtherVersion b)
read_in (Some v) b c ts bytes = body_at v (length (b ∷ bytes)) c ts bytes >>= whole_of (length (b ∷ bytes))

-- the tree that bytes spell, or the first fault
unfoldable pub reading : Chain → List Ty → List ℕ → Result Tree StateFault
reading c ts [] = Err Short
reading c ts (b ∷ bytes) = read_in (version_of b) b c ts bytes
