-- The tests that decide `IsValue` and `IsTree`, by the same cases, for code to equal.
use Rattle.std.specs.Prelude.{ℕ, ◌-◌, ◌^◌, ℤ, pos, negsuc, int_le, nat_eq, nat_le, nat_lt, Bool, true, false, not, ◌&&◌, ◌||◌, List, [], ◌∷◌, map, length, Option, Some, None}
use Rattle.std.specs.List.{list_all}
use Rattle.std.specs.declared.cmp.Ordering.{Ordering}
use Rattle.std.specs.Ordering.{is_eq, is_le, is_lt}
use mir.Syntax.{Width, w64}
use mir.Val.{hbits}
use Rattle.agg_terms.specs.Chains.{ArgMax, ArgMin, Arr, Array, Chain, Count, Distinct, ForEach, GroupArray, GroupBit, If, Leaf, MapOf, MapTy, Max, Merge, Min, Nullable, Of, OrDefault, OrNull, QuantileExact, Resample, Retention, SequenceMatch, Signed, State, StateOf, Str, Sum, Ty, UniqExact, Whole, WindowFunnel, tys_list}
use Rattle.agg_terms.specs.Values.{Bytes, Cell, Empty, Event, Events, Items, Keyed, Listed, Nil, Num, Pairs, Rows, Slots, Tree, Tuple, Value, Word, entries_list, keyed_list, table_list, trees_list, values_list}
use Rattle.agg_terms.specs.Types.{bare, conditions, first_type, intervals, inward, is_signed, key_type}
use Rattle.agg_terms.specs.Order.{compare, compare_rows}
use Rattle.agg_terms.specs.Trees.{by_time, is_one}

-- each pair of neighbours passes a test
abbrev pub neighbours : {X : Type 0} → (X → X → Bool) → List X → Bool
neighbours test [] = true
neighbours test (x ∷ []) = true
neighbours test (x ∷ y ∷ ys) = test x y && neighbours test (y ∷ ys)

-- each above, or not below, the one before it
abbrev pub is_rising : {X : Type 0} → (X → X → Ordering) → List X → Bool
is_rising cmp xs = neighbours (λ x y. is_lt (cmp x y)) xs

abbrev pub is_not_falling : {X : Type 0} → (X → X → Ordering) → List X → Bool
is_not_falling cmp xs = neighbours (λ x y. is_le (cmp x y)) xs

-- no two are equal by an order
abbrev pub are_apart : {X : Type 0} → (X → X → Ordering) → List X → Bool
are_apart cmp [] = true
are_apart cmp (x ∷ xs) = list_all (λ y. not (is_eq (cmp x y))) xs && are_apart cmp xs

-- a number from low to high
abbrev pub is_between : ℤ → ℤ → ℤ → Bool
is_between low high z = int_le low z && int_le z high

-- a number of n bits; a number of the width w
abbrev pub fits_bits : ℕ → ℤ → Bool
fits_bits n z = is_between (pos 0) (pos (2 ^ n - 1)) z

abbrev pub fits_width : Width → ℤ → Bool
fits_width w z = is_between (negsuc (2 ^ hbits w - 1)) (pos (2 ^ hbits w - 1)) z

-- tests of what a value is made of, false at a value of another form
abbrev pub has_number : (ℤ → Bool) → Value → Bool
has_number test (Num z) = test z
has_number test _ = false

abbrev pub has_bytes : (List ℕ → Bool) → Value → Bool
has_bytes test (Bytes bytes) = test bytes
has_bytes test _ = false

abbrev pub has_items : (List Value → Bool) → Value → Bool
has_items test (Items vs) = test (values_list vs)
has_items test _ = false

abbrev pub has_entries : (List (Value × Value) → Bool) → Value → Bool
has_entries test (Pairs es) = test (entries_list es)
has_entries test _ = false

abbrev pub has_cell : (Tree → Bool) → Value → Bool
has_cell test (Cell t) = test t
has_cell test _ = false

abbrev pub is_nil : Value → Bool
is_nil Nil = true
is_nil _ = false

-- the same of a tree
abbrev pub has_word : (ℤ → Bool) → Tree → Bool
has_word test (Word z) = test z
has_word test _ = false

abbrev pub has_values : (List Value → Bool) → Tree → Bool
has_values test (Listed vs) = test (values_list vs)
has_values test _ = false

abbrev pub has_rows : (List (List Value) → Bool) → Tree → Bool
has_rows test (Rows rs) = test (table_list rs)
has_rows test _ = false

abbrev pub has_events : (List Event → Bool) → Tree → Bool
has_events test (Events es) = test es
has_events test _ = false

abbrev pub has_slots : (List Tree → Bool) → Tree → Bool
has_slots test (Slots ts) = test (trees_list ts)
has_slots test _ = false

abbrev pub has_keyed : (List (Value × Tree) → Bool) → Tree → Bool
has_keyed test (Keyed es) = test (keyed_list es)
has_keyed test _ = false

-- the tree of no rows
abbrev pub is_none : Tree → Bool
is_none Empty = true
is_none _ = false

-- a value of a type without a state
abbrev pub fits_plain : Ty → Value → Bool
fits_plain (Whole n) v = has_number (fits_bits n) v
fits_plain (Signed w) v = has_number (fits_width w) v
fits_plain Str v = has_bytes (list_all (λ b. nat_lt b (2 ^ 8))) v
fits_plain (Arr t) v = has_items (list_all (fits_plain t)) v
fits_plain (MapTy k t) v = has_entries (list_all (λ e. fits_plain k e.0 && fits_plain t e.1)) v
fits_plain (Nullable t) v = is_nil v || fits_plain t v
fits_plain (StateOf c ts) v = false

-- a tuple of values of these types, taken without Nullable
abbrev pub fits_row : List Ty → List Value → Bool
fits_row [] [] = true
fits_row (t ∷ ts) (v ∷ vs) = fits_plain (bare t) v && fits_row ts vs
fits_row _ _ = false

-- a value alone in its tuple, which is no number: a number stands as a word
abbrev pub is_lone : (Value → Bool) → List Value → Bool
is_lone test (v ∷ []) = not (has_number (λ z. true) v) && test v
is_lone test _ = false

-- a tuple of two
abbrev pub are_two : List Value → Bool
are_two (v ∷ w ∷ []) = true
are_two _ = false

abbrev pub is_up_to : Option ℕ → ℕ → Bool
is_up_to None n = true
is_up_to (Some most) n = nat_le n most

-- an event that meets some of n conditions and no others
abbrev pub is_event : ℕ → Event → Bool
is_event n e = nat_lt e.time (2 ^ 64) && (is_one e.mask && nat_lt e.mask (2 ^ n))

-- a word of sum: signed or not
abbrev pub is_word : Bool → ℤ → Bool
is_word true z = fits_width w64 z
is_word false z = fits_bits 64 z

-- the tree of one value of a type, or of none
abbrev pub is_best : Ty → Tree → Bool
is_best ty Empty = true
is_best ty (Word z) = fits_plain ty (Num z)
is_best ty (Tuple vs) = is_lone (fits_plain ty) (values_list vs)
is_best ty _ = false

-- the tree of two values of these types, or of none
abbrev pub is_best_pair : List Ty → Tree → Bool
is_best_pair ts Empty = true
is_best_pair ts (Tuple vs) = are_two (values_list vs) && fits_row ts (values_list vs)
is_best_pair ts _ = false

-- the tree of events by time, or of no rows
abbrev pub are_events : ℕ → Tree → Bool
are_events n t = is_none t || has_events (λ es. list_all (is_event n) es && is_not_falling by_time es) t

-- the state trees of a function
abbrev pub is_leaf_tree : Leaf → List Ty → Tree → Bool
is_leaf_tree Count ts t = is_none t || has_word (fits_bits 64) t
is_leaf_tree Sum ts t = is_none t || has_word (is_word (is_signed (first_type ts))) t
is_leaf_tree Min ts t = is_best (bare (first_type ts)) t
is_leaf_tree Max ts t = is_best (bare (first_type ts)) t
is_leaf_tree ArgMin ts t = is_best_pair ts t
is_leaf_tree ArgMax ts t = is_best_pair ts t
is_leaf_tree (GroupArray most) ts t = has_values (λ vs. list_all (fits_plain (bare (first_type ts))) vs && is_up_to most (length vs)) t
is_leaf_tree UniqExact ts t = has_rows (λ rs. list_all (fits_row ts) rs && is_rising compare_rows rs) t
is_leaf_tree (QuantileExact level) ts t = has_values (λ vs. list_all (fits_plain (bare (first_type ts))) vs && is_not_falling compare vs) t
is_leaf_tree (WindowFunnel window strict) ts t = are_events (conditions ts) t
is_leaf_tree (SequenceMatch pattern) ts t = are_events (conditions ts) t
is_leaf_tree (GroupBit op) ts t = is_none t || has_word (λ z. fits_plain (bare (first_type ts)) (Num z)) t
is_leaf_tree Retention ts t = is_none t || has_word (fits_bits (length ts)) t

-- the state trees of a chain over these argument types
abbrev pub is_tree : Chain → List Ty → Tree → Bool
is_tree (Of f) ts t = is_leaf_tree f ts t
is_tree (If c) ts t = is_tree c (inward (If c) ts) t
is_tree (Array c) ts t = is_tree c (inward (Array c) ts) t
is_tree (MapOf c) ts t =
    has_keyed (λ es. list_all (λ e. fits_plain (key_type (first_type ts)) e.0 && is_tree c (inward (MapOf c) ts) e.1) es && is_rising compare (map (λ e. e.0) es)) t
is_tree (ForEach c) ts t = has_slots (list_all (is_tree c (inward (ForEach c) ts))) t
is_tree (OrNull c) ts t = is_tree c ts t
is_tree (OrDefault c) ts t = is_tree c ts t
is_tree (Distinct c) ts t = has_rows (λ rs. list_all (fits_row ts) rs && are_apart compare_rows rs) t
is_tree (State c) ts t = is_tree c ts t
is_tree (Merge c) ts t = is_tree c (inward (Merge c) ts) t
is_tree (Resample start end step c) ts t =
    has_slots (λ slots. list_all (is_tree c (inward (Resample start end step c) ts)) slots && nat_eq (length slots) (intervals start end step)) t

-- a value of any type
abbrev pub fits_value : Ty → Value → Bool
fits_value (Whole n) v = fits_plain (Whole n) v
fits_value (Signed w) v = fits_plain (Signed w) v
fits_value Str v = fits_plain Str v
fits_value (Arr t) v = has_items (list_all (fits_value t)) v
fits_value (MapTy k t) v = has_entries (list_all (λ e. fits_plain k e.0 && fits_value t e.1)) v
fits_value (Nullable t) v = is_nil v || fits_value t v
fits_value (StateOf c ts) v = has_cell (is_tree c (tys_list ts)) v
