-- What a chain means over rows, and the rows that each link hands inward. What opens a row, and what a link picks, are
-- the words of `agg_meaning` (Feeds, Picks, Suffixes), here over rows.
use Rattle.std.specs.Prelude.{ℕ, ℤ, Bool, false, List, [], ◌∷◌, map, filter, flat_map, Option, Some, None, nat_eq, not, cond, int_le, int_lt, ◌&&◌}
use Rattle.agg_terms.specs.Chains.{Array, Chain, Distinct, ForEach, If, MapOf, Merge, Of, OrDefault, OrNull, Resample, State, Ty}
use Rattle.agg_terms.specs.Lists.{front}
use Rattle.agg_terms.specs.Order.{compare, compare_rows, different, firsts}
use Rattle.agg_terms.specs.Types.{inward}
use Rattle.agg_terms.specs.Values.{Nil, Tree, Value}
use Rattle.agg_meaning.specs.Feeds.{as_condition, as_key, entries_of, last, no_null, opened, tuples}
use Rattle.agg_meaning.specs.Picks.{at_place, in_interval, when_met, width}
use Rattle.agg_meaning.specs.Suffixes.{at_key, fed, meaning, normal}
use Rattle.plain_rows.specs.Served.{IsServed}

-- the meaning, whether a row reached the function, and the state, of the opened rows
abbrev pub meaning_of : Chain → List Ty → List (List Value) → Value
meaning_of c ts rows = meaning c ts (map (opened c) rows)

abbrev pub fed_of : Chain → List Ty → List (List Value) → Bool
fed_of c ts rows = fed c ts (map (opened c) rows)

abbrev pub normal_of : Chain → List Ty → List (List Value) → Tree
normal_of c ts rows = normal c ts (map (opened c) rows)

-- a condition that is met
abbrev pub is_above : Option ℕ → Bool
is_above None = false
is_above (Some n) = not (nat_eq n 0)

-- -If: a row without its condition, where that is met
abbrev pub met_row : List Value → List (List Value)
met_row r = when_met (front r, as_condition (last Nil r))

abbrev pub met_rows : List (List Value) → List (List Value)
met_rows rows = flat_map met_row rows

-- -Array: the rows of elements
abbrev pub element_rows : List (List Value) → List (List Value)
element_rows rows = flat_map tuples rows

-- -ForEach: the row of elements at a place
abbrev pub row_at : ℕ → List Value → List (List Value)
row_at i r = at_place i (map Some (tuples r))

abbrev pub rows_at : ℕ → List (List Value) → List (List Value)
rows_at i rows = flat_map (row_at i) rows

abbrev pub place_count : List (List Value) → ℕ
place_count rows = width (map tuples rows)

-- -Map: the entries of a row's map, each value as a row
abbrev pub entry_row : Value × Value → Value × Option (List Value)
entry_row e = (e.0, Some (e.1 ∷ []))

abbrev pub entry_rows : List Value → List (Value × Option (List Value))
entry_rows r = map entry_row (entries_of (last Nil r))

abbrev pub rows_at_key : Value → List (List Value) → List (List Value)
rows_at_key k rows = flat_map (λ r. at_key k (entry_rows r)) rows

-- the keys of some entries, of all rows, and the different ones, ascending
abbrev pub keys_in : List (Value × Value) → List Value
keys_in es = map (λ e. e.0) es

abbrev pub all_row_keys : List (List Value) → List Value
all_row_keys rows = flat_map (λ r. keys_in (entries_of (last Nil r))) rows

abbrev pub row_keys : List (List Value) → List Value
row_keys rows = different compare (all_row_keys rows)

-- -Resample: a row without its key, where that is in an interval
abbrev pub row_inside : ℤ → ℤ → ℕ → ℕ → List Value → List (List Value)
row_inside start end step j r = in_interval start end step j (front r, as_key (last Nil r))

abbrev pub rows_inside : ℤ → ℤ → ℕ → ℕ → List (List Value) → List (List Value)
rows_inside start end step j rows = flat_map (row_inside start end step j) rows

-- the same by the bounds of an interval
abbrev pub key_inside : ℤ → ℤ → ℤ → Option ℤ → Bool
key_inside low high end None = false
key_inside low high end (Some k) = int_le low k && (int_lt k high && int_lt k end)

abbrev pub row_between : ℤ → ℤ → ℤ → List Value → List (List Value)
row_between low high end r = cond (key_inside low high end (as_key (last Nil r))) (front r ∷ []) []

abbrev pub rows_between : ℤ → ℤ → ℤ → List (List Value) → List (List Value)
rows_between low high end rows = flat_map (row_between low high end) rows

-- -Distinct: the first occurrences of the rows that count
abbrev pub first_live : List (List Value) → List (List Value)
first_live rows = firsts compare_rows (filter no_null rows)

-- A chain without -Merge, over rows that its function takes wherever they reach it.
abbrev pub IsEvaluated : Chain → List Ty → List (List Value) → Type 0
IsEvaluated (Of f) ts rows = IsServed f ts (filter no_null rows)
IsEvaluated (If c) ts rows = IsEvaluated c (inward (If c) ts) (met_rows rows)
IsEvaluated (Array c) ts rows = IsEvaluated c (inward (Array c) ts) (element_rows rows)
IsEvaluated (MapOf c) ts rows = (k : Value) → IsEvaluated c (inward (MapOf c) ts) (rows_at_key k rows)
IsEvaluated (ForEach c) ts rows = (i : ℕ) → IsEvaluated c (inward (ForEach c) ts) (rows_at i rows)
IsEvaluated (OrNull c) ts rows = IsEvaluated c ts rows
IsEvaluated (OrDefault c) ts rows = IsEvaluated c ts rows
IsEvaluated (Distinct c) ts rows = IsEvaluated c ts (first_live rows)
IsEvaluated (State c) ts rows = IsEvaluated c ts rows
IsEvaluated (Merge c) ts rows = ⊥
IsEvaluated (Resample start end step c) ts rows =
    (j : ℕ) → IsEvaluated c (inward (Resample start end step c) ts) (rows_inside start end step j rows)
