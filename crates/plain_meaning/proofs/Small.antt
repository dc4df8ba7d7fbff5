-- Values that hold no number of more than 64 bits, and rows of them, as they are handed inward.
use Rattle.std.proofs.Common.{ℕ, zero, suc, ◌<◌, ◌^◌, ℤ, pos, negsuc, ◌<ℤ◌, nat_eq, Bool, true, false, cond, List, [], ◌∷◌, map, arith, lit<}
use Rattle.std.specs.Prelude.{filter, Option, Some, None}
use Rattle.std.specs.Ordering.{is_eq}
use Rattle.std.proofs.lemmas.Int.{ints}
use Rattle.agg_terms.specs.Lists.{Each, front}
use Rattle.agg_terms.specs.Order.{compare, compare_rows}
use Rattle.agg_terms.specs.Values.{Bytes, Cell, Entries, Items, Nil, Num, Pairs, Value, Values, a_value, an_entry, entries_list, no_entries, no_values, values_list}
use Rattle.agg_meaning.specs.Events.{time_of}
use Rattle.agg_meaning.specs.Feeds.{as_condition, as_key, entries_of, items_of, last, no_null, tuples, zip_with}
use Rattle.agg_meaning.specs.Picks.{at_place, in_interval, is_inside, when_met}
use Rattle.agg_meaning.specs.Suffixes.{at_key}
use Rattle.agg_meaning.proofs.Kept.{each_append, each_firsts, each_flat_map}
use Rattle.plain_meaning.specs.Inward.{element_rows, entry_row, entry_rows, first_live, met_row, met_rows, row_at, row_inside, rows_at, rows_at_key, rows_inside}

abbrev mutual
  pub IsSmall : Value → Type 0
  IsSmall (Num z) = z <ℤ pos (2 ^ 64)
  IsSmall (Items vs) = AreSmall vs
  IsSmall (Pairs es) = HoldSmall es
  IsSmall _ = Unit {0}

  pub AreSmall : Values → Type 0
  AreSmall no_values = Unit {0}
  AreSmall (a_value v vs) = IsSmall v × AreSmall vs

  pub HoldSmall : Entries → Type 0
  HoldSmall no_entries = Unit {0}
  HoldSmall (an_entry k v es) = IsSmall v × HoldSmall es

abbrev pub IsSmallRow : List Value → Type 0
IsSmallRow r = Each IsSmall r

values_small : (vs : Values) → AreSmall vs → Each IsSmall (values_list vs)
values_small no_values h = tt
values_small (a_value v vs) h = (h.0, values_small vs h.1)

items_small : (v : Value) → IsSmall v → Each IsSmall (items_of v)
items_small (Items vs) h = values_small vs h
items_small (Num z) h = tt
items_small (Bytes b) h = tt
items_small Nil h = tt
items_small (Pairs es) h = tt
items_small (Cell t) h = tt

list_small : (es : Entries) → HoldSmall es → Each (λ e. IsSmall e.1) (entries_list es)
list_small no_entries h = tt
list_small (an_entry k v es) h = (h.0, list_small es h.1)

entries_small : (v : Value) → IsSmall v → Each (λ e. IsSmall e.1) (entries_of v)
entries_small (Pairs es) h = list_small es h
entries_small (Num z) h = tt
entries_small (Bytes b) h = tt
entries_small Nil h = tt
entries_small (Items vs) h = tt
entries_small (Cell t) h = tt

front_small : (r : List Value) → IsSmallRow r → IsSmallRow (front r)
front_small [] h = tt
front_small (v ∷ []) h = tt
front_small (v ∷ w ∷ ws) h = (h.0, front_small (w ∷ ws) h.1)

last_small : (v : Value) (r : List Value) → IsSmall v → IsSmallRow r → IsSmall (last v r)
last_small v [] k h = k
last_small v (w ∷ ws) k h = last_small w ws h.0 h.1

singles_small : (vs : List Value) → Each IsSmall vs → Each IsSmallRow (map (λ x. x ∷ []) vs)
singles_small [] h = tt
singles_small (v ∷ vs) h = ((h.0, tt), singles_small vs h.1)

zip_small : (vs : List Value) (rs : List (List Value)) → Each IsSmall vs → Each IsSmallRow rs → Each IsSmallRow (zip_with (λ x r. x ∷ r) vs rs)
zip_small [] rs h k = tt
zip_small (v ∷ vs) [] h k = tt
zip_small (v ∷ vs) (r ∷ rs) h k = ((h.0, k.0), zip_small vs rs h.1 k.1)

tuples_small : (r : List Value) → IsSmallRow r → Each IsSmallRow (tuples r)
tuples_small [] h = tt
tuples_small (v ∷ []) h = singles_small (items_of v) (items_small v h.0)
tuples_small (v ∷ w ∷ ws) h = zip_small (items_of v) (tuples (w ∷ ws)) (items_small v h.0) (tuples_small (w ∷ ws) h.1)

one_if : (b : Bool) (r : List Value) → IsSmallRow r → Each IsSmallRow (cond b (r ∷ []) [])
one_if true r h = (h, tt)
one_if false r h = tt

one_unless : (b : Bool) (r : List Value) → IsSmallRow r → Each IsSmallRow (cond b [] (r ∷ []))
one_unless true r h = tt
one_unless false r h = (h, tt)

when_small : (r : List Value) (o : Option ℕ) → IsSmallRow r → Each IsSmallRow (when_met (r, o))
when_small r None h = tt
when_small r (Some n) h = one_unless (nat_eq n 0) r h

place_small : (i : ℕ) (rs : List (List Value)) → Each IsSmallRow rs → Each IsSmallRow (at_place i (map Some rs))
place_small i [] h = tt
place_small zero (r ∷ rs) h = (h.0, tt)
place_small (suc i) (r ∷ rs) h = place_small i rs h.1

key_small : (k : Value) (es : List (Value × Value)) → Each (λ e. IsSmall e.1) es → Each IsSmallRow (at_key k (map entry_row es))
key_small k [] h = tt
key_small k (e ∷ es) h =
    each_append IsSmallRow (cond (is_eq (compare k e.0)) ((e.1 ∷ []) ∷ []) []) (at_key k (map entry_row es))
    (one_if (is_eq (compare k e.0)) (e.1 ∷ []) (h.0, tt)) (key_small k es h.1)

inside_small : (start end : ℤ) (step j : ℕ) (r : List Value) (o : Option ℤ) → IsSmallRow r → Each IsSmallRow (in_interval start end step j (r, o))
inside_small start end step j r None h = tt
inside_small start end step j r (Some k) h = one_if (is_inside start end step j k) r h

kept_small : (rs : List (List Value)) → Each IsSmallRow rs → Each IsSmallRow (filter no_null rs)
kept_small [] h = tt
kept_small (r ∷ rs) h = go (no_null r) (kept_small rs h.1)
  where
    go : (b : Bool) → Each IsSmallRow (filter no_null rs) → Each IsSmallRow (cond b (r ∷ filter no_null rs) (filter no_null rs))
    go true k = (h.0, k)
    go false k = k

-- the rows that each link hands inward
module _ (R : List (List Value)) (h : Each IsSmallRow R) where
  pub live_small : Each IsSmallRow (filter no_null R)
  live_small = kept_small R h

  pub met_small : Each IsSmallRow (met_rows R)
  met_small = each_flat_map IsSmallRow IsSmallRow met_row (λ r k. when_small (front r) (as_condition (last Nil r)) (front_small r k)) R h

  pub elements_small : Each IsSmallRow (element_rows R)
  elements_small = each_flat_map IsSmallRow IsSmallRow tuples tuples_small R h

  pub at_small : (i : ℕ) → Each IsSmallRow (rows_at i R)
  at_small i = each_flat_map IsSmallRow IsSmallRow (row_at i) (λ r k. place_small i (tuples r) (tuples_small r k)) R h

  pub at_key_small : (k : Value) → Each IsSmallRow (rows_at_key k R)
  at_key_small k =
      each_flat_map IsSmallRow IsSmallRow (λ r. at_key k (entry_rows r))
      (λ r s. key_small k (entries_of (last Nil r)) (entries_small (last Nil r) (last_small Nil r tt s))) R h

  pub interval_small : (start end : ℤ) (step j : ℕ) → Each IsSmallRow (rows_inside start end step j R)
  interval_small start end step j =
      each_flat_map IsSmallRow IsSmallRow (row_inside start end step j) (λ r k. inside_small start end step j (front r) (as_key (last Nil r)) (front_small r k)) R h

  pub firsts_small : Each IsSmallRow (first_live R)
  firsts_small = each_firsts IsSmallRow compare_rows (filter no_null R) (kept_small R h)

time_small : (r : List Value) → IsSmallRow r → time_of r < 2 ^ 64
time_small [] h = lit< tt
time_small (Num (pos t) ∷ vs) h = let k = h.0 in omega (arith, ints)
time_small (Num (negsuc t) ∷ vs) h = lit< tt
time_small (Bytes b ∷ vs) h = lit< tt
time_small (Nil ∷ vs) h = lit< tt
time_small (Items ws ∷ vs) h = lit< tt
time_small (Pairs es ∷ vs) h = lit< tt
time_small (Cell t ∷ vs) h = lit< tt

pub times_small : (R : List (List Value)) → Each IsSmallRow R → Each (λ r. time_of r < 2 ^ 64) R
times_small [] h = tt
times_small (r ∷ R) h = (time_small r h.0, times_small R h.1)
