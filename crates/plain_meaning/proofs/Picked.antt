-- What a link picks of opened rows is what it hands inward of the rows, opened.
use Rattle.std.proofs.Common.{◌≡◌, ℕ, zero, suc, ℤ, nat_eq, Bool, true, false, cond, List, [], ◌∷◌, ◌++◌, map, max, refl, sym, ap, ap₂, ◌∙◌}
use Rattle.std.specs.Prelude.{flat_map, Option, Some, None}
use Rattle.std.specs.Ordering.{is_eq}
use Rattle.std.proofs.lemmas.List.{length-map, map-append}
use Rattle.agg_terms.specs.Chains.{Array, Chain, ForEach, If, MapOf, Resample}
use Rattle.agg_terms.specs.Lists.{front}
use Rattle.agg_terms.specs.Order.{compare, different}
use Rattle.agg_terms.specs.Values.{Nil, Value}
use Rattle.agg_meaning.specs.Feeds.{as_condition, as_key, entries_of, last, opened, tuples}
use Rattle.agg_meaning.specs.Picks.{at_place, in_interval, is_inside, when_met, width}
use Rattle.agg_meaning.specs.Suffixes.{at_key, keys_of}
use Rattle.plain_meaning.specs.Inward.{all_row_keys, element_rows, entry_row, entry_rows, met_row, met_rows, place_count, row_at, row_inside, row_keys, rows_at, rows_at_key, rows_inside}

picked : {R X Y F : Type 0} (open_one : R → F) (sel : F → List Y) (f : X → Y) (inner : R → List X) →
    ((r : R) → sel (open_one r) ≡ map f (inner r)) → (L : List R) → flat_map sel (map open_one L) ≡ map f (flat_map inner L)
picked open_one sel f inner h [] = refl
picked open_one sel f inner h (r ∷ L) =
    ap₂ ◌++◌ (h r) (picked open_one sel f inner h L) ∙ sym (map-append f (inner r) (flat_map inner L))

met_maps : {X Y : Type 0} (f : X → Y) (x : X) (o : Option ℕ) → when_met (f x, o) ≡ map f (when_met (x, o))
met_maps f x None = refl
met_maps f x (Some n) = go (nat_eq n 0)
  where
    go : (b : Bool) → cond b [] (f x ∷ []) ≡ map f (cond b [] (x ∷ []))
    go true = refl
    go false = refl

pub if_feeds : (c : Chain) (rows : List (List Value)) → flat_map when_met (map (opened (If c)) rows) ≡ map (opened c) (met_rows rows)
if_feeds c rows = picked (opened (If c)) when_met (opened c) met_row (λ r. met_maps (opened c) (front r) (as_condition (last Nil r))) rows

pub array_feeds : (c : Chain) (rows : List (List Value)) → flat_map (λ f. f) (map (opened (Array c)) rows) ≡ map (opened c) (element_rows rows)
array_feeds c rows = picked (opened (Array c)) (λ f. f) (opened c) tuples (λ r. refl) rows

place_maps : {X Y : Type 0} (f : X → Y) (i : ℕ) (xs : List X) → at_place i (map (λ x. Some (f x)) xs) ≡ map f (at_place i (map Some xs))
place_maps f i [] = refl
place_maps f zero (x ∷ xs) = refl
place_maps f (suc i) (x ∷ xs) = place_maps f i xs

pub place_feeds : (c : Chain) (i : ℕ) (rows : List (List Value)) → flat_map (at_place i) (map (opened (ForEach c)) rows) ≡ map (opened c) (rows_at i rows)
place_feeds c i rows = picked (opened (ForEach c)) (at_place i) (opened c) (row_at i) (λ r. place_maps (opened c) i (tuples r)) rows

pub width_feeds : (c : Chain) (rows : List (List Value)) → width (map (opened (ForEach c)) rows) ≡ place_count rows
width_feeds c [] = refl
width_feeds c (r ∷ rows) = ap₂ max (length-map (tuples r) (λ t. Some (opened c t))) (width_feeds c rows)

key_maps : {Y : Type 0} (f : List Value → Y) (k : Value) (es : List (Value × Value)) →
    at_key k (map (λ e. (e.0, Some (f (e.1 ∷ [])))) es) ≡ map f (at_key k (map entry_row es))
key_maps f k [] = refl
key_maps f k (e ∷ es) = go (is_eq (compare k e.0)) (key_maps f k es)
  where
    go : (b : Bool) → at_key k (map (λ e. (e.0, Some (f (e.1 ∷ [])))) es) ≡ map f (at_key k (map entry_row es)) →
        cond b (f (e.1 ∷ []) ∷ []) [] ++ at_key k (map (λ e. (e.0, Some (f (e.1 ∷ [])))) es)
        ≡ map f (cond b ((e.1 ∷ []) ∷ []) [] ++ at_key k (map entry_row es))
    go true h = ap (λ l. f (e.1 ∷ []) ∷ l) h
    go false h = h

pub key_feeds : (c : Chain) (k : Value) (rows : List (List Value)) → flat_map (at_key k) (map (opened (MapOf c)) rows) ≡ map (opened c) (rows_at_key k rows)
key_feeds c k rows =
    picked (opened (MapOf c)) (at_key k) (opened c) (λ r. at_key k (entry_rows r)) (λ r. key_maps (opened c) k (entries_of (last Nil r))) rows

keys_alike : {Y : Type 0} (f : Value × Value → Y) (es : List (Value × Value)) →
    map (λ (k : Value × Y). k.0) (map (λ (e : Value × Value). (e.0, f e)) es) ≡ map (λ (e : Value × Value). e.0) es
keys_alike f [] = refl
keys_alike f (e ∷ es) = ap (λ l. e.0 ∷ l) (keys_alike f es)

all_keys : (c : Chain) (rows : List (List Value)) → flat_map (λ f. map (λ e. e.0) f) (map (opened (MapOf c)) rows) ≡ all_row_keys rows
all_keys c [] = refl
all_keys c (r ∷ rows) = ap₂ ◌++◌ (keys_alike (λ e. Some (opened c (e.1 ∷ []))) (entries_of (last Nil r))) (all_keys c rows)

pub keys_feeds : (c : Chain) (rows : List (List Value)) → keys_of (map (opened (MapOf c)) rows) ≡ row_keys rows
keys_feeds c rows = ap (different compare) (all_keys c rows)

inside_maps : {X Y : Type 0} (start end : ℤ) (step j : ℕ) (f : X → Y) (x : X) (o : Option ℤ) → in_interval start end step j (f x, o) ≡ map f (in_interval start end step j (x, o))
inside_maps start end step j f x None = refl
inside_maps start end step j f x (Some k) = go (is_inside start end step j k)
  where
    go : (b : Bool) → cond b (f x ∷ []) [] ≡ map f (cond b (x ∷ []) [])
    go true = refl
    go false = refl

pub interval_feeds : (start end : ℤ) (step : ℕ) (c : Chain) (j : ℕ) (rows : List (List Value)) →
    flat_map (in_interval start end step j) (map (opened (Resample start end step c)) rows) ≡ map (opened c) (rows_inside start end step j rows)
interval_feeds start end step c j rows =
    picked (opened (Resample start end step c)) (in_interval start end step j) (opened c) (row_inside start end step j)
    (λ r. inside_maps start end step j (opened c) (front r) (as_key (last Nil r))) rows

-- rows that are feeds as they are
pub as_they_are : {X : Type 0} (xs : List X) → map (λ x. x) xs ≡ xs
as_they_are [] = refl
as_they_are (x ∷ xs) = ap (λ l. x ∷ l) (as_they_are xs)
