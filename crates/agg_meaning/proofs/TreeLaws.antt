-- A state tree is the normal form of what it unfolds to.
use Rattle.std.proofs.Common.{◌≡◌, ◌≢◌, ℕ, zero, suc, ◌+◌, ◌*◌, ◌-◌, ◌<◌, ◌≤◌, ℤ, pos, ◌+ℤ◌, ◌-ℤ◌, ◌<ℤ◌, nat_abs, int_le, int_lt, le-div_iff_mul-le, mul-le-mul_right, mul-lt-mul_of_pos_right, ◌&&◌, Bool, true, false, cond, not, ◌⊎◌, inl, inr, List, [], ◌∷◌, ◌++◌, map, map-id, length, Option, Some, None, refl, sym, ap, ◌∙◌, subst, arith, append-nil, Ordering, Less, Equal, Greater}
use Rattle.std.specs.Prelude.{flat_map, filter}
use Rattle.std.specs.Ordering.{is_eq}
use Rattle.std.proofs.lemmas.Int.{ints}
use Rattle.std.proofs.lemmas.Bool.{cases_lt}
use Rattle.std.proofs.lemmas.List.Concat.{flat_map-append}
use Rattle.agg_terms.specs.Values.{Value, Tree, slots_tree, keyed_tree, rows_tree}
use Rattle.agg_terms.specs.Chains.{Chain, Of, If, Array, MapOf, ForEach, OrNull, OrDefault, Distinct, State, Merge, Resample, Ty}
use Rattle.agg_meaning.specs.Feeds.{Feed}
use Rattle.agg_terms.specs.Lists.{places, numbered, built}
use Rattle.agg_meaning.specs.Picks.{when_met, at_place, width, after_holes, holes, in_interval}
use Rattle.agg_terms.specs.Types.{intervals}
use Rattle.agg_terms.specs.Order.{compare, compare_rows, different, firsts, into_set, before_others}
use Rattle.agg_meaning.specs.Feeds.{no_null}
use Rattle.agg_terms.specs.Types.{inward}
use Rattle.agg_meaning.specs.Suffixes.{at_key, keys_of, unfolded, normal}
use Rattle.agg_meaning.specs.Lawful.{IsSound}
use Rattle.agg_terms.specs.Lists.{Each, Apart, Rising}
use Rattle.agg_terms.specs.Trees.{IsTree}
use Rattle.agg_terms.proofs.Generic.{built-append, map_same}
use Rattle.agg_terms.proofs.Sorting.{IsOrder, itself, set_twice}
use Rattle.agg_terms.proofs.Comparing.{compare_order, rows_order}
use Rattle.agg_terms.proofs.Lists.{trees_back, keyed_back, table_back}
use Rattle.agg_meaning.proofs.Links.{width-append}
use Rattle.agg_meaning.proofs.Spread.{flat_map_found, index, spread_back}
use Rattle.agg_meaning.proofs.LeafTrees.{leaf_back, rows_live, filter_all, each_weaker, into_set_first, rising_rest}

-- first occurrences of rows that are apart
pub test_apart : {X : Type 0} (cmp : X → X → Ordering) → IsOrder cmp → (x y : X) → x ≢ y → is_eq (cmp x y) ≡ false
test_apart cmp laws x y h = go (cmp x y) refl
  where
    go : (o : Ordering) → cmp x y ≡ o → is_eq (cmp x y) ≡ false
    go Less e = ap is_eq e
    go Equal e = absurd (h (laws.same x y e))
    go Greater e = ap is_eq e

firsts_apart : {X : Type 0} (cmp : X → X → Ordering) → IsOrder cmp → (xs : List X) → Apart xs → firsts cmp xs ≡ xs
firsts_apart cmp laws [] k = refl
firsts_apart cmp laws (x ∷ xs) k =
    ap (before_others cmp x) (firsts_apart cmp laws xs k.1)
    ∙ ap (◌∷◌ x) (filter_all (λ y. not (is_eq (cmp x y))) xs (each_weaker (λ y. x ≢ y) (λ y. not (is_eq (cmp x y)) ≡ true) (λ y h. ap not (test_apart cmp laws x y h)) xs k.0))

-- Map
key_own : {X : Type 0} (k : Value) (y : X) → at_key k ((k, Some y) ∷ []) ≡ y ∷ []
key_own k y = rw (itself compare compare_order k)

key_other : {X : Type 0} (i j : Value) (y : X) → i ≢ j → at_key i ((j, Some y) ∷ []) ≡ []
key_other i j y h = rw (test_apart compare compare_order i j h)

key_more : {X : Type 0} (i j : Value) → flat_map (at_key {X = X} i) (((j, None) ∷ []) ∷ []) ≡ []
key_more {X = X} i j = go (is_eq (compare i j))
  where
    go : (b : Bool) → (◌++◌ {A = X} (cond b [] []) [] ++ []) ≡ []
    go true = refl
    go false = refl

abbrev names : {X : Type 0} → List (List (Value × Option X)) → List Value
names L = flat_map (λ f. map (λ e. e.0) f) L

names_same : {X : Type 0} (k : Value) (S : List Value) (us : List X) → into_set compare k (built (into_set compare) S (names (map (λ f. (k, Some f) ∷ []) us))) ≡ into_set compare k S
names_same k S [] = refl
names_same k S (u ∷ us) = set_twice compare compare_order k (built (into_set compare) S (names (map (λ f. (k, Some f) ∷ []) us))) ∙ names_same k S us

abbrev key_feeds : {X : Type 0} → (Tree → List X) → Value × Tree → List (List (Value × Option X))
key_feeds un e = ((e.0, None) ∷ []) ∷ map (λ f. (e.0, Some f) ∷ []) (un e.1)

keys_spread : {X : Type 0} (un : Tree → List X) (es : List (Value × Tree)) → Rising compare (map index es) → keys_of (flat_map (key_feeds un) es) ≡ map index es
keys_spread un [] k = refl
keys_spread un (e ∷ es) k =
    ap (different compare) (flat_map-append (λ f. map (λ z. z.0) f) (key_feeds un e) (flat_map (key_feeds un) es))
    ∙ built-append (into_set compare) [] (names (key_feeds un e)) (names (flat_map (key_feeds un) es))
    ∙ ap (λ S. built (into_set compare) S (names (key_feeds un e))) (keys_spread un es (rising_rest compare e.0 (map index es) k))
    ∙ names_same e.0 (map index es) (un e.1)
    ∙ into_set_first compare e.0 (map index es) k

pub rising_below : {X : Type 0} (cmp : X → X → Ordering) → IsOrder cmp → (x y : X) (ys : List X) → cmp x y ≡ Less → Rising cmp (y ∷ ys) → Each (λ z. cmp x z ≡ Less) (y ∷ ys)
rising_below cmp laws x y [] l k = (l, tt)
rising_below cmp laws x y (z ∷ zs) l k = (l, rising_below cmp laws x z zs (laws.trans x y z l k.0) k.1)

pub less_apart : {X : Type 0} (cmp : X → X → Ordering) → IsOrder cmp → (x y : X) → cmp x y ≡ Less → x ≢ y
less_apart cmp laws x y l e = grind (arith, l, itself cmp laws x, e)

pub rising_apart : {X : Type 0} (cmp : X → X → Ordering) → IsOrder cmp → (xs : List X) → Rising cmp xs → Apart xs
rising_apart cmp laws [] k = tt
rising_apart cmp laws (x ∷ []) k = (tt, tt)
rising_apart cmp laws (x ∷ y ∷ ys) k =
    (each_weaker (λ z. cmp x z ≡ Less) (λ z. x ≢ z) (less_apart cmp laws x) (y ∷ ys) (rising_below cmp laws x y ys k.0 k.1), rising_apart cmp laws (y ∷ ys) k.1)

-- ForEach
place_own : {X : Type 0} (i : ℕ) (y : X) → at_place i (after_holes i y) ≡ y ∷ []
place_own zero y = refl
place_own (suc i) y = place_own i y

place_other : {X : Type 0} (i j : ℕ) (y : X) → i ≢ j → at_place i (after_holes j y) ≡ []
place_other zero zero y h = absurd (h refl)
place_other zero (suc j) y h = refl
place_other (suc i) zero y h = refl
place_other (suc i) (suc j) y h = place_other i j y (λ e. h (ap suc e))

place_hole : {X : Type 0} (i n : ℕ) → at_place {X = X} i (holes n) ≡ []
place_hole i zero = refl
place_hole zero (suc n) = refl
place_hole (suc i) (suc n) = place_hole i n

length-holes : (X : Type 0) (n : ℕ) → length (holes {X = X} n) ≡ n
length-holes X zero = refl
length-holes X (suc n) = ap suc (length-holes X n)

length-after_holes : {X : Type 0} (i : ℕ) (y : X) → length (after_holes i y) ≡ suc i
length-after_holes zero y = refl
length-after_holes (suc i) y = ap suc (length-after_holes i y)

width_puts : {X : Type 0} (i : ℕ) (ys : List X) → width (map (after_holes i) ys) ≤ suc i
width_puts i [] = omega arith
width_puts i (y ∷ ys) = omega (arith, length-after_holes i y, width_puts i ys)

abbrev slot_feeds : {X : Type 0} → (Tree → List X) → ℕ × Tree → List (List (Option X))
slot_feeds un s = map (after_holes s.0) (un s.1)

width_spread : {X : Type 0} (un : Tree → List X) (s : ℕ) (ts : List Tree) → width (flat_map (slot_feeds un) (numbered s ts)) ≤ s + length ts
width_spread un s [] = omega arith
width_spread un s (t ∷ ts) =
    omega (arith, width-append (map (after_holes s) (un t)) (flat_map (slot_feeds un) (numbered (suc s) ts)), width_puts s (un t), width_spread un (suc s) ts)

width_slots : {X : Type 0} (un : Tree → List X) (ts : List Tree) → width (holes (length ts) ∷ flat_map (slot_feeds un) (numbered 0 ts)) ≡ length ts
width_slots {X = X} un ts = omega (arith, length-holes X (length ts), width_spread un 0 ts)

places_above : (s i n : ℕ) → s < i → Each (λ j. s ≢ j) (places i n)
places_above s i zero l = tt
places_above s i (suc n) l = (λ e. omega arith, places_above s (suc i) n (omega arith))

pub places_apart : (s n : ℕ) → Apart (places s n)
places_apart s zero = tt
places_apart s (suc n) = (places_above s (suc s) n (omega arith), places_apart (suc s) n)

numbered_index : {X : Type 0} (s : ℕ) (xs : List X) → map index (numbered s xs) ≡ places s (length xs)
numbered_index s [] = refl
numbered_index s (x ∷ xs) = ap (◌∷◌ s) (numbered_index (suc s) xs)

abbrev content : {I X : Type 0} → I × X → X
content p = p.1

numbered_content : {X : Type 0} (s : ℕ) (xs : List X) → map content (numbered s xs) ≡ xs
numbered_content s [] = refl
numbered_content s (x ∷ xs) = ap (◌∷◌ x) (numbered_content (suc s) xs)

-- what holds of each slot, with its place
pub each_numbered : {X : Type 0} (P : X → Type 0) (Q : ℕ × X → Type 0) (n s : ℕ) (xs : List X) → s + length xs ≡ n → ((i : ℕ) (x : X) → i < n → P x → Q (i, x)) → Each P xs → Each Q (numbered s xs)
each_numbered P Q n s [] e h k = tt
each_numbered P Q n s (x ∷ xs) e h k = (h s x (omega arith) k.0, each_numbered P Q n (suc s) xs (omega arith) h k.1)

-- Resample
same_le : (z : ℤ) (m : ℕ) → int_le (z +ℤ pos m) (z +ℤ pos m) ≡ true
same_le z m = grind (arith, ints)

more_lt : (z : ℤ) (m n : ℕ) → m < n → int_lt (z +ℤ pos m) (z +ℤ pos n) ≡ true
more_lt z m n l = grind (arith, ints)

less_le : (z : ℤ) (m n : ℕ) → n < m → int_le (z +ℤ pos m) (z +ℤ pos n) ≡ false
less_le z m n l = grind (arith, ints)

less_lt : (z : ℤ) (m n : ℕ) → n ≤ m → int_lt (z +ℤ pos m) (z +ℤ pos n) ≡ false
less_lt z m n l = grind (arith, ints)

pub before_end : (z e : ℤ) (m : ℕ) → (z <ℤ e) → m < nat_abs (e -ℤ z) → int_lt (z +ℤ pos m) e ≡ true
before_end z e m l h = grind (arith, ints)

interval_own : {X : Type 0} (s e : ℤ) (p : ℕ) → (s <ℤ e) → 0 < p → (i : ℕ) (y : X) → i < intervals s e p → in_interval s e p i (y, Some (s +ℤ pos (i * p))) ≡ y ∷ []
interval_own s e p l q i y h =
    let b : suc i * p ≤ nat_abs (e -ℤ s) + (p - 1) = (le-div_iff_mul-le q).0 h in
    rw (same_le s (i * p), more_lt s (i * p) (suc i * p) (omega arith), before_end s e (i * p) l (omega (arith, b)))

interval_other : {X : Type 0} (s e : ℤ) (p : ℕ) → 0 < p → (i j : ℕ) (y : X) → i ≢ j → in_interval s e p i (y, Some (s +ℤ pos (j * p))) ≡ []
interval_other {X = X} s e p q i j y h = go (cases_lt i j)
  where
    go : (i < j) ⊎ (j ≤ i) → in_interval s e p i (y, Some (s +ℤ pos (j * p))) ≡ []
    go (inl l) =
        let b : suc i * p ≤ j * p = mul-le-mul_right p l in
        rw (less_lt s (j * p) (suc i * p) b) (go2 (int_le (s +ℤ pos (i * p)) (s +ℤ pos (j * p))))
      where
        go2 : (b : Bool) → cond {A = List X} (b && false) (y ∷ []) [] ≡ []
        go2 true = refl
        go2 false = refl
    go (inr l) =
        let m : j < i = omega arith in
        let b : j * p < i * p = mul-lt-mul_of_pos_right m q in
        rw (less_le s (i * p) (j * p) b)

abbrev interval_feeds : {X : Type 0} → ℤ → ℕ → (Tree → List X) → ℕ × Tree → List (X × Option ℤ)
interval_feeds s p un z = map (λ f. (f, Some (s +ℤ pos (z.0 * p)))) (un z.1)

-- the slots of a table of places
slots_found : {F Y : Type 0} (sel : ℕ → F → List Y) (put : ℕ → Y → F) (un : Tree → List Y) (n : List Y → Tree) (Ok : ℕ → Type 0) (own : (i : ℕ) (y : Y) → Ok i → sel i (put i y) ≡ y ∷ []) (other : (i j : ℕ) (y : Y) → i ≢ j → sel i (put j y) ≡ []) (ts : List Tree) → ((i : ℕ) → i < length ts → Ok i) → Each (λ t. n (un t) ≡ t) ts → map (λ i. n (flat_map (sel i) (flat_map (λ z. map (put z.0) (un z.1)) (numbered 0 ts)))) (places 0 (length ts)) ≡ ts
slots_found sel put un n Ok own other ts ok k =
    ap (map (λ i. n (flat_map (sel i) (flat_map (λ z. map (put z.0) (un z.1)) (numbered 0 ts))))) (sym (numbered_index 0 ts))
    ∙ spread_back sel put (λ i. []) un n (λ i t. t) Ok own other (λ i j. refl) (numbered 0 ts)
    (subst Apart (sym (numbered_index 0 ts)) (places_apart 0 (length ts)))
    (each_numbered (λ t. n (un t) ≡ t) (λ z. Ok z.0 × (n (un z.1) ≡ z.1)) (length ts) 0 ts (omega arith) (λ i t l e. (ok i l, e)) k)
    ∙ numbered_content 0 ts

-- what a chain's unfolding and normal form do for each tree inside, its link does
map_again : {X : Type 0} (un : Tree → List X) (n : List X → Tree) (es : List (Value × Tree)) → Rising compare (map index es) → Each (λ e. n (un e.1) ≡ e.1) es → map (λ j. (j, n (flat_map (at_key j) (flat_map (key_feeds un) es)))) (keys_of (flat_map (key_feeds un) es)) ≡ es
map_again {X = X} un n es r k =
    ap (map (λ j. (j, n (flat_map (at_key j) (flat_map (key_feeds un) es))))) (keys_spread un es r)
    ∙ spread_back at_key (λ j f. (j, Some f) ∷ []) (λ j. ((j, None) ∷ []) ∷ []) un n (λ j t. (j, t)) (λ j. Unit {0})
    (λ i y u. key_own i y) key_other (key_more {X = X}) es
    (rising_apart compare compare_order (map index es) r)
    (each_weaker (λ e. n (un e.1) ≡ e.1) (λ e. Unit {0} × (n (un e.1) ≡ e.1)) (λ e h. (tt, h)) es k)
    ∙ map-id es

slots_again : {X : Type 0} (un : Tree → List X) (n : List X → Tree) (ts : List Tree) → Each (λ t. n (un t) ≡ t) ts → map (λ i. n (flat_map (at_place i) (holes (length ts) ∷ flat_map (slot_feeds un) (numbered 0 ts)))) (places 0 (width (holes (length ts) ∷ flat_map (slot_feeds un) (numbered 0 ts)))) ≡ ts
slots_again {X = X} un n ts k =
    ap (λ w. map (λ i. n (flat_map (at_place i) (holes (length ts) ∷ flat_map (slot_feeds un) (numbered 0 ts)))) (places 0 w)) (width_slots un ts)
    ∙ map_same
    (λ i. n (flat_map (at_place i) (holes (length ts) ∷ flat_map (slot_feeds un) (numbered 0 ts))))
    (λ i. n (flat_map (at_place i) (flat_map (slot_feeds un) (numbered 0 ts))))
    (λ i. ap (λ l. n (l ++ flat_map (at_place i) (flat_map (slot_feeds un) (numbered 0 ts)))) (place_hole {X = X} i (length ts)))
    (places 0 (length ts))
    ∙ slots_found at_place after_holes un n (λ i. Unit {0}) (λ i y u. place_own i y) place_other ts (λ i l. tt) k

intervals_again : {X : Type 0} (s e : ℤ) (p : ℕ) → (s <ℤ e) → 0 < p → (un : Tree → List X) (n : List X → Tree) (ts : List Tree) → length ts ≡ intervals s e p → Each (λ t. n (un t) ≡ t) ts → map (λ i. n (flat_map (in_interval s e p i) (flat_map (interval_feeds s p un) (numbered 0 ts)))) (places 0 (intervals s e p)) ≡ ts
intervals_again s e p l q un n ts h k =
    ap (λ w. map (λ i. n (flat_map (in_interval s e p i) (flat_map (interval_feeds s p un) (numbered 0 ts)))) (places 0 w)) (sym h)
    ∙ slots_found (in_interval s e p) (λ i f. (f, Some (s +ℤ pos (i * p)))) un n (λ i. i < intervals s e p) (λ i y o. interval_own s e p l q i y o) (interval_other s e p q) ts
    (λ i m. subst (λ w. i < w) h m) k

pub back : (c : Chain) (ts : List Ty) → IsSound c → (t : Tree) → IsTree c ts t → normal c ts (unfolded c ts t) ≡ t
back (Of f) ts s t k = leaf_back f ts t k
back (If c) ts s t k =
    ap (normal c (inward (If c) ts)) (flat_map_found when_met (λ f. (f, Some 1)) (λ y. refl) (unfolded c (inward (If c) ts) t))
    ∙ back c (inward (If c) ts) s t k
back (Array c) ts s t k =
    ap (normal c (inward (Array c) ts)) (flat_map_found (λ f. f) (λ f. f ∷ []) (λ y. refl) (unfolded c (inward (Array c) ts) t))
    ∙ back c (inward (Array c) ts) s t k
back (MapOf c) ts s t k =
    subst (λ u. normal (MapOf c) ts (unfolded (MapOf c) ts u) ≡ u) (sym k.1)
    (ap (λ es. keyed_tree (map (λ j. (j, normal c (inward (MapOf c) ts) (flat_map (at_key j) (flat_map (key_feeds (unfolded c (inward (MapOf c) ts))) es)))) (keys_of (flat_map (key_feeds (unfolded c (inward (MapOf c) ts))) es)))) (keyed_back k.0)
    ∙ ap keyed_tree
    (map_again (unfolded c (inward (MapOf c) ts)) (normal c (inward (MapOf c) ts)) k.0 k.3
    (each_weaker _ _ (λ e h. back c (inward (MapOf c) ts) s e.1 h.1) k.0 k.2)))
back (ForEach c) ts s t k =
    subst (λ u. normal (ForEach c) ts (unfolded (ForEach c) ts u) ≡ u) (sym k.1)
    (ap (λ sl. slots_tree (map (λ i. normal c (inward (ForEach c) ts) (flat_map (at_place i) (holes (length sl) ∷ flat_map (slot_feeds (unfolded c (inward (ForEach c) ts))) (numbered 0 sl)))) (places 0 (width (holes {X = Feed c} (length sl) ∷ flat_map (slot_feeds (unfolded c (inward (ForEach c) ts))) (numbered 0 sl)))))) (trees_back k.0)
    ∙ ap slots_tree
    (slots_again (unfolded c (inward (ForEach c) ts)) (normal c (inward (ForEach c) ts)) k.0
    (each_weaker _ _ (λ u h. back c (inward (ForEach c) ts) s u h) k.0 k.2)))
back (OrNull c) ts s t k = back c ts s t k
back (OrDefault c) ts s t k = back c ts s t k
back (Distinct c) ts s t k =
    subst (λ u. normal (Distinct c) ts (unfolded (Distinct c) ts u) ≡ u) (sym k.1)
    (ap (λ rs. rows_tree (firsts compare_rows (filter no_null rs))) (table_back k.0)
    ∙ ap (λ rs. rows_tree (firsts compare_rows rs)) (rows_live ts k.0 k.2)
    ∙ ap rows_tree (firsts_apart compare_rows rows_order k.0 k.3))
back (State c) ts s t k = back c ts s t k
back (Merge c) ts s t k =
    ap (normal c (inward (Merge c) ts)) (append-nil (unfolded c (inward (Merge c) ts) t))
    ∙ back c (inward (Merge c) ts) s t k
back (Resample st e p c) ts s t k =
    subst (λ u. normal (Resample st e p c) ts (unfolded (Resample st e p c) ts u) ≡ u) (sym k.1)
    (ap (λ sl. slots_tree (map (λ i. normal c (inward (Resample st e p c) ts) (flat_map (in_interval st e p i) (flat_map (interval_feeds st p (unfolded c (inward (Resample st e p c) ts))) (numbered 0 sl)))) (places 0 (intervals st e p)))) (trees_back k.0)
    ∙ ap slots_tree
    (intervals_again st e p s.0 s.1 (unfolded c (inward (Resample st e p c) ts)) (normal c (inward (Resample st e p c) ts)) k.0 k.3
    (each_weaker _ _ (λ u h. back c (inward (Resample st e p c) ts) s.2 u h) k.0 k.2)))
