-- What each link picks out: where it stands, and what it is of two lists joined.
use Rattle.std.proofs.Common.{◌≡◌, ℕ, zero, suc, ◌+◌, ◌<◌, ◌≤◌, max, Bool, true, false, cond, List, [], ◌∷◌, ◌++◌, map, length, Option, ◌⊎◌, inl, inr, refl, sym, ap, ap₂, ◌∙◌, subst, arith, Ordering, Less, Equal, Greater}
use Rattle.std.specs.Prelude.{flat_map}
use Rattle.std.specs.Ordering.{is_eq}
use Rattle.std.proofs.lemmas.List.Concat.{flat_map-append}
use Rattle.std.proofs.lemmas.Bool.{cases_lt}
use Rattle.agg_terms.specs.Values.{Value}
use Rattle.agg_terms.specs.Lists.{places, some}
use Rattle.agg_meaning.specs.Picks.{width, at_place}
use Rattle.agg_terms.specs.Order.{compare, into_set, different}
use Rattle.agg_meaning.specs.Suffixes.{at_key, keys_of}
use Rattle.agg_terms.proofs.Generic.{Among, first_or, rest}
use Rattle.agg_terms.proofs.Sorting.{IsOrder, set_steady, steady_joins}
use Rattle.agg_terms.proofs.Comparing.{compare_order}

pub length-places : (i n : ℕ) → length (places i n) ≡ n
length-places i zero = refl
length-places i (suc n) = ap suc (length-places (suc i) n)

pub among_places : (s n i : ℕ) → s ≤ i → i < s + n → Among i (places s n)
among_places s zero i l h = absurd (omega arith)
among_places s (suc n) i l h = go (cases_lt s i) (λ k. among_places (suc s) n i k (omega arith))
  where
    go : (s < i) ⊎ (i ≤ s) → (s < i → Among i (places (suc s) n)) → Among i (places s (suc n))
    go (inl k) later = inr (later k)
    go (inr k) later = inl (omega arith)

pub at_place_past : {X : Type 0} (i : ℕ) (f : List (Option X)) → length f ≤ i → at_place i f ≡ []
at_place_past i [] l = refl
at_place_past zero (h ∷ f) l = absurd (omega arith)
at_place_past (suc i) (h ∷ f) l = at_place_past i f (omega arith)

pub past_width : {X : Type 0} (i : ℕ) (L : List (List (Option X))) → width L ≤ i → flat_map (at_place i) L ≡ []
past_width i [] l = refl
past_width i (f ∷ L) l = ap₂ ◌++◌ (at_place_past i f (omega arith)) (past_width i L (omega arith))

pub place_covered : {X : Type 0} (L : List (List (Option X))) (i : ℕ) → Among i (places 0 (width L)) ⊎ (flat_map (at_place i) L ≡ [])
place_covered L i = go (cases_lt i (width L))
  where
    go : (i < width L) ⊎ (width L ≤ i) → Among i (places 0 (width L)) ⊎ (flat_map (at_place i) L ≡ [])
    go (inl k) = inl (among_places 0 (width L) i (omega arith) (omega arith))
    go (inr k) = inr (past_width i L k)

pub width-append : {X : Type 0} (A B : List (List X)) → width (A ++ B) ≡ max (width A) (width B)
width-append [] B = omega arith
width-append (f ∷ A) B = omega (arith, width-append A B)

-- keys
pub among_append_left : {X : Type 0} (x : X) (A B : List X) → Among x A → Among x (A ++ B)
among_append_left x (y ∷ A) B (inl e) = inl e
among_append_left x (y ∷ A) B (inr a) = inr (among_append_left x A B a)
among_append_left x [] B a = absurd a

pub among_append_right : {X : Type 0} (x : X) (A B : List X) → Among x B → Among x (A ++ B)
among_append_right x [] B a = a
among_append_right x (y ∷ A) B a = inr (among_append_right x A B a)

entry_covered : {X : Type 0} (k : Value) (f : List (Value × Option X)) → Among k (map (λ e. e.0) f) ⊎ (at_key k f ≡ [])
entry_covered k [] = inr refl
entry_covered k (e ∷ f) = go (compare k e.0) refl (entry_covered k f)
  where
    later : is_eq (compare k e.0) ≡ false → Among k (map (λ e. e.0) f) ⊎ (at_key k f ≡ []) → Among k (map (λ e. e.0) (e ∷ f)) ⊎ (at_key k (e ∷ f) ≡ [])
    later h (inl a) = inl (inr a)
    later h (inr n) = inr (rw h n)

    go : (o : Ordering) → compare k e.0 ≡ o → Among k (map (λ e. e.0) f) ⊎ (at_key k f ≡ []) → Among k (map (λ e. e.0) (e ∷ f)) ⊎ (at_key k (e ∷ f) ≡ [])
    go Less h r = later (ap is_eq h) r
    go Equal h r = inl (inl (compare_order.same k e.0 h))
    go Greater h r = later (ap is_eq h) r

raw_covered : {X : Type 0} (k : Value) (L : List (List (Value × Option X))) → Among k (flat_map (λ f. map (λ e. e.0) f) L) ⊎ (flat_map (at_key k) L ≡ [])
raw_covered k [] = inr refl
raw_covered k (f ∷ L) = go (entry_covered k f) (raw_covered k L)
  where
    go : Among k (map (λ e. e.0) f) ⊎ (at_key k f ≡ []) → Among k (flat_map (λ f. map (λ e. e.0) f) L) ⊎ (flat_map (at_key k) L ≡ []) → Among k (flat_map (λ f. map (λ e. e.0) f) (f ∷ L)) ⊎ (flat_map (at_key k) (f ∷ L) ≡ [])
    go (inl a) r = inl (among_append_left k (map (λ e. e.0) f) (flat_map (λ f. map (λ e. e.0) f) L) a)
    go (inr a) (inl b) = inl (among_append_right k (map (λ e. e.0) f) (flat_map (λ f. map (λ e. e.0) f) L) b)
    go (inr a) (inr b) = inr (ap₂ ◌++◌ a b)

pub into_set_has : {X : Type 0} (cmp : X → X → Ordering) → IsOrder cmp → (x : X) (s : List X) → Among x (into_set cmp x s)
into_set_has cmp laws x [] = inl refl
into_set_has cmp laws x (a ∷ s) = go (cmp x a) refl (into_set_has cmp laws x s)
  where
    go : (o : Ordering) → cmp x a ≡ o → Among x (into_set cmp x s) → Among x (into_set cmp x (a ∷ s))
    go Less e h = rw e (inl refl)
    go Equal e h = rw e (inl (laws.same x a e))
    go Greater e h = rw e (inr h)

pub into_set_keeps : {X : Type 0} (cmp : X → X → Ordering) (x k : X) (s : List X) → Among k s → Among k (into_set cmp x s)
into_set_keeps cmp x k [] h = absurd h
into_set_keeps cmp x k (a ∷ s) h = go (cmp x a) refl h (into_set_keeps cmp x k s)
  where
    go : (o : Ordering) → cmp x a ≡ o → (k ≡ a) ⊎ Among k s → (Among k s → Among k (into_set cmp x s)) → Among k (into_set cmp x (a ∷ s))
    go Less e h r = rw e (inr h)
    go Equal e h r = rw e h
    go Greater e (inl h) r = rw e (inl h)
    go Greater e (inr h) r = rw e (inr (r h))

pub among_different : {X : Type 0} (cmp : X → X → Ordering) → IsOrder cmp → (k : X) (xs : List X) → Among k xs → Among k (different cmp xs)
among_different cmp laws k [] a = a
among_different cmp laws k (x ∷ xs) (inl e) = subst (λ z. Among z (into_set cmp x (different cmp xs))) (sym e) (into_set_has cmp laws x (different cmp xs))
among_different cmp laws k (x ∷ xs) (inr a) = into_set_keeps cmp x k (different cmp xs) (among_different cmp laws k xs a)

pub key_covered : {X : Type 0} (L : List (List (Value × Option X))) (k : Value) → Among k (keys_of L) ⊎ (flat_map (at_key k) L ≡ [])
key_covered L k = go (raw_covered k L)
  where
    go : Among k (flat_map (λ f. map (λ e. e.0) f) L) ⊎ (flat_map (at_key k) L ≡ []) → Among k (keys_of L) ⊎ (flat_map (at_key k) L ≡ [])
    go (inl a) = inl (among_different compare compare_order k (flat_map (λ f. map (λ e. e.0) f) L) a)
    go (inr a) = inr a

pub keys_joined : {X : Type 0} (A A' B B' : List (List (Value × Option X))) → keys_of A ≡ keys_of A' → keys_of B ≡ keys_of B' → keys_of (A ++ B) ≡ keys_of (A' ++ B')
keys_joined {X = X} A A' B B' a b =
    ap (different compare) (flat_map-append (λ f. map (λ e. e.0) f) A B)
    ∙ steady_joins (into_set compare) (set_steady compare compare_order) (names A) (names A') (names B) (names B') a b
    ∙ sym (ap (different compare) (flat_map-append (λ f. map (λ e. e.0) f) A' B'))
  where
    names : List (List (Value × Option X)) → List Value
    names L = flat_map (λ f. map (λ e. e.0) f) L

-- tests on the members of a list
pub some-map : {I : Type 0} (p : I → Bool) (xs : List I) → some (λ b. b) (map p xs) ≡ some p xs
some-map p [] = refl
some-map p (x ∷ xs) = ap (cond (p x) true) (some-map p xs)

-- parts at fixed indices
pub fixed_joined : {I F Y T : Type 0} (sel : I → F → List Y) (n : List Y → T) → ((P P' Q Q' : List Y) → n P ≡ n P' → n Q ≡ n Q' → n (P ++ Q) ≡ n (P' ++ Q')) → (A A' B B' : List F) (is : List I) → map (λ i. n (flat_map (sel i) A)) is ≡ map (λ i. n (flat_map (sel i) A')) is → map (λ i. n (flat_map (sel i) B)) is ≡ map (λ i. n (flat_map (sel i) B')) is → map (λ i. n (flat_map (sel i) (A ++ B))) is ≡ map (λ i. n (flat_map (sel i) (A' ++ B'))) is
fixed_joined sel n joins A A' B B' [] a b = refl
fixed_joined sel n joins A A' B B' (i ∷ is) a b =
    ap₂ ◌∷◌
    (ap n (flat_map-append (sel i) A B)
    ∙ joins (flat_map (sel i) A) (flat_map (sel i) A') (flat_map (sel i) B) (flat_map (sel i) B') (ap (first_or (n (flat_map (sel i) A))) a) (ap (first_or (n (flat_map (sel i) B))) b)
    ∙ sym (ap n (flat_map-append (sel i) A' B')))
    (fixed_joined sel n joins A A' B B' is (ap rest a) (ap rest b))
