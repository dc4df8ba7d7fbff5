-- Lemmas on lists of parts: what a link picks out of a list of feeds, by an index.
use Rattle.std.proofs.Common.{◌≡◌, List, [], ◌∷◌, ◌++◌, map, ◌⊎◌, inl, inr, refl, sym, ap, ap₂, ◌∙◌, subst}
use Rattle.std.specs.Prelude.{flat_map}
use Rattle.std.proofs.lemmas.List.Concat.{flat_map-append}
use Rattle.agg_terms.specs.Lists.{built}
pub use Rattle.agg_terms.specs.Lists.{Among}

abbrev pub first_or : {X : Type 0} → X → List X → X
first_or d [] = d
first_or d (x ∷ xs) = x

abbrev pub rest : {X : Type 0} → List X → List X
rest [] = []
rest (x ∷ xs) = xs

pub map_through : {I X Y : Type 0} (n m : I → X) (p q : I → Y) → ((i : I) → n i ≡ m i → p i ≡ q i) → (xs : List I) → map n xs ≡ map m xs → map p xs ≡ map q xs
map_through n m p q h [] e = refl
map_through n m p q h (x ∷ xs) e = ap₂ ◌∷◌ (h x (ap (first_or (n x)) e)) (map_through n m p q h xs (ap rest e))

pub map_same : {I X : Type 0} (n m : I → X) → ((i : I) → n i ≡ m i) → (xs : List I) → map n xs ≡ map m xs
map_same n m h [] = refl
map_same n m h (x ∷ xs) = ap₂ ◌∷◌ (h x) (map_same n m h xs)

pub map_at : {I X : Type 0} (n m : I → X) (xs : List I) (i : I) → map n xs ≡ map m xs → Among i xs → n i ≡ m i
map_at n m [] i e a = absurd a
map_at n m (x ∷ xs) i e (inl a) = subst (λ z. n z ≡ m z) (sym a) (ap (first_or (n x)) e)
map_at n m (x ∷ xs) i e (inr a) = map_at n m xs i (ap rest e) a

pub map_after : {I X Y : Type 0} (g : X → Y) (f : I → X) (xs : List I) → map g (map f xs) ≡ map (λ i. g (f i)) xs
map_after g f [] = refl
map_after g f (x ∷ xs) = ap (◌∷◌ (g (f x))) (map_after g f xs)

pub built-append : {X Y : Type 0} (step : X → Y → Y) (start : Y) (A B : List X) → built step start (A ++ B) ≡ built step (built step start B) A
built-append step start [] B = refl
built-append step start (x ∷ xs) B = ap (step x) (built-append step start xs B)

-- A link whose parts are picked by `sel`, at the indices `S`, and set into a table by `h`, from which `g` reads them
module _ {F Y I T Z : Type 0} (sel : I → F → List Y) (S : List F → List I) (n : List Y → T) (h : I → T → Z) (g : Z → T) (read : (i : I) (t : T) → g (h i t) ≡ t) (covered : (L : List F) (i : I) → Among i (S L) ⊎ (flat_map (sel i) L ≡ [])) where
  abbrev part : I → List F → List Y
  part i L = flat_map (sel i) L

  abbrev tabled : List F → List Z
  tabled L = map (λ i. h i (n (part i L))) (S L)

  at_index : (A B : List F) (i : I) → map (λ k. h k (n (part k A))) (S A) ≡ map (λ k. h k (n (part k B))) (S A) → Among i (S A) → n (part i A) ≡ n (part i B)
  at_index A B i e a =
      sym (read i (n (part i A))) ∙ ap g (map_at (λ k. h k (n (part k A))) (λ k. h k (n (part k B))) (S A) i e a) ∙ read i (n (part i B))

  pub all_parts : (A B : List F) → S A ≡ S B → tabled A ≡ tabled B → (i : I) → n (part i A) ≡ n (part i B)
  all_parts A B s e i = by (covered A i) (covered B i)
    where
      e' : map (λ k. h k (n (part k A))) (S A) ≡ map (λ k. h k (n (part k B))) (S A)
      e' = subst (λ z. map (λ k. h k (n (part k A))) (S A) ≡ map (λ k. h k (n (part k B))) z) (sym s) e

      by : Among i (S A) ⊎ (part i A ≡ []) → Among i (S B) ⊎ (part i B ≡ []) → n (part i A) ≡ n (part i B)
      by (inl a) b = at_index A B i e' a
      by (inr a) (inl b) = at_index A B i e' (subst (Among i) (sym s) b)
      by (inr a) (inr b) = ap n (a ∙ sym b)

  pub joined_parts : ((P P' Q Q' : List Y) → n P ≡ n P' → n Q ≡ n Q' → n (P ++ Q) ≡ n (P' ++ Q')) → (A A' B B' : List F) → S A ≡ S A' → S B ≡ S B' → S (A ++ B) ≡ S (A' ++ B') → tabled A ≡ tabled A' → tabled B ≡ tabled B' → tabled (A ++ B) ≡ tabled (A' ++ B')
  joined_parts joins A A' B B' sa sb s a b =
      map_same (λ i. h i (n (part i (A ++ B)))) (λ i. h i (n (part i (A' ++ B')))) (λ i. ap (h i) (each i)) (S (A ++ B))
      ∙ ap (map (λ i. h i (n (part i (A' ++ B'))))) s
    where
      each : (i : I) → n (part i (A ++ B)) ≡ n (part i (A' ++ B'))
      each i =
          ap n (flat_map-append (sel i) A B)
          ∙ joins (part i A) (part i A') (part i B) (part i B') (all_parts A A' sa a i) (all_parts B B' sb b i)
          ∙ sym (ap n (flat_map-append (sel i) A' B'))

  -- what follows from equal normal forms of parts follows from equal tables
  pub through_parts : {V W : Type 0} (m : List Y → V) (k : I → V → W) → ((P Q : List Y) → n P ≡ n Q → m P ≡ m Q) → (A B : List F) → S A ≡ S B → tabled A ≡ tabled B → map (λ i. k i (m (part i A))) (S A) ≡ map (λ i. k i (m (part i B))) (S B)
  through_parts m k sound A B s e =
      map_same (λ i. k i (m (part i A))) (λ i. k i (m (part i B))) (λ i. ap (k i) (sound (part i A) (part i B) (all_parts A B s e i))) (S A)
      ∙ ap (map (λ i. k i (m (part i B)))) s
