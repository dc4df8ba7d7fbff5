-- What is spread over indices is found again at each.
use Rattle.std.proofs.Common.{◌≡◌, ◌≢◌, List, [], ◌∷◌, ◌++◌, map, refl, sym, ap, ap₂, ◌∙◌, append-nil}
use Rattle.std.specs.Prelude.{flat_map}
use Rattle.std.proofs.lemmas.List.Concat.{flat_map-append}
use Rattle.agg_terms.specs.Lists.{Each, Apart}

-- a selector that finds each of what was put
pub flat_map_found : {F Y : Type 0} (sel : F → List Y) (put : Y → F) → ((y : Y) → sel (put y) ≡ y ∷ []) → (ys : List Y) → flat_map sel (map put ys) ≡ ys
flat_map_found sel put own [] = refl
flat_map_found sel put own (y ∷ ys) = ap₂ ◌++◌ (own y) (flat_map_found sel put own ys)

-- and one that finds none
pub flat_map_missed : {F Y Z : Type 0} (sel : F → List Z) (put : Y → F) → ((y : Y) → sel (put y) ≡ []) → (ys : List Y) → flat_map sel (map put ys) ≡ []
flat_map_missed sel put none [] = refl
flat_map_missed sel put none (y ∷ ys) = ap₂ ◌++◌ (none y) (flat_map_missed sel put none ys)

pub map_each : {I X : Type 0} (P : I → Type 0) (f g : I → X) → ((i : I) → P i → f i ≡ g i) → (is : List I) → Each P is → map f is ≡ map g is
map_each P f g h [] a = refl
map_each P f g h (i ∷ is) a = ap₂ ◌∷◌ (h i a.0) (map_each P f g h is a.1)

abbrev pub index : {I T : Type 0} → I × T → I
index p = p.0

module _ {F Y I T Z : Type 0} (sel : I → F → List Y) (put : I → Y → F) (extra : I → List F) (un : T → List Y) (n : List Y → T) (h : I → T → Z) (Ok : I → Type 0) (own : (i : I) (y : Y) → Ok i → sel i (put i y) ≡ y ∷ []) (other : (i j : I) (y : Y) → i ≢ j → sel i (put j y) ≡ []) (more : (i j : I) → flat_map (sel i) (extra j) ≡ []) where
  abbrev pub spread_one : I × T → List F
  spread_one p = extra p.0 ++ map (put p.0) (un p.1)

  abbrev pub spread : List (I × T) → List F
  spread ps = flat_map spread_one ps

  found_one : (p : I × T) → Ok p.0 → flat_map (sel p.0) (spread_one p) ≡ un p.1
  found_one p k =
      flat_map-append (sel p.0) (extra p.0) (map (put p.0) (un p.1))
      ∙ ap₂ ◌++◌ (more p.0 p.0) (flat_map_found (sel p.0) (put p.0) (λ y. own p.0 y k) (un p.1))

  missed_one : (i : I) (p : I × T) → i ≢ p.0 → flat_map (sel i) (spread_one p) ≡ []
  missed_one i p k =
      flat_map-append (sel i) (extra p.0) (map (put p.0) (un p.1))
      ∙ ap₂ ◌++◌ (more i p.0) (flat_map_missed (sel i) (put p.0) (λ y. other i p.0 y k) (un p.1))

  missed : (i : I) (ps : List (I × T)) → Each (λ j. i ≢ j) (map index ps) → flat_map (sel i) (spread ps) ≡ []
  missed i [] a = refl
  missed i (p ∷ ps) a = flat_map-append (sel i) (spread_one p) (spread ps) ∙ ap₂ ◌++◌ (missed_one i p a.0) (missed i ps a.1)

  backwards : (i j : I) → i ≢ j → j ≢ i
  backwards i j k e = k (sym e)

  each_backwards : (i : I) (js : List I) → Each (λ j. i ≢ j) js → Each (λ j. j ≢ i) js
  each_backwards i [] a = tt
  each_backwards i (j ∷ js) a = (backwards i j a.0, each_backwards i js a.1)

  pub spread_back : (ps : List (I × T)) → Apart (map index ps) → Each (λ p. Ok p.0 × (n (un p.1) ≡ p.1)) ps → map (λ i. h i (n (flat_map (sel i) (spread ps)))) (map index ps) ≡ map (λ p. h p.0 p.1) ps
  spread_back [] a b = refl
  spread_back (p ∷ ps) a b =
      ap₂ ◌∷◌
      (ap (λ l. h p.0 (n l)) (flat_map-append (sel p.0) (spread_one p) (spread ps) ∙ ap₂ ◌++◌ (found_one p b.0.0) (missed p.0 ps a.0) ∙ append-nil (un p.1))
      ∙ ap (h p.0) b.0.1)
      (map_each (λ j. j ≢ p.0) (λ i. h i (n (flat_map (sel i) (spread (p ∷ ps))))) (λ i. h i (n (flat_map (sel i) (spread ps))))
      (λ i k. ap (λ l. h i (n l)) (flat_map-append (sel i) (spread_one p) (spread ps) ∙ ap (λ l. l ++ flat_map (sel i) (spread ps)) (missed_one i p k)))
      (map index ps) (each_backwards p.0 (map index ps) a.0)
      ∙ spread_back ps a.1 b.1)
