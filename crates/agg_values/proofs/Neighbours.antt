-- A walk over the neighbours in a list.
use Rattle.std.proofs.Common.{◌≡◌, ◌&&◌, ◌+◌, ◌-◌, ◌<◌, ◌≤◌, ℕ, zero, suc, Bool, true, false, List, [], ◌∷◌, length, drop, get_or, map, refl, ap, ap₂, sym, ◌∙◌, arith}
use Rattle.agg_terms.specs.Fitting.{neighbours}

opened : {X : Type 0} (test : X → X → Bool) (xs : List X) (i : ℕ) (x y : X) → suc i < length xs → x ≡ get_or xs i x → y ≡ get_or xs (suc i) y → neighbours test (drop i xs) ≡ (test x y && neighbours test (drop (suc i) xs))
opened test [] i x y l e f = absurd (omega arith)
opened test (a ∷ []) i x y l e f = absurd (omega arith)
opened test (a ∷ b ∷ xs) zero x y l e f = ap₂ (λ x y. test x y && neighbours test (b ∷ xs)) (sym e) (sym f)
opened test (a ∷ b ∷ xs) (suc i) x y l e f = opened test (b ∷ xs) i x y (omega arith) e f

at : {X : Type 0} (test : X → X → Bool) (xs : List X) (i : ℕ) (x y : X) → 1 ≤ i → i < length xs → x ≡ get_or xs (i - 1) x → y ≡ get_or xs i y → neighbours test (drop (i - 1) xs) ≡ (test x y && neighbours test (drop i xs))
at test xs zero x y one l e f = absurd (omega arith)
at test xs (suc i) x y one l e f =
    let same : suc i - 1 ≡ i = omega arith in
    ap (λ k. neighbours test (drop k xs)) same ∙ opened test xs i x y l (e ∙ ap (λ k. get_or xs k x) same) f

-- two neighbours that pass: those that are left decide
pub passed : {X : Type 0} (test : X → X → Bool) (xs : List X) (i j : ℕ) (x y : X) → neighbours test (drop (i - 1) xs) ≡ neighbours test xs → 1 ≤ i → i < length xs → x ≡ get_or xs (i - 1) x → y ≡ get_or xs i y → test x y ≡ true → j ≡ i → neighbours test (drop j xs) ≡ neighbours test xs
passed test xs i j x y same one l e f h is =
    ap (λ k. neighbours test (drop k xs)) is ∙ sym (at test xs i x y one l e f ∙ ap (λ b. b && neighbours test (drop i xs)) h) ∙ same

any_default : {X : Type 0} (xs : List X) (i : ℕ) (c d : X) → i < length xs → get_or xs i c ≡ get_or xs i d
any_default [] i c d l = absurd (omega arith)
any_default (x ∷ xs) zero c d l = refl
any_default (x ∷ xs) (suc i) c d l = any_default xs i c d (omega arith)

-- the same, read with any default
pub passed_at : {X : Type 0} (test : X → X → Bool) (xs : List X) (i : ℕ) (d : X) → neighbours test (drop (i - 1) xs) ≡ neighbours test xs → 1 ≤ i → i < length xs → true ≡ test (get_or xs (i - 1) d) (get_or xs i d) → neighbours test (drop (i + 1 - 1) xs) ≡ neighbours test xs
passed_at test xs i d same one l h =
    passed test xs i (i + 1 - 1) (get_or xs (i - 1) d) (get_or xs i d) same one l (any_default xs (i - 1) d (get_or xs (i - 1) d) (omega arith)) (any_default xs i d (get_or xs i d) l) (sym h) (omega arith)

-- two neighbours that fail
pub failed : {X : Type 0} (test : X → X → Bool) (xs : List X) (i : ℕ) (x y : X) → neighbours test (drop (i - 1) xs) ≡ neighbours test xs → 1 ≤ i → i < length xs → x ≡ get_or xs (i - 1) x → y ≡ get_or xs i y → test x y ≡ false → false ≡ neighbours test xs
failed test xs i x y same one l e f h = sym (at test xs i x y one l e f ∙ ap (λ b. b && neighbours test (drop i xs)) h) ∙ same

-- no neighbours are left
pub over : {X : Type 0} (test : X → X → Bool) (xs : List X) (i : ℕ) → neighbours test (drop (i - 1) xs) ≡ neighbours test xs → 1 ≤ i → length xs ≤ i → true ≡ neighbours test xs
over test xs zero same one l = absurd (omega arith)
over test xs (suc i) same one l = ended xs i l ∙ ap (λ k. neighbours test (drop k xs)) (let e : i ≡ suc i - 1 = omega arith in e) ∙ same
  where
    ended : (xs : List _) (i : ℕ) → length xs ≤ suc i → true ≡ neighbours test (drop i xs)
    ended [] zero l = refl
    ended [] (suc i) l = refl
    ended (a ∷ []) zero l = refl
    ended (a ∷ b ∷ xs) zero l = absurd (omega arith)
    ended (a ∷ xs) (suc i) l = ended xs i (omega arith)

-- the same of a list and of its images
pub neighbours-map : {X Y : Type 0} (test : Y → Y → Bool) (f : X → Y) (xs : List X) → neighbours test (map f xs) ≡ neighbours (λ x y. test (f x) (f y)) xs
neighbours-map test f [] = refl
neighbours-map test f (x ∷ []) = refl
neighbours-map test f (x ∷ y ∷ ys) = ap (λ b. test (f x) (f y) && b) (neighbours-map test f (y ∷ ys))
