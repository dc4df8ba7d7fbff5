-- A marked place among those that are kept.
use Rattle.std.proofs.Common.{◌≡◌, add-one, ℕ, zero, suc, ◌+◌, ◌<◌, ◌≤◌, Bool, true, false, cond, List, [], ◌∷◌, ◌++◌, length, map, get_or, take, ap, sym, ◌∙◌, refl, arith}
use Rattle.std.specs.Int.{from_bool}
use Rattle.quick_rows.specs.Keeping.{kept}
use Rattle.needed_columns.specs.Columns.{place_in}

-- a column that there is, and that is marked
abbrev pub IsMarked : List Bool → ℕ → Type 0
IsMarked marks i = (i < length marks) × (get_or marks i false ≡ true)

pub kept_get : {A : Type 0} (marks : List Bool) (xs : List A) (i : ℕ) (d : A) → length marks ≡ length xs → IsMarked marks i → get_or (kept marks xs) (place_in marks i) d ≡ get_or xs i d
kept_get [] xs i d same h = absurd (omega (arith, h.0))
kept_get (m ∷ marks) [] i d same h = absurd (omega (arith, same))
kept_get (true ∷ marks) (x ∷ xs) zero d same h = refl
kept_get (false ∷ marks) (x ∷ xs) zero d same h = cc
kept_get (true ∷ marks) (x ∷ xs) (suc i) d same h = kept_get marks xs i d (omega (arith, same)) (omega (arith, h.0), h.1)
kept_get (false ∷ marks) (x ∷ xs) (suc i) d same h = kept_get marks xs i d (omega (arith, same)) (omega (arith, h.0), h.1)

pub kept_below : {A : Type 0} (marks : List Bool) (xs : List A) (i : ℕ) → length marks ≡ length xs → IsMarked marks i → place_in marks i < length (kept marks xs)
kept_below [] xs i same h = absurd (omega (arith, h.0))
kept_below (m ∷ marks) [] i same h = absurd (omega (arith, same))
kept_below (true ∷ marks) (x ∷ xs) zero same h = omega arith
kept_below (false ∷ marks) (x ∷ xs) zero same h = cc
kept_below (true ∷ marks) (x ∷ xs) (suc i) same h = omega (arith, kept_below marks xs i (omega (arith, same)) (omega (arith, h.0), h.1))
kept_below (false ∷ marks) (x ∷ xs) (suc i) same h = kept_below marks xs i (omega (arith, same)) (omega (arith, h.0), h.1)

pub map_kept : {A B : Type 0} (f : A → B) (marks : List Bool) (xs : List A) → map f (kept marks xs) ≡ kept marks (map f xs)
map_kept f [] xs = refl
map_kept f (m ∷ marks) [] = refl
map_kept f (true ∷ marks) (x ∷ xs) = ap (◌∷◌ (f x)) (map_kept f marks xs)
map_kept f (false ∷ marks) (x ∷ xs) = map_kept f marks xs

-- one place more

pub place_none : (marks : List Bool) → place_in marks 0 ≡ 0
place_none [] = refl
place_none (true ∷ marks) = refl
place_none (false ∷ marks) = refl

pub place_yes : (marks : List Bool) (i : ℕ) → i < length marks → get_or marks i false ≡ true → place_in marks (suc i) ≡ suc (place_in marks i)
place_yes [] i h m = absurd (omega arith)
place_yes (true ∷ marks) zero h m = ap suc (place_none marks)
place_yes (false ∷ marks) zero h m = cc
place_yes (true ∷ marks) (suc i) h m = ap suc (place_yes marks i (omega (arith, h)) m)
place_yes (false ∷ marks) (suc i) h m = place_yes marks i (omega (arith, h)) m

pub place_no : (marks : List Bool) (i : ℕ) → i < length marks → get_or marks i false ≡ false → place_in marks (suc i) ≡ place_in marks i
place_no [] i h m = absurd (omega arith)
place_no (true ∷ marks) zero h m = cc
place_no (false ∷ marks) zero h m = place_none marks
place_no (true ∷ marks) (suc i) h m = ap suc (place_no marks i (omega (arith, h)) m)
place_no (false ∷ marks) (suc i) h m = place_no marks i (omega (arith, h)) m

pub place_low : (marks : List Bool) (i : ℕ) → place_in marks i ≤ i
place_low [] i = omega arith
place_low (true ∷ marks) zero = omega arith
place_low (false ∷ marks) zero = omega arith
place_low (true ∷ marks) (suc i) = omega (arith, place_low marks i)
place_low (false ∷ marks) (suc i) = omega (arith, place_low marks i)

-- a mark is that of the same place in a front of the marks
mark_at : (marks : List Bool) (n i : ℕ) → i < length (take n marks) → get_or marks i false ≡ get_or (take n marks) i false
mark_at [] zero i h = absurd (omega arith)
mark_at [] (suc n) i h = absurd (omega arith)
mark_at (k ∷ marks) zero i h = absurd (omega arith)
mark_at (k ∷ marks) (suc n) zero h = refl
mark_at (k ∷ marks) (suc n) (suc i) h = mark_at marks n i (omega (arith, h))

-- the place behind a mark
place_next : (marks : List Bool) (i : ℕ) (m : Bool) → i < length marks → get_or marks i false ≡ m → place_in marks i + cond m 1 0 ≡ place_in marks (i + 1)
place_next marks i true h is = let one : place_in marks i + 1 ≡ suc (place_in marks i) = omega arith in one ∙ sym (place_yes marks i h is) ∙ ap (place_in marks) (sym (add-one i))
place_next marks i false h is = let none : place_in marks i + 0 ≡ place_in marks i = omega arith in none ∙ sym (place_no marks i h is) ∙ ap (place_in marks) (sym (add-one i))

short_take : (n : ℕ) (xs : List Bool) → length (take n xs) ≤ length xs
short_take zero xs = omega arith
short_take (suc n) [] = omega arith
short_take (suc n) (x ∷ xs) = omega (arith, short_take n xs)

pub few_taken : (n : ℕ) (xs : List Bool) → length (take n xs) ≤ n
few_taken zero xs = omega arith
few_taken (suc n) [] = omega arith
few_taken (suc n) (x ∷ xs) = omega (arith, few_taken n xs)

as_number : (b : Bool) → from_bool b ≡ cond b 1 0
as_number true = refl
as_number false = refl

pub one_most : (b : Bool) → from_bool b ≤ 1
one_most true = omega arith
one_most false = omega arith

pub place_more : (marks : List Bool) (n i place one : ℕ) → n < length marks → i < length (take n marks) → place ≡ place_in marks i → one ≡ from_bool (get_or (take n marks) i false) → place + one ≡ place_in marks (i + 1)
place_more marks n i place one low h so is =
    let long : length (take n marks) ≤ length marks = short_take n marks in
    ap (λ p. p + one) so ∙ ap (λ m. place_in marks i + m) (is ∙ as_number (get_or (take n marks) i false)) ∙ place_next marks i (get_or (take n marks) i false) (omega (arith, h, long)) (mark_at marks n i h)

-- what is kept of one element more
pub kept_none : {A : Type 0} (marks : List Bool) → kept {A = A} marks [] ≡ []
kept_none [] = refl
kept_none (m ∷ marks) = refl

kept_next : {A : Type 0} (marks : List Bool) (xs : List A) (i : ℕ) (x : A) → length marks ≡ length xs → i < length xs → x ≡ get_or xs i x
    → kept marks (take (suc i) xs) ≡ kept marks (take i xs) ++ kept (get_or marks i false ∷ []) (x ∷ [])
kept_next [] xs i x same h is = absurd (omega (arith, same))
kept_next (k ∷ marks) [] i x same h is = absurd (omega (arith, same))
kept_next (true ∷ marks) (y ∷ xs) zero x same h is = λ j. sym is j ∷ kept_none marks j
kept_next (false ∷ marks) (y ∷ xs) zero x same h is = kept_none marks
kept_next (true ∷ marks) (y ∷ xs) (suc i) x same h is = ap (◌∷◌ y) (kept_next marks xs i x (omega (arith, same)) (omega (arith, h)) is)
kept_next (false ∷ marks) (y ∷ xs) (suc i) x same h is = kept_next marks xs i x (omega (arith, same)) (omega (arith, h)) is

pub kept_take : {A : Type 0} (marks : List Bool) (xs few : List A) (i : ℕ) (x : A) → length marks ≡ length xs → i < length xs → x ≡ get_or xs i x → few ≡ kept marks (take i xs)
    → few ++ kept (get_or marks i false ∷ []) (x ∷ []) ≡ kept marks (take (i + 1) xs)
kept_take marks xs few i x same h is so =
    ap (λ front. front ++ kept (get_or marks i false ∷ []) (x ∷ [])) so ∙ sym (kept_next marks xs i x same h is) ∙ ap (λ n. kept marks (take n xs)) (sym (add-one i))
