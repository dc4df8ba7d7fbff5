-- Bytes, and decimals digit by digit.
use Rattle.std.proofs.Common.{◌≡◌, ℕ, ◌+◌, ◌*◌, ◌/◌, ◌%◌, ◌^◌, ◌<◌, ◌≤◌, Bool, true, false, cond, [], ◌∷◌, ◌++◌, refl, arith, eqb, leb, ◌&&◌}
use Rattle.std.specs.Fmt.{decimal}
use Rattle.std.proofs.lemmas.Bool.Decides.{nat_tests}
use Rattle.std.proofs.lemmas.Fmt.{decimal_step}
use Rattle.pattern_texts.specs.declared.phase.Mark.{Mark}
use Rattle.pattern_texts.specs.declared.phase.Mark.TheVariants as mark
use Rattle.pattern_texts.specs.Machine.{mark_of}

-- the byte that means so
abbrev pub IsMark : Mark → ℕ → Type 0
IsMark mark.Open b = b ≡ 40
IsMark mark.Close b = b ≡ 41
IsMark mark.Question b = b ≡ 63
IsMark mark.LetterT b = b ≡ 116
IsMark mark.Dot b = b ≡ 46
IsMark mark.Star b = b ≡ 42
IsMark mark.Less b = b ≡ 60
IsMark mark.Greater b = b ≡ 62
IsMark mark.Equal b = b ≡ 61
IsMark (mark.Digit d) b = (d < 10) × (b ≡ 48 + d)
IsMark mark.Other b = Unit {0}

by_test : (t : Bool) (P : Type 0) (m n : Mark) (b : ℕ) → (t ≡ true → IsMark m b) → (t ≡ false → IsMark n b) → IsMark (cond t m n) b
by_test true P m n b f g = f refl
by_test false P m n b f g = g refl

eqb_is : (a b : ℕ) → eqb a b ≡ true → a ≡ b
eqb_is a b e = grind (arith, nat_tests)

pub is_mark : (b : ℕ) → IsMark (mark_of b) b
is_mark b =
    by_test (eqb b 40) ⊥ _ _ b (eqb_is b 40) (λ _.
    by_test (eqb b 41) ⊥ _ _ b (eqb_is b 41) (λ _.
    by_test (eqb b 63) ⊥ _ _ b (eqb_is b 63) (λ _.
    by_test (eqb b 116) ⊥ _ _ b (eqb_is b 116) (λ _.
    by_test (eqb b 46) ⊥ _ _ b (eqb_is b 46) (λ _.
    by_test (eqb b 42) ⊥ _ _ b (eqb_is b 42) (λ _.
    by_test (eqb b 60) ⊥ _ _ b (eqb_is b 60) (λ _.
    by_test (eqb b 62) ⊥ _ _ b (eqb_is b 62) (λ _.
    by_test (eqb b 61) ⊥ _ _ b (eqb_is b 61) (λ _.
    by_test (leb 48 b && leb b 57) ⊥ _ _ b (λ e. (grind (arith, nat_tests), grind (arith, nat_tests))) (λ _. tt))))))))))

-- the meaning of a digit
pub mark_digit : (d : ℕ) → d < 10 → mark_of (48 + d) ≡ mark.Digit d
mark_digit d lt = grind (arith, nat_tests)

-- a decimal with one digit more
pub decimal_more : (n d : ℕ) → 1 ≤ n → d < 10 → n * 10 + d < 2 ^ 64 → decimal (n * 10 + d) ≡ decimal n ++ (48 + d) ∷ []
decimal_more n d pos lt small =
    let q : (n * 10 + d) / 10 ≡ n = omega (arith, pos, lt) in
    let r : (n * 10 + d) % 10 ≡ d = omega (arith, pos, lt) in
    rw (decimal_step (n * 10 + d) (omega (arith, pos)) small, q, r) refl
