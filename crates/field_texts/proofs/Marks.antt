-- Bytes by what they mean.
use Rattle.std.proofs.Common.{◌≡◌, ℕ, ◌≤◌, Bool, true, false, cond, refl, arith, inl, inr, eqb, leb, ◌&&◌, ◌||◌, ◌⊎◌}
use Rattle.std.proofs.lemmas.Bool.{leb-true, eqb-true, eqb-false, and_parts, or_cases}
use Rattle.std.proofs.lemmas.Bool.Decides.{nat_tests}
use Rattle.tsv_text.specs.Escapes.{is_hex_digit}
use Rattle.field_texts.specs.Syntax.{IsDigit}
use Rattle.field_texts.specs.declared.mark.Mark.{Mark}
use Rattle.field_texts.specs.declared.mark.Mark.TheVariants.{Space, Plus, Minus, Quote, Backslash, Comma, Colon, OpenBracket, CloseBracket, OpenBrace, CloseBrace, LetterX, LetterN, LetterU, LetterL, Digit, HexLetter, Other}
use Rattle.field_texts.specs.Machine.{mark_of}

-- the byte that means so
abbrev pub IsMark : Mark → ℕ → Type 0
IsMark Space b = b ≡ 32
IsMark Plus b = b ≡ 43
IsMark Minus b = b ≡ 45
IsMark Quote b = b ≡ 39
IsMark Backslash b = b ≡ 92
IsMark Comma b = b ≡ 44
IsMark Colon b = b ≡ 58
IsMark OpenBracket b = b ≡ 91
IsMark CloseBracket b = b ≡ 93
IsMark OpenBrace b = b ≡ 123
IsMark CloseBrace b = b ≡ 125
IsMark LetterX b = b ≡ 120
IsMark LetterN b = b ≡ 78
IsMark LetterU b = b ≡ 85
IsMark LetterL b = b ≡ 76
IsMark Digit b = IsDigit b
IsMark HexLetter b = ((97 ≤ b) × (b ≤ 102)) ⊎ ((65 ≤ b) × (b ≤ 70))
IsMark Other b = (b ≡ 39 → ⊥) × (b ≡ 92 → ⊥) × (b ≡ 120 → ⊥)

by_test : (t : Bool) (m n : Mark) (b : ℕ) → (t ≡ true → IsMark m b) → (t ≡ false → IsMark n b) → IsMark (cond t m n) b
by_test true m n b f g = f refl
by_test false m n b f g = g refl

between : (l h b : ℕ) → (leb l b && leb b h) ≡ true → (l ≤ b) × (b ≤ h)
between l h b e = let p = and_parts (leb l b) (leb b h) e in (leb-true l b p.0, leb-true b h p.1)

hexes : (b : ℕ) → ((leb 97 b && leb b 102) || (leb 65 b && leb b 70)) ≡ true → ((97 ≤ b) × (b ≤ 102)) ⊎ ((65 ≤ b) × (b ≤ 70))
hexes b e = elim (or_cases (leb 97 b && leb b 102) (leb 65 b && leb b 70) e) [
  | inl p ↦ inl (between 97 102 b p)
  | inr p ↦ inr (between 65 70 b p)
]

pub is_mark : (b : ℕ) → IsMark (mark_of b) b
is_mark b =
    by_test (eqb b 32) _ _ b (eqb-true b 32) (λ _.
    by_test (eqb b 43) _ _ b (eqb-true b 43) (λ _.
    by_test (eqb b 45) _ _ b (eqb-true b 45) (λ _.
    by_test (eqb b 39) _ _ b (eqb-true b 39) (λ not_quote.
    by_test (eqb b 92) _ _ b (eqb-true b 92) (λ not_slash.
    by_test (eqb b 44) _ _ b (eqb-true b 44) (λ _.
    by_test (eqb b 58) _ _ b (eqb-true b 58) (λ _.
    by_test (eqb b 91) _ _ b (eqb-true b 91) (λ _.
    by_test (eqb b 93) _ _ b (eqb-true b 93) (λ _.
    by_test (eqb b 123) _ _ b (eqb-true b 123) (λ _.
    by_test (eqb b 125) _ _ b (eqb-true b 125) (λ _.
    by_test (eqb b 120) _ _ b (eqb-true b 120) (λ not_ex.
    by_test (eqb b 78) _ _ b (eqb-true b 78) (λ _.
    by_test (eqb b 85) _ _ b (eqb-true b 85) (λ _.
    by_test (eqb b 76) _ _ b (eqb-true b 76) (λ _.
    by_test (leb 48 b && leb b 57) _ _ b (between 48 57 b) (λ _.
    by_test ((leb 97 b && leb b 102) || (leb 65 b && leb b 70)) _ _ b (hexes b) (λ _. (eqb-false b 39 not_quote, eqb-false b 92 not_slash, eqb-false b 120 not_ex))))))))))))))))))

-- the meaning of a digit
pub mark_digit : (b : ℕ) → IsDigit b → mark_of b ≡ Digit
mark_digit b h = grind (arith, nat_tests, h)

-- a hexadecimal digit, by where it stands
abbrev pub IsHex : ℕ → Type 0
IsHex b = IsDigit b ⊎ (((97 ≤ b) × (b ≤ 102)) ⊎ ((65 ≤ b) × (b ≤ 70)))

pub hex_stands : (b : ℕ) → is_hex_digit b ≡ true → IsHex b
hex_stands b e = elim (or_cases ((leb 48 b && leb b 57) || (leb 97 b && leb b 102)) (leb 65 b && leb b 70) e) [
  | inr up ↦ inr (inr (between 65 70 b up))
  | inl low ↦ elim (or_cases (leb 48 b && leb b 57) (leb 97 b && leb b 102) low) [
    | inl d ↦ inl (between 48 57 b d)
    | inr l ↦ inr (inl (between 97 102 b l))
  ]
]

pub hex_is : (b : ℕ) → IsHex b → is_hex_digit b ≡ true
hex_is b (inl h) = grind (arith, nat_tests, h)
hex_is b (inr (inl h)) = grind (arith, nat_tests, h)
hex_is b (inr (inr h)) = grind (arith, nat_tests, h)

hex_mark : (b : ℕ) → IsHex b → (mark_of b ≡ Digit) ⊎ (mark_of b ≡ HexLetter)
hex_mark b (inl h) = inl (mark_digit b h)
hex_mark b (inr (inl h)) = inr (grind (arith, nat_tests, h))
hex_mark b (inr (inr h)) = inr (grind (arith, nat_tests, h))

pub mark_hex : (b : ℕ) → is_hex_digit b ≡ true → (mark_of b ≡ Digit) ⊎ (mark_of b ≡ HexLetter)
mark_hex b e = hex_mark b (hex_stands b e)
