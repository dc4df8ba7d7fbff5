-- Hexadecimal text read pair by pair.
use Rattle.std.proofs.Common.{ltb, suc, not, cond, ◌&&◌, ◌≡◌, ℕ, ◌+◌, ◌*◌, ◌<◌, ◌≤◌, Bool, true, false, List, [], ◌∷◌, ◌++◌, length, get_or, drop, Option, Some, None, refl, sym, ◌∙◌, arith, append_assoc}
use Rattle.std.specs.List.{list_all, position, position_or_len}
use Rattle.std.proofs.lemmas.Bool.{and_parts, ltb-false}
use Rattle.std.proofs.lemmas.List.{append-nil}
use Rattle.tsv_text.specs.Escapes.{hex_value}
use Rattle.scalar_texts.specs.Hex.{hex_bytes, hex_fault, is_lower_hex, is_not_lower_hex, odd_at, or_else}

-- the bytes read so far and those of the rest are all
pub hex_more : (done total rest : List ℕ) (high low : ℕ) → 2 ≤ length rest → done ++ hex_bytes rest ≡ total → high ≡ hex_value (get_or rest 0 0) → low ≡ hex_value (get_or rest 1 0)
    → (done ++ (high * 16 + low) ∷ []) ++ hex_bytes (drop 2 rest) ≡ total
hex_more done total [] high low some e h l = absurd (omega (arith, some))
hex_more done total (a ∷ []) high low some e h l = absurd (omega (arith, some))
hex_more done total (a ∷ b ∷ rest) high low some e h l =
    append_assoc done ((high * 16 + low) ∷ []) (hex_bytes rest) ∙ rw (h, l) e

pub first_lower : (rest : List ℕ) → 2 ≤ length rest → list_all is_lower_hex rest ≡ true → is_lower_hex (get_or rest 0 0) ≡ true
first_lower [] some h = absurd (omega (arith, some))
first_lower (a ∷ rest) some h = (and_parts (is_lower_hex a) (list_all is_lower_hex rest) h).0

pub second_lower : (rest : List ℕ) → 2 ≤ length rest → list_all is_lower_hex rest ≡ true → is_lower_hex (get_or rest 1 0) ≡ true
second_lower [] some h = absurd (omega (arith, some))
second_lower (a ∷ []) some h = absurd (omega (arith, some))
second_lower (a ∷ b ∷ rest) some h = (and_parts (is_lower_hex b) (list_all is_lower_hex rest) (and_parts (is_lower_hex a) (list_all is_lower_hex (b ∷ rest)) h).1).0

pub rest_lower : (rest : List ℕ) → 2 ≤ length rest → list_all is_lower_hex rest ≡ true → list_all is_lower_hex (drop 2 rest) ≡ true
rest_lower [] some h = absurd (omega (arith, some))
rest_lower (a ∷ []) some h = absurd (omega (arith, some))
rest_lower (a ∷ b ∷ rest) some h = (and_parts (is_lower_hex b) (list_all is_lower_hex rest) (and_parts (is_lower_hex a) (list_all is_lower_hex (b ∷ rest)) h).1).1

pub ends : (done total rest : List ℕ) → length rest < 2 → done ++ hex_bytes rest ≡ total → done ≡ total
ends done total [] few e = sym (append-nil done) ∙ e
ends done total (a ∷ []) few e = sym (append-nil done) ∙ e
ends done total (a ∷ b ∷ rest) few e = absurd (omega (arith, few))

lower_all : (xs : List ℕ) → length xs ≤ position_or_len is_not_lower_hex xs → list_all is_lower_hex xs ≡ true
lower_all [] h = refl
lower_all (x ∷ xs) h =
    elim (is_lower_hex x) as (λ b. suc (length xs) ≤ cond (not (not b)) (1 + position_or_len is_not_lower_hex xs) 0 → (b && list_all is_lower_hex xs) ≡ true) [
      | true ↦ λ h. lower_all xs (omega (arith, h))
      | false ↦ λ h. absurd (omega (arith, h))
    ] h

no_other : (o other : Option ℕ) → or_else o other ≡ None → o ≡ None
no_other (Some at) other e = absurd cc
no_other None other e = refl

no_cond : (b : Bool) (n : ℕ) → (let o : Option ℕ = cond b (Some n) None in o) ≡ None → b ≡ false
no_cond true n e = absurd cc
no_cond false n e = refl

-- a text without a fault is of lower-case digits
pub no_fault_lower : (text : List ℕ) → hex_fault text ≡ None → list_all is_lower_hex text ≡ true
no_fault_lower text e =
    let none = no_cond (ltb (position_or_len is_not_lower_hex text) (length text)) (position_or_len is_not_lower_hex text) (no_other (position is_not_lower_hex text) (odd_at (length text)) e) in
    lower_all text (ltb-false _ _ none)
