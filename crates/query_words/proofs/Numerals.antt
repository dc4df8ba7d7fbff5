-- Words that are no numbers.
use Rattle.std.proofs.Common.{◌≡◌, ℕ, ◌≤◌, ◌<◌, ◌^◌, Bool, true, false, ◌&&◌, leb, List, length, Option, None, Some, sym, refl, arith, rules}
use Rattle.std.specs.Prelude.{if◌then◌else◌, Result, Ok, Err}
use Rattle.std.specs.Char.{is_ascii_digit}
use Rattle.std.specs.List.{list_all}
use Rattle.std.specs.Str.Parse.{ParsesUnsigned, digits_value}
use Rattle.std.proofs.lemmas.Bool.{and_parts, leb-true}
use Rattle.std.proofs.lemmas.Str.Parse.{IsNumeralModel, numerals_by_value, parse_digits}
use Rattle.query_words.specs.Words.{is_number, number_between}

digits : IsNumeralModel (λ ds. list_all is_ascii_digit ds ≡ true) (digits_value 10)
digits = numerals_by_value (λ ds. list_all is_ascii_digit ds ≡ true) (search rules)

by_test : (t : Bool) (n : ℕ) → (t ≡ true → ⊥) → None ≡ (if t then Some n else None)
by_test true n h = absurd (h refl)
by_test false n h = refl

within : (word : List ℕ) (first second third least : Bool) (most : ℕ) → (first && (second && third)) && (least && leb (digits_value 10 word) most) ≡ true → (second ≡ true) × (digits_value 10 word ≤ most)
within word first second third least most h =
    let parts = and_parts (first && (second && third)) (least && leb (digits_value 10 word) most) h in
    let number = and_parts first (second && third) parts.0 in
    ((and_parts second third number.1).0, leb-true (digits_value 10 word) most (and_parts least (leb (digits_value 10 word) most) parts.1).1)

-- digits that aren't parsed are none or too many
pub not_parsed : {E : Type 0} (least most : ℕ) (word : List ℕ) (r : Result ℕ E) (e : E) → ParsesUnsigned 64 10 word r → r ≡ Err e → list_all is_ascii_digit word ≡ true → most < 2 ^ 64 → None ≡ number_between least most word
not_parsed least most word (Ok n) e h is all small = absurd (search rules)
not_parsed least most word (Err f) e h is all small =
    by_test (is_number word && (leb least (digits_value 10 word) && leb (digits_value 10 word) most)) (digits_value 10 word)
    (λ t. let bounds = within word (list_all is_ascii_digit word) (leb 1 (length word)) (leb (length word) 20) (leb least (digits_value 10 word)) most t in
    parse_digits digits 64 word (Err f) h all (omega (arith, leb-true 1 (length word) bounds.0), omega (arith, bounds.1, small)))
