-- Digits and what they write.
use Rattle.std.proofs.Common.{◌≡◌, ℕ, suc, ◌+◌, ◌^◌, ◌<◌, ◌≤◌, Bool, true, false, cond, List, [], ◌∷◌, length, take, nat_lt, arith}
use Rattle.std.specs.List.{prefix_len}
use Rattle.std.specs.Str.Parse.{digits_value}
use Rattle.std.proofs.lemmas.Str.Parse.{digits_value-take-le}
use Rattle.std.proofs.lemmas.Int.Digits.{digits_value_more}
use Rattle.std.proofs.lemmas.Bool.Decides.{nat_tests}
use Rattle.line_tokens.specs.Tokens.{is_small}

not_below : (a b : ℕ) → b ≤ a → false ≡ nat_lt a b
not_below a b h = grind (arith, nat_tests)

pub too_large : (number : ℕ) (digits : List ℕ) (at : ℕ) → at < length digits → number ≡ digits_value 10 (take at digits) → 2 ^ 124 ≤ number → false ≡ is_small digits
too_large number digits at inside is big =
    let less : digits_value 10 (take (at + 1) digits) ≤ digits_value 10 digits = digits_value-take-le 10 digits (at + 1) (omega arith) in
    let more = digits_value_more 10 digits at inside in
    not_below (digits_value 10 digits) (2 ^ 127) (omega (arith, less, more, is, big))

pub prefix_len_le : (p : ℕ → Bool) (xs : List ℕ) → prefix_len p xs ≤ length xs
prefix_len_le p [] = omega arith
prefix_len_le p (x ∷ xs) = elim (p x) as (λ b. cond b (1 + prefix_len p xs) 0 ≤ suc (length xs)) [ true ↦ omega (arith, prefix_len_le p xs) | false ↦ omega arith ]
