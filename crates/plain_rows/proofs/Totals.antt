-- Numbers modulo 2^64, in Int64 and in UInt64.
use Rattle.std.proofs.Common.{◌≡◌, Bool, ℕ, ◌-◌, ◌%◌, ◌^◌, ◌<◌, ◌≤◌, ℤ, pos, negsuc, ◌-ℤ◌, ◌<ℤ◌, ◌≤ℤ◌, true, false, refl, sym, ap, ◌∙◌, arith}
use Rattle.std.specs.Prelude.{unsigned_abs}
use Rattle.std.specs.Int.{int_wrap, int_rem_euclid, cast_signed}
use Rattle.std.proofs.lemmas.Int.{ints}
use mir.Syntax.{w64}
use Rattle.agg_meaning.specs.Functions.{wrapped}
use Rattle.plain_rows.proofs.SignedBits.{high}

-- the rest of a number divided by 2^64
abbrev pub residue64 : ℤ → ℕ
residue64 (pos n) = n % 2 ^ 64
residue64 (negsuc n) = 2 ^ 64 - 1 - n % 2 ^ 64

pub residue_is : (z : ℤ) → int_rem_euclid z (pos (2 ^ 64)) ≡ pos (residue64 z)
residue_is (pos n) = refl
residue_is (negsuc n) = refl

pub residue_lt : (z : ℤ) → residue64 z < 2 ^ 64
residue_lt (pos n) = omega arith
residue_lt (negsuc n) = omega arith

whole_wrap : (z : ℤ) → int_wrap w64 z ≡ cast_signed w64 (residue64 z)
unfolding int_wrap
whole_wrap z = ap (λ r. cast_signed w64 (unsigned_abs r)) (residue_is z)

cast_low : (n : ℕ) → n < 2 ^ 63 → pos n ≡ cast_signed w64 n
cast_low n h = omega (arith, ints)

cast_high : (n : ℕ) → 2 ^ 63 ≤ n → n < 2 ^ 64 → pos n -ℤ pos (2 ^ 64) ≡ cast_signed w64 n
cast_high n h k = high n (2 ^ 63) (2 ^ 64) h k

-- the number of Int64
pub wrapped_low : (z s : ℤ) → s ≡ int_rem_euclid z (pos (2 ^ 64)) → s <ℤ pos (2 ^ 63) → s ≡ wrapped true z
wrapped_low z s e h =
    let is : s ≡ pos (residue64 z) = e ∙ residue_is z in
    let below : residue64 z < 2 ^ 63 = omega (arith, ints) in
    is ∙ cast_low (residue64 z) below ∙ sym (whole_wrap z)

pub wrapped_high : (z s : ℤ) → s ≡ int_rem_euclid z (pos (2 ^ 64)) → pos (2 ^ 63) ≤ℤ s → s -ℤ pos (2 ^ 64) ≡ wrapped true z
wrapped_high z s e h =
    let is : s ≡ pos (residue64 z) = e ∙ residue_is z in
    let above : 2 ^ 63 ≤ residue64 z = omega (arith, ints) in
    ap (λ t. t -ℤ pos (2 ^ 64)) is ∙ cast_high (residue64 z) above (residue_lt z) ∙ sym (whole_wrap z)

-- the same by whether the numbers are signed
pub total_high : (b : Bool) (z s : ℤ) → b ≡ true → s ≡ int_rem_euclid z (pos (2 ^ 64)) → pos (2 ^ 63) ≤ℤ s → s -ℤ pos (2 ^ 64) ≡ wrapped b z
total_high b z s e h k = wrapped_high z s h k ∙ ap (λ x. wrapped x z) (sym e)

pub total_low : (b : Bool) (z s : ℤ) → s ≡ int_rem_euclid z (pos (2 ^ 64)) → s <ℤ pos (2 ^ 63) → s ≡ wrapped b z
total_low true z s h k = wrapped_low z s h k
total_low false z s h k = h

pub total_whole : (b : Bool) (z s : ℤ) → b ≡ false → s ≡ int_rem_euclid z (pos (2 ^ 64)) → s ≡ wrapped b z
total_whole b z s e h = h ∙ ap (λ x. wrapped x z) (sym e)

pub ruleset total_laws = (total_high, total_low, total_whole)
