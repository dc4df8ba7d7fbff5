-- Where the rest of a division lies.
use Rattle.std.proofs.Common.{ℤ, pos, negsuc, ◌<ℤ◌, ◌≤ℤ◌, arith}
use Rattle.std.specs.Int.{int_rem_euclid}
use Rattle.std.proofs.lemmas.Int.{ints}

pub rest_low : (z d : ℤ) → pos 0 <ℤ d → pos 0 ≤ℤ int_rem_euclid z d
rest_low (pos a) d h = omega (arith, ints)
rest_low (negsuc a) d h = omega (arith, ints)

pub rest_high : (z d : ℤ) → pos 0 <ℤ d → int_rem_euclid z d <ℤ d
rest_high (pos a) (pos n) h = omega (arith, ints)
rest_high (negsuc a) (pos n) h = omega (arith, ints)
rest_high z (negsuc n) h = absurd (omega (arith, ints))

pub ruleset rest_laws = (rest_low, rest_high)
