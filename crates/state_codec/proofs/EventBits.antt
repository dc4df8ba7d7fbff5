-- Masks of so many conditions.
use Rattle.std.proofs.Common.{◌≡◌, ◌<◌, ◌^◌, min, ℕ, nat_lt, arith}
use Rattle.agg_values.proofs.Bits.{small_lt}

-- a mask of 32 bits against a higher power
pub within_is : (k n : ℕ) → k < 2 ^ 32 → nat_lt k (2 ^ min n 127) ≡ nat_lt k (2 ^ n)
within_is k n h = small_lt k n (omega (arith, h))
