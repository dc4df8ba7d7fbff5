-- Numbers of so many bits.
use Rattle.std.proofs.Common.{◌≡◌, ◌⊎◌, inl, inr, ◌<◌, ◌≤◌, ◌^◌, ◌&&◌, min, ℕ, zero, suc, ℤ, pos, negsuc, FitsSigned, unsigned_abs, nat_lt, true, refl, ap, ap₂, sym, ◌∙◌, arith}
use Rattle.std.specs.Prelude.{int_le}
use Rattle.std.proofs.Math.Nat.{pow-le-pow_right}
use Rattle.std.proofs.lemmas.Bool.{lt-ltb, ltb_from_iff}
use mir.Syntax.{w128}
use Rattle.agg_terms.specs.Fitting.{fits_bits, is_event}
use Rattle.agg_terms.specs.Trees.{is_one}
use Rattle.agg_terms.specs.Values.{Event}
use Rattle.agg_terms.proofs.Deciding.{no}
use Rattle.agg_terms.proofs.Fitting.{bits}

either_way : (a b : ℕ) → (a ≤ b) ⊎ (b ≤ a)
either_way zero b = inl (omega arith)
either_way (suc a) zero = inr (omega arith)
either_way (suc a) (suc b) = elim (either_way a b) [ inl h ↦ inl (omega arith) | inr h ↦ inr (omega arith) ]

pub power_fits : (e : ℕ) → e ≤ 127 → 2 ^ e < 2 ^ 128
power_fits e h = let l : 2 ^ e ≤ 2 ^ 127 = pow-le-pow_right (omega arith) h in omega arith

-- a number of at most 127 bits against a higher power
pub small_lt : (k n : ℕ) → k < 2 ^ 127 → nat_lt k (2 ^ min n 127) ≡ nat_lt k (2 ^ n)
small_lt k n h = elim (either_way n 127) [
  | inl l ↦ ap (λ e. nat_lt k (2 ^ e)) (let e : min n 127 ≡ n = omega arith in e)
  | inr l ↦
      let p : 2 ^ 127 ≤ 2 ^ n = pow-le-pow_right (omega arith) l in
      ap (λ e. nat_lt k (2 ^ e)) (let e : min n 127 ≡ 127 = omega arith in e) ∙ lt-ltb k (2 ^ 127) h ∙ sym (lt-ltb k (2 ^ n) (omega arith))
]

-- a number that is not negative, against the bound of its bits
pub bits_of : (z : ℤ) (n : ℕ) → FitsSigned w128 z → int_le (pos 0) z ≡ true → nat_lt (unsigned_abs z) (2 ^ min n 127) ≡ fits_bits n z
bits_of (pos k) n f h =
    small_lt k n (omega arith)
    ∙ sym (ltb_from_iff (
      λ e. (let b = (bits n (pos k)).0 e in let same : k ≡ b.0 = ap unsigned_abs b.1 in let below = b.2 in omega arith),
      λ l. (bits n (pos k)).1 (k, refl, l),
    ))
bits_of (negsuc k) n f h = no h

-- an event that meets a condition
pub event_bits : (e : Event) (n : ℕ) → e.time < 2 ^ 64 → 0 < e.mask → e.mask < 2 ^ 32 → nat_lt e.mask (2 ^ min n 127) ≡ is_event n e
event_bits e n t h m = small_lt e.mask n (omega arith) ∙ sym (ap₂ (λ a b. a && (b && nat_lt e.mask (2 ^ n))) (lt-ltb e.time (2 ^ 64) t) (met e.mask h))
  where
    met : (k : ℕ) → 0 < k → is_one k ≡ true
    met zero l = absurd (omega arith)
    met (suc k) l = refl
