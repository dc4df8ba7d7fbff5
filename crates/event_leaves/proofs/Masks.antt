-- The time of a row, and its conditions, one more at a time, from the last one on.
use Rattle.std.proofs.Common.{◌≡◌, ℕ, zero, suc, ◌+◌, ◌-◌, ◌*◌, ◌<◌, ◌^◌, ◌%◌, ◌≤ℤ◌, ℤ, negsuc, nat_abs, drop, pow-suc, ap₂, Bool, true, false, List, [], ◌∷◌, pos, refl, sym, ap, ◌∙◌, subst, arith}
use Rattle.std.specs.Int.{int_rem_euclid}
use Rattle.agg_terms.specs.Values.{Num, Value}
use Rattle.agg_meaning.specs.Functions.{arg}
use Rattle.agg_meaning.specs.Events.{bit, is_met, mets, mask_of, time_of}

-- the first argument alone is the time
pub time_first : (v : Value) (r : List Value) → time_of (v ∷ r) ≡ time_of (v ∷ [])
time_first (Num (pos t)) r = refl
time_first _ r = refl

-- a time that is not negative, in 64 bits
pub time_kept : (z : ℤ) → pos 0 ≤ℤ z → nat_abs (int_rem_euclid z (pos 18446744073709551616)) ≡ time_of (Num z ∷ []) % 18446744073709551616
time_kept (pos n) l = refl
time_kept (negsuc n) l = absurd (omega arith)

-- the conditions met from a place on
mets_from : (k i : ℕ) (r : List Value) → mask_of (mets (suc k) (drop i r)) ≡ bit (is_met (arg i r)) + 2 * mask_of (mets k (drop (suc i) r))
mets_from k zero [] = refl
mets_from k zero (v ∷ r) = refl
mets_from k (suc i) [] = refl
mets_from k (suc i) (v ∷ r) = mets_from k i r

pub mets_next : (n k : ℕ) (r : List Value) → k < n → mask_of (mets (k + 1) (drop (n - (k + 1)) r)) ≡ 2 * mask_of (mets k (drop (n - k) r)) + bit (is_met (arg (n - 1 - k) r))
mets_next n k r l =
    let e : k + 1 ≡ suc k = omega arith in
    let a : n - (k + 1) ≡ n - 1 - k = omega arith in
    let b : suc (n - 1 - k) ≡ n - k = omega arith in
    ap₂ (λ m i. mask_of (mets m (drop i r))) e a
    ∙ mets_from k (n - 1 - k) r
    ∙ ap (λ i. bit (is_met (arg (n - 1 - k) r)) + 2 * mask_of (mets k (drop i r))) b
    ∙ omega arith

pub mask_next : (m k : ℕ) (b : Bool) → m < 2 ^ k → 2 * m + bit b < 2 ^ (k + 1)
mask_next m k b l = let e : k + 1 ≡ suc k = omega arith in subst (λ j. 2 * m + bit b < 2 ^ j) (sym e) (go b)
  where
    go : (b : Bool) → 2 * m + bit b < 2 ^ suc k
    go true = omega (arith, pow-suc 2 k)
    go false = omega (arith, pow-suc 2 k)
