-- The intervals of -Resample by their bounds.
use Rattle.std.proofs.Common.{◌≡◌, ℕ, suc, ◌+◌, ◌-◌, ◌*◌, ◌/◌, ◌^◌, ◌<◌, ◌≤◌, ℤ, pos, ◌+ℤ◌, ◌-ℤ◌, nat_abs, cond, List, [], ◌∷◌, ◌++◌, FitsSigned, refl, ap, ap₂, ◌∙◌, arith}
use Rattle.std.specs.Prelude.{Option, Some, None}
use Rattle.std.proofs.Math.Nat.{mul-le-mul_left}
use Rattle.std.proofs.lemmas.Int.{ints}
use mir.Syntax.{w64, w128}
use Rattle.agg_terms.specs.Lists.{front}
use Rattle.agg_terms.specs.Types.{intervals}
use Rattle.agg_terms.specs.Values.{Nil, Value}
use Rattle.agg_meaning.specs.Feeds.{as_key, last}
use Rattle.agg_meaning.specs.Picks.{in_interval}
use Rattle.plain_meaning.specs.Inward.{key_inside, rows_between, rows_inside}

by_bounds : (start end : ℤ) (step j : ℕ) (x : List Value) (o : Option ℤ) →
    cond (key_inside (start +ℤ pos (j * step)) (start +ℤ pos (suc j * step)) end o) (x ∷ []) [] ≡ in_interval start end step j (x, o)
by_bounds start end step j x None = refl
by_bounds start end step j x (Some k) = refl

each_by_bounds : (start end : ℤ) (step j : ℕ) (R : List (List Value)) →
    rows_between (start +ℤ pos (j * step)) (start +ℤ pos (suc j * step)) end R ≡ rows_inside start end step j R
each_by_bounds start end step j [] = refl
each_by_bounds start end step j (r ∷ R) = ap₂ ◌++◌ (by_bounds start end step j (front r) (as_key (last Nil r))) (each_by_bounds start end step j R)

pub between_is : (start end : ℤ) (step j : ℕ) (low high : ℤ) (R : List (List Value)) → low ≡ start +ℤ pos (j * step) → high ≡ low +ℤ pos step →
    rows_between low high end R ≡ rows_inside start end step j R
between_is start end step j low high R e f =
    let g : high ≡ start +ℤ pos (suc j * step) = f ∙ ap (λ z. z +ℤ pos step) e ∙ next in
    ap₂ (λ a b. rows_between a b end R) e g ∙ each_by_bounds start end step j R
  where
    next : (start +ℤ pos (j * step)) +ℤ pos step ≡ start +ℤ pos (suc j * step)
    next =
        let m : j * step + step ≡ suc j * step = omega arith in
        let e : (start +ℤ pos (j * step)) +ℤ pos step ≡ start +ℤ pos (j * step + step) = omega (arith, ints) in
        e ∙ ap (λ n. start +ℤ pos n) m

below_all : (q step j : ℕ) → 0 < step → j < q / step → j * step + step ≤ q
below_all q step j h k =
    let m : step * suc j ≤ step * (q / step) = mul-le-mul_left step (omega arith) in
    omega arith

pub interval_low : (start end : ℤ) (step j : ℕ) → FitsSigned w64 start → FitsSigned w64 end → 0 < step → j < intervals start end step → j * step < 2 ^ 64
interval_low start end step j f g h k =
    let m = below_all (nat_abs (end -ℤ start) + (step - 1)) step j h k in
    let d : nat_abs (end -ℤ start) < 2 ^ 64 = omega (arith, ints) in
    omega arith

-- the end of an interval is a number of 128 bits
pub end_fits : (start low step : ℤ) (m n : ℕ) → FitsSigned w64 start → m < 2 ^ 64 → n < 2 ^ 64 → low ≡ start +ℤ pos m → step ≡ pos n → FitsSigned w128 (low +ℤ step)
end_fits start low step m n f k l e g = omega (arith, ints)

pub ruleset interval_laws = (between_is, interval_low)
