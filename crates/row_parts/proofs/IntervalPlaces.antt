-- The intervals of -Resample: how many there are, and the one of a key.
use Rattle.std.proofs.Common.{◌≡◌, ◌≢◌, ℕ, zero, suc, ◌+◌, ◌*◌, ◌-◌, ◌/◌, ◌^◌, ◌<◌, ◌≤◌, ℤ, pos, ◌+ℤ◌, ◌-ℤ◌, ◌<ℤ◌, ◌≤ℤ◌, nat_abs, int_le, int_lt, le-div_iff_mul-le, mul-le-mul_right, ◌&&◌, Bool, true, false, ◌⊎◌, inl, inr, refl, sym, subst, arith}
use Rattle.std.proofs.lemmas.Bool.{cases_lt}
use Rattle.std.proofs.lemmas.Int.{ints}
use Rattle.std.proofs.lemmas.Nat.{div_below}
use Rattle.agg_terms.specs.Types.{intervals}
use Rattle.agg_meaning.specs.Picks.{is_inside}

le_true : (z : ℤ) (m n : ℕ) → m ≤ n → int_le (z +ℤ pos m) (z +ℤ pos n) ≡ true
le_true z m n l = grind (arith, ints)

lt_true : (z : ℤ) (m n : ℕ) → m < n → int_lt (z +ℤ pos m) (z +ℤ pos n) ≡ true
lt_true z m n l = grind (arith, ints)

end_true : (k e : ℤ) → k <ℤ e → int_lt k e ≡ true
end_true k e l = grind (arith, ints)

le_false : (z k : ℤ) (m : ℕ) → k <ℤ z → int_le (z +ℤ pos m) k ≡ false
le_false z k m l = grind (arith, ints)

end_false : (k e : ℤ) → e ≤ℤ k → int_lt k e ≡ false
end_false k e l = grind (arith, ints)

no_and : (b : Bool) → (b && false) ≡ false
no_and true = refl
no_and false = refl

-- the key at a distance from the start lies in the interval of that distance
pub inside_at : (s e : ℤ) (p m j : ℕ) → j * p ≤ m → m < suc j * p → (s +ℤ pos m) <ℤ e → is_inside s e p j (s +ℤ pos m) ≡ true
inside_at s e p m j l h k = rw (le_true s (j * p) m l, lt_true s m (suc j * p) h, end_true (s +ℤ pos m) e k) refl

pub inside_quotient : (s e k : ℤ) (p m : ℕ) → 0 < p → k ≡ s +ℤ pos m → k <ℤ e → is_inside s e p (m / p) k ≡ true
inside_quotient s e k p m q g l =
    let low : (m / p) * p ≤ m = (le-div_iff_mul-le q).0 (omega arith) in
    subst (λ z. is_inside s e p (m / p) z ≡ true) (sym g) (inside_at s e p m (m / p) low (high (cases_lt m (suc (m / p) * p))) (subst (λ z. z <ℤ e) g l))
  where
    high : (m < suc (m / p) * p) ⊎ (suc (m / p) * p ≤ m) → m < suc (m / p) * p
    high (inl h) = h
    high (inr h) = absurd (let n : suc (m / p) ≤ m / p = (le-div_iff_mul-le q).1 h in omega (arith, n))

-- keys outside lie in none
pub before_all : (s e k : ℤ) (p j : ℕ) → k <ℤ s → is_inside s e p j k ≡ false
before_all s e k p j l = rw (le_false s k (j * p) l) refl

pub behind_all : (s e k : ℤ) (p j : ℕ) → e ≤ℤ k → is_inside s e p j k ≡ false
behind_all s e k p j l = rw (end_false k e l) (go (int_le (s +ℤ pos (j * p)) k) (int_lt k (s +ℤ pos (suc j * p))))
  where
    go : (a b : Bool) → (a && (b && false)) ≡ false
    go true b = no_and b
    go false b = refl

-- and no key in two
first : (a b : Bool) → (a && b) ≡ true → a ≡ true
first true b h = refl
first false b h = h

second : (a b : Bool) → (a && b) ≡ true → b ≡ true
second true b h = h
second false b h = cc

above : (z k : ℤ) (m n : ℕ) → m ≤ n → int_le (z +ℤ pos n) k ≡ true → int_lt k (z +ℤ pos m) ≡ false
above z k m n l h = grind (arith, ints)

below : (z k : ℤ) (m n : ℕ) → m ≤ n → int_lt k (z +ℤ pos m) ≡ true → int_le (z +ℤ pos n) k ≡ false
below z k m n l h = grind (arith, ints)

pub inside_one : (s e k : ℤ) (p i j : ℕ) → is_inside s e p j k ≡ true → i ≢ j → is_inside s e p i k ≡ false
inside_one s e k p i j h n = go (cases_lt i j)
  where
    le : Bool
    le = int_le (s +ℤ pos (j * p)) k

    lt : Bool
    lt = int_lt k (s +ℤ pos (suc j * p))

    go : (i < j) ⊎ (j ≤ i) → is_inside s e p i k ≡ false
    go (inl l) =
        let b : suc i * p ≤ j * p = mul-le-mul_right p l in
        rw (above s k (suc i * p) (j * p) b (first (int_le (s +ℤ pos (j * p)) k) (int_lt k (s +ℤ pos (suc j * p)) && int_lt k e) h)) (no_and (int_le (s +ℤ pos (i * p)) k))
    go (inr l) =
        let m : suc j ≤ i = omega (arith, l, n) in
        let b : suc j * p ≤ i * p = mul-le-mul_right p m in
        rw (below s k (suc j * p) (i * p) b (first (int_lt k (s +ℤ pos (suc j * p))) (int_lt k e) (second (int_le (s +ℤ pos (j * p)) k) (int_lt k (s +ℤ pos (suc j * p)) && int_lt k e) h))) refl

-- its number is below how many there are
pub within_count : (s e k : ℤ) (p m : ℕ) → 0 < p → k ≡ s +ℤ pos m → k <ℤ e → m / p < intervals s e p
within_count s e k p m q g l =
    let low : (m / p) * p ≤ m = (le-div_iff_mul-le q).0 (omega arith) in
    let d : m < nat_abs (e -ℤ s) = distance s e k m g l in
    let b : suc (m / p) * p ≤ nat_abs (e -ℤ s) + (p - 1) = omega (arith, low, d, q) in
    (le-div_iff_mul-le q).1 b
  where
    distance : (s e k : ℤ) (m : ℕ) → k ≡ s +ℤ pos m → k <ℤ e → m < nat_abs (e -ℤ s)
    distance s e k m g l = omega (arith, ints)

-- both, of a distance that is computed
pub interval_known : (s e k x : ℤ) (p q : ℕ) → 0 < p → q ≡ p → x ≡ k -ℤ s → s ≤ℤ k → k <ℤ e → (nat_abs x / q < intervals s e p) × (is_inside s e p (nat_abs x / q) k ≡ true)
interval_known s e k x p q g qe xe l h =
    let m : k ≡ s +ℤ pos (nat_abs x) = omega (arith, ints) in (
      subst (λ z. nat_abs x / z < intervals s e p) (sym qe) (within_count s e k p (nat_abs x) g m h),
      subst (λ z. is_inside s e p (nat_abs x / z) k ≡ true) (sym qe) (inside_quotient s e k p (nat_abs x) g m h),
    )

-- how many there are
pub few_intervals : (w p : ℕ) → 0 < p → 0 < w → w < 2 ^ 64 → (w + (p - 1)) / p < 2 ^ 64
few_intervals w p q l h =
    let n : w * 1 ≤ w * p = times w 1 p q in
    let k : w + (p - 1) < suc w * p = omega (arith, n, q) in
    let d : (w + (p - 1)) / p < suc w = div_below (w + (p - 1)) p (suc w) q k in
    omega (arith, d, h)
  where
    times : (w a b : ℕ) → a ≤ b → w * a ≤ w * b
    times zero a b l = omega arith
    times (suc w) a b l = omega (arith, times w a b l, l)

pub ruleset count_laws = (few_intervals)

pub ruleset place_laws = (inside_quotient, within_count, before_all, behind_all)
