-- The rules on the suffixes and parameters of a chain, on the way inward.
use Rattle.std.proofs.Common.{◌≡◌, ℕ, suc, ◌+◌, ◌-◌, ◌*◌, ◌^◌, ◌≤◌, nat_lt, nat_le, ℤ, ◌<ℤ◌, ◌-ℤ◌, int_lt, nat_abs, Bool, true, false, not, ◌&&◌, ◌||◌, List, ◌∷◌, arith}
use Rattle.std.proofs.lemmas.Int.{ints}
use Rattle.std.proofs.lemmas.Bool.{leb-true, le-leb}
use Rattle.std.proofs.lemmas.Nat.{le-div}
use Rattle.std.proofs.Math.Nat.{mul-le-mul_right}
use Rattle.agg_terms.specs.declared.words.Suffix.{Suffix}
use Rattle.agg_terms.specs.Chains.{Chain, Ty, Tys, tys_list}
use Rattle.agg_terms.specs.Chains as C
use Rattle.agg_terms.specs.Types.{intervals}
use Rattle.std.specs.List.{list_any}
use Rattle.agg_typing.specs.Suffixes.{is_if, has_few_suffixes, has_array_outside_if, arguments_reaching}
use Rattle.agg_typing.specs.Parameters.{is_int64, most_intervals, pattern_conditions}
use Rattle.agg_typing.specs.Legal.{suffixes_of, is_range, in_range, is_formed}
use Rattle.agg_typing.proofs.Same.{both}

-- the rules on the suffixes and parameters of a chain that n arguments reach
pub record Formed (c : Chain) (n : ℕ) : Type 0 where
  pub few : has_few_suffixes (suffixes_of c) ≡ true
  pub order : not (has_array_outside_if (suffixes_of c)) ≡ true
  pub range : in_range (pattern_conditions (arguments_reaching (suffixes_of c) n)) 1 c ≡ true

pub formed : (c : Chain) (n : ℕ) → is_formed c n ≡ true → Formed c n
formed c n h =
    let size : ℕ = pattern_conditions (arguments_reaching (suffixes_of c) n) in
    let a = both (has_few_suffixes (suffixes_of c)) (not (has_array_outside_if (suffixes_of c)) && in_range size 1 c) h in
    let b = both (not (has_array_outside_if (suffixes_of c))) (in_range size 1 c) a.1 in
    record { few = a.0; order = b.0; range = b.1 }

pub is_formed_is : (c : Chain) (n : ℕ) → Formed c n → is_formed c n ≡ true
is_formed_is c n f = rw (f.few, f.order, f.range)

-- the suffixes further in
pub few_inward : (n : ℕ) → nat_le (suc n) 8 ≡ true → nat_le n 8 ≡ true
few_inward n h = le-leb n 8 (omega (arith, leb-true (suc n) 8 h))

pub neither : (a b : Bool) → not (a || b) ≡ true → not b ≡ true
neither true b h = cc h
neither false b h = h

pub order_inward : (s : Suffix) (ss : List Suffix) → not (has_array_outside_if (s ∷ ss)) ≡ true → not (has_array_outside_if ss) ≡ true
order_inward Suffix.If ss h = h
order_inward Suffix.Array ss h = neither (list_any is_if ss) (has_array_outside_if ss) h
order_inward Suffix.MapOf ss h = h
order_inward Suffix.ForEach ss h = h
order_inward Suffix.OrNull ss h = h
order_inward Suffix.OrDefault ss h = h
order_inward Suffix.Distinct ss h = h
order_inward Suffix.Resample ss h = h
order_inward Suffix.State ss h = h
order_inward Suffix.Merge ss h = h

-- fewer intervals further out leave a chain's parameters in their ranges
pub last_of_six : (a b c d e f g : Bool) → (f ≡ true → g ≡ true) → (a && (b && (c && (d && (e && f))))) ≡ true → (a && (b && (c && (d && (e && g))))) ≡ true
last_of_six false b c d e f g k h = h
last_of_six true false c d e f g k h = h
last_of_six true true false d e f g k h = h
last_of_six true true true false e f g k h = h
last_of_six true true true true false f g k h = h
last_of_six true true true true true f g k h = k h

pub fewer : (a b size : ℕ) → a ≤ b → nat_le (b * size) most_intervals ≡ true → nat_le (a * size) most_intervals ≡ true
fewer a b size l h =
    let wide : b * size ≤ most_intervals = leb-true (b * size) most_intervals h in
    let less : a * size ≤ b * size = mul-le-mul_right size l in
    le-leb (a * size) most_intervals (omega (arith, wide, less))

pub narrower : (n a b : ℕ) (c : Chain) → a ≤ b → in_range n b c ≡ true → in_range n a c ≡ true
narrower n a b (C.Of f) l h = h
narrower n a b (C.If c) l h = narrower n a b c l h
narrower n a b (C.Array c) l h = narrower n a b c l h
narrower n a b (C.MapOf c) l h = narrower n a b c l h
narrower n a b (C.ForEach c) l h = narrower n a b c l h
narrower n a b (C.OrNull c) l h = narrower n a b c l h
narrower n a b (C.OrDefault c) l h = narrower n a b c l h
narrower n a b (C.Distinct c) l h = narrower n a b c l h
narrower n a b (C.State c) l h = narrower n a b c l h
narrower n a b (C.Merge c) l h = narrower n a b c l h
narrower n a b (C.Resample start end step c) l h =
    let size : ℕ = intervals start end step in
    let t = both (is_range b start end step) (in_range n (b * size) c) h in
    let here : is_range a start end step ≡ true =
    last_of_six (is_int64 start) (is_int64 end) (int_lt start end) (nat_le 1 step) (nat_lt step (2 ^ 64))
    (nat_le (b * size) most_intervals) (nat_le (a * size) most_intervals) (fewer a b size l) t.0 in
    let deep : in_range n (a * size) c ≡ true = narrower n (a * size) (b * size) c (mul-le-mul_right size l) t.1 in
    rw (here, deep)

-- a range with an interval or more
pub record Proper (start end : ℤ) (step : ℕ) : Type 0 where
  pub low : is_int64 start ≡ true
  pub high : is_int64 end ≡ true
  pub rising : int_lt start end ≡ true
  pub stepping : nat_le 1 step ≡ true

pub proper : (further_out : ℕ) (start end : ℤ) (step : ℕ) → is_range further_out start end step ≡ true → Proper start end step
proper further_out start end step h =
    let some : Bool = nat_lt step (2 ^ 64) && nat_le (further_out * intervals start end step) most_intervals in
    let a = both (is_int64 start) (is_int64 end && (int_lt start end && (nat_le 1 step && some))) h in
    let b = both (is_int64 end) (int_lt start end && (nat_le 1 step && some)) a.1 in
    let d = both (int_lt start end) (nat_le 1 step && some) b.1 in
    let e = both (nat_le 1 step) some d.1 in
    record { low = a.0; high = b.0; rising = d.0; stepping = e.0 }

pub some_interval : (start end : ℤ) (step : ℕ) → Proper start end step → 1 ≤ intervals start end step
some_interval start end step p =
    let less : start <ℤ end = omega (arith, ints, p.rising) in
    let far : 1 ≤ nat_abs (end -ℤ start) = omega (arith, ints, less) in
    let one : 1 ≤ step = leb-true 1 step p.stepping in
    le-div 1 (nat_abs (end -ℤ start) + (step - 1)) step (omega (arith, one)) (omega (arith, far, one))
