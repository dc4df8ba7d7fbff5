-- Events of one time taken together, and where the table begins and ends.
use Rattle.std.proofs.Common.{◌≡◌, ℕ, zero, suc, ◌+◌, ◌/◌, ◌%◌, ◌^◌, ◌<◌, ◌≤◌, max, Bool, true, false, cond, ◌&&◌, ◌||◌, List, [], ◌∷◌, length, Option, Some, None, replicate, take, ◌≢◌, subst, pow_pos, refl, sym, ap, ap₂, ◌∙◌, arith}
use Rattle.std.specs.Prelude.{nat_le, nat_eq, bit_or}
use Rattle.std.proofs.lemmas.Bool.{lt-leb}
use Rattle.std.proofs.lemmas.Nat.{or_lt}
use Rattle.std.proofs.Math.Nat.{div-eq_of_lt}
use Rattle.std.proofs.lemmas.Nat.Bits.{bit_at-zero, bit_at_or}
use Rattle.std.proofs.lemmas.Bool.Decides.{nat_tests}
use Rattle.agg_terms.specs.Values.{Event}
use Rattle.agg_terms.specs.Lists.{Each, NotFalling}
use Rattle.agg_terms.specs.Trees.{by_time}
use Rattle.std.specs.Ordering.{is_le, nat_cmp}
use Rattle.agg_meaning.specs.Events.{is_in, funnel_level}
use Rattle.window_funnel.specs.proving.Starts.{longest, with_event}
use Rattle.window_funnel.proofs.Reaches.{after, reach, level-begun}
use Rattle.window_funnel.proofs.Tables.{reaches, gains, best, AllFrom, best-event, best-least, best-table}

-- an event of the same time doesn't follow
and_false : (a b c : Bool) → c ≡ false → a && (b && c) ≡ false
and_false false b c h = refl
and_false true false c h = refl
and_false true true c h = h

reach-tied : (window i start t : ℕ) (e : Event) (es : List Event) → e.time ≤ t → reach window true i start (suc t) (e ∷ es) ≡ reach window true i start (suc t) es
reach-tied window i start t e es l =
    ap (λ b. max (cond b (reach window true (suc i) start (suc e.time) es) 0) (reach window true i start (suc t) es)) (and_false (is_in i e.mask) (nat_le e.time (start + window)) (nat_le (suc t) e.time) (lt-leb (suc t) e.time (omega arith)))
    ∙ omega arith

gains-tied : (window i : ℕ) (p e : Event) (xs : List (Option ℕ)) (es : List Event) → e.time ≤ p.time → gains window true p i xs (e ∷ es) ≡ gains window true p i xs es
gains-tied window i p e [] es l = refl
gains-tied window i p e (None ∷ xs) es l = gains-tied window (suc i) p e xs es l
gains-tied window i p e (Some start ∷ xs) es l =
    ap₂ (λ n m. max (cond (is_in i p.mask && nat_le p.time (start + window)) n 0) m)
    (reach-tied window (suc i) start p.time e es l)
    (gains-tied window (suc i) p e xs es l)

-- the conditions that either of two events meets
is_in-max : (x y : ℕ) → x < 2 → y < 2 → nat_eq (max x y) 1 ≡ nat_eq x 1 || nat_eq y 1
is_in-max zero y l m = ap (λ n. nat_eq n 1) (omega arith)
is_in-max (suc zero) zero l m = refl
is_in-max (suc zero) (suc zero) l m = refl
is_in-max (suc zero) (suc (suc y)) l m = absurd (omega arith)
is_in-max (suc (suc x)) y l m = absurd (omega arith)

is_in-or : (i m n : ℕ) → is_in i (bit_or m n) ≡ is_in i m || is_in i n
is_in-or i m n = ap (λ k. nat_eq k 1) (bit_at_or m n i) ∙ is_in-max ((m / 2 ^ i) % 2) ((n / 2 ^ i) % 2) (omega arith) (omega arith)

cond-or : (a b c : Bool) (n : ℕ) → cond ((a || b) && c) n 0 ≡ max (cond (a && c) n 0) (cond (b && c) n 0)
cond-or true true true n = omega arith
cond-or true false true n = omega arith
cond-or false b c n = omega arith
cond-or true true false n = omega arith
cond-or true false false n = omega arith

abbrev pub joined : Event → Event → Event
joined p e = record { time = p.time; mask = bit_or p.mask e.mask }

gains-joined : (window : ℕ) (strict : Bool) (i : ℕ) (p e : Event) (xs : List (Option ℕ)) (es : List Event) → e.time ≡ p.time → gains window strict (joined p e) i xs es ≡ max (gains window strict p i xs es) (gains window strict e i xs es)
gains-joined window strict i p e [] es h = refl
gains-joined window strict i p e (None ∷ xs) es h = gains-joined window strict (suc i) p e xs es h
gains-joined window strict i p e (Some start ∷ xs) es h =
    let n = reach window strict (suc i) start (after strict p.time) es in
    let tests = nat_le p.time (start + window) in
    let met = ap (λ b. cond (b && tests) n 0) (is_in-or i p.mask e.mask) ∙ cond-or (is_in i p.mask) (is_in i e.mask) tests n in
    let at = ap (λ t. cond (is_in i e.mask && nat_le t (start + window)) (reach window strict (suc i) start (after strict t) es) 0) h in
    omega (arith, met, at, gains-joined window strict (suc i) p e xs es h)

-- the greatest length over all chains, where an event isn't in the table yet
abbrev pub level_with : ℕ → Bool → Event → List (Option ℕ) → List Event → ℕ
level_with window strict p xs es = max (best window strict p.time xs es) (gains window strict p 0 (Some p.time ∷ xs) es)

pub level-joined : (window : ℕ) (p e : Event) (xs : List (Option ℕ)) (es : List Event) → e.time ≡ p.time → level_with window true p xs (e ∷ es) ≡ level_with window true (joined p e) xs es
level-joined window p e xs es h =
    let a = best-event window true p.time xs e es (omega arith) in
    let b = gains-tied window 0 p e (Some p.time ∷ xs) es (omega arith) in
    let c = gains-joined window true 0 p e (Some p.time ∷ xs) es h in
    let d = ap (λ t. gains window true e 0 (Some t ∷ xs) es) h in
    omega arith

pub level-next : (window : ℕ) (strict : Bool) (p e : Event) (xs : List (Option ℕ)) (es : List Event) → is_in (length xs) p.mask ≡ false → after strict p.time ≤ e.time → p.time ≤ e.time → AllFrom e.time es → level_with window strict p xs (e ∷ es) ≡ level_with window strict e (with_event window p 0 (Some p.time) xs) es
level-next window strict p e xs es m l k h =
    let next = with_event window p 0 (Some p.time) xs in
    let a : best window strict p.time xs (e ∷ es) ≡ best window strict e.time xs (e ∷ es) = best-least window strict p.time e.time xs (e ∷ es) k (omega arith, h) in
    let b : best window strict (after strict p.time) xs (e ∷ es) ≡ best window strict e.time xs (e ∷ es) = best-least window strict (after strict p.time) e.time xs (e ∷ es) l (omega arith, h) in
    let c = best-table window strict p xs (e ∷ es) m in
    let d : best window strict (after strict p.time) next (e ∷ es) ≡ best window strict e.time next (e ∷ es) = best-least window strict (after strict p.time) e.time next (e ∷ es) l (omega arith, h) in
    let f = best-event window strict e.time next e es (omega arith) in
    omega arith

-- the end
reaches-longest : (window : ℕ) (strict : Bool) (least i : ℕ) (xs : List (Option ℕ)) → reaches window strict least i xs [] ≡ longest i xs
reaches-longest window strict least i [] = refl
reaches-longest window strict least i (None ∷ xs) = reaches-longest window strict least (suc i) xs
reaches-longest window strict least i (Some start ∷ xs) = ap (max i) (reaches-longest window strict least (suc i) xs)

pub level-end : (window : ℕ) (strict : Bool) (p : Event) (xs : List (Option ℕ)) → is_in (length xs) p.mask ≡ false → level_with window strict p xs [] ≡ longest 1 (with_event window p 0 (Some p.time) xs)
level-end window strict p xs m =
    let a = best-table window strict p xs [] m in
    let b = reaches-longest window strict (after strict p.time) 1 (with_event window p 0 (Some p.time) xs) in
    let c = reaches-longest window strict (after strict p.time) 1 xs in
    let d = reaches-longest window strict p.time 1 xs in
    omega arith

-- the beginning
reaches-none : (window : ℕ) (strict : Bool) (least i n : ℕ) (es : List Event) → reaches window strict least i (replicate n None) es ≡ 0
reaches-none window strict least i zero es = refl
reaches-none window strict least i (suc n) es = reaches-none window strict least (suc i) n es

none_in : (i : ℕ) → is_in i 0 ≡ false
none_in i = ap (λ k. nat_eq k 1) (bit_at-zero i)

gains-none : (window : ℕ) (strict : Bool) (t i : ℕ) (xs : List (Option ℕ)) (es : List Event) → gains window strict (record { time = t; mask = 0 }) i xs es ≡ 0
gains-none window strict t i [] es = refl
gains-none window strict t i (None ∷ xs) es = gains-none window strict t (suc i) xs es
gains-none window strict t i (Some start ∷ xs) es =
    ap₂ (λ b n. max (cond (b && nat_le t (start + window)) (reach window strict (suc i) start (after strict t) es) 0) n) (none_in i) (gains-none window strict t (suc i) xs es)

pub level-start : (window : ℕ) (strict : Bool) (n : ℕ) (es : List Event) → funnel_level window strict es ≡ level_with window strict (record { time = 0; mask = 0 }) (replicate n None) es
level-start window strict n es =
    omega (arith, level-begun window strict es, reaches-none window strict 0 1 n es, gains-none window strict 0 0 (Some 0 ∷ replicate n None) es)

-- events in order, none before this time
abbrev pub InOrder : ℕ → List Event → Type 0
InOrder from [] = Unit {0}
InOrder from (e ∷ es) = (from ≤ e.time) × InOrder e.time es

all_from : (from t : ℕ) (es : List Event) → from ≤ t → InOrder t es → AllFrom from es
all_from from t [] l h = tt
all_from from t (e ∷ es) l h = (omega (arith, h.0), all_from from e.time es (omega (arith, h.0)) h.1)

pub in_order : (es : List Event) → NotFalling by_time es → InOrder 0 es
in_order [] h = tt
in_order (e ∷ es) h = (omega arith, go e es h)
  where
    below : (a b : ℕ) → is_le (nat_cmp a b) ≡ true → a ≤ b
    below a b h = grind (arith, nat_tests)

    go : (e : Event) (es : List Event) → NotFalling by_time (e ∷ es) → InOrder e.time es
    go e [] h = tt
    go e (d ∷ es) h = (below e.time d.time h.0, go d es h.1)

-- masks within n conditions
outside : (n mask : ℕ) → mask < 2 ^ n → is_in n mask ≡ false
outside n mask l = ap (λ k. nat_eq (k % 2) 1) (div-eq_of_lt l)

length-with_event : (window : ℕ) (p : Event) (i : ℕ) (x : Option ℕ) (xs : List (Option ℕ)) → length (with_event window p i x xs) ≡ length xs
length-with_event window p i x [] = refl
length-with_event window p i x (y ∷ xs) = ap suc (length-with_event window p (suc i) y xs)

-- what holds before each event
pub record Going (window : ℕ) (strict : Bool) (n : ℕ) (whole : ℕ) (p : Event) (xs : List (Option ℕ)) (es : List Event) : Type 0 where
  pub size : length xs ≡ n
  pub fits : p.mask < 2 ^ n
  pub level : whole ≡ level_with window strict p xs es
  pub all_fit : Each (λ e. e.mask < 2 ^ n) es
  pub ordered : InOrder p.time es

pub going-joined : (window : ℕ) (strict : Bool) (n whole : ℕ) (p e : Event) (xs : List (Option ℕ)) (es : List Event) → Going window strict n whole p xs (e ∷ es) → strict ≡ true → e.time ≡ p.time → Going window strict n whole (joined p e) xs es
going-joined window true n whole p e xs es g s h = record {
  size = g.size;
  fits = or_lt n p.mask e.mask g.fits g.all_fit.0;
  level = g.level ∙ level-joined window p e xs es h;
  all_fit = g.all_fit.1;
  ordered = subst (λ t. InOrder t es) h g.ordered.1;
}
going-joined window false n whole p e xs es g s h = absurd (cc s)

after_le : (strict : Bool) (t u : ℕ) → t ≤ u → (strict ≡ true → t ≢ u) → after strict t ≤ u
after_le true t u l h = let apart : t ≢ u = h refl in omega arith
after_le false t u l h = omega arith

pub going-next : (window : ℕ) (strict : Bool) (n whole : ℕ) (p e : Event) (xs : List (Option ℕ)) (es : List Event) → Going window strict n whole p xs (e ∷ es) → (strict ≡ true → p.time ≢ e.time) → Going window strict n whole e (with_event window p 0 (Some p.time) xs) es
going-next window strict n whole p e xs es g h = record {
  size = length-with_event window p 0 (Some p.time) xs ∙ g.size;
  fits = g.all_fit.0;
  level =
      g.level
      ∙ level-next window strict p e xs es (ap (λ k. is_in k p.mask) g.size ∙ outside n p.mask g.fits) (after_le strict p.time e.time g.ordered.0 h) g.ordered.0 (all_from e.time e.time es (omega arith) g.ordered.1);
  all_fit = g.all_fit.1;
  ordered = g.ordered.1;
}

pub going-end : (window : ℕ) (strict : Bool) (n whole : ℕ) (p : Event) (xs : List (Option ℕ)) → Going window strict n whole p xs [] → longest 1 (with_event window p 0 (Some p.time) xs) ≡ whole
going-end window strict n whole p xs g =
    sym (g.level ∙ level-end window strict p xs (ap (λ k. is_in k p.mask) g.size ∙ outside n p.mask g.fits))

-- as many unknown first times as there are conditions
pub front_blank : (n m : ℕ) → take n (replicate {A = Option ℕ} m None) ≡ replicate (length (take n (replicate {A = Option ℕ} m None))) None
front_blank zero m = refl
front_blank (suc n) zero = refl
front_blank (suc n) (suc m) = ap (◌∷◌ None) (front_blank n m)

pub going-start : (window : ℕ) (strict : Bool) (xs : List (Option ℕ)) (es : List Event) → xs ≡ replicate (length xs) None → Each (λ e. e.mask < 2 ^ length xs) es → NotFalling by_time es → Going window strict (length xs) (funnel_level window strict es) (record { time = 0; mask = 0 }) xs es
going-start window strict xs es blank fit order = record {
  size = refl;
  fits = pow_pos (length xs);
  level =
      level-start window strict (length xs) es
      ∙ ap (λ ys. level_with window strict (record { time = 0; mask = 0 }) ys es) (sym blank);
  all_fit = fit;
  ordered = in_order es order;
}
