-- The earliest and the latest hit say whether some hit goes on to a place.
use Rattle.std.proofs.Common.{◌≡◌, ℕ, zero, suc, ◌-◌, ◌<◌, ◌≤◌, Bool, true, false, cond, ◌&&◌, ◌||◌, List, [], ◌∷◌, length, Option, Some, None, refl, sym, ap, ap₂, ◌∙◌, arith}
use Rattle.std.specs.Prelude.{nat_eq, nat_lt, nat_le}
use Rattle.std.specs.Ordering.{is_le, nat_cmp}
use Rattle.std.proofs.lemmas.Bool.Decides.{nat_tests}
use Rattle.agg_terms.specs.Lists.{NotFalling}
use Rattle.agg_terms.specs.Trees.{by_time}
use Rattle.agg_terms.specs.Chains.{Above, At, AtOrAbove, Below, BelowOrAt, Gap, Next, PatLink, Time}
use Rattle.agg_terms.specs.Values.{Event}
use Rattle.sequence_pattern.specs.declared.front.Seen.{Seen}
use Rattle.sequence_pattern.specs.proving.Hits.{any_below, goes_on}
use Rattle.sequence_pattern.specs.proving.Fronts.{time_at, seen_with, seen_below, allowed, allowed_after, comes_first}
use Rattle.sequence_pattern.proofs.Below.{any_below-none}

-- times don't fall
abbrev pub Rises : List Event → Type 0
Rises es = (q r : ℕ) → q ≤ r → r < length es → time_at es q ≤ time_at es r

pub rises : (es : List Event) → NotFalling by_time es → Rises es
rises [] h q r l k = absurd (omega arith)
rises (e ∷ es) h zero zero l k = omega arith
rises (e ∷ []) h zero (suc r) l k = absurd (omega arith)
rises (e ∷ f ∷ es) h zero (suc r) l k =
    let first = below e.time f.time h.0 in
    let later = rises (f ∷ es) h.1 zero r (omega arith) (omega arith) in
    omega arith
  where
    below : (a b : ℕ) → is_le (nat_cmp a b) ≡ true → a ≤ b
    below a b h = grind (arith, nat_tests)
rises (e ∷ es) h (suc q) zero l k = absurd (omega arith)
rises (e ∷ []) h (suc q) (suc r) l k = absurd (omega arith)
rises (e ∷ f ∷ es) h (suc q) (suc r) l k = rises (f ∷ es) h.1 q r (omega arith) (omega arith)

-- tests of the latest hit
abbrev of_latest : (ℕ → Bool) → Option Seen → Bool
of_latest test None = false
of_latest test (Some seen) = test seen.latest

abbrev of_earliest : (ℕ → Bool) → Option Seen → Bool
of_earliest test None = false
of_earliest test (Some seen) = test seen.earliest

and_none : (a b : Bool) → (b ≡ true → ⊥) → a && b ≡ false
and_none false b h = refl
and_none true true h = absurd (h refl)
and_none true false h = refl

latest-below : (es : List Event) (hits : ℕ → Bool) (test : ℕ → Bool) (n : ℕ) → ((q r : ℕ) → q ≤ r → r < n → test (time_at es q) ≡ true → test (time_at es r) ≡ true) → of_latest test (seen_below es hits n) ≡ any_below n (λ q. hits q && test (time_at es q))
latest-below es hits test zero up = refl
latest-below es hits test (suc n) up =
    go (hits n) (test (time_at es n)) refl (latest-below es hits test n (λ q r l k. up q r l (omega arith)))
  where
    none : test (time_at es n) ≡ false → any_below n (λ q. hits q && test (time_at es q)) ≡ false
    none e = any_below-none n (λ q. hits q && test (time_at es q)) (λ q l. and_none (hits q) (test (time_at es q)) (λ t. cc (up q n (omega arith) (omega arith) t, e)))

    go : (b c : Bool) → test (time_at es n) ≡ c → of_latest test (seen_below es hits n) ≡ any_below n (λ q. hits q && test (time_at es q)) → of_latest test (cond b (Some (seen_with (seen_below es hits n) n (time_at es n))) (seen_below es hits n)) ≡ (b && test (time_at es n)) || any_below n (λ q. hits q && test (time_at es q))
    go false c e before = before
    go true true e before = e ∙ sym (ap (λ t. t || any_below n (λ q. hits q && test (time_at es q))) e)
    go true false e before = e ∙ sym (ap₂ ◌||◌ e (none e))

Found : List Event → ℕ → Option Seen → Type 0
Found es n None = Unit {0}
Found es n (Some seen) = (q : ℕ) × (q < n) × (seen.earliest ≡ time_at es q)

found : (es : List Event) (hits : ℕ → Bool) (n : ℕ) → Found es n (seen_below es hits n)
unfolding Found
found es hits zero = tt
found es hits (suc n) = go (hits n) (seen_below es hits n) (found es hits n)
  where
    go : (b : Bool) (x : Option Seen) → Found es n x → Found es (suc n) (cond b (Some (seen_with x n (time_at es n))) x)
    go true None f = (n, omega arith, refl)
    go true (Some s) f = (f.0, omega (arith, f.1), f.2)
    go false None f = tt
    go false (Some s) f = (f.0, omega (arith, f.1), f.2)

earliest-below : (es : List Event) (hits : ℕ → Bool) (test : ℕ → Bool) (n : ℕ) → ((q r : ℕ) → q ≤ r → r < n → test (time_at es r) ≡ true → test (time_at es q) ≡ true) → of_earliest test (seen_below es hits n) ≡ any_below n (λ q. hits q && test (time_at es q))
unfolding Found
earliest-below es hits test zero down = refl
earliest-below es hits test (suc n) down =
    go (hits n) (seen_below es hits n) (found es hits n) (earliest-below es hits test n (λ q r l k. down q r l (omega arith)))
  where
    absorbed : (a b c : Bool) → (a ≡ true → b ≡ true) → b ≡ c → b ≡ a || c
    absorbed true b c h e = h refl
    absorbed false b c h e = e

    or_false : (a c : Bool) → false ≡ c → a ≡ a || c
    or_false true c e = refl
    or_false false c e = e

    go : (b : Bool) (x : Option Seen) → Found es n x → of_earliest test x ≡ any_below n (λ q. hits q && test (time_at es q)) → of_earliest test (cond b (Some (seen_with x n (time_at es n))) x) ≡ (b && test (time_at es n)) || any_below n (λ q. hits q && test (time_at es q))
    go false x f e = e
    go true None f e = or_false (test (time_at es n)) (any_below n (λ q. hits q && test (time_at es q))) e
    go true (Some s) f e =
        absorbed (test (time_at es n)) (test s.earliest) (any_below n (λ q. hits q && test (time_at es q))) (λ t. ap test f.2 ∙ down f.0 n (omega (arith, f.1)) (omega arith) t) e

-- each link, where the hits below n are known
gap-below : (es : List Event) (hits : ℕ → Bool) (n p time : ℕ) → allowed Gap (seen_below es hits n) p time ≡ any_below n (λ q. hits q && true)
gap-below es hits zero p time = refl
gap-below es hits (suc n) p time = go (hits n) (gap-below es hits n p time)
  where
    go : (b : Bool) → allowed Gap (seen_below es hits n) p time ≡ any_below n (λ q. hits q && true) → allowed Gap (cond b (Some (seen_with (seen_below es hits n) n (time_at es n))) (seen_below es hits n)) p time ≡ (b && true) || any_below n (λ q. hits q && true)
    go true e = refl
    go false e = e

next-below : (es : List Event) (hits : ℕ → Bool) (n p time : ℕ) → n ≤ p → allowed Next (seen_below es hits n) p time ≡ any_below n (λ q. hits q && nat_eq p (suc q))
next-below es hits zero p time l = refl
next-below es hits (suc n) p time l = go (hits n) (next-below es hits n p time (omega arith))
  where
    earlier : (q : ℕ) → q < n → nat_eq p (suc q) ≡ true → ⊥
    earlier q k e = absurd (grind (arith, nat_tests))

    or_none : (a c : Bool) → c ≡ false → a ≡ a || c
    or_none true c e = refl
    or_none false c e = sym e

    go : (b : Bool) → allowed Next (seen_below es hits n) p time ≡ any_below n (λ q. hits q && nat_eq p (suc q)) → allowed Next (cond b (Some (seen_with (seen_below es hits n) n (time_at es n))) (seen_below es hits n)) p time ≡ (b && nat_eq p (suc n)) || any_below n (λ q. hits q && nat_eq p (suc q))
    go true e = or_none (nat_eq p (suc n)) (any_below n (λ q. hits q && nat_eq p (suc q))) (any_below-none n (λ q. hits q && nat_eq p (suc q)) (λ q k. and_none (hits q) (nat_eq p (suc q)) (earlier q k)))
    go false e = e

allowed-latest : (link : PatLink) (test : ℕ → Bool) (x : Option Seen) (p time : ℕ) → ((s : Seen) → allowed_after link s p time ≡ test s.latest) → allowed link x p time ≡ of_latest test x
allowed-latest link test None p time h = refl
allowed-latest link test (Some s) p time h = h s

allowed-earliest : (link : PatLink) (test : ℕ → Bool) (x : Option Seen) (p time : ℕ) → ((s : Seen) → allowed_after link s p time ≡ test s.earliest) → allowed link x p time ≡ of_earliest test x
allowed-earliest link test None p time h = refl
allowed-earliest link test (Some s) p time h = h s

-- the hits below n say whether some of them goes on
pub allowed-below : (es : List Event) (link : PatLink) (hits : ℕ → Bool) (n p : ℕ) → Rises es → n ≤ p → p < length es → ((q : ℕ) → q < n → comes_first es link q p ≡ true) → allowed link (seen_below es hits n) p (time_at es p) ≡ goes_on es link hits n p
allowed-below es Next hits n p up l k first = next-below es hits n p (time_at es p) l
allowed-below es Gap hits n p up l k first = gap-below es hits n p (time_at es p)
allowed-below es (Time Below v) hits n p up l k first =
    let test = λ (t : ℕ). nat_lt (time_at es p - t) v in
    allowed-latest (Time Below v) test (seen_below es hits n) p (time_at es p) (λ s. refl)
    ∙ latest-below es hits test n (λ q r a b t. let x = up q r a (omega arith) in grind (arith, nat_tests))
allowed-below es (Time BelowOrAt v) hits n p up l k first =
    let test = λ (t : ℕ). nat_le (time_at es p - t) v in
    allowed-latest (Time BelowOrAt v) test (seen_below es hits n) p (time_at es p) (λ s. refl)
    ∙ latest-below es hits test n (λ q r a b t. let x = up q r a (omega arith) in grind (arith, nat_tests))
allowed-below es (Time At v) hits n p up l k first =
    let test = λ (t : ℕ). nat_eq (time_at es p - t) v in
    allowed-latest (Time At v) test (seen_below es hits n) p (time_at es p) (λ s. refl)
    ∙ latest-below es hits test n (λ q r a b t. exact (time_at es q) (time_at es r) (up q r a (omega arith)) (second (nat_lt r p) (nat_le v (time_at es p - time_at es r)) (first r b)) t)
  where
    second : (a b : Bool) → a && b ≡ true → b ≡ true
    second true b h = h
    second false b h = absurd (cc h)

    exact : (s t : ℕ) → s ≤ t → nat_le v (time_at es p - t) ≡ true → nat_eq (time_at es p - s) v ≡ true → nat_eq (time_at es p - t) v ≡ true
    exact s t x h e = grind (arith, nat_tests)
allowed-below es (Time AtOrAbove v) hits n p up l k first =
    let test = λ (t : ℕ). nat_le v (time_at es p - t) in
    allowed-earliest (Time AtOrAbove v) test (seen_below es hits n) p (time_at es p) (λ s. refl)
    ∙ earliest-below es hits test n (λ q r a b t. let x = up q r a (omega arith) in grind (arith, nat_tests))
allowed-below es (Time Above v) hits n p up l k first =
    let test = λ (t : ℕ). nat_lt v (time_at es p - t) in
    allowed-earliest (Time Above v) test (seen_below es hits n) p (time_at es p) (λ s. refl)
    ∙ earliest-below es hits test n (λ q r a b t. let x = up q r a (omega arith) in grind (arith, nat_tests))
