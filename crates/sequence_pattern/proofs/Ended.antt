-- Where the search begins and ends.
use Rattle.std.proofs.Common.{◌≡◌, ℕ, zero, suc, ◌+◌, ◌-◌, ◌≤◌, Bool, true, false, cond, ◌||◌, List, [], ◌∷◌, length, get_or, take, replicate, Some, None, refl, sym, ap, ◌∙◌, arith, subst}
use Rattle.std.specs.Prelude.{is_some}
use Rattle.agg_terms.specs.Chains.{PatItem, PatLink}
use Rattle.agg_terms.specs.Values.{Event}
use Rattle.sequence_pattern.specs.declared.front.Front.{Front}
use Rattle.sequence_pattern.specs.proving.Hits.{any_below, hit}
use Rattle.sequence_pattern.specs.proving.Fronts.{seen_with, seen_below, time_at, AreFronts, next_place}

abbrev blank : Front
blank = record { next = 0; seen = None }

pub front_blank : (n m : ℕ) → take n (replicate {A = Front} m (record { next = 0; seen = None })) ≡ replicate (length (take n (replicate {A = Front} m (record { next = 0; seen = None })))) (record { next = 0; seen = None })
front_blank zero m = refl
front_blank (suc n) zero = refl
front_blank (suc n) (suc m) = ap (◌∷◌ blank) (front_blank n m)

blank_fronts : (items : List PatItem) (links : List PatLink) (es : List Event) (n : ℕ) → AreFronts items links es (replicate n (record { next = 0; seen = None }))
blank_fronts items links es zero = tt
blank_fronts items links es (suc zero) = (refl, omega arith, tt, tt)
blank_fronts items links es (suc (suc n)) =
    (refl, omega arith, λ q l m. absurd (omega arith), blank_fronts items links es (suc n))

pub blank_are_fronts : (items : List PatItem) (links : List PatLink) (es : List Event) (fronts : List Front) → fronts ≡ replicate (length fronts) (record { next = 0; seen = None }) → AreFronts items links es fronts
blank_are_fronts items links es fronts h =
    subst (AreFronts items links es) (sym h) (blank_fronts items links es (length fronts))

some-below : (es : List Event) (hits : ℕ → Bool) (n : ℕ) → is_some (seen_below es hits n) ≡ any_below n hits
some-below es hits zero = refl
some-below es hits (suc n) = go (hits n) (some-below es hits n)
  where
    go : (b : Bool) → is_some (seen_below es hits n) ≡ any_below n hits → is_some (cond b (Some (seen_with (seen_below es hits n) n (time_at es n))) (seen_below es hits n)) ≡ b || any_below n hits
    go true e = refl
    go false e = e

any_below-more : (hits : ℕ → Bool) (n d : ℕ) → any_below n hits ≡ true → any_below (d + n) hits ≡ true
any_below-more hits n zero h = let e : 0 + n ≡ n = omega arith in ap (λ k. any_below k hits) e ∙ h
any_below-more hits n (suc d) h =
    let e : suc d + n ≡ suc (d + n) = omega arith in
    ap (λ k. any_below k hits) e ∙ ap (λ b. hits (d + n) || b) (any_below-more hits n d h) ∙ or_true (hits (d + n))
  where
    or_true : (b : Bool) → b || true ≡ true
    or_true true = refl
    or_true false = refl

-- a front that has a hit, or has taken all places
pub whole : (items : List PatItem) (links : List PatLink) (es : List Event) (k : ℕ) (fronts : List Front) → length fronts ≡ suc k → AreFronts items links es fronts → (is_some (get_or fronts 0 (record { next = 0; seen = None })).seen ≡ false → length es ≤ next_place fronts) → is_some (get_or fronts 0 (record { next = 0; seen = None })).seen ≡ any_below (length es) (hit items links es k)
whole items links es k [] l a h = absurd (omega arith)
whole items links es k (f ∷ fs) l a h =
    let size : length fs ≡ k = omega arith in
    go (is_some f.seen) refl (ap is_some a.0 ∙ some-below es (hit items links es (length fs)) f.next ∙ ap (λ j. any_below f.next (hit items links es j)) size) h
  where
    go : (b : Bool) → is_some f.seen ≡ b → is_some f.seen ≡ any_below f.next (hit items links es k) → (is_some f.seen ≡ false → length es ≤ f.next) → is_some f.seen ≡ any_below (length es) (hit items links es k)
    go true e s h =
        let more = any_below-more (hit items links es k) f.next (length es - f.next) (sym s ∙ e) in
        let all : (length es - f.next) + f.next ≡ length es = omega (arith, a.1) in
        e ∙ sym (ap (λ n. any_below n (hit items links es k)) (sym all) ∙ more)
    go false e s h =
        let past = h e in
        let all : f.next ≡ length es = omega (arith, a.1) in
        s ∙ ap (λ n. any_below n (hit items links es k)) all
