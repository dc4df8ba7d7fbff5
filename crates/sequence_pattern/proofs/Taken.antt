-- What a place that is taken leaves of the fronts.
use Rattle.std.proofs.Common.{◌≡◌, ℕ, zero, suc, ◌+◌, ◌-◌, ◌<◌, ◌≤◌, Bool, true, false, cond, ◌&&◌, ◌||◌, List, [], ◌∷◌, ◌++◌, length, get_or, set, take, drop, append-nil, Option, Some, None, ◌⊎◌, inl, inr, refl, sym, ap, ap₂, ◌∙◌, arith, subst}
use Rattle.std.specs.Prelude.{nat_eq, nat_lt, nat_le}
use borrow.Rule.Slice.PartMut.{put_mid}
use Rattle.std.proofs.lemmas.List.{drop_all}
use Rattle.std.proofs.lemmas.Bool.{cases_lt}
use Rattle.std.proofs.lemmas.Bool.Decides.{nat_tests}
use Rattle.agg_terms.specs.Chains.{Above, Any, At, AtOrAbove, Below, BelowOrAt, Gap, Next, PatItem, PatLink, Time}
use Rattle.agg_terms.specs.Values.{Event}
use Rattle.agg_meaning.specs.Events.{linked, meets}
use Rattle.sequence_pattern.specs.declared.front.Front.{Front}
use Rattle.sequence_pattern.specs.declared.front.Seen.{Seen}
use Rattle.sequence_pattern.specs.proving.Hits.{any_below, spot, goes_on, hit}
use Rattle.sequence_pattern.specs.proving.Fronts.{time_at, seen_with, seen_below, allowed, comes_first, IsBehind, AreFronts, next_place}
use Rattle.sequence_pattern.proofs.Seen.{Rises, allowed-below}

-- a place that comes first lies before
first_before : (es : List Event) (link : PatLink) (q p : ℕ) → comes_first es link q p ≡ true → q < p
first_before es Next q p h = grind (arith, nat_tests)
first_before es Gap q p h = grind (arith, nat_tests)
first_before es (Time Below v) q p h = grind (arith, nat_tests)
first_before es (Time BelowOrAt v) q p h = grind (arith, nat_tests)
first_before es (Time At v) q p h = grind (arith, nat_tests)
first_before es (Time AtOrAbove v) q p h = grind (arith, nat_tests)
first_before es (Time Above v) q p h = grind (arith, nat_tests)

-- what comes first for a place does so for the next
first_next : (es : List Event) (link : PatLink) (q p : ℕ) → Rises es → suc p < length es → comes_first es link q p ≡ true → comes_first es link q (suc p) ≡ true
first_next es Next q p up l h = grind (arith, nat_tests)
first_next es Gap q p up l h = grind (arith, nat_tests)
first_next es (Time Below v) q p up l h = grind (arith, nat_tests)
first_next es (Time BelowOrAt v) q p up l h = grind (arith, nat_tests)
first_next es (Time At v) q p up l h = go (time_at es p) (time_at es (suc p)) (up p (suc p) (omega arith) l) h
  where
    go : (s t : ℕ) → s ≤ t → nat_lt q p && nat_le v (s - time_at es q) ≡ true → nat_lt q (suc p) && nat_le v (t - time_at es q) ≡ true
    go s t k h = grind (arith, nat_tests)
first_next es (Time AtOrAbove v) q p up l h = grind (arith, nat_tests)
first_next es (Time Above v) q p up l h = grind (arith, nat_tests)

-- from the first place that comes late on no hit goes on
late : (es : List Event) (link : PatLink) (m q p : ℕ) → Rises es → p < length es → comes_first es link m p ≡ false → m ≤ q → q < p → linked link (spot es q) (spot es p) ≡ false
late es Next m q p up l h a b = absurd (grind (arith, nat_tests))
late es Gap m q p up l h a b = absurd (grind (arith, nat_tests))
late es (Time Below v) m q p up l h a b = absurd (grind (arith, nat_tests))
late es (Time BelowOrAt v) m q p up l h a b = absurd (grind (arith, nat_tests))
late es (Time At v) m q p up l h a b = go (time_at es m) (time_at es q) (time_at es p) (up m q a (omega arith)) h
  where
    go : (r s t : ℕ) → r ≤ s → nat_lt m p && nat_le v (t - r) ≡ false → nat_eq (t - s) v ≡ false
    go r s t k h = grind (arith, nat_tests)
late es (Time AtOrAbove v) m q p up l h a b = absurd (grind (arith, nat_tests))
late es (Time Above v) m q p up l h a b = absurd (grind (arith, nat_tests))

any_below-cut : (m d : ℕ) (f : ℕ → Bool) → ((q : ℕ) → m ≤ q → q < d + m → f q ≡ false) → any_below (d + m) f ≡ any_below m f
any_below-cut m zero f h = let e : 0 + m ≡ m = omega arith in ap (λ n. any_below n f) e
any_below-cut m (suc d) f h =
    let e : suc d + m ≡ suc (d + m) = omega arith in
    ap (λ n. any_below n f) e
    ∙ ap₂ ◌||◌ (h (d + m) (omega arith) (omega arith)) (any_below-cut m d f (λ q a b. h q a (omega arith)))

and_false : (a b : Bool) → b ≡ false → a && b ≡ false
and_false true b h = h
and_false false b h = refl

goes_on-cut : (es : List Event) (link : PatLink) (hits : ℕ → Bool) (m p : ℕ) → Rises es → p < length es → m ≤ p → comes_first es link m p ≡ false → goes_on es link hits p p ≡ goes_on es link hits m p
goes_on-cut es link hits m p up l k h =
    let e : p ≡ (p - m) + m = omega arith in
    ap (λ n. goes_on es link hits n p) e
    ∙ any_below-cut m (p - m) (λ q. hits q && linked link (spot es q) (spot es p)) (λ q a b. and_false (hits q) (linked link (spot es q) (spot es p)) (late es link m q p up l h a (omega arith)))

-- the hit of an item, by the front of the item before
pub hit-front : (items : List PatItem) (links : List PatLink) (es : List Event) (p : ℕ) (f g : Front) (fs : List Front) → Rises es → f.next ≡ p → p < length es → AreFronts items links es (f ∷ g ∷ fs) → comes_first es (get_or links (length fs) Next) g.next p ≡ false → hit items links es (suc (length fs)) p ≡ meets (get_or items (suc (length fs)) Any) (spot es p).1 && allowed (get_or links (length fs) Next) g.seen p (time_at es p)
hit-front items links es p f g fs up e l h late =
    let link = get_or links (length fs) Next in
    let hits = hit items links es (length fs) in
    let first : (q : ℕ) → q < g.next → comes_first es link q p ≡ true = λ q k. subst (λ n. comes_first es link q n ≡ true) e (h.2 q k (omega arith)) in
    let within : g.next ≤ p = below g.next p (λ q k. first_before es link q p (first q k)) in
    ap (λ b. meets (get_or items (suc (length fs)) Any) (spot es p).1 && b) (goes_on-cut es link hits g.next p up l within late ∙ sym (ap (λ x. allowed link x p (time_at es p)) h.3.0 ∙ allowed-below es link hits g.next p up within l first))
  where
    below : (n p : ℕ) → ((q : ℕ) → q < n → q < p) → n ≤ p
    below zero p h = omega arith
    below (suc n) p h = h n (omega arith)

-- the fronts after it
pub fronts-next : (items : List PatItem) (links : List PatLink) (es : List Event) (f f' : Front) (fs : List Front) → Rises es → f.next < length es → AreFronts items links es (f ∷ fs) → f'.next ≡ f.next + 1 → f'.seen ≡ cond (hit items links es (length fs) f.next) (Some (seen_with f.seen f.next (time_at es f.next))) f.seen → AreFronts items links es (f' ∷ fs)
fronts-next items links es f f' fs up l h n s = (
  s ∙ ap (λ x. cond (hit items links es (length fs) f.next) (Some (seen_with x f.next (time_at es f.next))) x) h.0 ∙ sym (ap (seen_below es (hit items links es (length fs))) next),
  omega arith,
  behind fs h.2,
  h.3,
)
  where
    next : f'.next ≡ suc f.next
    next = omega arith

    behind : (fs : List Front) → IsBehind links es f fs → IsBehind links es f' fs
    behind [] b = tt
    behind (g ∷ gs) b = λ q k m. subst (λ p. comes_first es (get_or links (length gs) Next) q p ≡ true) (sym next) (first_next es (get_or links (length gs) Next) q f.next up (omega arith) (b q k l))

-- the fronts before it, when the first of them has taken one more place that comes first
pub behind-more : (links : List PatLink) (es : List Event) (f : Front) (fs fs' : List Front) (k : ℕ) → length fs ≡ suc k → length fs' ≡ suc k → IsBehind links es f fs → next_place fs' ≡ next_place fs + 1 → comes_first es (get_or links k Next) (next_place fs) f.next ≡ true → IsBehind links es f fs'
behind-more links es f [] fs' k a b h n c = absurd (omega arith)
behind-more links es f (g ∷ gs) [] k a b h n c = tt
behind-more links es f (g ∷ gs) (g' ∷ gs') k a b h n c =
    let same : length gs ≡ length gs' = omega arith in
    let here : k ≡ length gs' = omega arith in
    λ q l m. go q (cases_lt q g.next) l (subst (λ j. (q < g.next → comes_first es (get_or links j Next) q f.next ≡ true)) same (λ l. h q l m)) (subst (λ j. comes_first es (get_or links j Next) g.next f.next ≡ true) here c)
  where
    go : (q : ℕ) → (q < g.next) ⊎ (g.next ≤ q) → q < g'.next → (q < g.next → comes_first es (get_or links (length gs') Next) q f.next ≡ true) → comes_first es (get_or links (length gs') Next) g.next f.next ≡ true → comes_first es (get_or links (length gs') Next) q f.next ≡ true
    go q (inl l) r before now = before l
    go q (inr l) r before now =
        let e : g.next ≡ q = omega arith in
        subst (λ n. comes_first es (get_or links (length gs') Next) n f.next ≡ true) e now

pub next_place-first : (fronts : List Front) → next_place fronts ≡ (get_or fronts 0 (record { next = 0; seen = None })).next
next_place-first [] = refl
next_place-first (f ∷ fs) = refl

-- the fronts with those before the first put back
put_back : (f : Front) (fs ys : List Front) (k : ℕ) → length fs ≤ k → put_mid 1 k (f ∷ fs) ys ≡ f ∷ ys
put_back f fs ys k l = ap (λ zs. f ∷ (ys ++ zs)) (drop_all k fs l) ∙ ap (λ zs. f ∷ zs) (append-nil ys)

pub going : (items : List PatItem) (links : List PatLink) (es : List Event) (p k : ℕ) (fronts new : List Front) → 0 < k → length fronts - 1 ≡ k → AreFronts items links es fronts → next_place fronts ≡ p → comes_first es (get_or links (k - 1) Next) (get_or fronts 1 (record { next = 0; seen = None })).next p ≡ true → AreFronts items links es new → next_place new ≡ next_place (take k (drop 1 fronts)) + 1 → length new ≡ k → (next_place (put_mid 1 k fronts new) ≡ p) × AreFronts items links es (put_mid 1 k fronts new)
going items links es p k [] new z l a n c b m s = absurd (omega arith)
going items links es p k (f ∷ []) new z l a n c b m s = absurd (omega arith)
going items links es p k (f ∷ g ∷ gs) new z l a n c b m s =
    let size : suc (length gs) ≡ k = omega arith in
    let one : k - 1 ≡ length gs = omega arith in
    let first : comes_first es (get_or links (length gs) Next) g.next f.next ≡ true = ap₂ (λ j q. comes_first es (get_or links j Next) g.next q) (sym one) n ∙ c in
    let more : next_place new ≡ g.next + 1 = m ∙ ap (λ j. next_place (take j (g ∷ gs)) + 1) (sym size) in
    let whole = put_back f (g ∷ gs) new k (omega arith) in
    let behind = behind-more links es f (g ∷ gs) new (length gs) refl (s ∙ sym size) a.2 more first in
    let here : length new ≡ suc (length gs) = s ∙ sym size in (
      ap next_place whole ∙ n,
      subst (AreFronts items links es) (sym whole) (subst (λ j. f.seen ≡ seen_below es (hit items links es j) f.next) (sym here) a.0, a.1, behind, b),
    )

pub hit-later : (items : List PatItem) (links : List PatLink) (es : List Event) (p k : ℕ) (fronts : List Front) → 0 < k → length fronts - 1 ≡ k → Rises es → p < length es → AreFronts items links es fronts → next_place fronts ≡ p → comes_first es (get_or links (k - 1) Next) (get_or fronts 1 (record { next = 0; seen = None })).next p ≡ false → hit items links es k p ≡ meets (get_or items k Any) (spot es p).1 && allowed (get_or links (k - 1) Next) (get_or fronts 1 (record { next = 0; seen = None })).seen p (time_at es p)
hit-later items links es p k [] z l up m a n c = absurd (omega arith)
hit-later items links es p k (f ∷ []) z l up m a n c = absurd (omega arith)
hit-later items links es p k (f ∷ g ∷ gs) z l up m a n c =
    let size : suc (length gs) ≡ k = omega arith in
    let one : length gs ≡ k - 1 = omega arith in
    let late : comes_first es (get_or links (length gs) Next) g.next p ≡ false = ap (λ j. comes_first es (get_or links j Next) g.next p) one ∙ c in
    ap (λ j. hit items links es j p) (sym size)
    ∙ hit-front items links es p f g gs up n m a late
    ∙ ap₂ (λ i j. meets (get_or items i Any) (spot es p).1 && allowed (get_or links j Next) g.seen p (time_at es p)) size one

pub done : (items : List PatItem) (links : List PatLink) (es : List Event) (p k : ℕ) (fronts : List Front) (b : Bool) (seen : Option Seen) → 0 < length fronts → length fronts - 1 ≡ k → Rises es → p < length es → AreFronts items links es fronts → next_place fronts ≡ p → hit items links es k p ≡ b → seen ≡ cond b (Some (seen_with (get_or fronts 0 (record { next = 0; seen = None })).seen p (time_at es p))) (get_or fronts 0 (record { next = 0; seen = None })).seen → AreFronts items links es (set fronts 0 (record { next = p + 1; seen = seen }))
done items links es p k [] b seen z l up m a n h s = absurd (omega arith)
done items links es p k (f ∷ fs) b seen z l up m a n h s =
    let size : length fs ≡ k = omega arith in
    let hits : b ≡ hit items links es (length fs) f.next = sym (ap₂ (λ j q. hit items links es j q) size n ∙ h) in
    let within : f.next < length es = omega arith in
    fronts-next items links es f (record { next = p + 1; seen = seen }) fs up within a (ap (λ q. q + 1) (sym n)) (s ∙ ap₂ (λ c q. cond c (Some (seen_with f.seen q (time_at es q))) f.seen) hits (sym n))
