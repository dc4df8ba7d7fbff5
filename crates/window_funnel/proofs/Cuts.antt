-- The table asks for no condition beyond its places, so that events without those fill it the same.
use Rattle.std.proofs.Common.{◌≡◌, ℕ, suc, ◌+◌, ◌-◌, ◌%◌, ◌^◌, ◌<◌, ◌≤◌, min, Bool, true, cond, ◌&&◌, List, [], ◌∷◌, map, length, Option, Some, None, replicate, ◌≢◌, subst, refl, sym, ap, ap₂, ◌∙◌, arith, mod-eq_of_lt, mod-lt, pow_pos}
use Rattle.std.specs.Prelude.{nat_eq, nat_le}
use Rattle.std.specs.Int.{bit_at}
use Rattle.std.proofs.Math.Nat.{zero-mod}
use Rattle.std.proofs.lemmas.Nat.{and_mask, or_mod}
use Rattle.std.proofs.lemmas.Nat.Bits.{bit_at-lt, bit_at_and, bit_at_ones}
use Rattle.agg_terms.specs.Values.{Event}
use Rattle.agg_terms.specs.Lists.{Each, NotFalling}
use Rattle.agg_terms.specs.Trees.{by_time}
use Rattle.agg_meaning.specs.Events.{is_in, funnel_level}
use Rattle.window_funnel.specs.Conditions.{cut_to}
use Rattle.window_funnel.specs.proving.Starts.{later, lengthened, longest, with_event}
use Rattle.window_funnel.proofs.Joined.{Going, going-joined, going-next, going-end, going-start, joined}

-- the conditions below n stay
in_cut : (n i m : ℕ) → i < n → is_in i (m % 2 ^ n) ≡ is_in i m
in_cut n i m l = ap (λ k. nat_eq k 1) (ap (λ k. bit_at k i) (sym (and_mask m n)) ∙ bit_at_and m (2 ^ n - 1) i ∙ ap (min (bit_at m i)) (bit_at_ones n i l) ∙ least)
  where
    least : min (bit_at m i) 1 ≡ bit_at m i
    least = let small = bit_at-lt m i in omega arith

lengthened-cut_to : (window n i : ℕ) (p : Event) (x : Option ℕ) → i < n → lengthened window (cut_to n p) i x ≡ lengthened window p i x
lengthened-cut_to window n i p None l = refl
lengthened-cut_to window n i p (Some start) l = ap (λ b. cond (b && nat_le p.time (start + window)) (Some start) None) (in_cut n i p.mask l)

with_event-cut_to : (window n i : ℕ) (p : Event) (x : Option ℕ) (xs : List (Option ℕ)) → i + length xs ≤ n → with_event window (cut_to n p) i x xs ≡ with_event window p i x xs
with_event-cut_to window n i p x [] l = refl
with_event-cut_to window n i p x (y ∷ xs) l =
    ap₂ ◌∷◌ (ap (later y) (lengthened-cut_to window n i p x (omega arith))) (with_event-cut_to window n (suc i) p y xs (omega arith))

-- an event of a time and a mask
abbrev at : ℕ → ℕ → Event
at time mask = record { time = time; mask = mask }

each_cut : (n : ℕ) (es : List Event) → Each (λ e. e.mask < 2 ^ n) (map (cut_to n) es)
each_cut n [] = tt
each_cut n (e ∷ es) = (mod-lt e.mask (pow_pos n), each_cut n es)

order_cut : (n : ℕ) (es : List Event) → NotFalling by_time es → NotFalling by_time (map (cut_to n) es)
order_cut n [] h = tt
order_cut n (e ∷ []) h = tt
order_cut n (e ∷ d ∷ es) h = (h.0, order_cut n (d ∷ es) h.1)

-- events that meet no condition beyond are as before
pub cut_same : (n : ℕ) (es : List Event) → Each (λ e. e.mask < 2 ^ n) es → map (cut_to n) es ≡ es
cut_same n [] h = refl
cut_same n (e ∷ es) h = ap₂ (λ m l. at e.time m ∷ l) (mod-eq_of_lt h.0) (cut_same n es h.1)

-- what holds before each event, of the events without the conditions beyond
abbrev pub GoingCut : ℕ → Bool → ℕ → ℕ → Event → List (Option ℕ) → List Event → Type 0
GoingCut window strict n whole p xs es = Going window strict n whole (cut_to n p) xs (map (cut_to n) es)

pub cut_joined : (window : ℕ) (strict : Bool) (n whole : ℕ) (p e : Event) (xs : List (Option ℕ)) (es : List Event) → GoingCut window strict n whole p xs (e ∷ es) → strict ≡ true → e.time ≡ p.time → GoingCut window strict n whole (joined p e) xs es
cut_joined window strict n whole p e xs es g s h =
    subst (λ m. Going window strict n whole (at p.time m) xs (map (cut_to n) es)) (sym (or_mod p.mask e.mask n))
    (going-joined window strict n whole (cut_to n p) (cut_to n e) xs (map (cut_to n) es) g s h)

pub cut_next : (window : ℕ) (strict : Bool) (n whole : ℕ) (p e : Event) (xs : List (Option ℕ)) (es : List Event) → GoingCut window strict n whole p xs (e ∷ es) → (strict ≡ true → p.time ≢ e.time) → GoingCut window strict n whole e (with_event window p 0 (Some p.time) xs) es
cut_next window strict n whole p e xs es g h =
    subst (λ ys. Going window strict n whole (cut_to n e) ys (map (cut_to n) es)) (with_event-cut_to window n 0 p (Some p.time) xs (omega (arith, g.size)))
    (going-next window strict n whole (cut_to n p) (cut_to n e) xs (map (cut_to n) es) g h)

pub cut_end : (window : ℕ) (strict : Bool) (n whole : ℕ) (p : Event) (xs : List (Option ℕ)) → GoingCut window strict n whole p xs [] → longest 1 (with_event window p 0 (Some p.time) xs) ≡ whole
cut_end window strict n whole p xs g =
    ap (longest 1) (sym (with_event-cut_to window n 0 p (Some p.time) xs (omega (arith, g.size)))) ∙ going-end window strict n whole (cut_to n p) xs g

pub cut_start : (window : ℕ) (strict : Bool) (xs : List (Option ℕ)) (es : List Event) → xs ≡ replicate (length xs) None → NotFalling by_time es → GoingCut window strict (length xs) (funnel_level window strict (map (cut_to (length xs)) es)) (at 0 0) xs es
cut_start window strict xs es blank order =
    subst (λ m. Going window strict (length xs) (funnel_level window strict (map (cut_to (length xs)) es)) (at 0 m) xs (map (cut_to (length xs)) es)) (sym (zero-mod (2 ^ length xs)))
    (going-start window strict xs (map (cut_to (length xs)) es) blank (each_cut (length xs) es) (order_cut (length xs) es order))
