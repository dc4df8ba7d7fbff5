-- What the first times say of the events to come.
use Rattle.std.proofs.Common.{◌≡◌, ℕ, suc, ◌+◌, ◌<◌, ◌≤◌, max, Bool, true, false, cond, ◌&&◌, List, [], ◌∷◌, length, Option, Some, None, ◌⊎◌, inl, inr, refl, sym, ap, ap₂, ◌∙◌, arith, le-leb}
use Rattle.std.specs.Prelude.{nat_le}
use Rattle.std.proofs.lemmas.Bool.{cases_lt}
use Rattle.std.proofs.lemmas.Bool.Decides.{nat_tests}
use Rattle.agg_terms.specs.Values.{Event}
use Rattle.agg_meaning.specs.Events.{is_in}
use Rattle.window_funnel.specs.proving.Starts.{later, lengthened, with_event}
use Rattle.window_funnel.proofs.Reaches.{after, goes_on, reach, begun}

-- the greatest length that the chains of a table come to, lengths from i on
abbrev pub reaches : ℕ → Bool → ℕ → ℕ → List (Option ℕ) → List Event → ℕ
reaches window strict least i [] es = 0
reaches window strict least i (None ∷ xs) es = reaches window strict least (suc i) xs es
reaches window strict least i (Some start ∷ xs) es = max (reach window strict i start least es) (reaches window strict least (suc i) xs es)

-- the greatest length that an event gives one of them
abbrev pub gains : ℕ → Bool → Event → ℕ → List (Option ℕ) → List Event → ℕ
gains window strict e i [] es = 0
gains window strict e i (None ∷ xs) es = gains window strict e (suc i) xs es
gains window strict e i (Some start ∷ xs) es =
    max (cond (is_in i e.mask && nat_le e.time (start + window)) (reach window strict (suc i) start (after strict e.time) es) 0) (gains window strict e (suc i) xs es)

-- the greatest length over all chains: those of the table and those that begin later
abbrev pub best : ℕ → Bool → ℕ → List (Option ℕ) → List Event → ℕ
best window strict least xs es = max (begun window strict least es) (reaches window strict least 1 xs es)

-- each event is at this time or later
abbrev pub AllFrom : ℕ → List Event → Type 0
AllFrom least [] = Unit {0}
AllFrom least (e ∷ es) = (least ≤ e.time) × AllFrom least es

-- a later start is never worse
cond_le : (a b : Bool) (m n : ℕ) → (a ≡ true → b ≡ true) → m ≤ n → cond a m 0 ≤ cond b n 0
cond_le true true m n h l = l
cond_le true false m n h l = absurd (cc (h refl))
cond_le false b m n h l = omega arith

reach-later : (window : ℕ) (strict : Bool) (i start other least : ℕ) (es : List Event) → start ≤ other → reach window strict i start least es ≤ reach window strict i other least es
reach-later window strict i start other least [] l = omega arith
reach-later window strict i start other least (e ∷ es) l =
    omega (arith, cond_le (goes_on window i start least e) (goes_on window i other least e) (reach window strict (suc i) start (after strict e.time) es) (reach window strict (suc i) other (after strict e.time) es) (goes_later (is_in i e.mask) (nat_le least e.time)) (reach-later window strict (suc i) start other (after strict e.time) es l), reach-later window strict i start other least es l)
  where
    goes_later : (a b : Bool) → a && (nat_le e.time (start + window) && b) ≡ true → a && (nat_le e.time (other + window) && b) ≡ true
    goes_later a b h = grind (arith, nat_tests)

pub reach-max : (window : ℕ) (strict : Bool) (i start other least : ℕ) (es : List Event) → reach window strict i (max start other) least es ≡ max (reach window strict i start least es) (reach window strict i other least es)
reach-max window strict i start other least es = go (cases_lt start other)
  where
    go : (start < other) ⊎ (other ≤ start) → reach window strict i (max start other) least es ≡ max (reach window strict i start least es) (reach window strict i other least es)
    go (inl l) =
        let larger : max start other ≡ other = omega arith in
        ap (λ f. reach window strict i f least es) larger ∙ omega (arith, reach-later window strict i start other least es (omega arith))
    go (inr l) =
        let larger : max start other ≡ start = omega arith in
        ap (λ f. reach window strict i f least es) larger ∙ omega (arith, reach-later window strict i other start least es l)

-- the least time matters only where an event is earlier
reach-least : (window : ℕ) (strict : Bool) (i start least from : ℕ) (es : List Event) → least ≤ from → AllFrom from es → reach window strict i start least es ≡ reach window strict i start from es
reach-least window strict i start least from [] l h = refl
reach-least window strict i start least from (e ∷ es) l h =
    ap₂ (λ b n. max (cond (is_in i e.mask && (nat_le e.time (start + window) && b)) (reach window strict (suc i) start (after strict e.time) es) 0) n)
    (le-leb least e.time (omega arith) ∙ sym (le-leb from e.time (omega arith)))
    (reach-least window strict i start least from es l h.1)

begun-least : (window : ℕ) (strict : Bool) (least from : ℕ) (es : List Event) → least ≤ from → AllFrom from es → begun window strict least es ≡ begun window strict from es
begun-least window strict least from [] l h = refl
begun-least window strict least from (e ∷ es) l h =
    ap₂ (λ b n. max (cond (is_in 0 e.mask && (nat_le e.time (e.time + window) && b)) (reach window strict 1 e.time (after strict e.time) es) 0) n)
    (le-leb least e.time (omega arith) ∙ sym (le-leb from e.time (omega arith)))
    (begun-least window strict least from es l h.1)

reaches-least : (window : ℕ) (strict : Bool) (least from i : ℕ) (xs : List (Option ℕ)) (es : List Event) → least ≤ from → AllFrom from es → reaches window strict least i xs es ≡ reaches window strict from i xs es
reaches-least window strict least from i [] es l h = refl
reaches-least window strict least from i (None ∷ xs) es l h = reaches-least window strict least from (suc i) xs es l h
reaches-least window strict least from i (Some start ∷ xs) es l h =
    ap₂ max (reach-least window strict i start least from es l h) (reaches-least window strict least from (suc i) xs es l h)

pub best-least : (window : ℕ) (strict : Bool) (least from : ℕ) (xs : List (Option ℕ)) (es : List Event) → least ≤ from → AllFrom from es → best window strict least xs es ≡ best window strict from xs es
best-least window strict least from xs es l h =
    ap₂ max (begun-least window strict least from es l h) (reaches-least window strict least from 1 xs es l h)

-- an event of the list, and the gains that it brings
and_true : (a b : Bool) → b ≡ true → (c : Bool) → a && (c && b) ≡ a && c
and_true a true h true = refl
and_true a true h false = refl
and_true a false h c = absurd (cc h)

reaches-event : (window : ℕ) (strict : Bool) (least i : ℕ) (xs : List (Option ℕ)) (e : Event) (es : List Event) → least ≤ e.time → reaches window strict least i xs (e ∷ es) ≡ max (reaches window strict least i xs es) (gains window strict e i xs es)
reaches-event window strict least i [] e es l = refl
reaches-event window strict least i (None ∷ xs) e es l = reaches-event window strict least (suc i) xs e es l
reaches-event window strict least i (Some start ∷ xs) e es l =
    let same = ap (λ b. cond b (reach window strict (suc i) start (after strict e.time) es) 0) (and_true (is_in i e.mask) (nat_le least e.time) (le-leb least e.time l) (nat_le e.time (start + window))) in
    omega (arith, same, reaches-event window strict least (suc i) xs e es l)

pub best-event : (window : ℕ) (strict : Bool) (least : ℕ) (xs : List (Option ℕ)) (e : Event) (es : List Event) → least ≤ e.time → best window strict least xs (e ∷ es) ≡ max (best window strict least xs es) (gains window strict e 0 (Some e.time ∷ xs) es)
best-event window strict least xs e es l =
    let same = ap (λ b. cond b (reach window strict 1 e.time (after strict e.time) es) 0) (and_true (is_in 0 e.mask) (nat_le least e.time) (le-leb least e.time l) (nat_le e.time (e.time + window))) in
    omega (arith, same, reaches-event window strict least 1 xs e es l)

-- a table with an event
reaches-later : (window : ℕ) (strict : Bool) (least i : ℕ) (a b : Option ℕ) (xs : List (Option ℕ)) (es : List Event) → reaches window strict least i (later a b ∷ xs) es ≡ max (reaches window strict least i (a ∷ []) es) (reaches window strict least i (b ∷ xs) es)
reaches-later window strict least i None b xs es = omega arith
reaches-later window strict least i (Some a) None xs es = omega arith
reaches-later window strict least i (Some a) (Some b) xs es = omega (arith, reach-max window strict i a b least es)

gain-lengthened : (window : ℕ) (strict : Bool) (e : Event) (i : ℕ) (x : Option ℕ) (xs : List (Option ℕ)) (es : List Event) → reaches window strict (after strict e.time) (suc i) (lengthened window e i x ∷ xs) es ≡ max (gains window strict e i (x ∷ []) es) (reaches window strict (after strict e.time) (suc (suc i)) xs es)
gain-lengthened window strict e i None xs es = omega arith
gain-lengthened window strict e i (Some start) xs es = go (is_in i e.mask && nat_le e.time (start + window))
  where
    go : (b : Bool) → reaches window strict (after strict e.time) (suc i) (cond b (Some start) None ∷ xs) es ≡ max (max (cond b (reach window strict (suc i) start (after strict e.time) es) 0) 0) (reaches window strict (after strict e.time) (suc (suc i)) xs es)
    go true = omega arith
    go false = omega arith

gains-one : (window : ℕ) (strict : Bool) (e : Event) (i : ℕ) (x : Option ℕ) (xs : List (Option ℕ)) (es : List Event) → gains window strict e i (x ∷ xs) es ≡ max (gains window strict e i (x ∷ []) es) (gains window strict e (suc i) xs es)
gains-one window strict e i None xs es = omega arith
gains-one window strict e i (Some start) xs es = omega arith

reaches-one : (window : ℕ) (strict : Bool) (least i : ℕ) (x : Option ℕ) (xs : List (Option ℕ)) (es : List Event) → reaches window strict least i (x ∷ xs) es ≡ max (reaches window strict least i (x ∷ []) es) (reaches window strict least (suc i) xs es)
reaches-one window strict least i None xs es = omega arith
reaches-one window strict least i (Some start) xs es = omega arith

gains-outside : (window : ℕ) (strict : Bool) (e : Event) (i : ℕ) (x : Option ℕ) (es : List Event) → is_in i e.mask ≡ false → gains window strict e i (x ∷ []) es ≡ 0
gains-outside window strict e i None es h = refl
gains-outside window strict e i (Some start) es h =
    ap (λ b. max (cond (b && nat_le e.time (start + window)) (reach window strict (suc i) start (after strict e.time) es) 0) 0) h

reaches-table : (window : ℕ) (strict : Bool) (e : Event) (i : ℕ) (x : Option ℕ) (xs : List (Option ℕ)) (es : List Event) → is_in (i + length xs) e.mask ≡ false → reaches window strict (after strict e.time) (suc i) (with_event window e i x xs) es ≡ max (reaches window strict (after strict e.time) (suc i) xs es) (gains window strict e i (x ∷ xs) es)
reaches-table window strict e i x [] es h =
    let out = gains-outside window strict e i x es (ap (λ k. is_in k e.mask) (omega arith) ∙ h) in omega arith
reaches-table window strict e i x (y ∷ xs) es h =
    let a = reaches-later window strict (after strict e.time) (suc i) y (lengthened window e i x) (with_event window e (suc i) y xs) es in
    let b = gain-lengthened window strict e i x (with_event window e (suc i) y xs) es in
    let c = reaches-table window strict e (suc i) y xs es (ap (λ k. is_in k e.mask) (omega arith) ∙ h) in
    let d = gains-one window strict e i x (y ∷ xs) es in
    let f = reaches-one window strict (after strict e.time) (suc i) y xs es in
    omega arith

pub best-table : (window : ℕ) (strict : Bool) (e : Event) (xs : List (Option ℕ)) (es : List Event) → is_in (length xs) e.mask ≡ false → max (best window strict (after strict e.time) xs es) (gains window strict e 0 (Some e.time ∷ xs) es) ≡ best window strict (after strict e.time) (with_event window e 0 (Some e.time) xs) es
best-table window strict e xs es h =
    omega (arith, reaches-table window strict e 0 (Some e.time) xs es (ap (λ k. is_in k e.mask) (omega arith) ∙ h))
