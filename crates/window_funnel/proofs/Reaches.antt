-- The greatest length of a funnel chain, by recursion over the events.
use Rattle.std.proofs.Common.{◌≡◌, ℕ, suc, ◌+◌, max, Bool, true, false, cond, ◌&&◌, List, [], ◌∷◌, ◌++◌, map, length, refl, sym, ap, ap₂, ◌∙◌, arith, le-leb}
use Rattle.std.specs.Prelude.{filter, nat_le, nat_lt}
use Rattle.agg_terms.specs.Values.{Event}
use Rattle.agg_meaning.specs.Events.{sublists, is_in, in_turn, all_by, rising_times, is_funnel, greatest, funnel_level}

-- the least time of the event that follows one of this time
abbrev pub after : Bool → ℕ → ℕ
after strict t = cond strict (suc t) 0

-- whether an event goes on with a chain of i events
abbrev pub goes_on : ℕ → ℕ → ℕ → ℕ → Event → Bool
goes_on window i start least e = is_in i e.mask && (nat_le e.time (start + window) && nat_le least e.time)

-- whether all of these do, one after the other
abbrev pub follows : ℕ → Bool → ℕ → ℕ → ℕ → List Event → Bool
follows window strict i start least [] = true
follows window strict i start least (e ∷ c) = goes_on window i start least e && follows window strict (suc i) start (after strict e.time) c

-- the greatest length that a chain of i events comes to
abbrev pub reach : ℕ → Bool → ℕ → ℕ → ℕ → List Event → ℕ
reach window strict i start least [] = i
reach window strict i start least (e ∷ es) =
    max (cond (goes_on window i start least e) (reach window strict (suc i) start (after strict e.time) es) 0) (reach window strict i start least es)

-- the greatest length of a chain that begins at this time or later
abbrev pub begun : ℕ → Bool → ℕ → List Event → ℕ
begun window strict least [] = 0
begun window strict least (e ∷ es) =
    max (cond (goes_on window 0 e.time least e) (reach window strict 1 e.time (after strict e.time) es) 0) (begun window strict least es)

-- the greatest length of the lists that pass a test, counted from i on
tallest : ℕ → (List Event → Bool) → List (List Event) → ℕ
tallest i p ss = greatest (map (λ c. i + length c) (filter p ss))

greatest-cond : (b : Bool) (n : ℕ) (ns : List ℕ) → greatest (cond b (n ∷ ns) ns) ≡ max (cond b n 0) (greatest ns)
greatest-cond true n ns = refl
greatest-cond false n ns = omega arith

map-cond : (b : Bool) (f : List Event → ℕ) (c : List Event) (cs : List (List Event)) → map f (cond b (c ∷ cs) cs) ≡ cond b (f c ∷ map f cs) (map f cs)
map-cond true f c cs = refl
map-cond false f c cs = refl

tallest-cons : (i : ℕ) (p : List Event → Bool) (s : List Event) (ss : List (List Event)) → tallest i p (s ∷ ss) ≡ max (cond (p s) (i + length s) 0) (tallest i p ss)
unfolding tallest
tallest-cons i p s ss =
    ap greatest (map-cond (p s) (λ c. i + length c) s (filter p ss))
    ∙ greatest-cond (p s) (i + length s) (map (λ c. i + length c) (filter p ss))

tallest-nil : (i : ℕ) (p : List Event → Bool) → tallest i p [] ≡ 0
unfolding tallest
tallest-nil i p = refl

tallest-append : (i : ℕ) (p : List Event → Bool) (A B : List (List Event)) → tallest i p (A ++ B) ≡ max (tallest i p A) (tallest i p B)
tallest-append i p [] B = omega (arith, tallest-nil i p)
tallest-append i p (s ∷ A) B =
    omega (arith, tallest-cons i p s (A ++ B), tallest-cons i p s A, tallest-append i p A B)

tallest-begun : (i : ℕ) (p : List Event → Bool) (e : Event) (ss : List (List Event)) → tallest i p (map (λ s. e ∷ s) ss) ≡ tallest (suc i) (λ s. p (e ∷ s)) ss
tallest-begun i p e [] = tallest-nil i p ∙ sym (tallest-nil (suc i) (λ s. p (e ∷ s)))
tallest-begun i p e (s ∷ ss) =
    tallest-cons i p (e ∷ s) (map (λ s. e ∷ s) ss)
    ∙ ap₂ max (ap (λ n. cond (p (e ∷ s)) n 0) longer) (tallest-begun i p e ss)
    ∙ sym (tallest-cons (suc i) (λ s. p (e ∷ s)) s ss)
  where
    longer : i + length (e ∷ s) ≡ suc i + length s
    longer = omega arith

tallest-same : (i : ℕ) (p q : List Event → Bool) (ss : List (List Event)) → ((s : List Event) → p s ≡ q s) → tallest i p ss ≡ tallest i q ss
tallest-same i p q [] h = tallest-nil i p ∙ sym (tallest-nil i q)
tallest-same i p q (s ∷ ss) h =
    tallest-cons i p s ss
    ∙ ap₂ max (ap (λ b. cond b (i + length s) 0) (h s)) (tallest-same i p q ss h)
    ∙ sym (tallest-cons i q s ss)

tallest-none : (i : ℕ) (ss : List (List Event)) → tallest i (λ s. false) ss ≡ 0
tallest-none i [] = tallest-nil i (λ s. false)
tallest-none i (s ∷ ss) = tallest-cons i (λ s. false) s ss ∙ omega (arith, tallest-none i ss)

tallest-guarded : (i : ℕ) (b : Bool) (p : List Event → Bool) (ss : List (List Event)) → tallest i (λ s. b && p s) ss ≡ cond b (tallest i p ss) 0
tallest-guarded i true p ss = refl
tallest-guarded i false p ss = tallest-none i ss

-- chains that follow
reach-tallest : (window : ℕ) (strict : Bool) (i start least : ℕ) (es : List Event) → tallest i (follows window strict i start least) (sublists es) ≡ reach window strict i start least es
reach-tallest window strict i start least [] =
    tallest-cons i (follows window strict i start least) [] [] ∙ omega (arith, tallest-nil i (follows window strict i start least))
reach-tallest window strict i start least (e ∷ es) =
    tallest-append i (follows window strict i start least) (map (λ s. e ∷ s) (sublists es)) (sublists es)
    ∙ ap₂ max
    (tallest-begun i (follows window strict i start least) e (sublists es)
    ∙ tallest-guarded (suc i) (goes_on window i start least e) (follows window strict (suc i) start (after strict e.time)) (sublists es)
    ∙ ap (λ n. cond (goes_on window i start least e) n 0) (reach-tallest window strict (suc i) start (after strict e.time) es))
    (reach-tallest window strict i start least es)

regroup : (a b r I A R : Bool) → (a && I) && ((b && A) && (r && R)) ≡ (a && (b && r)) && (I && (A && R))
regroup false b r I A R = refl
regroup true false r true A R = refl
regroup true false r false A R = refl
regroup true true false true true R = refl
regroup true true false true false R = refl
regroup true true false false A R = refl
regroup true true true I A R = refl

follows-plain : (window i start : ℕ) (c : List Event) → in_turn i c && (all_by (start + window) c && true) ≡ follows window false i start 0 c
follows-plain window i start [] = refl
follows-plain window i start (e ∷ c) =
    ap (λ b. (is_in i e.mask && in_turn (suc i) c) && ((nat_le e.time (start + window) && all_by (start + window) c) && (b && true))) (sym (le-leb 0 e.time (omega arith)))
    ∙ regroup (is_in i e.mask) (nat_le e.time (start + window)) (nat_le 0 e.time) (in_turn (suc i) c) (all_by (start + window) c) true
    ∙ ap (λ b. goes_on window i start 0 e && b) (follows-plain window (suc i) start c)

follows-strict : (window i start : ℕ) (d : Event) (c : List Event) → in_turn i c && (all_by (start + window) c && rising_times (d ∷ c)) ≡ follows window true i start (suc d.time) c
follows-strict window i start d [] = refl
follows-strict window i start d (e ∷ c) =
    regroup (is_in i e.mask) (nat_le e.time (start + window)) (nat_lt d.time e.time) (in_turn (suc i) c) (all_by (start + window) c) (rising_times (e ∷ c))
    ∙ ap (λ b. goes_on window i start (suc d.time) e && b) (follows-strict window (suc i) start e c)

and_assoc : (a b c : Bool) → (a && b) && c ≡ a && (b && c)
and_assoc true b c = refl
and_assoc false b c = refl

funnel-follows : (window : ℕ) (strict : Bool) (e : Event) (c : List Event) → is_funnel window strict (e ∷ c) ≡ is_in 0 e.mask && follows window strict 1 e.time (after strict e.time) c
funnel-follows window false e c =
    and_assoc (is_in 0 e.mask) (in_turn 1 c) (all_by (e.time + window) c && true)
    ∙ ap (λ b. is_in 0 e.mask && b) (follows-plain window 1 e.time c)
funnel-follows window true e c =
    and_assoc (is_in 0 e.mask) (in_turn 1 c) (all_by (e.time + window) c && rising_times (e ∷ c))
    ∙ ap (λ b. is_in 0 e.mask && b) (follows-strict window 1 e.time e c)

and_true : (b : Bool) → b ≡ b && (true && true)
and_true true = refl
and_true false = refl

first_goes_on : (window : ℕ) (e : Event) → is_in 0 e.mask ≡ goes_on window 0 e.time 0 e
first_goes_on window e =
    and_true (is_in 0 e.mask)
    ∙ ap₂ (λ a b. is_in 0 e.mask && (a && b)) (sym (le-leb e.time (e.time + window) (omega arith))) (sym (le-leb 0 e.time (omega arith)))

begun-tallest : (window : ℕ) (strict : Bool) (es : List Event) → tallest 0 (is_funnel window strict) (sublists es) ≡ begun window strict 0 es
begun-tallest window strict [] =
    tallest-cons 0 (is_funnel window strict) [] []
    ∙ ap₂ max (both_zero (is_funnel window strict [])) (tallest-nil 0 (is_funnel window strict))
  where
    both_zero : (b : Bool) → cond b (0 + length {A = Event} []) 0 ≡ 0
    both_zero true = omega arith
    both_zero false = refl
begun-tallest window strict (e ∷ es) =
    tallest-append 0 (is_funnel window strict) (map (λ s. e ∷ s) (sublists es)) (sublists es)
    ∙ ap₂ max
    (tallest-begun 0 (is_funnel window strict) e (sublists es)
    ∙ tallest-same 1 (λ s. is_funnel window strict (e ∷ s)) (λ s. is_in 0 e.mask && follows window strict 1 e.time (after strict e.time) s) (sublists es) (funnel-follows window strict e)
    ∙ tallest-guarded 1 (is_in 0 e.mask) (follows window strict 1 e.time (after strict e.time)) (sublists es)
    ∙ ap₂ (λ b n. cond b n 0) (first_goes_on window e) (reach-tallest window strict 1 e.time (after strict e.time) es))
    (begun-tallest window strict es)

length-from_zero : (ss : List (List Event)) → map length ss ≡ map (λ c. 0 + length c) ss
length-from_zero [] = refl
length-from_zero (s ∷ ss) = ap₂ ◌∷◌ (omega arith) (length-from_zero ss)

-- the greatest length of a funnel chain
pub level-begun : (window : ℕ) (strict : Bool) (es : List Event) → funnel_level window strict es ≡ begun window strict 0 es
unfolding tallest
level-begun window strict es =
    ap greatest (length-from_zero (filter (is_funnel window strict) (sublists es))) ∙ begun-tallest window strict es
