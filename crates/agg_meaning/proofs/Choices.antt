-- The choices among the elements of a list are the lists of what stands at increasing places.
use Rattle.std.proofs.Common.{◌≡◌, ℕ, zero, suc, ◌+◌, ◌-◌, ◌<◌, ◌≤◌, Bool, true, false, cond, List, [], ◌∷◌, ◌++◌, map, length, get_or, ◌⊎◌, inl, inr, refl, sym, ap, ap₂, ◌∙◌, subst, arith, true≢false}
use Rattle.std.specs.Prelude.{filter}
use Rattle.std.proofs.lemmas.List.{length-map}
use Rattle.std.proofs.lemmas.Bool.{cases_lt}
use Rattle.agg_terms.specs.Chains.{Pattern}
use Rattle.agg_terms.specs.Values.{Event}
use Rattle.agg_terms.specs.Lists.{numbered, some}
use Rattle.agg_meaning.specs.EventLaws.{ArePlaces, IsFunnelAt, IsMatchAt, event_at}
use Rattle.agg_meaning.specs.Events.{funnel_level, greatest, is_funnel, is_match, is_matched, sublists}
use Rattle.agg_terms.proofs.Generic.{Among}
use Rattle.agg_meaning.proofs.Links.{among_append_left, among_append_right}

among_map : {X Y : Type 0} (f : X → Y) (x : X) (xs : List X) → Among x xs → Among (f x) (map f xs)
among_map f x [] a = a
among_map f x (y ∷ xs) (inl e) = inl (ap f e)
among_map f x (y ∷ xs) (inr a) = inr (among_map f x xs a)

among_mapped : {X Y : Type 0} (f : X → Y) (y : Y) (xs : List X) → Among y (map f xs) → (x : X) × Among x xs × (y ≡ f x)
among_mapped f y [] a = absurd a
among_mapped f y (x ∷ xs) (inl e) = (x, inl refl, e)
among_mapped f y (x ∷ xs) (inr a) = let r : (z : _) × Among z xs × (y ≡ f z) = among_mapped f y xs a in (r.0, inr r.1, r.2)

among_either : {X : Type 0} (x : X) (A B : List X) → Among x (A ++ B) → Among x A ⊎ Among x B
among_either x [] B a = inr a
among_either x (y ∷ A) B (inl e) = inl (inl e)
among_either x (y ∷ A) B (inr a) = go (among_either x A B a)
  where
    go : Among x A ⊎ Among x B → Among x (y ∷ A) ⊎ Among x B
    go (inl b) = inl (inr b)
    go (inr b) = inr b

-- what stands at places of a list whose first place is s
abbrev at : {X : Type 0} → X → List X → ℕ → ℕ → X
at d xs s p = get_or xs (p - s) d

at_later : {X : Type 0} (d x : X) (xs : List X) (s end : ℕ) (ps : List ℕ) (t : ℕ) → suc s ≤ t → ArePlaces t end ps → map (at d (x ∷ xs) s) ps ≡ map (at d xs (suc s)) ps
at_later d x xs s end [] t l k = refl
at_later d x xs s end (p ∷ ps) t l k =
    let e : p - s ≡ suc (p - suc s) = omega (arith, l, k.0) in
    ap₂ ◌∷◌ (ap (λ i. get_or (x ∷ xs) i d) e) (at_later d x xs s end ps (suc p) (omega (arith, l, k.0)) k.2)

earlier : (s t end : ℕ) (ps : List ℕ) → s ≤ t → ArePlaces t end ps → ArePlaces s end ps
earlier s t end [] l k = tt
earlier s t end (p ∷ ps) l k = (omega (arith, l, k.0), k.1, k.2)

ends : (t m n : ℕ) (ps : List ℕ) → m ≡ n → ArePlaces t m ps → ArePlaces t n ps
ends t m n ps e k = subst (λ z. ArePlaces t z ps) e k

chosen_among : {X : Type 0} (d : X) (xs : List X) (s : ℕ) (ps : List ℕ) → ArePlaces s (s + length xs) ps → Among (map (at d xs s) ps) (sublists xs)
chosen_among d [] s [] k = inl refl
chosen_among d [] s (p ∷ ps) k = absurd (omega (arith, k.0, k.1))
chosen_among d (x ∷ xs) s [] k = among_append_right [] (map (λ S. x ∷ S) (sublists xs)) (sublists xs) (chosen_among d xs (suc s) [] tt)
chosen_among d (x ∷ xs) s (p ∷ ps) k = go (cases_lt s p) (λ q. chosen_among d xs (suc s) (p ∷ ps) q) (λ q. chosen_among d xs (suc s) ps q)
  where
    go : (s < p) ⊎ (p ≤ s) → (ArePlaces (suc s) (suc s + length xs) (p ∷ ps) → Among (map (at d xs (suc s)) (p ∷ ps)) (sublists xs)) → (ArePlaces (suc s) (suc s + length xs) ps → Among (map (at d xs (suc s)) ps) (sublists xs)) → Among (map (at d (x ∷ xs) s) (p ∷ ps)) (sublists (x ∷ xs))
    go (inl l) later own =
        let e : s + length (x ∷ xs) ≡ suc s + length xs = omega arith in
        let k' : ArePlaces (suc s) (s + length (x ∷ xs)) (p ∷ ps) = (omega (arith, l), k.1, k.2) in
        among_append_right (map (at d (x ∷ xs) s) (p ∷ ps)) (map (λ S. x ∷ S) (sublists xs)) (sublists xs)
        (subst (λ S. Among S (sublists xs)) (sym (at_later d x xs s (s + length (x ∷ xs)) (p ∷ ps) (suc s) (omega arith) k')) (later (ends (suc s) (s + length (x ∷ xs)) (suc s + length xs) (p ∷ ps) e k')))
    go (inr l) later own =
        let e : s + length (x ∷ xs) ≡ suc s + length xs = omega arith in
        let z : p - s ≡ 0 = omega (arith, l) in
        let q : suc s ≤ suc p = omega (arith, k.0) in
        among_append_left (map (at d (x ∷ xs) s) (p ∷ ps)) (map (λ S. x ∷ S) (sublists xs)) (sublists xs)
        (subst (λ S. Among S (map (λ S. x ∷ S) (sublists xs)))
        (ap₂ ◌∷◌ (ap (λ i. get_or (x ∷ xs) i d) (sym z)) (sym (at_later d x xs s (s + length (x ∷ xs)) ps (suc p) q k.2)))
        (among_map (λ S. x ∷ S) (map (at d xs (suc s)) ps) (sublists xs) (own (earlier (suc s) (suc p) (suc s + length xs) ps q (ends (suc p) (s + length (x ∷ xs)) (suc s + length xs) ps e k.2)))))

among_chosen : {X : Type 0} (d : X) (xs : List X) (s : ℕ) (S : List X) → Among S (sublists xs) → (ps : List ℕ) × ArePlaces s (s + length xs) ps × (S ≡ map (at d xs s) ps)
among_chosen d [] s S (inl e) = ([], tt, e)
among_chosen d [] s S (inr a) = absurd a
among_chosen d (x ∷ xs) s S a = go (among_either S (map (λ z. x ∷ z) (sublists xs)) (sublists xs) a) (among_chosen d xs (suc s))
  where
    go : Among S (map (λ z. x ∷ z) (sublists xs)) ⊎ Among S (sublists xs) → ((z : List _) → Among z (sublists xs) → (ps : List ℕ) × ArePlaces (suc s) (suc s + length xs) ps × (z ≡ map (at d xs (suc s)) ps)) → (ps : List ℕ) × ArePlaces s (s + length (x ∷ xs)) ps × (S ≡ map (at d (x ∷ xs) s) ps)
    go (inl b) r =
        let m : (z : List _) × Among z (sublists xs) × (S ≡ x ∷ z) = among_mapped (λ z. x ∷ z) S (sublists xs) b in
        let q : (ps : List ℕ) × ArePlaces (suc s) (suc s + length xs) ps × (m.0 ≡ map (at d xs (suc s)) ps) = r m.0 m.1 in
        let e : suc s + length xs ≡ s + length (x ∷ xs) = omega arith in
        let z : 0 ≡ s - s = omega arith in
        let k : ArePlaces (suc s) (s + length (x ∷ xs)) q.0 = ends (suc s) (suc s + length xs) (s + length (x ∷ xs)) q.0 e q.1 in
        (s ∷ q.0, (omega arith, omega arith, k), m.2 ∙ ap₂ ◌∷◌ (ap (λ i. get_or (x ∷ xs) i d) z) (q.2 ∙ sym (at_later d x xs s (s + length (x ∷ xs)) q.0 (suc s) (omega arith) k)))
    go (inr b) r =
        let q : (ps : List ℕ) × ArePlaces (suc s) (suc s + length xs) ps × (S ≡ map (at d xs (suc s)) ps) = r S b in
        let e : suc s + length xs ≡ s + length (x ∷ xs) = omega arith in
        let k : ArePlaces (suc s) (s + length (x ∷ xs)) q.0 = ends (suc s) (suc s + length xs) (s + length (x ∷ xs)) q.0 e q.1 in
        (q.0, earlier s (suc s) (s + length (x ∷ xs)) q.0 (omega arith) k, q.2 ∙ sym (at_later d x xs s (s + length (x ∷ xs)) q.0 (suc s) (omega arith) k))

-- the greatest length of those that pass a test
pub longest_over : {X : Type 0} (f : List X → Bool) (L : List (List X)) (S : List X) → Among S L → f S ≡ true → length S ≤ greatest (map length (filter f L))
longest_over f [] S a e = absurd a
longest_over f (T ∷ L) S a e = go (f T) refl a (longest_over f L S)
  where
    go : (b : Bool) → f T ≡ b → (S ≡ T) ⊎ Among S L → (Among S L → f S ≡ true → length S ≤ greatest (map length (filter f L))) → length S ≤ greatest (map length (filter f (T ∷ L)))
    go true h (inl q) r = let n : length S ≡ length T = ap length q in rw h (omega (arith, n))
    go true h (inr b) r = rw h (omega (arith, r b e))
    go false h (inl q) r = absurd (true≢false (sym e ∙ ap f q ∙ h))
    go false h (inr b) r = rw h (r b e)

pub longest_there : {X : Type 0} (f : List X → Bool) (L : List (List X)) → (greatest (map length (filter f L)) ≡ 0) ⊎ ((S : List X) × Among S L × (f S ≡ true) × (length S ≡ greatest (map length (filter f L))))
longest_there f [] = inl refl
longest_there f (T ∷ L) = go (f T) refl (longest_there f L)
  where
    go : (b : Bool) → f T ≡ b → (greatest (map length (filter f L)) ≡ 0) ⊎ ((S : List _) × Among S L × (f S ≡ true) × (length S ≡ greatest (map length (filter f L)))) → (greatest (map length (filter f (T ∷ L))) ≡ 0) ⊎ ((S : List _) × Among S (T ∷ L) × (f S ≡ true) × (length S ≡ greatest (map length (filter f (T ∷ L)))))
    go true h (inl z) = inr (T, inl refl, h, rw h (omega (arith, z)))
    go true h (inr q) = pick (cases_lt (length T) (length q.0))
      where
        pick : (length T < length q.0) ⊎ (length q.0 ≤ length T) → (greatest (map length (filter f (T ∷ L))) ≡ 0) ⊎ ((S : List _) × Among S (T ∷ L) × (f S ≡ true) × (length S ≡ greatest (map length (filter f (T ∷ L)))))
        pick (inl l) = inr (q.0, inr q.1, q.2, rw h (omega (arith, l, q.3)))
        pick (inr l) = inr (T, inl refl, h, rw h (omega (arith, l, q.3)))
    go false h (inl z) = inl (rw h z)
    go false h (inr q) = inr (q.0, inr q.1, q.2, rw h q.3)

some_there : {X : Type 0} (f : X → Bool) (L : List X) → some f L ≡ true → (x : X) × Among x L × (f x ≡ true)
some_there f [] e = absurd (true≢false (sym e))
some_there f (x ∷ L) e = go (f x) refl (some_there f L) e
  where
    go : (b : Bool) → f x ≡ b → (some f L ≡ true → (y : _) × Among y L × (f y ≡ true)) → cond (f x) true (some f L) ≡ true → (y : _) × Among y (x ∷ L) × (f y ≡ true)
    go true h r e = (x, inl refl, h)
    go false h r e = let q : (y : _) × Among y L × (f y ≡ true) = r (sym (ap (λ b. cond b true (some f L)) h) ∙ e) in (q.0, inr q.1, q.2)

there_some : {X : Type 0} (f : X → Bool) (x : X) (L : List X) → Among x L → f x ≡ true → some f L ≡ true
there_some f x [] a e = absurd a
there_some f x (y ∷ L) (inl q) e = rw (sym (ap f q) ∙ e) refl
there_some f x (y ∷ L) (inr a) e = go (f y) (there_some f x L a e)
  where
    go : (b : Bool) → some f L ≡ true → cond b true (some f L) ≡ true
    go true r = refl
    go false r = r

abbrev nothing : Event
nothing = record { time = 0; mask = 0 }

at_start : (es : List Event) (ps : List ℕ) → map (at nothing es 0) ps ≡ map (event_at es) ps
at_start es [] = refl
at_start es (p ∷ ps) = let z : p - 0 ≡ p = omega arith in ap₂ ◌∷◌ (ap (event_at es) z) (at_start es ps)

from_start : {X : Type 0} (xs : List X) (ps : List ℕ) → ArePlaces 0 (length xs) ps → ArePlaces 0 (0 + length xs) ps
from_start xs ps k = let z : length xs ≡ 0 + length xs = omega arith in ends 0 (length xs) (0 + length xs) ps z k

to_start : {X : Type 0} (xs : List X) (ps : List ℕ) → ArePlaces 0 (0 + length xs) ps → ArePlaces 0 (length xs) ps
to_start xs ps k = let z : 0 + length xs ≡ length xs = omega arith in ends 0 (0 + length xs) (length xs) ps z k

pub level_greatest : (window : ℕ) (strict : Bool) (es : List Event) (ps : List ℕ) → IsFunnelAt window strict es ps → length ps ≤ funnel_level window strict es
level_greatest window strict es ps k =
    let n : length (map (event_at es) ps) ≡ length ps = length-map ps (event_at es) in
    let l : length (map (event_at es) ps) ≤ funnel_level window strict es =
    longest_over (is_funnel window strict) (sublists es) (map (event_at es) ps)
    (subst (λ S. Among S (sublists es)) (at_start es ps) (chosen_among nothing es 0 ps (from_start es ps k.0))) k.1 in
    omega (arith, n, l)

pub level_reached : (window : ℕ) (strict : Bool) (es : List Event) → (ps : List ℕ) × IsFunnelAt window strict es ps × (length ps ≡ funnel_level window strict es)
level_reached window strict es = go (longest_there (is_funnel window strict) (sublists es))
  where
    none : (b : Bool) → is_funnel window b [] ≡ true
    none true = refl
    none false = refl

    go : (funnel_level window strict es ≡ 0) ⊎ ((S : List Event) × Among S (sublists es) × (is_funnel window strict S ≡ true) × (length S ≡ funnel_level window strict es)) → (ps : List ℕ) × IsFunnelAt window strict es ps × (length ps ≡ funnel_level window strict es)
    go (inl z) = ([], (tt, none strict), sym z)
    go (inr q) =
        let r : (ps : List ℕ) × ArePlaces 0 (0 + length es) ps × (q.0 ≡ map (at nothing es 0) ps) = among_chosen nothing es 0 q.0 q.1 in
        let e : q.0 ≡ map (event_at es) r.0 = r.2 ∙ at_start es r.0 in
        (r.0, (to_start es r.0 r.1, ap (is_funnel window strict) (sym e) ∙ q.2), sym (length-map r.0 (event_at es)) ∙ ap length (sym e) ∙ q.3)

-- events with their places
length-numbered : {X : Type 0} (i : ℕ) (xs : List X) → length (numbered i xs) ≡ length xs
length-numbered i [] = refl
length-numbered i (x ∷ xs) = ap suc (length-numbered (suc i) xs)

numbered_at : (d : ℕ × Event) (i : ℕ) (es : List Event) (p : ℕ) → p < length es → get_or (numbered i es) p d ≡ (i + p, event_at es p)
numbered_at d i [] p l = absurd (omega arith)
numbered_at d i (e ∷ es) zero l = let z : i ≡ i + 0 = omega arith in ap (λ k. (k, e)) z
numbered_at d i (e ∷ es) (suc p) l = let z : suc i + p ≡ i + suc p = omega arith in numbered_at d (suc i) es p (omega arith) ∙ ap (λ k. (k, event_at es p)) z

abbrev no_place : ℕ × Event
no_place = (0, nothing)

placed_at : (es : List Event) (s : ℕ) (ps : List ℕ) → ArePlaces s (length es) ps → map (at no_place (numbered 0 es) 0) ps ≡ map (λ p. (p, event_at es p)) ps
placed_at es s [] k = refl
placed_at es s (p ∷ ps) k =
    let z : p - 0 ≡ p = omega arith in
    let y : 0 + p ≡ p = omega arith in
    ap₂ ◌∷◌ (ap (λ i. get_or (numbered 0 es) i no_place) z ∙ numbered_at no_place 0 es p k.1 ∙ ap (λ i. (i, event_at es p)) y) (placed_at es (suc p) ps k.2)

pub match_places : (pattern : Pattern) (es : List Event) → is_matched pattern es ≡ true → (ps : List ℕ) × IsMatchAt pattern es ps
match_places pattern es e =
    let q : (S : List (ℕ × Event)) × Among S (sublists (numbered 0 es)) × (is_match pattern S ≡ true) = some_there (is_match pattern) (sublists (numbered 0 es)) e in
    let r : (ps : List ℕ) × ArePlaces 0 (0 + length (numbered 0 es)) ps × (q.0 ≡ map (at no_place (numbered 0 es) 0) ps) = among_chosen no_place (numbered 0 es) 0 q.0 q.1 in
    let k : ArePlaces 0 (length es) r.0 = ends 0 (length (numbered 0 es)) (length es) r.0 (length-numbered 0 es) (to_start (numbered 0 es) r.0 r.1) in
    (r.0, (k, ap (is_match pattern) (sym (r.2 ∙ placed_at es 0 r.0 k)) ∙ q.2))

pub places_match : (pattern : Pattern) (es : List Event) (ps : List ℕ) → IsMatchAt pattern es ps → is_matched pattern es ≡ true
places_match pattern es ps k =
    there_some (is_match pattern) (map (λ p. (p, event_at es p)) ps) (sublists (numbered 0 es))
    (subst (λ S. Among S (sublists (numbered 0 es))) (placed_at es 0 ps k.0)
    (chosen_among no_place (numbered 0 es) 0 ps (from_start (numbered 0 es) ps (ends 0 (length es) (length (numbered 0 es)) ps (sym (length-numbered 0 es)) k.0))))
    k.1
