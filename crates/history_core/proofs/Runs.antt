-- The notes of every list of steps, and the history that it leaves, are legal.
use Rattle.std.proofs.Common.{◌≡◌, ◌≢◌, ℕ, ◌+◌, ◌-◌, ◌<◌, ◌≤◌, List, [], ◌∷◌, ◌++◌, map, length, refl, sym, ap, ◌∙◌, subst, inl, inr, ⊎_elim, arith, Some, append_assoc, length-append, eq-eqb, ne_eqb}
use Rattle.std.specs.Prelude.{slice_get}
use Rattle.std.proofs.lemmas.List.{append-nil}
use mathlib.Core.Logic.{dite}
use native.Mathlib.Decide.{ℕ_discrete}
use Rattle.agg_terms.specs.Lists.{Each, Among, Apart}
use Rattle.history_core.specs.declared.entry.Entry.{Entry}
use Rattle.history_core.specs.declared.entry.CoreEvent.{CoreEvent}
use Rattle.history_core.specs.declared.entry.CoreEvent.TheVariants.{Commit, Look}
use Rattle.history_core.specs.History.{entries_of, after, note_of, after_all, Noted, noted, session_of, told_to, added_by}
use Rattle.history_core.specs.Legal.{Pairwise, InOrder, StandsAt, Follows, IsLegal, CommitsInOrder}

-- # lists

each_among : {X : Type 0} (P : X → Type 0) (x : X) (xs : List X) → Each P xs → Among x xs → P x
each_among P x [] all none = absurd none
each_among P x (y ∷ ys) all (inl same) = subst P (sym same) all.0
each_among P x (y ∷ ys) all (inr later) = each_among P x ys all.1 later

each_from : {X : Type 0} (P : X → Type 0) (xs : List X) → ((x : X) → Among x xs → P x) → Each P xs
each_from P [] all = tt
each_from P (x ∷ xs) all = (all x (inl refl), each_from P xs (λ y there. all y (inr there)))

get_mid : {X : Type 0} (xs : List X) (x : X) (ys : List X) → slice_get ((xs ++ x ∷ []) ++ ys) (length xs) ≡ Some x
get_mid [] x ys = refl
get_mid (y ∷ xs) x ys = get_mid xs x ys

-- # the entries of one session

own_first : (s : ℕ) (e : Entry) (es : List Entry) → e.session ≡ s → entries_of s (e ∷ es) ≡ e ∷ entries_of s es
own_first s e es is = rw (eq-eqb e.session s is) refl

other_first : (s : ℕ) (e : Entry) (es : List Entry) → e.session ≢ s → entries_of s (e ∷ es) ≡ entries_of s es
other_first s e es other = rw (ne_eqb e.session s other) refl

in_order_after : (s : ℕ) (e : Entry) (es : List Entry) → InOrder (entries_of s (e ∷ es)) → InOrder (entries_of s es)
in_order_after s e es rises = dite (ℕ_discrete e.session s) (λ is. (subst InOrder (own_first s e es is) rises).1) (λ other. subst InOrder (other_first s e es other) rises)

among_own : (s : ℕ) (e : Entry) (es : List Entry) → e.session ≡ s → Among e es → Among e (entries_of s es)
among_own s e [] is none = absurd none
among_own s e (x ∷ xs) is (inl same) = subst (Among e) (sym (own_first s x xs (sym (ap (λ (y : Entry). y.session) same) ∙ is))) (inl same)
among_own s e (x ∷ xs) is (inr later) = dite (ℕ_discrete x.session s)
    (λ mine. subst (Among e) (sym (own_first s x xs mine)) (inr (among_own s e xs is later)))
    (λ other. subst (Among e) (sym (other_first s x xs other)) (among_own s e xs is later))

among_all : (s : ℕ) (e : Entry) (es : List Entry) → Among e (entries_of s es) → Among e es
among_all s e [] none = absurd none
among_all s e (x ∷ xs) there = dite (ℕ_discrete x.session s)
    (λ mine. ⊎_elim (λ same. inl same) (λ later. inr (among_all s e xs later)) (subst (Among e) (own_first s x xs mine) there))
    (λ other. inr (among_all s e xs (subst (Among e) (other_first s x xs other) there)))

-- entries that rise in each session are different
different : (es : List Entry) → ((s : ℕ) → InOrder (entries_of s es)) → Apart es
different [] rises = tt
different (e ∷ es) rises =
    let mine = subst InOrder (own_first e.session e es refl) (rises e.session) in (
      each_from (λ x. e ≢ x) es (λ x there same.
          let above : e.seq < x.seq = each_among (λ (later : Entry). e.seq < later.seq) x (entries_of e.session es) mine.0 (among_own e.session x es (sym (ap (λ (y : Entry). y.session) same)) there) in
          let level : e.seq ≡ x.seq = ap (λ (y : Entry). y.seq) same in absurd (omega arith)),
      different es (λ s. in_order_after s e es (rises s)),
    )

-- # what one session was told

told_first : (s : ℕ) (r : Noted) (rs : List Noted) → session_of r.event ≡ s → told_to s (r ∷ rs) ≡ r ∷ told_to s rs
told_first s r rs is = rw (eq-eqb (session_of r.event) s is) refl

untold_first : (s : ℕ) (r : Noted) (rs : List Noted) → session_of r.event ≢ s → told_to s (r ∷ rs) ≡ told_to s rs
untold_first s r rs other = rw (ne_eqb (session_of r.event) s other) refl

each_told : (P : Noted → Type 0) (s : ℕ) (rs : List Noted) → Each P rs → Each P (told_to s rs)
each_told P s [] all = tt
each_told P s (r ∷ rs) all = dite (ℕ_discrete (session_of r.event) s)
    (λ is. subst (Each P) (sym (told_first s r rs is)) (all.0, each_told P s rs all.1))
    (λ other. subst (Each P) (sym (untold_first s r rs other)) (each_told P s rs all.1))

pairwise_told : (R : Noted → Noted → Type 0) (s : ℕ) (rs : List Noted) → Pairwise R rs → Pairwise R (told_to s rs)
pairwise_told R s [] all = tt
pairwise_told R s (r ∷ rs) all = dite (ℕ_discrete (session_of r.event) s)
    (λ is. subst (Pairwise R) (sym (told_first s r rs is)) (each_told (R r) s rs all.0, pairwise_told R s rs all.1))
    (λ other. subst (Pairwise R) (sym (untold_first s r rs other)) (pairwise_told R s rs all.1))

among_told : (s : ℕ) (x : Noted) (rs : List Noted) → Among x (told_to s rs) → Among x rs
among_told s x [] none = absurd none
among_told s x (r ∷ rs) there = dite (ℕ_discrete (session_of r.event) s)
    (λ is. ⊎_elim (λ same. inl same) (λ later. inr (among_told s x rs later)) (subst (Among x) (told_first s r rs is) there))
    (λ other. inr (among_told s x rs (subst (Among x) (untold_first s r rs other) there)))

abbrev steps : List Noted → List CoreEvent
steps rs = map (λ (r : Noted). r.event) rs

-- the entries that a session was told of are its entries
added_told : (s : ℕ) (h : List Entry) (events : List CoreEvent) → added_by (steps (told_to s (noted h events))) ≡ entries_of s (added_by events)
added_told s h [] = refl
added_told s h (Commit e ∷ events) =
    let r : Noted = record { event = Commit e; note = note_of h (Commit e) } in
    let rs : List Noted = noted (h ++ e ∷ []) events in
    let later = added_told s (h ++ e ∷ []) events in dite (ℕ_discrete e.session s)
    (λ is. ap (λ l. added_by (steps l)) (told_first s r rs is) ∙ (ap (λ l. e ∷ l) later ∙ sym (own_first s e (added_by events) is)))
    (λ other. ap (λ l. added_by (steps l)) (untold_first s r rs other) ∙ (later ∙ sym (other_first s e (added_by events) other)))
added_told s h (Look n ∷ events) =
    let r : Noted = record { event = Look n; note = note_of h (Look n) } in
    let rs : List Noted = noted h events in
    let later = added_told s h events in dite (ℕ_discrete n s)
    (λ is. ap (λ l. added_by (steps l)) (told_first s r rs is) ∙ later)
    (λ other. ap (λ l. added_by (steps l)) (untold_first s r rs other) ∙ later)

-- # histories and notes

-- what steps leave is what there was, and then the entries that they add
whole : (h : List Entry) (events : List CoreEvent) → after_all h events ≡ h ++ added_by events
whole h [] = sym (append-nil h)
whole h (Commit e ∷ events) = whole (h ++ e ∷ []) events ∙ append_assoc h (e ∷ []) (added_by events)
whole h (Look s ∷ events) = whole h events

-- no later note is below the length of the history so far
above : (h : List Entry) (events : List CoreEvent) (n : ℕ) → n ≤ length h → Each (λ (r : Noted). Follows n r.event r.note) (noted h events)
above h [] n le = tt
above h (Commit e ∷ events) n le =
    let more : length (h ++ e ∷ []) ≡ length h + 1 = length-append h (e ∷ []) in (omega arith, above (h ++ e ∷ []) events n (omega arith))
above h (Look s ∷ events) n le = (le, above h events n le)

rising : (h : List Entry) (events : List CoreEvent) → Pairwise (λ (r later : Noted). Follows r.note later.event later.note) (noted h events)
rising h [] = tt
rising h (event ∷ events) = (above (after h event) events (note_of h event) (omega arith), rising (after h event) events)

within : (h : List Entry) (events : List CoreEvent) → Each (λ (r : Noted). r.note ≤ length (after_all h events)) (noted h events)
within h [] = tt
within h (event ∷ events) =
    let now : List Entry = after h event in
    let long : length (after_all now events) ≡ length now + length (added_by events) = ap length (whole now events) ∙ length-append now (added_by events) in
    (omega arith, within now events)

placed_here : (h : List Entry) (e : Entry) (events : List CoreEvent) → StandsAt (after_all (h ++ e ∷ []) events) (length (h ++ e ∷ [])) e
placed_here h e events =
    let long : length (h ++ e ∷ []) ≡ length h + 1 = length-append h (e ∷ []) in
    let place : length (h ++ e ∷ []) - 1 ≡ length h = omega arith in
    (omega arith, ap (λ n. slice_get (after_all (h ++ e ∷ []) events) n) place ∙ (ap (λ l. slice_get l (length h)) (whole (h ++ e ∷ []) events) ∙ get_mid h e (added_by events)))

placed : (h : List Entry) (events : List CoreEvent) (e : Entry) (note : ℕ) → Among (record { event = Commit e; note = note }) (noted h events) → StandsAt (after_all h events) note e
placed h [] e note none = absurd none
placed h (event ∷ events) e note (inl same) =
    let is : event ≡ Commit e = sym (ap (λ (r : Noted). r.event) same) in
    subst (λ n. StandsAt (after_all (after h event) events) n e) (sym (ap (λ (r : Noted). r.note) same))
    (subst (λ ev. StandsAt (after_all (after h ev) events) (note_of h ev) e) (sym is) (placed_here h e events))
placed h (event ∷ events) e note (inr later) = placed (after h event) events e note later

pub legal : (events : List CoreEvent) → CommitsInOrder events → IsLegal (λ s. told_to s (noted [] events)) (after_all [] events)
legal events rises =
    let all : after_all [] events ≡ added_by events = whole [] events in record {
      different = subst Apart (sym all) (different (added_by events) rises);
      accepted = λ e.
          let mine : added_by (steps (told_to e.session (noted [] events))) ≡ entries_of e.session (added_by events) = added_told e.session [] events in (
            (λ there. subst (Among e) (sym mine) (among_own e.session e (added_by events) refl (subst (Among e) all there))),
            (λ there. subst (Among e) (sym all) (among_all e.session e (added_by events) (subst (Among e) mine there))),
          );
      in_order = λ s. subst (λ l. InOrder (entries_of s l)) (sym all) (rises s);
      placed = λ s e note there. placed [] events e note (among_told s (record { event = Commit e; note = note }) (noted [] events) there);
      rising = λ s. pairwise_told (λ (r later : Noted). Follows r.note later.event later.note) s (noted [] events) (rising [] events);
      within = λ s. each_told (λ (r : Noted). r.note ≤ length (after_all [] events)) s (noted [] events) (within [] events);
    }
