-- A machine whose every state can still succeed stops exactly behind the longest front.
use Rattle.std.proofs.Common.{◌≡◌, ℕ, zero, suc, ◌+◌, ◌<◌, ◌≤◌, List, [], ◌∷◌, ◌++◌, length, take, drop, get_or, drop-cons, Option, Some, None, Result, Ok, Err, refl, sym, ap, subst, ◌∙◌, arith, inl, inr, ◌⊎◌}
use Rattle.std.proofs.lemmas.Bool.{cases_lt}
use Rattle.std.proofs.lemmas.List.{at_drop_more, at_drop_all}
use Rattle.first_fault.specs.FirstFault.{Begins, IsLongestFront, IsReading}
use Rattle.first_fault.specs.Machine.{later, at_end, at_letter, run, shifted}

-- what holds of every state that is reached, and lets it still succeed
pub record IsLive {A S V : Type 0} (step : S → A → Option S) (done : S → Option V) (holds : S → Type 0) : Type 0 where
  pub kept : (s t : S) (a : A) → holds s → step s a ≡ Some t → holds t
  pub goes_on : (s : S) → holds s → (rest : List A) × (v : V) × (run step done s rest ≡ Ok v)

pub later_err : {V : Type 0} (r : Result V ℕ) (at : ℕ) → later r ≡ Err at → (n : ℕ) × (r ≡ Err n) × (at ≡ suc n)
later_err (Ok w) at e = absurd cc
later_err (Err n) at e = (n, refl, cc)

pub later_ok : {V : Type 0} (r : Result V ℕ) (v : V) → later r ≡ Ok v → r ≡ Ok v
later_ok (Ok w) v e = e
later_ok (Err n) v e = absurd cc

pub end_ok : {V : Type 0} (o : Option V) (v : V) → at_end o ≡ Ok v → o ≡ Some v
end_ok (Some w) v e = cc
end_ok None v e = absurd cc

pub end_err : {V : Type 0} (o : Option V) (at : ℕ) → at_end o ≡ Err at → at ≡ 0
end_err (Some w) at e = absurd cc
end_err None at e = cc

pub letter_ok : {S V : Type 0} (read : S → Result V ℕ) (o : Option S) (v : V) → at_letter read o ≡ Ok v → (t : S) × (o ≡ Some t) × (read t ≡ Ok v)
letter_ok read (Some t) v e = (t, refl, later_ok (read t) v e)
letter_ok read None v e = absurd cc

letter_err : {S V : Type 0} (read : S → Result V ℕ) (o : Option S) (at : ℕ) → at_letter read o ≡ Err at
    → (at ≡ 0) ⊎ ((t : S) × (n : ℕ) × (o ≡ Some t) × (read t ≡ Err n) × (at ≡ suc n))
letter_err read (Some t) at e = let p = later_err (read t) at e in inr (t, p.0, refl, p.1, p.2)
letter_err read None at e = inl cc

-- a fault lies within the text, and the front before it can be gone on with
stops : {A S V : Type 0} (step : S → A → Option S) (done : S → Option V) (holds : S → Type 0) → IsLive step done holds → (s : S) → holds s → (text : List A) (at : ℕ) → run step done s text ≡ Err at
    → (at ≤ length text) × ((rest : List A) × (v : V) × (run step done s (take at text ++ rest) ≡ Ok v))
stops step done holds live s h [] at e = let z = end_err (done s) at e in rw z (omega arith, live.goes_on s h)
stops {A} {S} {V} step done holds live s h (a ∷ text) at e =
    elim (letter_err (λ t. run step done t text) (step s a) at e) [
      | inl z ↦ rw z (omega arith, live.goes_on s h)
      | inr p ↦
          let more = stops step done holds live p.0 (live.kept s p.0 a h p.2) text p.1 p.3 in
          rw p.4 (omega (arith, more.0), (more.1.0, more.1.1, rw (p.2, more.1.2) refl))
    ]

-- a fault stays where the text goes on differently behind the letter at it
stays : {A S V : Type 0} (step : S → A → Option S) (done : S → Option V) (s : S) (text : List A) (at n : ℕ) (rest : List A) → run step done s text ≡ Err at → at < n → n ≤ length text
    → run step done s (take n text ++ rest) ≡ Err at
stays step done s [] at n rest e lt le = absurd (omega (arith, lt, le))
stays step done s (a ∷ text) at zero rest e lt le = absurd (omega (arith, lt))
stays {A} {S} {V} step done s (a ∷ text) at (suc n) rest e lt le =
    elim (step s a) as (λ o. at_letter (λ t. run step done t text) o ≡ Err at → at_letter (λ t. run step done t (take n text ++ rest)) o ≡ Err at) [
      | None ↦ λ e. e
      | Some t ↦ λ e.
          let p = later_err (run step done t text) at e in
          ap later (stays step done t text p.0 n rest p.1 (omega (arith, lt, p.2)) (omega (arith, le))) ∙ sym (ap Err p.2)
    ] e

one_answer : {V : Type 0} (r : Result V ℕ) (v : V) (at : ℕ) → r ≡ Ok v → r ≡ Err at → ⊥
one_answer r v at e f = absurd cc

-- found and only say that the machine reads the grammar; with live its faults are the first ones
pub machine_reads : {A S V : Type 0} (step : S → A → Option S) (done : S → Option V) (holds : S → Type 0) (spells : List A → V → Type 0) (start : S)
    → ((text : List A) (v : V) → run step done start text ≡ Ok v → spells text v)
    → ((text : List A) (v : V) → spells text v → run step done start text ≡ Ok v)
    → IsLive step done holds → holds start
    → (text : List A) (r : Result V ℕ) → run step done start text ≡ r → IsReading spells text r
machine_reads step done holds spells start found only live h text (Ok v) e = found text v e
machine_reads step done holds spells start found only live h text (Err at) e =
    let s = stops step done holds live start h text at e in (
      λ v spelled. one_answer _ v at (only text v spelled) e,
      record {
        within = s.0;
        begins = (s.1.0, s.1.1, found _ _ s.1.2);
        longest = λ n le b. elim (cases_lt at n) [
          | inr small ↦ small
          | inl lt ↦ absurd (one_answer _ b.1 at (only _ _ b.2) (stays step done start text at n b.0 e lt le))
        ];
      },
    )

-- ---- a loop over a text

pub shifted_zero : {V : Type 0} (r : Result V ℕ) → shifted 0 r ≡ r
shifted_zero (Ok v) = refl
shifted_zero (Err n) = ap Err (omega arith)

pub shifted_later : {V : Type 0} (n : ℕ) (r : Result V ℕ) → shifted n (later r) ≡ shifted (n + 1) r
shifted_later n (Ok v) = refl
shifted_later n (Err at) = ap Err (omega arith)

-- a letter that goes on
pub run_on : {A S V : Type 0} (step : S → A → Option S) (done : S → Option V) (s t : S) (n i : ℕ) (text : List A) (a : A) (total : Result V ℕ) → i < length text → step s (get_or text i a) ≡ Some t
    → shifted n (run step done s (drop i text)) ≡ total → shifted (n + 1) (run step done t (drop (i + 1) text)) ≡ total
run_on {A} {S} {V} step done s t n i text a total lt e told =
    let one : shifted n (run step done s (drop i text)) ≡ shifted n (later (run step done t (drop (i + 1) text))) = ap (shifted n) (at_drop_more (run step done s) text i a lt ∙ ap (at_letter (λ t. run step done t (drop (i + 1) text))) e) in
    sym (one ∙ shifted_later n (run step done t (drop (i + 1) text))) ∙ told

-- a letter that doesn't
pub run_off : {A S V : Type 0} (step : S → A → Option S) (done : S → Option V) (s : S) (n i : ℕ) (text : List A) (a : A) (total : Result V ℕ) → i < length text → step s (get_or text i a) ≡ None
    → shifted n (run step done s (drop i text)) ≡ total → total ≡ Err n
run_off {A} {S} {V} step done s n i text a total lt e told =
    let at : n + 0 ≡ n = omega arith in
    let one : shifted n (run step done s (drop i text)) ≡ shifted n (Err 0) = rw (drop-cons text i a lt, e) refl in
    sym told ∙ one ∙ ap Err at

-- the end
pub run_out : {A S V : Type 0} (step : S → A → Option S) (done : S → Option V) (s : S) (n i : ℕ) (text : List A) (total : Result V ℕ) → length text ≤ i
    → shifted n (run step done s (drop i text)) ≡ total → total ≡ shifted n (at_end (done s))
run_out step done s n i text total le told = sym told ∙ ap (shifted n) (at_drop_all (run step done s) text i le)
