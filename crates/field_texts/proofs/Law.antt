-- The judge is right, with the first fault.
use Rattle.std.proofs.Common.{ℕ, List, [], ◌∷◌, refl, sym, subst}
use Rattle.first_fault.specs.FirstFault.{IsReading}
use Rattle.first_fault.proofs.Machines.{IsLive, machine_reads}
use Rattle.field_texts.specs.Syntax.{FieldForm, IsField}
use Rattle.field_texts.specs.Machine.{value, step, done, judge}
use Rattle.field_texts.proofs.Found.{Sound, kept, found}
use Rattle.field_texts.proofs.Only.{Runs, spaces_run, accepts, goes_on}
use Rattle.std.proofs.lemmas.List.{append-nil}

live : IsLive {V = Unit {0}} step done Sound
live = record { kept = kept; goes_on = λ s h. let r = goes_on s h in (r.0, tt, r.1) }

pub judge_exact : (ty : FieldForm) (text : List ℕ) → IsReading (IsField ty) text (judge ty text)
judge_exact ty text =
    machine_reads step done Sound (IsField ty) (value ty ∷ [])
    (λ t v e. found (value ty ∷ []) t v (tt, tt) e)
    (λ t v r. subst (λ x. Runs (value ty ∷ []) x) (sym r.whole) (accepts ty r.front r.first [] tt r.rest (subst (λ x. Runs [] x) (append-nil r.rest) (spaces_run [] refl r.rest r.second [] refl))))
    live (tt, tt) text (judge ty text) refl
