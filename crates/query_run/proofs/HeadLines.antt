-- One line, as the outcome of an input has it.
use Rattle.std.proofs.Common.{◌≡◌, ℕ, ◌-◌, List, Option, Err, refl, subst, inl, inr}
use Rattle.batch_reader.specs.Reading.{IsTakenOpen}
use Rattle.line_reader.specs.Ahead.{Ahead}
use Rattle.line_reader.specs.Limits.{IsTooLarge, IsTooLong, IsWithin, behind_next, bytes_to_end}
use Rattle.refusals.specs.declared.status.Size.{Size}
use Rattle.refusals.specs.declared.status.Status.{Status}
use Rattle.query_run.specs.Outcome.{AtLine, Judgement, most_line}
use Rattle.query_run.specs.proving.Heads.{HasLine, HasNoLine}

-- What the line and what follows it come to, the input comes to.
pub line-on : (left now end : Option (List ℕ)) (before after : Ahead) (line : List ℕ) (judged : Judgement) (Then : List ℕ → ℕ → List ℕ → Type 0) (h : HasLine left now before after line) → before.most_line ≡ most_line
    → Then line after.room h.rest → AtLine end judged before.room h.input Then
line-on left now end before after line judged Then h most then =
    inl (
      subst (λ m. IsWithin m before.room h.input) most h.within,
      subst (λ l. Then l (before.room - bytes_to_end h.input) (behind_next h.input)) h.line_is
          (subst (λ r. Then line r (behind_next h.input)) h.room
          (subst (Then line after.room) h.rest_is then)),
    )

-- a status that is told of an input: any but want of memory
abbrev pub IsToldStatus : Status → Type 0
IsToldStatus Status.OutOfMemory = ⊥
IsToldStatus _ = Unit {0}

-- Where there is no line, that is what the input comes to.
pub no-line-on : (left now : Option (List ℕ)) (before : Ahead) (status : Status) (Then : List ℕ → ℕ → List ℕ → Type 0) → IsToldStatus status → (h : HasNoLine left now before status) → before.most_line ≡ most_line
    → AtLine now (Err status) before.room h.input Then
no-line-on left now before (Status.TooLarge Size.Line) Then told h most = inr (inl (subst (λ m. IsTooLong m before.room h.input) most h.breaks, refl))
no-line-on left now before (Status.TooLarge Size.Input) Then told h most = inr (inr (inl (subst (λ m. IsTooLarge m before.room h.input) most h.breaks, refl)))
no-line-on left now before (Status.TooLarge Size.Script) Then told h most = absurd h.breaks
no-line-on left now before Status.ReadFault Then told h most = inr (inr (inr (subst (λ m. IsTakenOpen now m before.room h.input) most h.breaks, refl)))
no-line-on left now before Status.OutOfMemory Then told h most = absurd told
no-line-on left now before Status.Done Then told h most = absurd h.breaks
no-line-on left now before Status.Usage Then told h most = absurd h.breaks
no-line-on left now before (Status.BadRequest line why) Then told h most = absurd h.breaks
no-line-on left now before (Status.BadRow row why) Then told h most = absurd h.breaks
no-line-on left now before (Status.BadState row column why) Then told h most = absurd h.breaks
no-line-on left now before Status.WriteFault Then told h most = absurd h.breaks
