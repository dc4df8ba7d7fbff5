-- How a run ends.
use Rattle.std.proofs.Common.{◌≡◌, ℕ, List, Option, Some, None, Err, refl, IfSome}
use Rattle.std.specs.Io.KnownBytes.{Keeps}
use Rattle.refusals.specs.declared.status.Status.{Status}
use Rattle.query_run.specs.Laws.{OneOutcome}
use Rattle.query_run.specs.Outcome.{IsQueryOutcome, Judgement}
use Rattle.query_run.specs.Runs.{EndsQuery, IsComplete, IsQueryRun, IsRefusal, Moves, Tells}
use Rattle.query_run.specs.proving.Heads.{StatusCause}
use Rattle.query_run.proofs.OneOutcome.{accepted-once}

pub keeps-same : (held : Option (List ℕ)) → Keeps held held
keeps-same None = tt
keeps-same (Some xs) = refl

-- nothing was written
pub ends-refused : (Comes : Judgement → Type 0) (now : Option (List ℕ)) (m : Moves) (status : Status) → IsRefusal status → Comes (Err status) → StatusCause {A = Unit {0}} m.source_before m.source_now (Err status)
    → Keeps m.held_before m.held_now → m.sink_now ≡ m.sink_before → EndsQuery Comes now m status
ends-refused Comes now m Status.Done refusal comes cause kept quiet = absurd refusal
ends-refused Comes now m Status.WriteFault refusal comes cause kept quiet = absurd refusal
ends-refused Comes now m Status.ReadFault refusal comes cause kept quiet = record { comes = comes; caused = cause; kept = kept; quiet = quiet }
ends-refused Comes now m Status.Usage refusal comes cause kept quiet = record { comes = comes; caused = tt; kept = kept; quiet = quiet }
ends-refused Comes now m (Status.BadRequest line why) refusal comes cause kept quiet = record { comes = comes; caused = tt; kept = kept; quiet = quiet }
ends-refused Comes now m (Status.BadRow row why) refusal comes cause kept quiet = record { comes = comes; caused = tt; kept = kept; quiet = quiet }
ends-refused Comes now m (Status.BadState row column why) refusal comes cause kept quiet = record { comes = comes; caused = tt; kept = kept; quiet = quiet }
ends-refused Comes now m (Status.TooLarge size) refusal comes cause kept quiet = record { comes = comes; caused = tt; kept = kept; quiet = quiet }
ends-refused Comes now m Status.OutOfMemory refusal comes cause kept quiet = record { comes = comes; caused = tt; kept = kept; quiet = quiet }

module _ (law : OneOutcome) where
  -- an input that is accepted is not refused, where both ends serve
  unhindered : (Comes : Judgement → Type 0) (now : Option (List ℕ)) (m : Moves) (input : List ℕ) (status : Status) → ((judged : Judgement) → Comes judged → IsQueryOutcome now input judged)
      → EndsQuery Comes now m status → IsComplete (Some input) m status
  unhindered Comes now m input Status.Done says ends = λ accepted reads writes. tt
  unhindered Comes now m input Status.OutOfMemory says ends = λ accepted reads writes. tt
  unhindered Comes now m input Status.WriteFault says ends = λ accepted reads writes. writes ends.failed
  unhindered Comes now m input Status.ReadFault says ends = λ accepted reads writes. reads ends.caused
  unhindered Comes now m input Status.Usage says ends = λ accepted reads writes. accepted-once law now input Status.Usage tt accepted (says (Err Status.Usage) ends.comes)
  unhindered Comes now m input (Status.BadRequest line why) says ends =
      λ accepted reads writes. accepted-once law now input (Status.BadRequest line why) tt accepted (says (Err (Status.BadRequest line why)) ends.comes)
  unhindered Comes now m input (Status.BadRow row why) says ends =
      λ accepted reads writes. accepted-once law now input (Status.BadRow row why) tt accepted (says (Err (Status.BadRow row why)) ends.comes)
  unhindered Comes now m input (Status.BadState row column why) says ends =
      λ accepted reads writes. accepted-once law now input (Status.BadState row column why) tt accepted (says (Err (Status.BadState row column why)) ends.comes)
  unhindered Comes now m input (Status.TooLarge size) says ends =
      λ accepted reads writes. accepted-once law now input (Status.TooLarge size) tt accepted (says (Err (Status.TooLarge size)) ends.comes)

  by-told : (o : Option (List ℕ)) (Comes : Judgement → Type 0) (now : Option (List ℕ)) (m : Moves) (status : Status) → ((judged : Judgement) → Comes judged → IfSome o (λ input. IsQueryOutcome now input judged))
      → EndsQuery Comes now m status → IsComplete o m status
  by-told None Comes now m status says ends = tt
  by-told (Some input) Comes now m status says ends = unhindered Comes now m input status says ends

  pub completes : {A : Type 0} (left : A → Option (List ℕ)) (old new : A) (m : Moves) (status : Status) → EndsQuery (IsQueryRun left old new) (left new) m status → Tells left → IsComplete (left old) m status
  completes left old new m status ends tells = by-told (left old) (IsQueryRun left old new) (left new) m status (λ judged comes. comes tells) ends
