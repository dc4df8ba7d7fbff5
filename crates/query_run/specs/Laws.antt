-- The input of a query comes to one thing.
use Rattle.std.specs.Prelude.{◌≡◌, ℕ, List, Option, Err}
use Rattle.query_run.specs.Outcome.{IsQueryOutcome, Judgement}
use Rattle.refusals.specs.declared.status.Status.{Status}

-- what is told of the input alone: neither want of memory nor that the source failed
abbrev pub IsOfInput : Judgement → Type 0
IsOfInput (Err Status.OutOfMemory) = ⊥
IsOfInput (Err Status.ReadFault) = ⊥
IsOfInput judged = Unit {0}

-- Two outcomes of an input are one text or one refusal, whatever the sources had left at the end.
abbrev pub OneOutcome : Type 0
OneOutcome = (now later : Option (List ℕ)) (input : List ℕ) (one other : Judgement) → IsOfInput one → IsOfInput other →
    IsQueryOutcome now input one → IsQueryOutcome later input other → one ≡ other
