-- How a run ends, by what its input comes to: its status, what is written, and where each end stands.
use Rattle.std.specs.Prelude.{◌≡◌, ◌<◌, ℕ, List, [], length, take, Option, None, Some, Ok, Err, IfSome}
use Rattle.std.specs.Io.KnownBytes.{Appends, IsAtEnd, Keeps}
use Rattle.agg_ports.specs.Causes.{Rose}
use Rattle.query_run.specs.Outcome.{IsQueryOutcome, Judgement}
use Rattle.refusals.specs.Words.{error_line}
use Rattle.refusals.specs.declared.status.Status.{Status}

-- a source that tells its bytes, in each state of it
abbrev pub Tells : {A : Type 0} → (A → Option (List ℕ)) → Type 0
Tells {A} left = (source : A) → (bytes : List ℕ) × (left source ≡ Some bytes)

-- what a query comes to, whose source tells its bytes
abbrev pub IsQueryRun : {A : Type 0} → (A → Option (List ℕ)) → A → A → Judgement → Type 0
IsQueryRun left old new judged = Tells left → IfSome (left old) (λ input. IsQueryOutcome (left new) input judged)

-- a status that is written as its error line
abbrev pub IsRefusal : Status → Type 0
IsRefusal Status.Done = ⊥
IsRefusal Status.WriteFault = ⊥
IsRefusal _ = Unit {0}

-- the text of what a run comes to
abbrev pub text_of : Judgement → List ℕ
text_of (Ok text) = text
text_of (Err status) = error_line status

-- how both ends of a run move: the source's count of faults, what the sink holds, and its count
pub record Moves : Type 0 where
  pub source_before : ℕ
  pub source_now : ℕ
  pub held_before : Option (List ℕ)
  pub held_now : Option (List ℕ)
  pub sink_before : ℕ
  pub sink_now : ℕ

-- an answer comes of a source that never failed, a fault of reading only of one that did
abbrev pub IsCaused : Moves → Judgement → Type 0
IsCaused m (Ok text) = m.source_now ≡ m.source_before
IsCaused m (Err Status.ReadFault) = Rose m.source_before m.source_now
IsCaused m judged = Unit {0}

-- A run ended well: the answer was written behind what the sink held, the source was read to its end, and nothing failed.
pub record IsDone (Comes : Judgement → Type 0) (now : Option (List ℕ)) (m : Moves) : Type 0 where
  pub output : List ℕ
  pub comes : Comes (Ok output)
  pub written : Appends m.held_before m.held_now output
  pub ended : IsAtEnd now
  pub read_well : m.source_now ≡ m.source_before
  pub wrote_well : m.sink_now ≡ m.sink_before

-- A run whose sink failed: a front of the text that it came to was written, and not all of it.
pub record IsCut (Comes : Judgement → Type 0) (m : Moves) : Type 0 where
  pub judged : Judgement
  pub comes : Comes judged
  pub caused : IsCaused m judged
  pub count : ℕ
  pub within : count < length (text_of judged)
  pub written : Appends m.held_before m.held_now (take count (text_of judged))
  pub failed : Rose m.sink_before m.sink_now

-- A run that ends in a refusal: what it came to is that, its error line was written, and the sink never failed.
pub record IsRefused (Comes : Judgement → Type 0) (m : Moves) (status : Status) : Type 0 where
  pub comes : Comes (Err status)
  pub caused : IsCaused m (Err status)
  pub written : Appends m.held_before m.held_now (error_line status)
  pub wrote_well : m.sink_now ≡ m.sink_before

-- How a run ends that comes to this.
abbrev pub Ends : (Judgement → Type 0) → Option (List ℕ) → Moves → Status → Type 0
Ends Comes now m Status.Done = IsDone Comes now m
Ends Comes now m Status.WriteFault = IsCut Comes m
Ends Comes now m status = IsRefused Comes m status

-- A query that is refused: its input comes to that, and the sink wasn't touched.
pub record IsUnanswered (Comes : Judgement → Type 0) (m : Moves) (status : Status) : Type 0 where
  pub comes : Comes (Err status)
  pub caused : IsCaused m (Err status)
  pub kept : Keeps m.held_before m.held_now
  pub quiet : m.sink_now ≡ m.sink_before

-- How a query ends, which writes its answer alone: where it is refused, nothing is written.
abbrev pub EndsQuery : (Judgement → Type 0) → Option (List ℕ) → Moves → Status → Type 0
EndsQuery Comes now m Status.Done = IsDone Comes now m
EndsQuery Comes now m Status.WriteFault = IsCut (λ judged. (output : List ℕ) × (judged ≡ Ok output) × Comes judged) m
EndsQuery Comes now m status = IsUnanswered Comes m status

-- An input that is accepted from its first line to its last.
abbrev pub IsAccepted : List ℕ → Type 0
IsAccepted input = (output : List ℕ) × IsQueryOutcome (Some []) input (Ok output)

-- the only ends of a run that nothing but want of memory hinders
abbrev pub IsUnhindered : Status → Type 0
IsUnhindered Status.Done = Unit {0}
IsUnhindered Status.OutOfMemory = Unit {0}
IsUnhindered _ = ⊥

-- Where the input is accepted and neither end fails, nothing but want of memory hinders the answer.
abbrev pub IsComplete : Option (List ℕ) → Moves → Status → Type 0
IsComplete None m status = Unit {0}
IsComplete (Some input) m status =
    IsAccepted input → (Rose m.source_before m.source_now → ⊥) → (Rose m.sink_before m.sink_now → ⊥) → IsUnhindered status
