-- What is read of an input up to its rows.
use Rattle.std.specs.Prelude.{◌≡◌, ℕ, ◌-◌, ◌≤◌, List, length, Option, Result, Ok, Err, IfSome}
use Rattle.agg_ports.specs.Causes.{Rose}
use Rattle.batch_reader.specs.Reading.{IsBatchAnswer, IsTakenOpen, schema_types}
use Rattle.batch_reader.specs.declared.fault.RowFault.{RowFault}
use Rattle.columns.specs.Rows.{Rows}
use Rattle.line_reader.specs.Ahead.{Ahead, IsInput, new_ahead}
use Rattle.line_reader.specs.Limits.{IsTooLarge, IsTooLong, IsWithin, behind_next, bytes_to_end, next_of}
use Rattle.line_reader.specs.declared.fault.LineFault.{LineFault}
use Rattle.query_run.specs.Outcome.{AtLine, IsTableThen, judged_rows, most_input, most_line}
use Rattle.query_run.specs.Runs.{IsQueryRun, Tells}
use Rattle.refusals.specs.declared.status.Size.{Size}
use Rattle.refusals.specs.declared.status.Status.{Status}
use Rattle.refusals.specs.declared.why.RequestFault.{RequestFault}
use Rattle.request_rules.specs.Tables.{AreLegal, Column}
use Rattle.request_text.specs.Lines.{IsTableJudged}
use Rattle.request_text.specs.Queries.{IsQueryAnswer}
use Rattle.request_text.specs.declared.query.Query.{Query}
use Rattle.state_codec.specs.Codec.{state_reading}

-- the faults of a line and of the two lines as statuses
abbrev pub line_status : LineFault → Status
line_status LineFault.Read = Status.ReadFault
line_status LineFault.TooLong = Status.TooLarge Size.Line
line_status LineFault.TooLarge = Status.TooLarge Size.Input
line_status LineFault.OutOfMemory = Status.OutOfMemory

abbrev pub refused : RequestFault → Status
refused (RequestFault.Bad line why) = Status.BadRequest line why
refused RequestFault.OutOfMemory = Status.OutOfMemory

-- The first line of the input, which breaks no limit, and what is left behind it. Where the input ends the line is empty.
pub record HasLine (left now : Option (List ℕ)) (before after : Ahead) (line : List ℕ) : Type 0 where
  pub input : List ℕ
  pub rest : List ℕ
  pub from : IsInput left before input
  pub to : IsInput now after rest
  pub within : IsWithin before.most_line before.room input
  pub line_is : line ≡ next_of input
  pub rest_is : rest ≡ behind_next input
  pub room : after.room ≡ before.room - bytes_to_end input

-- why there is no such line
abbrev pub Breaks : Option (List ℕ) → ℕ → List ℕ → ℕ → Status → Type 0
Breaks now room input most (Status.TooLarge Size.Line) = IsTooLong most room input
Breaks now room input most (Status.TooLarge Size.Input) = IsTooLarge most room input
Breaks now room input most Status.ReadFault = IsTakenOpen now most room input
Breaks now room input most Status.OutOfMemory = Unit {0}
Breaks now room input most _ = ⊥

pub record HasNoLine (left now : Option (List ℕ)) (before : Ahead) (status : Status) : Type 0 where
  pub input : List ℕ
  pub from : IsInput left before input
  pub breaks : Breaks now before.room input before.most_line status

abbrev pub ReadsLine : Option (List ℕ) → Option (List ℕ) → Ahead → Ahead → Result (List ℕ) Status → Type 0
ReadsLine left now before after (Ok line) = HasLine left now before after line
ReadsLine left now before after (Err status) = HasNoLine left now before status

-- The source's count of faults rose where the answer is a fault of reading, and is as before where there is none.
abbrev pub StatusCause : {A : Type 0} → ℕ → ℕ → Result A Status → Type 0
StatusCause before now (Ok x) = now ≡ before
StatusCause before now (Err Status.ReadFault) = Rose before now
StatusCause before now (Err status) = Unit {0}

-- The line of a table: at most 64 columns of legal types.
pub record IsTableLine (line : List ℕ) : Type 0 where
  pub columns : List Column
  pub table : IsTableJudged line (Ok columns)
  pub few : length columns ≤ 64
  pub legal : AreLegal columns

-- why a line is none
abbrev pub RefusesTable : List ℕ → Status → Type 0
RefusesTable line (Status.BadRequest number why) = (number ≡ 1) × IsTableJudged line (Err why)
RefusesTable line Status.OutOfMemory = Unit {0}
RefusesTable line _ = ⊥

-- why two lines are no query
abbrev pub RefusesQuery : List ℕ → List ℕ → Status → Type 0
RefusesQuery line1 line2 (Status.BadRequest number why) = IsQueryAnswer line1 line2 (Err (RequestFault.Bad number why))
RefusesQuery line1 line2 Status.OutOfMemory = Unit {0}
RefusesQuery line1 line2 _ = ⊥

-- What the rows behind a query come to, the whole input comes to.
pub record HasHead {A : Type 0} (left : A → Option (List ℕ)) (old new : A) (ahead : Ahead) (query : Query) : Type 0 where
  pub rest : List ℕ
  pub to : IsInput (left new) ahead rest
  pub comes : IfSome (left old) (λ input. (now : Option (List ℕ)) (rows : Result Rows RowFault) →
      IsBatchAnswer state_reading (schema_types query.schema) now (new_ahead most_line ahead.room) rest rows →
      AtLine now (judged_rows query rows) most_input input (IsTableThen now (judged_rows query rows)))

-- the first two lines are a query, or the run ends at one of them
abbrev pub HeadsTo : {A : Type 0} → (A → Option (List ℕ)) → A → A → Ahead → Result Query Status → Type 0
HeadsTo left old new ahead (Ok query) = Tells left → HasHead left old new ahead query
HeadsTo left old new ahead (Err status) = IsQueryRun left old new (Err status)
