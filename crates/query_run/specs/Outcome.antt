-- What a run of `query` comes to, over whole lists: the bytes of its source, told line by line in their order.
use Rattle.std.specs.Prelude.{◌≡◌, ℕ, ◌-◌, List, map, ◌⊎◌, Option, Result, Ok, Err}
use Rattle.agg_terms.specs.Chains as terms
use Rattle.agg_meaning.specs.Views.{View, answer, of_row}
use Rattle.agg_defs.specs.Plans.{types_in, view_in}
use Rattle.answer_texts.specs.Lines.{answer_text, with_results}
use Rattle.group_tables.specs.Groupings.{answer_types}
use Rattle.batch_reader.specs.Reading.{IsBatchAnswer, IsTakenOpen, schema_types}
use Rattle.batch_reader.specs.declared.fault.RowFault.{RowFault}
use Rattle.columns.specs.Rows.{Rows}
use Rattle.line_reader.specs.Ahead.{new_ahead}
use Rattle.line_reader.specs.Limits.{IsTooLarge, IsTooLong, IsWithin, behind_next, bytes_to_end, next_of}
use Rattle.refusals.specs.declared.status.RowWhy.{RowWhy}
use Rattle.refusals.specs.declared.status.Size.{Size}
use Rattle.refusals.specs.declared.status.StateWhy.{StateWhy}
use Rattle.refusals.specs.declared.status.Status.{Status}
use Rattle.refusals.specs.declared.why.Why.{Why}
use Rattle.request_rules.specs.Tables.{Column}
use Rattle.request_rules.specs.Views.{plan_of, schema_of}
use Rattle.request_text.specs.Lines.{IsSelectJudged, IsTableJudged}
use Rattle.request_text.specs.declared.query.Query.{Query}
use Rattle.scalar_texts.specs.declared.fault.FieldFault.{FieldFault}
use Rattle.state_codec.specs.Codec.{state_reading, state_text}
use Rattle.value_types.specs.Folds.{value_of}
use Rattle.value_types.specs.declared.value.Value.{Value}

-- a text that is written, or the status that stands in its place
abbrev pub Judgement : Type 0
Judgement = Result (List ℕ) Status

-- the limits of an input, in bytes: a line without its newline, and all of it
abbrev pub most_line : ℕ
most_line = 16777216

abbrev pub most_input : ℕ
most_input = 268435456

-- The rows.

-- A refused field is a bad state where it is no hexadecimal or no state text, and a bad row else.
abbrev pub refused_field : ℕ → ℕ → FieldFault → Status
refused_field row column (FieldFault.NotHex at) = Status.BadState row column (StateWhy.NotHex at)
refused_field row column (FieldFault.BadState fault) = Status.BadState row column (StateWhy.Fault fault)
refused_field row column fault = Status.BadRow row (RowWhy.Field column fault)

-- the status of what is wrong with the rows
abbrev pub status_of : RowFault → Status
status_of (RowFault.Row row column fault) = refused_field row column fault
status_of (RowFault.FieldCount row want have) = Status.BadRow row (RowWhy.Count want have)
status_of (RowFault.TooLong row) = Status.TooLarge Size.Line
status_of RowFault.TooLarge = Status.TooLarge Size.Input
status_of RowFault.Read = Status.ReadFault
status_of RowFault.OutOfMemory = Status.OutOfMemory

-- The text of the answer over rows: a line for each group, its key and what each call means in it.
abbrev pub answered : List terms.Ty → View → List (List Value) → List ℕ
answered types v rows = answer_text state_text (answer_types types v) (map with_results (answer v (map (of_row v) (map (map value_of) rows))))

-- what the rows of a query come to, or what is wrong with them
abbrev pub judged_rows : Query → Result Rows RowFault → Judgement
judged_rows query (Ok batch) = Ok (answered (types_in query.schema) (view_in query.plan) batch.rows)
judged_rows query (Err fault) = Err (status_of fault)

-- The two lines before them.

-- At a line: it breaks no limit, and `Then` holds of it, of how many bytes may follow and of what follows; where the input ends it is
-- empty. Or it breaks a limit, or reading failed before it was complete.
abbrev pub AtLine : Option (List ℕ) → Judgement → ℕ → List ℕ → (List ℕ → ℕ → List ℕ → Type 0) → Type 0
AtLine now judged room input Then =
    (IsWithin most_line room input × Then (next_of input) (room - bytes_to_end input) (behind_next input))
    ⊎ ((IsTooLong most_line room input × (judged ≡ Err (Status.TooLarge Size.Line)))
    ⊎ ((IsTooLarge most_line room input × (judged ≡ Err (Status.TooLarge Size.Input)))
    ⊎ (IsTakenOpen now most_line room input × (judged ≡ Err Status.ReadFault))))

-- The second line is a request over the table's columns, and rows of the table follow; or it is refused.
abbrev pub IsRequestThen : Option (List ℕ) → Judgement → List Column → List ℕ → ℕ → List ℕ → Type 0
IsRequestThen now judged columns line room rest =
    ((why : Why) × IsSelectJudged columns line (Err why) × (judged ≡ Err (Status.BadRequest 2 why)))
    ⊎ ((query : Query) × (schema_of query.schema ≡ columns) × IsSelectJudged columns line (Ok (plan_of query.plan))
    × (rows : Result Rows RowFault) × IsBatchAnswer state_reading (schema_types query.schema) now (new_ahead most_line room) rest rows × (judged ≡ judged_rows query rows))

-- The first line is a table, and a request follows; or it is refused.
abbrev pub IsTableThen : Option (List ℕ) → Judgement → List ℕ → ℕ → List ℕ → Type 0
IsTableThen now judged line room rest =
    ((why : Why) × IsTableJudged line (Err why) × (judged ≡ Err (Status.BadRequest 1 why)))
    ⊎ ((columns : List Column) × IsTableJudged line (Ok columns) × AtLine now judged room rest (IsRequestThen now judged columns))

-- What the input of a query comes to, where its source has this left at the end: each line is judged before all that stands behind it.
-- Want of memory says nothing.
abbrev pub IsQueryOutcome : Option (List ℕ) → List ℕ → Judgement → Type 0
IsQueryOutcome now input (Err Status.OutOfMemory) = Unit {0}
IsQueryOutcome now input judged = AtLine now judged most_input input (IsTableThen now judged)
