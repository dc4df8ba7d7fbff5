-- The text of the answer, from the table that all rows were fed to.
use Rattle.std.proofs.Common.{◌≡◌, ℕ, Bool, List, [], ◌++◌, length, Option, Result, Ok, Err, IfOk, Vec, ap, subst, ◌∙◌}
use Rattle.std.specs.Global.{Global}
use Rattle.batch_reader.specs.Reading.{schema_types}
use Rattle.batch_reader.specs.Streaming.{Coming}
use Rattle.batch_reader.specs.declared.fault.RowFault.{RowFault}
use Rattle.group_answers.specs.Answers.{AddsAnswer}
use Rattle.group_tables.specs.declared.grouping.Grouping.{Grouping}
use Rattle.group_tables.specs.declared.table.GroupTable.{GroupTable}
use Rattle.line_reader.specs.Ahead.{Ahead}
use Rattle.request_text.specs.declared.query.Query.{Query}
use Rattle.state_codec.specs.Codec.{state_reading, state_text}
use Rattle.tsv_text.specs.Lines.{lines_of}
use Rattle.query_run.specs.proving.Answering.{AnswersRows, GroupsAnswer, IsGroupingOf, IsTextOf, grouped}
use Rattle.query_run.specs.proving.Feeding.{contributed}
use Rattle.query_run.proofs.Batches.{rows-long}
use Rattle.query_run.proofs.Readable.{as-many}

abbrev Text : Type 0
Text = Vec ℕ Global

-- the lines of a table's answer, behind an empty text
pub text-is : (g : Grouping) (t : GroupTable) (old new : List ℕ) → old ≡ [] → AddsAnswer state_text g t old new → IsTextOf g t new
text-is g t old new none h = record {
  is = λ keep rows tables.
      h.adds (contributed g keep rows) tables ∙ ap (λ (o : List ℕ). o ++ grouped g keep rows) none;
}

-- what is answered of the kept values is answered of the rows
pub answers-rows : (query : Query) (keep : List Bool) (g : Grouping) (left now : Option (List ℕ)) (ahead : Ahead) (text : List ℕ) → IsGroupingOf query keep g
    → GroupsAnswer (schema_types query.schema) keep left now ahead g text → AnswersRows query left now ahead text
answers-rows query keep g left now ahead text h a = record {
  rows = record { types = schema_types query.schema; rows = a.rows };
  reads = a.reads;
  is = a.is
      ∙ h.answers a.rows
      (rows-long state_reading (schema_types query.schema) (length query.schema.columns) (lines_of a.reads.input) a.rows (as-many query.schema) a.reads.reading.3);
}

-- the same, answered over a stream of the rows
pub answers-if : (query : Query) (keep : List Bool) (g : Grouping) (left now : Option (List ℕ)) (ahead : Ahead) → IsGroupingOf query keep g → (stream : Coming) → stream.types ≡ schema_types query.schema → stream.keep ≡ keep → stream.ahead ≡ ahead
    → (answer : Result Text RowFault) → IfOk answer (λ text. GroupsAnswer stream.types stream.keep left now stream.ahead g text.items) → IfOk answer (λ text. AnswersRows query left now ahead text.items)
answers-if query keep g left now ahead h stream types keeps aheads (Err fault) a = tt
answers-if query keep g left now ahead h stream types keeps aheads (Ok text) a =
    answers-rows query keep g left now ahead text.items h
    (subst (λ ts. GroupsAnswer ts keep left now ahead g text.items) types
    (subst (λ ks. GroupsAnswer stream.types ks left now ahead g text.items) keeps
    (subst (λ held. GroupsAnswer stream.types stream.keep left now held g text.items) aheads a)))
