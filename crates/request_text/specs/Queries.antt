-- What two lines come to.
use Rattle.std.specs.Prelude.{◌≡◌, ℕ, List, ◌⊎◌, Result, Ok, Err}
use Rattle.refusals.specs.declared.why.RequestFault.{RequestFault}
use Rattle.request_rules.specs.Tables.{Column}
use Rattle.request_rules.specs.Views.{plan_of, schema_of}
use Rattle.request_rules.specs.declared.refusal.Refusal.{Refusal}
use Rattle.request_text.specs.Lines.{IsTableJudged, IsSelectJudged}
use Rattle.request_text.specs.declared.query.Query.{Query}

-- The query: line 1 is a table, and line 2 a request over its columns. A refusal is line 1's, or, where line 1 is a table,
-- line 2's. Want of memory says nothing.
abbrev pub IsQueryAnswer : List ℕ → List ℕ → Result Query RequestFault → Type 0
IsQueryAnswer line1 line2 (Ok query) =
    IsTableJudged line1 (Ok (schema_of query.schema)) × IsSelectJudged (schema_of query.schema) line2 (Ok (plan_of query.plan))
IsQueryAnswer line1 line2 (Err (RequestFault.Bad line why)) =
    ((line ≡ 1) × IsTableJudged line1 (Err why))
    ⊎ ((line ≡ 2) × ((columns : List Column) × IsTableJudged line1 (Ok columns) × IsSelectJudged columns line2 (Err why)))
IsQueryAnswer line1 line2 (Err RequestFault.OutOfMemory) = Unit {0}

-- why a line is refused, with its number
abbrev pub on_line : ℕ → Refusal → RequestFault
on_line line (Refusal.Broken why) = RequestFault.Bad line why
on_line line Refusal.OutOfMemory = RequestFault.OutOfMemory
