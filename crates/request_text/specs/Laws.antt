-- Two lines come to one thing alone.
use Rattle.std.specs.Prelude.{◌≡◌, ℕ, List, Result, Ok, Err}
use Rattle.refusals.specs.declared.why.RequestFault.{RequestFault}
use Rattle.refusals.specs.declared.why.Why.{Why}
use Rattle.request_rules.specs.Selects.{Plan}
use Rattle.request_rules.specs.Tables.{Column}
use Rattle.request_rules.specs.Views.{plan_of, schema_of}
use Rattle.request_text.specs.Lines.{IsSelectJudged, IsTableJudged}
use Rattle.request_text.specs.Queries.{IsQueryAnswer}
use Rattle.request_text.specs.declared.query.Query.{Query}

-- The line of a table comes to one thing.
abbrev pub OneTable : Type 0
OneTable = (line : List ℕ) (one other : Result (List Column) Why) → IsTableJudged line one → IsTableJudged line other → one ≡ other

-- The line of a request over given columns comes to one thing.
abbrev pub OneSelect : Type 0
OneSelect = (columns : List Column) (line : List ℕ) (one other : Result Plan Why) → IsSelectJudged columns line one → IsSelectJudged columns line other → one ≡ other

-- Two answers are one, unless memory ran out: queries of the same columns, calls and keys, or the same refusal.
abbrev pub IsSameQuery : Result Query RequestFault → Result Query RequestFault → Type 0
IsSameQuery (Ok one) (Ok other) = (schema_of one.schema ≡ schema_of other.schema) × (plan_of one.plan ≡ plan_of other.plan)
IsSameQuery (Err RequestFault.OutOfMemory) other = Unit {0}
IsSameQuery one (Err RequestFault.OutOfMemory) = Unit {0}
IsSameQuery (Err one) (Err other) = one ≡ other
IsSameQuery one other = ⊥

-- Two lines have one answer.
abbrev pub OneAnswer : Type 0
OneAnswer = (line1 line2 : List ℕ) (one other : Result Query RequestFault) → IsQueryAnswer line1 line2 one → IsQueryAnswer line1 line2 other → IsSameQuery one other
