-- The text of an answer over the kept columns of a query.
use Rattle.std.specs.Prelude.{◌≡◌, ℕ, Bool, List, map, Option, Ok, length}
use Rattle.agg_defs.specs.Plans.{PlanFits, types_in, view_in}
use Rattle.agg_defs.specs.declared.plan.GroupPlan.{GroupPlan}
use Rattle.agg_defs.specs.declared.schema.Schema.{Schema}
use Rattle.agg_meaning.specs.Views.{answer}
use Rattle.agg_terms.specs.Lists.{Each}
use Rattle.answer_texts.specs.Lines.{answer_text, with_results}
use Rattle.batch_reader.specs.Reading.{ReadsRows, schema_types}
use Rattle.columns.specs.Rows.{Rows}
use Rattle.group_tables.specs.Groupings.{IsReady, answer_types, view_of}
use Rattle.group_tables.specs.Tables.{AreTables}
use Rattle.group_tables.specs.declared.grouping.Grouping.{Grouping}
use Rattle.group_tables.specs.declared.table.GroupTable.{GroupTable}
use Rattle.line_reader.specs.Ahead.{Ahead}
use Rattle.needed_columns.specs.Columns.{kept_schema, marks_of, narrowed}
use Rattle.needed_columns.specs.Sameness.{AreSame}
use Rattle.quick_rows.specs.Keeping.{kept}
use Rattle.query_run.specs.Outcome.{answered}
use Rattle.query_run.specs.proving.Feeding.{contributed}
use Rattle.request_text.specs.declared.query.Query.{Query}
use Rattle.scalar_texts.specs.States.{AllStates}
use Rattle.state_codec.specs.Codec.{IsLegalState, state_reading, state_text}
use Rattle.value_types.specs.Folds.{ty_of}
use Rattle.value_types.specs.declared.ty.Ty.{Ty}
use Rattle.value_types.specs.declared.value.Value.{Value}

-- what a query needs of its table
pub record IsNeeded (query : Query) (keep : List Bool) (schema : Schema) (plan : GroupPlan) : Type 0 where
  pub marks : keep ≡ marks_of (length query.schema.columns) (view_in query.plan)
  pub schema_is : schema ≡ kept_schema keep query.schema
  pub plan_is : view_in plan ≡ narrowed keep (view_in query.plan)
  pub fits : PlanFits schema plan
  pub same : AreSame (length query.schema.columns) keep (view_in query.plan) (view_in plan)

-- the text of the answer over the kept values of rows
abbrev pub grouped : Grouping → List Bool → List (List Value) → List ℕ
grouped g keep rows = answer_text state_text (answer_types (map ty_of g.types) (view_of g)) (map with_results (answer (view_of g) (contributed g keep rows)))

-- the types of its fields are written
abbrev pub IsWritten : Grouping → Type 0
IsWritten g = Each (AllStates IsLegalState) (answer_types (map ty_of g.types) (view_of g))

-- the text of the answer, whatever rows a table was fed the kept values of
pub record IsTextOf (g : Grouping) (t : GroupTable) (text : List ℕ) : Type 0 where
  pub is : (keep : List Bool) (rows : List (List Value)) → AreTables g t (contributed g keep rows) → text ≡ grouped g keep rows

-- The plan of a query made ready over the kept columns: it answers of the kept values what the query answers of the rows.
pub record IsGroupingOf (query : Query) (keep : List Bool) (g : Grouping) : Type 0 where
  pub many : length keep ≡ length query.schema.columns
  pub ready : IsReady g
  pub types : g.types ≡ kept keep (schema_types query.schema)
  pub answers : (rows : List (List Value)) → Each (λ row. length row ≡ length query.schema.columns) rows → grouped g keep rows ≡ answered (types_in query.schema) (view_in query.plan) rows
  pub written : IsWritten g

-- the text over the kept values of all rows of the input
pub record GroupsAnswer (types : List Ty) (keep : List Bool) (left now : Option (List ℕ)) (ahead : Ahead) (g : Grouping) (text : List ℕ) : Type 0 where
  pub rows : List (List Value)
  pub reads : ReadsRows state_reading types left now ahead (Ok (record { types = types; rows = rows }))
  pub is : text ≡ grouped g keep rows

-- the text of the answer over all rows of the input
pub record AnswersRows (query : Query) (left now : Option (List ℕ)) (ahead : Ahead) (text : List ℕ) : Type 0 where
  pub rows : Rows
  pub reads : ReadsRows state_reading (schema_types query.schema) left now ahead (Ok rows)
  pub is : text ≡ answered (types_in query.schema) (view_in query.plan) rows.rows
