-- An input comes to one thing.
use Rattle.std.proofs.Common.{◌≡◌, ℕ, ◌-◌, List, [], ◌∷◌, map, Option, Some, Result, Ok, Err, refl, sym, ap, subst, ◌∙◌, inl, inr, arith}
use Rattle.agg_defs.specs.Plans.{call_in, types_in, view_in}
use Rattle.agg_defs.specs.declared.plan.Call as code
use Rattle.agg_defs.specs.declared.plan.GroupPlan.{GroupPlan}
use Rattle.agg_defs.specs.declared.schema.Column as rust
use Rattle.agg_defs.specs.declared.schema.Schema.{Schema}
use Rattle.agg_meaning.specs.Views.{Call, View, answer, of_row}
use Rattle.answer_texts.specs.Lines.{answer_text, with_results}
use Rattle.batch_reader.specs.Reading.{IsBatchAnswer, column_type, schema_types}
use Rattle.batch_reader.specs.declared.fault.RowFault.{RowFault}
use Rattle.columns.specs.Rows.{Rows}
use Rattle.group_tables.specs.Groupings.{answer_types}
use Rattle.line_reader.specs.Ahead.{new_ahead}
use Rattle.line_reader.specs.Limits.{behind_next, bytes_to_end, next_of}
use Rattle.refusals.specs.declared.status.Status.{Status}
use Rattle.refusals.specs.declared.why.Why.{Why}
use Rattle.request_rules.specs.Selects.{PlacedCall, Plan}
use Rattle.request_rules.specs.Tables.{Column}
use Rattle.request_rules.specs.Views as views
use Rattle.request_rules.specs.Views.{column_of, plan_of, schema_of}
use Rattle.request_text.specs.Laws.{OneSelect, OneTable}
use Rattle.request_text.specs.declared.query.Query.{Query}
use Rattle.row_texts.specs.OneRow.{OneFirstRefused, OneListOfRows, RowsOrRefused}
use Rattle.state_codec.specs.Codec.{state_reading, state_text}
use Rattle.tsv_text.specs.Lines.{lines_of}
use Rattle.value_types.specs.Folds.{ty_of}
use Rattle.value_types.specs.OneToOne.{IsOneToOne}
use Rattle.query_run.specs.Laws.{IsOfInput, OneOutcome}
use Rattle.query_run.specs.Outcome.{AtLine, IsQueryOutcome, IsRequestThen, IsTableThen, Judgement, judged_rows, most_input, most_line}
use Rattle.query_run.specs.Runs.{IsAccepted}
use Rattle.query_run.proofs.OneFault.{long-large, no-fault, one-fault}

-- Queries of the same columns and calls ask the same.

same-head : (a b : Column) (xs ys : List Column) → a ∷ xs ≡ b ∷ ys → a ≡ b
same-head a b xs ys e = cc

same-tail : (a b : Column) (xs ys : List Column) → a ∷ xs ≡ b ∷ ys → xs ≡ ys
same-tail a b xs ys e = cc

same-types : IsOneToOne ty_of → (xs ys : List rust.Column) → map column_of xs ≡ map column_of ys → map column_type xs ≡ map column_type ys
same-types law [] [] e = refl
same-types law [] (y ∷ ys) e = absurd cc
same-types law (x ∷ xs) [] e = absurd cc
same-types law (x ∷ xs) (y ∷ ys) e =
    let head : x.ty ≡ y.ty = law x.ty y.ty (ap (λ (c : Column). c.ty) (same-head (column_of x) (column_of y) (map column_of xs) (map column_of ys) e)) in
    let tail = same-types law xs ys (same-tail (column_of x) (column_of y) (map column_of xs) (map column_of ys) e) in
    λ i. head i ∷ tail i

types-seen : (columns : List rust.Column) → map (λ (c : Column). c.ty) (map column_of columns) ≡ map (λ (c : rust.Column). ty_of c.ty) columns
types-seen [] = refl
types-seen (c ∷ columns) = ap (◌∷◌ (ty_of c.ty)) (types-seen columns)

abbrev call_seen : PlacedCall → Call
call_seen c = record { chain = c.typed.chain; types = c.typed.args; columns = c.columns }

abbrev view_seen : Plan → View
view_seen p = record { keys = p.keys; calls = map call_seen p.calls }

calls-seen : (calls : List code.Call) → map call_seen (map views.call_of calls) ≡ map call_in calls
calls-seen [] = refl
calls-seen (c ∷ calls) = ap (◌∷◌ (call_in c)) (calls-seen calls)

view-seen : (p : GroupPlan) → view_seen (plan_of p) ≡ view_in p
view-seen p = λ i. record { keys = p.keys; calls = calls-seen p.calls i }

same-view : (p q : GroupPlan) → plan_of p ≡ plan_of q → view_in p ≡ view_in q
same-view p q e = sym (view-seen p) ∙ ap view_seen e ∙ view-seen q

types-of : (p q : Schema) → schema_of p ≡ schema_of q → types_in p ≡ types_in q
types-of p q e = sym (types-seen p.columns) ∙ ap (map (λ (c : Column). c.ty)) e ∙ types-seen q.columns

-- Answers.

abbrev told : List ℕ → Judgement
told text = Ok text

abbrev fails : Status → Judgement
fails status = Err status

not-both : (text : List ℕ) (status : Status) → told text ≡ fails status → ⊥
not-both text status e = cc

abbrev met : {X : Type 0} → X → Result X Why
met x = Ok x

abbrev refused : (X : Type 0) → Why → Result X Why
refused X why = Err why

same-met : {X : Type 0} (a b : X) → met a ≡ met b → a ≡ b
same-met a b e = cc

same-why : (X : Type 0) (a b : Why) → refused X a ≡ refused X b → a ≡ b
same-why X a b e = cc

not-refused : (X : Type 0) (a : X) (w : Why) → met a ≡ refused X w → ⊥
not-refused X a w e = cc

module _ (types : IsOneToOne ty_of) (tables : OneTable) (selects : OneSelect) (lists : OneListOfRows) (refusals : OneFirstRefused) (either : RowsOrRefused)
    (now later : Option (List ℕ)) (one other : Judgement) (of_one : IsOfInput one) (of_other : IsOfInput other) where
  -- at one line
  at-one : (room : ℕ) (input : List ℕ) (One Other : List ℕ → ℕ → List ℕ → Type 0)
      → (One (next_of input) (room - bytes_to_end input) (behind_next input) → Other (next_of input) (room - bytes_to_end input) (behind_next input) → one ≡ other)
      → AtLine now one room input One → AtLine later other room input Other → one ≡ other
  at-one room input One Other f (inl h) (inl g) = f h.1 g.1
  at-one room input One Other f (inl h) (inr (inl g)) = absurd (omega (arith, h.0.0, g.0.0))
  at-one room input One Other f (inl h) (inr (inr (inl g))) = absurd (omega (arith, h.0.1, g.0.0))
  at-one room input One Other f (inr (inl h)) (inl g) = absurd (omega (arith, g.0.0, h.0.0))
  at-one room input One Other f (inr (inl h)) (inr (inl g)) = h.1 ∙ sym g.1
  at-one room input One Other f (inr (inl h)) (inr (inr (inl g))) = absurd (long-large most_line room input h.0 g.0)
  at-one room input One Other f (inr (inr (inl h))) (inl g) = absurd (omega (arith, g.0.1, h.0.0))
  at-one room input One Other f (inr (inr (inl h))) (inr (inl g)) = absurd (long-large most_line room input g.0 h.0)
  at-one room input One Other f (inr (inr (inl h))) (inr (inr (inl g))) = h.1 ∙ sym g.1
  at-one room input One Other f (inr (inr (inr h))) g = absurd (subst IsOfInput h.1 of_one)
  at-one room input One Other f h (inr (inr (inr g))) = absurd (subst IsOfInput g.1 of_other)

  rows-one : (q p : Query) (room : ℕ) (input : List ℕ) (rows others : Result Rows RowFault) → schema_of q.schema ≡ schema_of p.schema → plan_of q.plan ≡ plan_of p.plan
      → IsBatchAnswer state_reading (schema_types q.schema) now (new_ahead most_line room) input rows → one ≡ judged_rows q rows
      → IsBatchAnswer state_reading (schema_types q.schema) later (new_ahead most_line room) input others → other ≡ judged_rows p others → one ≡ other
  rows-one q p room input (Ok batch) (Ok more) same_schema same_plan h e g d =
      let rows = lists state_reading (schema_types q.schema) (lines_of input) batch.rows more.rows h.3 g.3 in
      let ts = types-of q.schema p.schema same_schema in
      let v = same-view q.plan p.plan same_plan in
      e ∙ (λ i. told (answer_text state_text (answer_types (ts i) (v i)) (map with_results (answer (v i) (map (of_row (v i)) (rows i)))))) ∙ sym d
  rows-one q p room input (Ok batch) (Err f) same_schema same_plan h e g d =
      absurd (no-fault either refusals state_reading (schema_types q.schema) (new_ahead most_line room) input now later batch f (subst IsOfInput d of_other) h g)
  rows-one q p room input (Err f) (Ok more) same_schema same_plan h e g d =
      absurd (no-fault either refusals state_reading (schema_types q.schema) (new_ahead most_line room) input later now more f (subst IsOfInput e of_one) g h)
  rows-one q p room input (Err f) (Err k) same_schema same_plan h e g d =
      e ∙ ap fails (one-fault either refusals state_reading (schema_types q.schema) (new_ahead most_line room) input now later f k (subst IsOfInput e of_one) (subst IsOfInput d of_other) h g) ∙ sym d

  request-one : (columns : List Column) (line : List ℕ) (room : ℕ) (rest : List ℕ) → IsRequestThen now one columns line room rest → IsRequestThen later other columns line room rest → one ≡ other
  request-one columns line room rest (inl h) (inl g) = h.2 ∙ ap (λ why. fails (Status.BadRequest 2 why)) (same-why Plan h.0 g.0 (selects columns line (Err h.0) (Err g.0) h.1 g.1)) ∙ sym g.2
  request-one columns line room rest (inl h) (inr g) = absurd (not-refused Plan (plan_of g.0.plan) h.0 (selects columns line (Ok (plan_of g.0.plan)) (Err h.0) g.2 h.1))
  request-one columns line room rest (inr h) (inl g) = absurd (not-refused Plan (plan_of h.0.plan) g.0 (selects columns line (Ok (plan_of h.0.plan)) (Err g.0) h.2 g.1))
  request-one columns line room rest (inr h) (inr g) =
      let same : schema_of h.0.schema ≡ schema_of g.0.schema = h.1 ∙ sym g.1 in
      rows-one h.0 g.0 room rest h.3 g.3 same (same-met (plan_of h.0.plan) (plan_of g.0.plan) (selects columns line (Ok (plan_of h.0.plan)) (Ok (plan_of g.0.plan)) h.2 g.2)) h.4 h.5
      (subst (λ ts. IsBatchAnswer state_reading ts later (new_ahead most_line room) rest g.3) (sym (same-types types h.0.schema.columns g.0.schema.columns same)) g.4) g.5

  table-one : (line : List ℕ) (room : ℕ) (rest : List ℕ) → IsTableThen now one line room rest → IsTableThen later other line room rest → one ≡ other
  table-one line room rest (inl h) (inl g) = h.2 ∙ ap (λ why. fails (Status.BadRequest 1 why)) (same-why (List Column) h.0 g.0 (tables line (Err h.0) (Err g.0) h.1 g.1)) ∙ sym g.2
  table-one line room rest (inl h) (inr g) = absurd (not-refused (List Column) g.0 h.0 (tables line (Ok g.0) (Err h.0) g.1 h.1))
  table-one line room rest (inr h) (inl g) = absurd (not-refused (List Column) h.0 g.0 (tables line (Ok h.0) (Err g.0) h.1 g.1))
  table-one line room rest (inr h) (inr g) =
      let same : g.0 ≡ h.0 = same-met g.0 h.0 (tables line (Ok g.0) (Ok h.0) g.1 h.1) in
      at-one room rest (IsRequestThen now one h.0) (IsRequestThen later other h.0) (request-one h.0 (next_of rest) (room - bytes_to_end rest) (behind_next rest)) h.2
      (subst (λ c. AtLine later other room rest (IsRequestThen later other c)) same g.2)

  outcome-one : (input : List ℕ) → AtLine now one most_input input (IsTableThen now one) → AtLine later other most_input input (IsTableThen later other) → one ≡ other
  outcome-one input h g = at-one most_input input (IsTableThen now one) (IsTableThen later other) (table-one (next_of input) (most_input - bytes_to_end input) (behind_next input)) h g

of-outcome : (now : Option (List ℕ)) (input : List ℕ) (judged : Judgement) → IsOfInput judged → IsQueryOutcome now input judged → AtLine now judged most_input input (IsTableThen now judged)
of-outcome now input (Ok text) h g = g
of-outcome now input (Err Status.OutOfMemory) h g = absurd h
of-outcome now input (Err Status.ReadFault) h g = absurd h
of-outcome now input (Err Status.Done) h g = g
of-outcome now input (Err Status.Usage) h g = g
of-outcome now input (Err (Status.BadRequest line why)) h g = g
of-outcome now input (Err (Status.BadRow row why)) h g = g
of-outcome now input (Err (Status.BadState row column why)) h g = g
of-outcome now input (Err Status.WriteFault) h g = g
of-outcome now input (Err (Status.TooLarge size)) h g = g

pub one-outcome : IsOneToOne ty_of → OneTable → OneSelect → OneListOfRows → OneFirstRefused → RowsOrRefused → OneOutcome
one-outcome types tables selects lists refusals either now later input one other of_one of_other h g =
    outcome-one types tables selects lists refusals either now later one other of_one of_other input (of-outcome now input one of_one h) (of-outcome later input other of_other g)

-- An input that is accepted is not refused.
pub accepted-once : OneOutcome → (now : Option (List ℕ)) (input : List ℕ) (status : Status) → IsOfInput (Err status) → IsAccepted input → IsQueryOutcome now input (Err status) → ⊥
accepted-once law now input status of_input h g = not-both h.0 status (law (Some []) now input (Ok h.0) (Err status) tt of_input h.1 g)
