-- What a line comes to by its form.
use Rattle.std.proofs.Common.{refl, sym, inr, ℕ, List, Result, Ok, Err, IfOk}
use Rattle.agg_typing.specs.Promises.{AllowedStateIsLegal}
use Rattle.agg_defs.specs.declared.schema.Schema.{Schema}
use Rattle.line_forms.specs.Answers.{SpellsTable}
use Rattle.line_forms.specs.Tables as written
use Rattle.refusals.specs.declared.why.Why.{Why}
use Rattle.request_rules.specs.Answers.{Says}
use Rattle.request_rules.specs.Tables.{AreLegal, judged_table}
use Rattle.request_rules.specs.Views.{plan_of, schema_of}
use Rattle.request_rules.specs.declared.refusal.Refusal.{Refusal}
use Rattle.request_text.specs.Lines.{IsJudged, IsSelectJudged, IsTableJudged, Tells}
use Rattle.request_text.specs.Queries.{IsQueryAnswer, on_line}
use Rattle.request_text.proofs.LegalColumns.{table_legal}

pub form_told : {Form X Y : Type 0} (is_fault : ℕ → Type 0) (spells : Form → Type 0) (rules : Form → Result Y Why) (image : X → Y) (form : Form) (answer : Result X Refusal) →
    spells form → Says image answer (rules form) → Tells (IsJudged is_fault spells rules) image answer
form_told is_fault spells rules image form (Ok x) h e = inr (form, h, sym e)
form_told is_fault spells rules image form (Err (Refusal.Broken why)) h e = inr (form, h, sym e)
form_told is_fault spells rules image form (Err Refusal.OutOfMemory) h e = tt

pub form_legal : AllowedStateIsLegal → (line : List ℕ) (form : List written.Column) (answer : Result Schema Refusal) → SpellsTable line form → Says schema_of answer (judged_table form) → IfOk answer (λ schema. AreLegal (schema_of schema))
form_legal law line form (Ok schema) h e = table_legal law line form (schema_of schema) h e
form_legal law line form (Err refusal) h e = tt

pub query_refused : (line1 line2 : List ℕ) (schema : Schema) (refusal : Refusal) → IsTableJudged line1 (Ok (schema_of schema)) → Tells (IsSelectJudged (schema_of schema) line2) plan_of (Err refusal) → IsQueryAnswer line1 line2 (Err (on_line 2 refusal))
query_refused line1 line2 schema (Refusal.Broken why) h g = inr (refl, (schema_of schema, h, g))
query_refused line1 line2 schema Refusal.OutOfMemory h g = tt
