-- What a line comes to: by its grammar, and then by its rules.
use Rattle.std.specs.Prelude.{◌≡◌, ℕ, List, ◌⊎◌, Result, Ok, Err}
use Rattle.line_forms.specs.Answers.{IsFirstFault, SpellsTable, SpellsSelect}
use Rattle.line_forms.specs.Selects.{IsSelect}
use Rattle.line_forms.specs.Tables.{IsTable}
use Rattle.line_forms.specs.declared.fault.LineFault.{LineFault}
use Rattle.refusals.specs.declared.why.Why.{Why}
use Rattle.request_rules.specs.Selects.{Plan, judged_select}
use Rattle.request_rules.specs.Tables.{Column, judged_table}
use Rattle.request_rules.specs.declared.refusal.Refusal.{Refusal}

-- A line that has no form is refused with the place of its first fault; one that has a form comes to what the rules say of
-- the form.
abbrev pub IsJudged : {Form X : Type 0} → (ℕ → Type 0) → (Form → Type 0) → (Form → Result X Why) → Result X Why → Type 0
IsJudged {Form} is_fault spells rules judged =
    ((at : ℕ) × is_fault at × (judged ≡ Err (Why.Syntax at)))
    ⊎ ((form : Form) × spells form × (judged ≡ rules form))

-- the line of a table
abbrev pub IsTableJudged : List ℕ → Result (List Column) Why → Type 0
IsTableJudged line = IsJudged (IsFirstFault IsTable line) (SpellsTable line) judged_table

-- the line of a request over these columns
abbrev pub IsSelectJudged : List Column → List ℕ → Result Plan Why → Type 0
IsSelectJudged columns line = IsJudged (IsFirstFault IsSelect line) (SpellsSelect line) (judged_select columns)

-- An answer is what the line comes to, seen through an image. Want of memory says nothing.
abbrev pub Tells : {X Y : Type 0} → (Result Y Why → Type 0) → (X → Y) → Result X Refusal → Type 0
Tells judged image (Ok x) = judged (Ok (image x))
Tells judged image (Err (Refusal.Broken why)) = judged (Err why)
Tells judged image (Err Refusal.OutOfMemory) = Unit {0}

-- a line that has no form, as its reader tells it
abbrev pub no_form : LineFault → Refusal
no_form (LineFault.Syntax at) = Refusal.Broken (Why.Syntax at)
no_form LineFault.OutOfMemory = Refusal.OutOfMemory
