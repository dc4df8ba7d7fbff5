-- What lines come to is one thing alone.
use Rattle.std.proofs.Common.{◌≡◌, refl, sym, ap, subst, ◌∙◌, ◌⊎◌, inl, inr, ℕ, ◌≤◌, List, length, Result, Ok, Err, arith}
use Rattle.first_fault.specs.FirstFault.{IsReading}
use Rattle.line_forms.specs.Answers.{IsFirstFault, SpellsSelect, SpellsTable}
use Rattle.line_forms.specs.Laws as forms
use Rattle.line_forms.specs.Letters.{Letter, letters_of, place}
use Rattle.line_forms.specs.Selects.{IsSelect, Select}
use Rattle.line_forms.specs.Tables as written
use Rattle.line_forms.specs.Tables.{IsTable}
use Rattle.refusals.specs.declared.why.RequestFault.{RequestFault}
use Rattle.refusals.specs.declared.why.Why.{Why}
use Rattle.request_rules.specs.Selects.{Plan, judged_select}
use Rattle.request_rules.specs.Tables.{Column, judged_table}
use Rattle.request_rules.specs.Views.{plan_of, schema_of}
use Rattle.request_text.specs.Laws.{IsSameQuery, OneAnswer, OneSelect, OneTable}
use Rattle.request_text.specs.Lines.{IsJudged, IsSelectJudged, IsTableJudged}
use Rattle.request_text.specs.Queries.{IsQueryAnswer}
use Rattle.request_text.specs.declared.query.Query.{Query}

-- The longest front is one.
one_front : {V : Type 0} (spells : List Letter → V → Type 0) (letters : List Letter) (m n : ℕ) → IsReading spells letters (Err m) → IsReading spells letters (Err n) → m ≡ n
one_front spells letters m n h g =
    let below : m ≤ n = g.1.longest m h.1.within h.1.begins in
    let above : n ≤ m = h.1.longest n g.1.within g.1.begins in
    omega (arith, below, above)

-- The first fault is at one place.
one_fault : {V : Type 0} (spells : List Letter → V → Type 0) (line : List ℕ) (m n : ℕ) → IsFirstFault spells line m → IsFirstFault spells line n → m ≡ n
one_fault spells line m n h g =
    h.2 ∙ ap (λ k. place (length line) k (letters_of line)) (one_front spells (letters_of line) h.0 g.0 h.1 g.1) ∙ sym g.2

one_judged : {Form X : Type 0} (is_fault : ℕ → Type 0) (spells : Form → Type 0) (rules : Form → Result X Why) →
    ((m n : ℕ) → is_fault m → is_fault n → m ≡ n) → ((f g : Form) → spells f → spells g → f ≡ g) → ((n : ℕ) (f : Form) → is_fault n → spells f → ⊥) →
    (a b : Result X Why) → IsJudged is_fault spells rules a → IsJudged is_fault spells rules b → a ≡ b
one_judged is_fault spells rules one same apart a b (inl h) (inl g) = h.2 ∙ ap (λ n. Err (Why.Syntax n)) (one h.0 g.0 h.1 g.1) ∙ sym g.2
one_judged is_fault spells rules one same apart a b (inr h) (inr g) = h.2 ∙ ap rules (same h.0 g.0 h.1 g.1) ∙ sym g.2
one_judged is_fault spells rules one same apart a b (inl h) (inr g) = absurd (apart h.0 g.0 h.1 g.1)
one_judged is_fault spells rules one same apart a b (inr h) (inl g) = absurd (apart g.0 h.0 g.1 h.1)

pub one_table : forms.OneTable → OneTable
one_table form line one other h g =
    one_judged (IsFirstFault IsTable line) (SpellsTable line) judged_table (one_fault IsTable line) (form line)
    (λ n columns fault spelled. fault.1.0 spelled.0 spelled.1) one other h g

pub one_select : forms.OneSelect → OneSelect
one_select form columns line one other h g =
    one_judged (IsFirstFault IsSelect line) (SpellsSelect line) (judged_select columns) (one_fault IsSelect line) (form line)
    (λ n select fault spelled. fault.1.0 spelled.0 spelled.1) one other h g

abbrev met : {X : Type 0} → X → Result X Why
met x = Ok x

abbrev refused : (X : Type 0) → Why → Result X Why
refused X why = Err why

same_value : {X : Type 0} (a b : X) → met a ≡ met b → a ≡ b
same_value a b e = cc

same_why : (X : Type 0) (v w : Why) → refused X v ≡ refused X w → v ≡ w
same_why X v w e = cc

not_both : (X : Type 0) (a : X) (w : Why) → met a ≡ refused X w → ⊥
not_both X a w e = cc

same_fault : (l m n : ℕ) (v w : Why) → l ≡ n → m ≡ n → v ≡ w → RequestFault.Bad l v ≡ RequestFault.Bad m w
same_fault l m n v w e f g = cc

-- why two lines are refused: line 1, or line 2 over the columns of line 1
abbrev OnTable : List ℕ → ℕ → Why → Type 0
OnTable line1 line why = (line ≡ 1) × IsTableJudged line1 (Err why)

abbrev OnSelect : List ℕ → List ℕ → ℕ → Why → Type 0
OnSelect line1 line2 line why = (line ≡ 2) × ((columns : List Column) × IsTableJudged line1 (Ok columns) × IsSelectJudged columns line2 (Err why))

module _ (tables : OneTable) (selects : OneSelect) (line1 line2 : List ℕ) where
  same_columns : (a b : List Column) → IsTableJudged line1 (Ok a) → IsTableJudged line1 (Ok b) → a ≡ b
  same_columns a b h g = same_value a b (tables line1 (Ok a) (Ok b) h g)

  same_select : (a b : List Column) (r s : Result Plan Why) → IsTableJudged line1 (Ok a) → IsTableJudged line1 (Ok b) → IsSelectJudged a line2 r → IsSelectJudged b line2 s → r ≡ s
  same_select a b r s h g k j = selects b line2 r s (subst (λ (c : List Column). IsSelectJudged c line2 r) (same_columns a b h g) k) j

  table_apart : (a : List Column) (w : Why) → IsTableJudged line1 (Ok a) → IsTableJudged line1 (Err w) → ⊥
  table_apart a w h g = not_both (List Column) a w (tables line1 (Ok a) (Err w) h g)

  apart : (a : Query) (line : ℕ) (why : Why) → IsTableJudged line1 (Ok (schema_of a.schema)) → IsSelectJudged (schema_of a.schema) line2 (Ok (plan_of a.plan)) → OnTable line1 line why ⊎ OnSelect line1 line2 line why → ⊥
  apart a line why h k (inl g) = table_apart (schema_of a.schema) why h g.1
  apart a line why h k (inr g) = not_both Plan (plan_of a.plan) why (same_select (schema_of a.schema) g.1.0 (Ok (plan_of a.plan)) (Err why) h g.1.1 k g.1.2)

  same_refusal : (l m : ℕ) (v w : Why) → OnTable line1 l v ⊎ OnSelect line1 line2 l v → OnTable line1 m w ⊎ OnSelect line1 line2 m w → RequestFault.Bad l v ≡ RequestFault.Bad m w
  same_refusal l m v w (inl h) (inl g) = same_fault l m 1 v w h.0 g.0 (same_why (List Column) v w (tables line1 (Err v) (Err w) h.1 g.1))
  same_refusal l m v w (inr h) (inr g) = same_fault l m 2 v w h.0 g.0 (same_why Plan v w (same_select h.1.0 g.1.0 (Err v) (Err w) h.1.1 g.1.1 h.1.2 g.1.2))
  same_refusal l m v w (inl h) (inr g) = absurd (table_apart g.1.0 v g.1.1 h.1)
  same_refusal l m v w (inr h) (inl g) = absurd (table_apart h.1.0 w h.1.1 g.1)

  same_answer : (one other : Result Query RequestFault) → IsQueryAnswer line1 line2 one → IsQueryAnswer line1 line2 other → IsSameQuery one other
  same_answer (Ok a) (Ok b) h g = (
    same_columns (schema_of a.schema) (schema_of b.schema) h.0 g.0,
    same_value (plan_of a.plan) (plan_of b.plan) (same_select (schema_of a.schema) (schema_of b.schema) (Ok (plan_of a.plan)) (Ok (plan_of b.plan)) h.0 g.0 h.1 g.1),
  )
  same_answer (Ok a) (Err (RequestFault.Bad m w)) h g = apart a m w h.0 h.1 g
  same_answer (Err (RequestFault.Bad l v)) (Ok b) h g = apart b l v g.0 g.1 h
  same_answer (Err (RequestFault.Bad l v)) (Err (RequestFault.Bad m w)) h g = same_refusal l m v w h g
  same_answer (Ok a) (Err RequestFault.OutOfMemory) h g = tt
  same_answer (Err (RequestFault.Bad l v)) (Err RequestFault.OutOfMemory) h g = tt
  same_answer (Err RequestFault.OutOfMemory) (Ok b) h g = tt
  same_answer (Err RequestFault.OutOfMemory) (Err (RequestFault.Bad m w)) h g = tt
  same_answer (Err RequestFault.OutOfMemory) (Err RequestFault.OutOfMemory) h g = tt

pub one_answer : OneTable → OneSelect → OneAnswer
one_answer tables selects line1 line2 one other h g = same_answer tables selects line1 line2 one other h g
