-- Lines that are read one after the other.
use Rattle.std.proofs.Common.{◌≡◌, refl, sym, subst, ◌↔◌, inl, inr, ℕ, ◌+◌, ◌≤◌, ◌<◌, Bool, true, false, not, IsTrue, List, [], ◌∷◌, length, map, drop, Result, Ok, Err, arith}
use Rattle.line_forms.specs.ScriptLines.{Line}
use Rattle.line_forms.specs.declared.fault.LineFault.{LineFault}
use Rattle.refusals.specs.declared.why.RequestFault.{RequestFault}
use Rattle.request_rules.specs.Tables.{Column}
use Rattle.request_rules.specs.Views.{schema_of}
use Rattle.request_rules.specs.declared.refusal.Refusal.{Refusal}
use Rattle.request_text.specs.Lines.{IsTableJudged, Tells, no_form}
use Rattle.request_text.specs.Queries.{on_line}
use Rattle.script_text.specs.Answers.{AreSessions, AreViews, IsScriptAnswer, script_of, statements_of}
use Rattle.script_text.specs.Forms.{IsFormIn, SpellsLineIn}
use Rattle.script_text.specs.Lines.{TextLine, first_of, is_blank, lines_at}
use Rattle.script_text.specs.Scripts.{Script, has_items, of_table}
use Rattle.script_text.specs.Steps.{ComesTo, ended, refused, goes_on}
use Rattle.script_text.specs.proving.Taking.{IsAdded, IsJudgedAt, ReadsOn, Steps}
use Rattle.script_text.specs.declared.script.Script as code
use Rattle.script_text.specs.declared.script.Session.{Session}
use Rattle.script_text.specs.declared.steps.Step.{Step}
use Rattle.script_text.proofs.Placed.{no_lines}

-- ---- one line

pub started : (b : Bool) (text : List ℕ) (sessions : List Session) → (IsTrue b ↔ (sessions ≡ [])) → not b ≡ has_items (map (statements_of text) sessions)
started true text [] h = refl
started false text [] h = let e = h.1 refl in absurd cc
started true text (s ∷ sessions) h = let e = h.0 refl in absurd cc
started false text (s ∷ sessions) h = refl

pub form_steps : (text : List ℕ) (s : code.Script) (line : List ℕ) (behind : ℕ) (form : Line) (r : Result Step Refusal) → is_blank line ≡ false
    → SpellsLineIn (has_items (map (statements_of text) s.sessions)) line form → Steps text behind (IsAdded text s behind form) r → Steps text behind (IsJudgedAt text s line behind) r
form_steps text s line behind form (Ok step) full spells h = (inr (full, inr (form, spells, sym h.0)), h.1)
form_steps text s line behind form (Err (Refusal.Broken why)) full spells h = inr (full, inr (form, spells, sym h))
form_steps text s line behind form (Err Refusal.OutOfMemory) full spells h = tt

pub no_form_steps : (text : List ℕ) (s : code.Script) (line : List ℕ) (behind : ℕ) (fault : LineFault) → is_blank line ≡ false
    → IsFormIn (has_items (map (statements_of text) s.sessions)) line (Err fault) → Steps text behind (IsJudgedAt text s line behind) (Err (no_form fault))
no_form_steps text s line behind (LineFault.Syntax at) full h = inr (full, inl (at, h, refl))
no_form_steps text s line behind LineFault.OutOfMemory full h = tt

-- ---- all lines

-- What is left comes to what the whole comes to.
pub record IsRead (text : List ℕ) (table : code.Script) (from : ℕ) (s : code.Script) (at number : ℕ) : Type 0 where
  pub goes : (r : Result Script RequestFault) → ComesTo (script_of text s) number (lines_at text at) r → ComesTo (script_of text table) 2 (lines_at text from) r
  pub views : AreViews s.views
  pub sessions : AreSessions text s
  pub within : at ≤ length text
  pub count : number ≤ at + 2

pub read_more : (text : List ℕ) (table : code.Script) (from : ℕ) (s : code.Script) (at number behind : ℕ) (line : List ℕ) (step : Step) → IsRead text table from s at number
    → lines_at text at ≡ record { bytes = line; behind = behind } ∷ lines_at text behind → at < behind
    → Steps text behind (IsJudgedAt text s line behind) (Ok step) → IsRead text table from step.script step.at (number + (1 + step.rows))
read_more text table from s at number behind line step h first further steps =
    let taken = steps.1.taken in
    let far = taken.further in
    let count = h.count in
    let same : number + (1 + step.rows) ≡ number + 1 + step.rows = omega arith in
    record {
      goes = λ r rest.
          h.goes r (subst (λ (xs : List TextLine). ComesTo (script_of text s) number xs r) (sym first)
          (goes_on step.rows steps.0 (subst (λ (xs : List TextLine). ComesTo (script_of text step.script) (number + 1 + step.rows) xs r) taken.rest
          (subst (λ n. ComesTo (script_of text step.script) n (lines_at text step.at) r) same rest))));
      views = steps.1.views;
      sessions = steps.1.sessions;
      within = taken.within;
      count = omega (arith, count, further, far);
    }

pub read_refused : (text : List ℕ) (table : code.Script) (from : ℕ) (s : code.Script) (at number behind : ℕ) (line : List ℕ) (refusal : Refusal) → IsRead text table from s at number
    → lines_at text at ≡ record { bytes = line; behind = behind } ∷ lines_at text behind
    → Steps text behind (IsJudgedAt text s line behind) (Err refusal) → ReadsOn text table from (Err (on_line number refusal))
read_refused text table from s at number behind line (Refusal.Broken why) h first steps =
    h.goes (Err (RequestFault.Bad number why)) (subst (λ (xs : List TextLine). ComesTo (script_of text s) number xs (Err (RequestFault.Bad number why))) (sym first) (refused steps))
read_refused text table from s at number behind line Refusal.OutOfMemory h first steps = tt

pub read_all : (text : List ℕ) (table : code.Script) (from : ℕ) (s : code.Script) (at number : ℕ) → IsRead text table from s at number → length text ≤ at → ReadsOn text table from (Ok s)
read_all text table from s at number h past = (
  h.goes (Ok (script_of text s)) (subst (λ (xs : List TextLine). ComesTo (script_of text s) number xs (Ok (script_of text s))) (sym (no_lines text at past)) ended),
  h.views,
  h.sessions,
)

-- ---- the whole text

begins : (text : List ℕ) (table : code.Script) (columns : List Column) (line : List ℕ) (from : ℕ) (r : Result Script RequestFault) → script_of text table ≡ of_table columns
    → line ≡ first_of (lines_at text 0) → lines_at text from ≡ drop 1 (lines_at text 0) → ComesTo (script_of text table) 2 (lines_at text from) r → ComesTo (of_table columns) 2 (drop 1 (lines_at text 0)) r
begins text table columns line from r table_is first rest h =
    subst (λ (s : Script). ComesTo s 2 (drop 1 (lines_at text 0)) r) table_is (subst (λ (xs : List TextLine). ComesTo (script_of text table) 2 xs r) rest h)

pub whole_read : (text : List ℕ) (table : code.Script) (columns : List Column) (line : List ℕ) (from : ℕ) (r : Result code.Script RequestFault) → script_of text table ≡ of_table columns
    → line ≡ first_of (lines_at text 0) → lines_at text from ≡ drop 1 (lines_at text 0) → IsTableJudged line (Ok columns) → ReadsOn text table from r → IsScriptAnswer text r
whole_read text table columns line from (Ok s) table_is first rest judged h =
    inr (columns, subst (λ (l : List ℕ). IsTableJudged l (Ok columns)) first judged, begins text table columns line from (Ok (script_of text s)) table_is first rest h.0)
whole_read text table columns line from (Err (RequestFault.Bad number why)) table_is first rest judged h =
    inr (columns, subst (λ (l : List ℕ). IsTableJudged l (Ok columns)) first judged, begins text table columns line from (Err (RequestFault.Bad number why)) table_is first rest h)
whole_read text table columns line from (Err RequestFault.OutOfMemory) table_is first rest judged h = tt

pub table_refused : (text line : List ℕ) (refusal : Refusal) → line ≡ first_of (lines_at text 0) → Tells (IsTableJudged line) schema_of (Err refusal) → IsScriptAnswer text (Err (on_line 1 refusal))
table_refused text line (Refusal.Broken why) first h = inl (why, subst (λ (l : List ℕ). IsTableJudged l (Err why)) first h, refl)
table_refused text line Refusal.OutOfMemory first h = tt
