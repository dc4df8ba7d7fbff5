-- The views of a script are found by their names, line after line.
use Rattle.std.proofs.Common.{◌≡◌, refl, sym, subst, inl, inr, ℕ, ◌+◌, List, [], ◌∷◌, length, drop, Result, Ok, Err, IfOk, arith}
use Rattle.line_forms.specs.ScriptLines.{Line, View, Session, Insert, Load, Read, States}
use Rattle.refusals.specs.declared.why.RequestFault.{RequestFault}
use Rattle.refusals.specs.declared.why.Why.{Why}
use Rattle.request_rules.specs.Turns.{and_then}
use Rattle.script_rules.specs.Sessions.{judged_session}
use Rattle.script_rules.specs.Views.{judged_view, known_view}
use Rattle.script_rules.proofs.Found.{Kept, one_more}
use Rattle.script_text.specs.Laws.{ViewsOfLinesAreFound}
use Rattle.script_text.specs.Lines.{TextLine}
use Rattle.script_text.specs.Scripts.{Script, of_table}
use Rattle.script_text.specs.Steps.{ComesTo, ended, refused, goes_on, IsLineJudged, judged_line, line_added, row_count, rows_taken}
use Rattle.script_text.proofs.OneScript.{not_both, not_done, same_value}

-- what was read before a rule that was met
reached : {X Y : Type 0} (r : Result X Why) (next : X → Result Y Why) (y : Y) → and_then r next ≡ Ok y → (x : X) × (r ≡ Ok x) × (next x ≡ Ok y)
reached (Ok x) next y e = (x, refl, e)
reached (Err why) next y e = absurd cc

abbrev KeptIn : Script → Type 0
KeptIn s = Kept s.views

added_keeps : (s next : Script) (behind : ℕ) (lines : List TextLine) (form : Line) → KeptIn s → line_added s behind lines form ≡ Ok next → KeptIn next
added_keeps s next behind lines (View name select) kept e =
    let view = reached (judged_view s.columns s.views name select) _ next e in
    subst KeptIn (same_value _ next view.2) (one_more s.columns s.views (name, select) view.0 kept view.1)
added_keeps s next behind lines (Session at number) kept e =
    let head = reached (judged_session (length s.sessions) at number) _ next e in
    subst KeptIn (same_value _ next head.2) kept
added_keeps s next behind lines (Insert count) kept e =
    let rows = reached (rows_taken behind count lines) _ next e in
    subst KeptIn (same_value _ next rows.2) kept
added_keeps s next behind lines (Load name count) kept e =
    let view = reached (known_view s.views name) _ next e in
    let rows = reached (rows_taken behind count lines) _ next view.2 in
    subst KeptIn (same_value _ next rows.2) kept
added_keeps s next behind lines (Read name) kept e =
    let view = reached (known_view s.views name) _ next e in
    subst KeptIn (same_value _ next view.2) kept
added_keeps s next behind lines (States name) kept e =
    let view = reached (known_view s.views name) _ next e in
    subst KeptIn (same_value _ next view.2) kept

form_keeps : (s next : Script) (rows behind : ℕ) (lines : List TextLine) (form : Line) → KeptIn s → judged_line s behind lines form ≡ Ok (next, rows) → KeptIn next
form_keeps s next rows behind lines form kept e =
    let added = reached (line_added s behind lines form) _ (next, rows) e in
    let same : (added.0, row_count form) ≡ (next, rows) = same_value (added.0, row_count form) (next, rows) added.2 in
    subst (λ (t : Script × ℕ). KeptIn t.0) same (added_keeps s added.0 behind lines form kept added.1)

judged_keeps : (s next : Script) (rows : ℕ) (line : TextLine) (lines : List TextLine) → KeptIn s → IsLineJudged s line lines (Ok (next, rows)) → KeptIn next
judged_keeps s next rows line lines kept (inl h) =
    let same : (next, rows) ≡ (s, 0) = same_value (next, rows) (s, 0) h.1 in
    subst (λ (t : Script × ℕ). KeptIn t.0) (sym same) kept
judged_keeps s next rows line lines kept (inr h) = elim h.1 [
  | inl g ↦ absurd (not_both (Script × ℕ) (next, rows) (Why.Syntax g.0) g.2)
  | inr g ↦ form_keeps s next rows line.behind lines g.0 kept (sym g.2)
]

lines_keep : (s : Script) (number : ℕ) (lines : List TextLine) (r : Result Script RequestFault) → KeptIn s → ComesTo s number lines r → IfOk r KeptIn
lines_keep s number [] r kept ended = kept
lines_keep s number (line ∷ lines) r kept (refused h) = tt
lines_keep s number (line ∷ lines) r kept (goes_on {next = next} rows h rest) =
    lines_keep next (number + 1 + rows) (drop rows lines) r (judged_keeps s next rows line lines kept h) rest

pub views_found : ViewsOfLinesAreFound
views_found lines s (inl h) = absurd (not_done s (RequestFault.Bad 1 h.0) h.2)
views_found lines s (inr h) =
    lines_keep (of_table h.0) 2 (drop 1 lines) (Ok s) (omega arith, λ place view e. absurd cc) h.2
