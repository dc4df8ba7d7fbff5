-- What is read of a line is what the line spells.
use Rattle.std.proofs.Common.{◌≡◌, ℕ, List, [], ◌∷◌, codes, length, map, Some, Result, Ok, Err, sym, ap, subst, ◌∙◌}
use Rattle.line_tokens.specs.Tokens.{word}
use Rattle.line_forms.specs.Letters.{sign, divided, Leads, letters_in, letters_of}
use Rattle.line_forms.specs.Tables.{column_signs, IsColumnOf, IsTable}
use Rattle.line_forms.specs.Views.{column_of}
use Rattle.line_forms.specs.Answers.{IsTableAnswer, IsSelectAnswer, IsLineAnswer}
use Rattle.line_forms.specs.Selects.{select_signs}
use Rattle.line_forms.specs.ScriptLines.{IsScriptLine}
use Rattle.line_forms.specs.declared.select.WrittenSelect.{WrittenSelect}
use Rattle.line_forms.specs.declared.script_line.WrittenLine.{WrittenLine}
use Rattle.line_forms.specs.declared.table.WrittenTable.{WrittenTable}
use Rattle.line_forms.specs.declared.table.WrittenColumn.{WrittenColumn}
use Rattle.line_forms.specs.declared.fault.LineFault.{LineFault}
use Rattle.line_forms.specs.declared.fault.LineFault.TheVariants.{Syntax, OutOfMemory}
use Rattle.request_lines.specs.declared.rest.Rest.{Rest}
use Rattle.request_lines.specs.proving.Letters.{letters_left}
use Rattle.request_lines.specs.proving.Judging.{Goal, a_line, table_goals, select_goals, stop}
use Rattle.request_lines.specs.proving.Reads.{IsToken, AreColumnsRead, IsTableOf, IsSelectRead, IsLineRead, ReadsAll}
use Rattle.request_lines.proofs.Judged.{table_fault, select_fault, line_fault}
use Rattle.request_lines.proofs.Leading.{leads_on}
use Rattle.request_lines.proofs.ListsRead.{each-map}

-- ---- tables

pub table_read : (rest mid left : Rest) (read : List WrittenColumn) → IsToken (word (codes "TABLE")) (letters_left rest) (letters_left mid) → AreColumnsRead read (letters_left mid) (letters_left left) → letters_left left ≡ [] → IsTableOf (record { columns = read }) (letters_left rest)
table_read rest mid left read first h none = (
  h.0 ∷ h.1,
  (h.2, leads_on (sign (word (codes "TABLE")) ∷ []) (divided (map column_signs (h.0 ∷ h.1))) (letters_left rest) (letters_left mid) [] first (subst (λ x. Leads (divided (map column_signs (h.0 ∷ h.1))) (letters_left mid) x) none h.4)),
  each-map IsColumnOf column_of (h.0 ∷ h.1) read h.3,
)

-- ---- whole lines

whole_line : (line : List ℕ) (rest : Rest) → rest.whole ≡ length line → rest.text.now ≡ line → letters_left rest ≡ letters_of line
whole_line line rest whole text = ap (λ n. letters_in n rest.text.now) whole ∙ ap (letters_in (length line)) text

whole_stop : (goals : List Goal) (line : List ℕ) (rest : Rest) (at : ℕ) → rest.whole ≡ length line → rest.text.now ≡ line → stop rest.whole goals (letters_left rest) ≡ Some at → stop (length line) goals (letters_of line) ≡ Some at
whole_stop goals line rest at whole text h = sym (ap (λ n. stop n goals (letters_left rest)) whole ∙ ap (stop (length line) goals) (whole_line line rest whole text)) ∙ h

pub select_told : (line : List ℕ) (rest : Rest) (r : Result WrittenSelect LineFault) → rest.whole ≡ length line → rest.text.now ≡ line → ReadsAll select_goals IsSelectRead rest r → IsSelectAnswer line r
select_told line rest (Ok q) whole text h = (h.0, (h.1, subst (λ x. Leads (select_signs h.0) x []) (whole_line line rest whole text) h.3), h.2)
select_told line rest (Err (Syntax at)) whole text h = select_fault line at (whole_stop select_goals line rest at whole text h)
select_told line rest (Err OutOfMemory) whole text h = tt

pub script_told : (line : List ℕ) (rest : Rest) (r : Result WrittenLine LineFault) → rest.whole ≡ length line → rest.text.now ≡ line → ReadsAll (a_line ∷ []) IsLineRead rest r → IsLineAnswer line r
script_told line rest (Ok form) whole text h = (h.0, subst (λ x. IsScriptLine x h.0) (whole_line line rest whole text) h.1, h.2)
script_told line rest (Err (Syntax at)) whole text h = line_fault line at (whole_stop (a_line ∷ []) line rest at whole text h)
script_told line rest (Err OutOfMemory) whole text h = tt

pub table_told : (line : List ℕ) (rest : Rest) (r : Result WrittenTable LineFault) → rest.whole ≡ length line → rest.text.now ≡ line → ReadsAll table_goals IsTableOf rest r → IsTableAnswer line r
table_told line rest (Ok table) whole text h = (h.0, subst (λ x. IsTable x h.0) (whole_line line rest whole text) h.1, h.2)
table_told line rest (Err (Syntax at)) whole text h = table_fault line at (whole_stop table_goals line rest at whole text h)
table_told line rest (Err OutOfMemory) whole text h = tt
