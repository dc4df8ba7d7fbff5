-- The judge of lines is right: it finds no fault in a line of the form, and else the first one.
use Rattle.std.proofs.Common.{◌≡◌, ℕ, List, [], ◌∷◌, codes, length, map, Option, Some, None, Result, Ok, Err, refl, sym, ap, subst, ◌∙◌}
use Rattle.first_fault.specs.FirstFault.{IsReading, IsSpelled}
use Rattle.first_fault.specs.Machine.{run, later, at_letter}
use Rattle.first_fault.proofs.Machines.{IsLive, machine_reads}
use Rattle.first_fault.proofs.Cold.{cold}
use Rattle.line_tokens.specs.Tokens.{word}
use Rattle.line_forms.specs.Letters.{Letter, Sign, sign, divided, letters_of, place}
use Rattle.line_forms.specs.Tables.{ColumnText, column_signs, IsTable}
use Rattle.line_forms.specs.Selects.{select_signs, IsSelect}
use Rattle.line_forms.specs.ScriptLines.{line_signs, IsScriptLine}
use Rattle.line_forms.specs.Answers.{IsFirstFault}
use Rattle.request_lines.specs.proving.Judging.{Goal, a_line, table_goals, select_goals, step, done, move, at_end, at_step, stop}
use Rattle.request_lines.proofs.Found.{Sound, kept, found, table_found, select_found, line_found}
use Rattle.request_lines.proofs.Only.{same_run, table_run, select_run, line_run, goes_on}

-- a letter wherever the sign tells it
abbrev placed : List Sign → List Letter
placed signs = map (λ (x : Sign). (x.0, 0)) signs

same_placed : (s : List Goal) (signs : List Sign) → run move done s (placed signs) ≡ run move done s signs
same_placed s [] = refl
same_placed s (x ∷ signs) = by_step (step s x.0) (λ v. same_placed v signs)
  where
    by_step : (o : Option (List Goal)) → ((v : List Goal) → run move done v (placed signs) ≡ run move done v signs) → at_letter (λ v. run move done v (placed signs)) o ≡ at_letter (λ v. run move done v signs) o
    by_step None further = refl
    by_step (Some v) further = ap later (further v)

live : IsLive {A = Letter} {V = Unit {0}} move done Sound
live = record {
  kept = λ s t l h e. kept s t l h e;
  goes_on = λ s h. let r = goes_on s h in (placed r.0, tt, same_placed s r.0 ∙ r.1);
}

-- ---- each form has its judge

abbrev IsExact : {V : Type 0} → (List Letter → V → Type 0) → List Goal → Type 0
IsExact spells goals = (t : List Letter) → IsReading (IsSpelled spells) t (run move done goals t)

table_only : (t : List Letter) (cs : List ColumnText) → IsTable t cs → run move done table_goals t ≡ Ok tt
table_only t [] h = absurd h
table_only t (c ∷ cs) h = same_run table_goals (sign (word (codes "TABLE")) ∷ divided (map column_signs (c ∷ cs))) t h.1 ∙ table_run c cs h.0

table_exact : IsExact IsTable table_goals
table_exact t =
    machine_reads move done Sound (IsSpelled IsTable) table_goals (λ t v e. table_found t (found table_goals t v refl e)) (λ t v h. table_only t h.0 h.1) live refl t (run move done table_goals t) refl

select_exact : IsExact IsSelect select_goals
select_exact t =
    machine_reads move done Sound (IsSpelled IsSelect) select_goals (λ t v e. select_found t (found select_goals t v refl e))
    (λ t v h. same_run select_goals (select_signs h.0) t h.1.1 ∙ select_run h.0.calls h.0.keys h.1.0) live refl t (run move done select_goals t) refl

line_exact : IsExact IsScriptLine (a_line ∷ [])
line_exact t =
    machine_reads move done Sound (IsSpelled IsScriptLine) (a_line ∷ []) (λ t v e. let h = line_found t (found (a_line ∷ []) t v refl e) in (h.0, (h.1, h.2)))
    (λ t v h. same_run (a_line ∷ []) (line_signs h.0) t h.1.1 ∙ line_run h.0 h.1.0) live refl t (run move done (a_line ∷ []) t) refl

-- ---- places in place of numbers

abbrev faulted : ℕ → List Letter → Result (Unit {0}) ℕ → Option ℕ
faulted whole letters (Ok v) = None
faulted whole letters (Err n) = Some (place whole n letters)

faulted_later : (whole : ℕ) (l : Letter) (letters : List Letter) (r : Result (Unit {0}) ℕ) → faulted whole (l ∷ letters) (later r) ≡ faulted whole letters r
faulted_later whole l letters (Ok v) = refl
faulted_later whole l letters (Err n) = refl

stop-run : (whole : ℕ) (s : List Goal) (letters : List Letter) → stop whole s letters ≡ faulted whole letters (run move done s letters)
stop-run whole s [] = by_end (done s)
  where
    by_end : (o : Option (Unit {0})) → at_end whole o ≡ faulted whole [] (Rattle.first_fault.specs.Machine.at_end o)
    by_end (Some u) = refl
    by_end None = refl
stop-run whole s (l ∷ letters) = by_step (step s l.0) (λ v. stop-run whole v letters)
  where
    by_step : (o : Option (List Goal)) → ((v : List Goal) → stop whole v letters ≡ faulted whole letters (run move done v letters)) → at_step (λ v. stop whole v letters) l.1 o ≡ faulted whole (l ∷ letters) (at_letter (λ v. run move done v letters) o)
    by_step None further = refl
    by_step (Some v) further = further v ∙ sym (faulted_later whole l letters (run move done v letters))

abbrev Told : {V : Type 0} → (List Letter → V → Type 0) → List ℕ → Option ℕ → Type 0
Told spells line None = Unit {0}
Told spells line (Some at) = IsFirstFault spells line at

told : {V : Type 0} (spells : List Letter → V → Type 0) (line : List ℕ) (r : Result (Unit {0}) ℕ) → IsReading (IsSpelled spells) (letters_of line) r → Told spells line (faulted (length line) (letters_of line) r)
told spells line (Ok v) h = tt
told spells line (Err n) h = (n, cold spells (letters_of line) None (Err n) (λ v e. absurd cc) (λ v s. absurd (h.0 tt (v, s))) h, refl)

fault_told : {V : Type 0} (spells : List Letter → V → Type 0) (goals : List Goal) → IsExact spells goals → (line : List ℕ) (at : ℕ) → stop (length line) goals (letters_of line) ≡ Some at → IsFirstFault spells line at
fault_told spells goals exact line at e =
    subst (Told spells line) (sym (stop-run (length line) goals (letters_of line)) ∙ e) (told spells line _ (exact (letters_of line)))

pub table_fault : (line : List ℕ) (at : ℕ) → stop (length line) table_goals (letters_of line) ≡ Some at → IsFirstFault IsTable line at
table_fault line at e = fault_told IsTable table_goals table_exact line at e

pub select_fault : (line : List ℕ) (at : ℕ) → stop (length line) select_goals (letters_of line) ≡ Some at → IsFirstFault IsSelect line at
select_fault line at e = fault_told IsSelect select_goals select_exact line at e

pub line_fault : (line : List ℕ) (at : ℕ) → stop (length line) (a_line ∷ []) (letters_of line) ≡ Some at → IsFirstFault IsScriptLine line at
line_fault line at e = fault_told IsScriptLine (a_line ∷ []) line_exact line at e
