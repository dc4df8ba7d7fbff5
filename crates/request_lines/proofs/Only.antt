-- What is a line of a form is accepted, and every stack of goals can be emptied.
use Rattle.std.proofs.Common.{◌≡◌, ℕ, List, [], ◌∷◌, ◌++◌, codes, map, Option, Some, None, true, false, refl, sym, ap, subst, ◌∙◌, append_assoc, append-nil}
use Rattle.std.specs.Str.{bytes_eq}
use Rattle.std.proofs.lemmas.Slice.Eq.{bytes_eq-Decides}
use Rattle.first_fault.specs.Machine.{run, later, at_letter}
use Rattle.line_tokens.specs.Tokens.{Token, word, integer, decimal, quoted, open_bracket, close_bracket, comma, bad}
use Rattle.type_names.specs.TypeTexts.{is_literal, AreLiterals, tokens_of}
use Rattle.type_names.specs.declared.goal.Goal.TheVariants.{AnyType}
use Rattle.type_names.proofs.Only as types_only
use Rattle.type_shapes.specs.Literals.{has_minus}
use Rattle.line_forms.specs.Letters.{Letter, Sign, sign, Name, name_part, more_parts, divided, in_brackets, Every, Leads}
use Rattle.line_forms.specs.Tables.{ColumnText, column_signs, ColumnFits}
use Rattle.line_forms.specs.Selects.{Params, no_params, params, CallText, names_signs, literal_part, params_signs, call_signs, group_signs, ParamsFit, CallFits, HasCalls}
use Rattle.line_forms.specs.ScriptLines.{LineText, view, session, insert, load, read, states, line_signs, LineFits}
use Rattle.request_lines.specs.proving.Judging.{Goal, keyword, a_name, names, in_type, columns, opening, closing, a_literal, literals, call, in_call, maybe_arguments, in_names, calls, group, a_number, a_count, a_line, select_goals, table_goals, step, done, move}
use Rattle.request_lines.proofs.Found.{Sound}
use Rattle.request_lines.proofs.TypesIn.{Runs, types_run}

-- ---- signs in place of letters

pub same_run : (s : List Goal) (signs : List Sign) (letters : List Letter) → Leads signs letters [] → run move done s letters ≡ run move done s signs
same_run s [] letters h = ap (run move done s) h
same_run s (x ∷ signs) [] h = absurd h
same_run s (x ∷ signs) (l ∷ letters) h =
    ap (λ t. at_letter (λ v. run move done v letters) (step s t)) h.0 ∙ by_step (step s x.0) (λ v. same_run v signs letters h.2)
  where
    by_step : (o : Option (List Goal)) → ((v : List Goal) → run move done v letters ≡ run move done v signs) → at_letter (λ v. run move done v letters) o ≡ at_letter (λ v. run move done v signs) o
    by_step None further = refl
    by_step (Some v) further = ap later (further v)

-- ---- tables

column_run : (c : ColumnText) (s : List Goal) (t : List Sign) → ColumnFits c → Runs s t → Runs (a_name ∷ in_type AnyType ∷ s) (column_signs c ++ t)
column_run c s t f r = ap later (types_run (AnyType ∷ []) (tokens_of c.ty) s t (subst (λ x. types_only.Runs (AnyType ∷ []) x) (append-nil (tokens_of c.ty)) (types_only.type_run c.ty f [] [] refl)) r)

columns_run : (cs : List ColumnText) → Every ColumnFits cs → Runs (columns ∷ []) (more_parts (map column_signs cs))
columns_run [] f = refl
columns_run (c ∷ cs) f = ap later (column_run c (columns ∷ []) (more_parts (map column_signs cs)) f.0 (columns_run cs f.1))

pub table_run : (c : ColumnText) (cs : List ColumnText) → Every ColumnFits (c ∷ cs) → Runs table_goals (sign (word (codes "TABLE")) ∷ divided (map column_signs (c ∷ cs)))
table_run c cs f = ap later (column_run c (columns ∷ []) (more_parts (map column_signs cs)) f.0 (columns_run cs f.1))

-- ---- requests

keys_run : (ks : List Name) → Runs (names ∷ []) (more_parts (map name_part ks))
keys_run [] = refl
keys_run (k ∷ ks) = ap (λ r. later (later r)) (keys_run ks)

abbrev After : List Goal
After = calls ∷ group ∷ []

-- calls that end
calls_end : (ks : List Name) → Runs After (group_signs ks)
calls_end [] = refl
calls_end (k ∷ ks) = ap (λ r. later (later (later r))) (keys_run ks)

-- what stands behind a call
abbrev behind_it : List CallText → List Name → List Sign
behind_it cs ks = more_parts (map call_signs cs) ++ group_signs ks

-- no arguments behind `()`
maybe_end : (cs : List CallText) (ks : List Name) → Runs After (behind_it cs ks) → Runs (maybe_arguments ∷ After) (behind_it cs ks)
maybe_end [] [] h = h
maybe_end [] (k ∷ ks) h = h
maybe_end (c ∷ cs) ks h = h

names_run : (ns : List Name) (s : List Goal) (t : List Sign) → Runs s t → Runs (names ∷ closing ∷ s) ((more_parts (map name_part ns) ++ (sign close_bracket ∷ [])) ++ t)
names_run [] s t h = ap later h
names_run (n ∷ ns) s t h = ap (λ r. later (later r)) (names_run ns s t h)

in_names_run : (ns : List Name) (s : List Goal) (t : List Sign) → Runs s t → Runs (in_names ∷ s) ((names_signs ns ++ (sign close_bracket ∷ [])) ++ t)
in_names_run [] s t h = ap later h
in_names_run (n ∷ ns) s t h = ap later (names_run ns s t h)

literals_run : (ls : List Token) → AreLiterals ls → (s : List Goal) (t : List Sign) → Runs s t → Runs (literals ∷ closing ∷ s) ((more_parts (map literal_part ls) ++ (sign close_bracket ∷ [])) ++ t)
literals_run [] f s t h = ap later h
literals_run (l ∷ ls) f s t h =
    let one : Runs (a_literal ∷ literals ∷ closing ∷ s) (sign l ∷ ((more_parts (map literal_part ls) ++ (sign close_bracket ∷ [])) ++ t)) = rw f.0 (ap later (literals_run ls f.1 s t h)) in
    ap later one

-- a literal behind a call's bracket
literal_step : (l : Token) → is_literal l ≡ true → (s : List Goal) (t : List Sign) → Runs (literals ∷ closing ∷ opening ∷ in_names ∷ s) t → Runs (in_call ∷ s) (sign l ∷ t)
literal_step (integer ds) f s t h = ap later h
literal_step (decimal ds) f s t h = ap later h
literal_step (quoted bs) f s t h = ap later h
literal_step (word w) f s t h = absurd cc
literal_step open_bracket f s t h = absurd cc
literal_step close_bracket f s t h = absurd cc
literal_step comma f s t h = absurd cc
literal_step bad f s t h = absurd cc

behind_run : (ps : Params) (ns : List Name) → ParamsFit ps → (cs : List CallText) (ks : List Name) → Runs After (behind_it cs ks) → Runs (opening ∷ in_call ∷ After) ((params_signs ps ++ in_brackets (names_signs ns)) ++ behind_it cs ks)
behind_run no_params [] f cs ks h = ap (λ r. later (later r)) (maybe_end cs ks h)
behind_run no_params (n ∷ ns) f cs ks h = ap (λ r. later (later r)) (names_run ns After (behind_it cs ks) h)
behind_run (params []) ns f cs ks h = ap (λ r. later (later (later r))) (in_names_run ns After (behind_it cs ks) h)
behind_run (params (l ∷ ls)) ns f cs ks h =
    let t = behind_it cs ks in
    let more = more_parts (map literal_part ls) ++ (sign close_bracket ∷ []) in
    let arguments = names_signs ns ++ (sign close_bracket ∷ []) in
    let opened : Runs (opening ∷ in_names ∷ After) (sign open_bracket ∷ (arguments ++ t)) = ap later (in_names_run ns After t h) in
    let rest : Runs (literals ∷ closing ∷ opening ∷ in_names ∷ After) ((more ++ (sign open_bracket ∷ arguments)) ++ t) =
    subst (λ x. Runs (literals ∷ closing ∷ opening ∷ in_names ∷ After) x) (sym (append_assoc more (sign open_bracket ∷ arguments) t)) (literals_run ls f.1 (opening ∷ in_names ∷ After) (sign open_bracket ∷ (arguments ++ t)) opened) in
    ap later (literal_step l f.0 After ((more ++ (sign open_bracket ∷ arguments)) ++ t) rest)

call_run : (c : CallText) → ParamsFit c.parameters → (cs : List CallText) (ks : List Name) → Runs After (behind_it cs ks) → Runs (call ∷ After) ((call_signs c ++ more_parts (map call_signs cs)) ++ group_signs ks)
call_run c f cs ks h =
    subst (λ x. Runs (call ∷ After) x) (sym (append_assoc (call_signs c) (more_parts (map call_signs cs)) (group_signs ks))) (ap later (behind_run c.parameters c.arguments f cs ks h))

calls_run : (cs : List CallText) (ks : List Name) → Every CallFits cs → Runs After (behind_it cs ks)
calls_run [] ks f = calls_end ks
calls_run (c ∷ cs) ks f = ap later (call_run c f.0 cs ks (calls_run cs ks f.1))

pub select_run : (cs : List CallText) (ks : List Name) → HasCalls cs → Runs select_goals (sign (word (codes "SELECT")) ∷ (divided (map call_signs cs) ++ group_signs ks))
select_run [] ks f = absurd f
select_run (c ∷ cs) ks f = ap later (call_run c f.0 cs ks (calls_run cs ks f.1))

-- ---- lines of scripts

count_run : (ds : List ℕ) → has_minus ds ≡ false → Runs (a_count ∷ []) (sign (integer ds) ∷ [])
count_run ds f = rw f refl

pub line_run : (line : LineText) → LineFits line → Runs (a_line ∷ []) (line_signs line)
line_run (view n q) f = ap (λ r. later (later r)) (select_run q.calls q.keys f)
line_run (session at ds) f = refl
line_run (insert ds) f = ap later (count_run ds f)
line_run (load n ds) f = ap (λ r. later (later r)) (count_run ds f)
line_run (read n) f = refl
line_run (states n) f = refl

-- ---- every stack of goals can be emptied

abbrev Goes : List Goal → Type 0
Goes s = (t : List Sign) × Runs s t

same : (k : List ℕ) → bytes_eq k k ≡ true
same k = (bytes_eq-Decides k k).1 refl

ends : (g : Goal) (end : List Goal) (t : List Sign) → Runs (g ∷ end) t → (s : List Goal) → s ≡ end → Goes (g ∷ s)
ends g end t h s e = (t, subst (λ s. Runs (g ∷ s) t) (sym e) h)

pub goes_on : (s : List Goal) → Sound s → Goes s
goes_on [] h = ([], refl)
goes_on (keyword k ∷ s) h = let r = goes_on s h in (sign (word k) ∷ r.0, rw (same k) (ap later r.1))
goes_on (a_name ∷ s) h = let r = goes_on s h in (sign (word []) ∷ r.0, ap later r.1)
goes_on (in_type g ∷ s) h = let r = goes_on s h in let t = types_only.goes_on (g ∷ []) tt in (map sign t.0 ++ r.0, types_run (g ∷ []) t.0 s r.0 t.1 r.1)
goes_on (names ∷ []) h = ([], refl)
goes_on (names ∷ closing ∷ s) h = let r = goes_on s h.1 in (sign close_bracket ∷ r.0, ap later r.1)
goes_on (names ∷ g ∷ s) h = absurd h.0
goes_on (literals ∷ []) h = ([], refl)
goes_on (literals ∷ closing ∷ s) h = let r = goes_on s h.1 in (sign close_bracket ∷ r.0, ap later r.1)
goes_on (literals ∷ g ∷ s) h = absurd h.0
goes_on (columns ∷ s) h = ends columns [] [] refl s h
goes_on (opening ∷ s) h = let r = goes_on s h in (sign open_bracket ∷ r.0, ap later r.1)
goes_on (closing ∷ s) h = let r = goes_on s h in (sign close_bracket ∷ r.0, ap later r.1)
goes_on (a_literal ∷ s) h = let r = goes_on s h in (sign (integer []) ∷ r.0, ap later r.1)
goes_on (call ∷ s) h = ends call After (sign (word []) ∷ sign open_bracket ∷ sign close_bracket ∷ []) refl s h
goes_on (in_call ∷ s) h = ends in_call After (sign close_bracket ∷ []) refl s h
goes_on (maybe_arguments ∷ s) h = ends maybe_arguments After [] refl s h
goes_on (in_names ∷ s) h = let r = goes_on s h in (sign close_bracket ∷ r.0, ap later r.1)
goes_on (calls ∷ s) h = ends calls (group ∷ []) [] refl s h
goes_on (group ∷ s) h = ends group [] [] refl s h
goes_on (a_number ∷ s) h = let r = goes_on s h in (sign (integer []) ∷ r.0, ap later r.1)
goes_on (a_count ∷ s) h = let r = goes_on s h in (sign (integer []) ∷ r.0, ap later r.1)
goes_on (a_line ∷ s) h = ends a_line [] (sign (word (codes "READ")) ∷ sign (word []) ∷ []) refl s h
