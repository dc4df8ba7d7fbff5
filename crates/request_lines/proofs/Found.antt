-- What a stack of goals says of the letters that are left.
use Rattle.std.proofs.Common.{◌≡◌, ℕ, List, [], ◌∷◌, ◌++◌, codes, map, not, Option, Some, None, Bool, true, false, cond, Ok, refl, sym, ap, subst, ◌∙◌, append_assoc, append-nil}
use Rattle.std.specs.Str.{bytes_eq}
use Rattle.std.proofs.lemmas.List.{map-append}
use Rattle.std.proofs.lemmas.Slice.Eq.{bytes_eq-Decides}
use Rattle.first_fault.specs.Machine.{run}
use Rattle.first_fault.specs.Grammar.{Then, InOrder}
use Rattle.first_fault.proofs.Grammar.{push, regroup}
use Rattle.first_fault.proofs.Machines.{letter_ok, end_ok}
use Rattle.line_tokens.specs.Tokens.{Token, word, integer, open_bracket, close_bracket, comma}
use Rattle.type_names.specs.TypeTexts.{tokens_of, is_literal, AreLiterals}
use Rattle.type_names.specs.declared.goal.Goal.{Goal as TypeGoal}
use Rattle.type_names.specs.declared.goal.Goal.TheVariants.{AnyType}
use Rattle.type_names.specs.Judging as types
use Rattle.type_names.proofs.Found as types_found
use Rattle.type_shapes.specs.Literals.{has_minus}
use Rattle.line_forms.specs.Letters.{Letter, sign, Name, name_sign, name_part, more_parts, divided, in_brackets, Every, Leads}
use Rattle.line_forms.specs.Tables.{ColumnText, column_signs, ColumnFits}
use Rattle.line_forms.specs.Tables as tables
use Rattle.line_forms.specs.Selects.{Params, no_params, params, CallText, names_signs, literal_part, params_signs, call_signs, group_signs, SelectText, select_signs, ParamsFit, CallFits, HasCalls}
use Rattle.line_forms.specs.Selects as selects
use Rattle.line_forms.specs.ScriptLines.{LineText, view, session, insert, load, read, states, line_signs, LineFits}
use Rattle.request_lines.specs.proving.Judging.{Goal, keyword, a_name, names, in_type, columns, opening, closing, a_literal, literals, call, in_call, maybe_arguments, in_names, calls, group, a_number, a_count, a_line, some_if, in_types, select_goals, line_kind, line_goals, step, done, move}
use Rattle.request_lines.specs.declared.script.LineKind.{LineKind}
use Rattle.request_lines.specs.declared.script.LineKind.TheVariants.{View, Session, Insert, Load, Read, States, Other}
use Rattle.request_lines.specs.proving.Reads.{inside_signs}
use Rattle.request_lines.proofs.LineKinds.{IsKind, is_kind}
use Rattle.request_lines.proofs.Leading.{put}

abbrev pub tokens_in : List Letter → List Token
tokens_in letters = map (λ (l : Letter). l.0) letters

abbrev pub Of : Goal → List Letter → Type 0
Of (keyword k) t = Leads (sign (word k) ∷ []) t []
Of a_name t = (n : Name) × Leads (name_part n) t []
Of names t = (ns : List Name) × Leads (more_parts (map name_part ns)) t []
Of (in_type g) t = types_found.Of g (tokens_in t)
Of columns t = (cs : List ColumnText) × Every ColumnFits cs × Leads (more_parts (map column_signs cs)) t []
Of opening t = Leads (sign open_bracket ∷ []) t []
Of closing t = Leads (sign close_bracket ∷ []) t []
Of a_literal t = (l : Token) × (is_literal l ≡ true) × Leads (literal_part l) t []
Of literals t = (ls : List Token) × AreLiterals ls × Leads (more_parts (map literal_part ls)) t []
Of call t = (c : CallText) × ParamsFit c.parameters × Leads (call_signs c) t []
Of in_call t = (ps : Params) × (ns : List Name) × ParamsFit ps × Leads (inside_signs ps ns) t []
Of maybe_arguments t = (ps : Params) × (ns : List Name) × ParamsFit ps × ((p : ℕ) → Leads (inside_signs ps ns) ((close_bracket, p) ∷ t) [])
Of in_names t = (ns : List Name) × Leads (names_signs ns ++ (sign close_bracket ∷ [])) t []
Of calls t = (cs : List CallText) × Every CallFits cs × Leads (more_parts (map call_signs cs)) t []
Of group t = (ks : List Name) × Leads (group_signs ks) t []
Of a_number t = (at : ℕ) × (ds : List ℕ) × Leads ((integer ds, Some at) ∷ []) t []
Of a_count t = (ds : List ℕ) × (has_minus ds ≡ false) × Leads (sign (integer ds) ∷ []) t []
Of a_line t = (line : LineText) × LineFits line × Leads (line_signs line) t []

abbrev pub IsEnd : List Letter → Type 0
IsEnd t = t ≡ []

abbrev pub Left : List Goal → List Letter → Type 0
Left s t = InOrder Of IsEnd s t

-- behind a call stand further calls and the keys
abbrev pub AfterCall : List Goal → Type 0
AfterCall s = s ≡ calls ∷ group ∷ []

-- what may stand behind a list in brackets or at the end of a line
abbrev pub EndsList : List Goal → Type 0
EndsList [] = Unit {0}
EndsList (closing ∷ s) = Unit {0}
EndsList (g ∷ s) = ⊥

abbrev pub Sound : List Goal → Type 0
Sound [] = Unit {0}
Sound (names ∷ s) = EndsList s × Sound s
Sound (columns ∷ s) = s ≡ []
Sound (literals ∷ s) = EndsList s × Sound s
Sound (call ∷ s) = AfterCall s
Sound (in_call ∷ s) = AfterCall s
Sound (maybe_arguments ∷ s) = AfterCall s
Sound (calls ∷ s) = s ≡ group ∷ []
Sound (group ∷ s) = s ≡ []
Sound (a_line ∷ s) = s ≡ []
Sound (g ∷ s) = Sound s

after_sound : (s : List Goal) → AfterCall s → Sound s
after_sound s h = subst Sound (sym h) refl

calls_sound : (s : List Goal) → s ≡ group ∷ [] → Sound s
calls_sound s h = subst Sound (sym h) refl

names_sound : (s : List Goal) → s ≡ [] → EndsList s × Sound s
names_sound s h = subst (λ s. EndsList s × Sound s) (sym h) (tt, tt)

nothing : (s : List Goal) → s ≡ [] → Sound s
nothing s h = subst Sound (sym h) tt

types_sound : (gs : List TypeGoal) (s : List Goal) → Sound s → Sound (map in_type gs ++ s)
types_sound [] s h = h
types_sound (g ∷ gs) s h = types_sound gs s h

some_is : (x y : List Goal) → (let o : Option (List Goal) = Some x in o) ≡ Some y → x ≡ y
some_is x y e = cc

abbrev StepsTo : List Goal → Letter → List Letter → List Goal → Type 0
StepsTo s l rest u = Sound u × (Left u rest → Left s (l ∷ rest))

goes_is : (Q : List Goal → Type 0) (s u : List Goal) → Q s → (let o : Option (List Goal) = Some s in o) ≡ Some u → Q u
goes_is Q s u q e = subst Q (some_is s u e) q

goes_if_is : (Q : List Goal → Type 0) (test : Bool) (s u : List Goal) → (test ≡ true → Q s) → some_if test s ≡ Some u → Q u
goes_if_is Q true s u q e = goes_is Q s u (q refl) e
goes_if_is Q false s u q e = absurd cc

same_bytes : (x y : List ℕ) → bytes_eq x y ≡ true → x ≡ y
same_bytes x y e = (bytes_eq-Decides x y).0 e

-- a goal that one letter meets
one : (g : Goal) (s : List Goal) (l : Letter) (rest : List Letter) → Of g (l ∷ []) → Left s rest → Left (g ∷ s) (l ∷ rest)
one g s l rest o r = record { front = l ∷ []; rest = rest; first = o; second = r; whole = refl }

-- a goal that may be left out
skipped : (g : Goal) (s : List Goal) (t : List Letter) → Of g [] → Left s t → Left (g ∷ s) t
skipped g s t o r = record { front = []; rest = t; first = o; second = r; whole = refl }

-- a letter before what meets a goal
more : (g h : Goal) (s : List Goal) (l : Letter) (rest : List Letter) → ((a : List Letter) → Of g a → Of h (l ∷ a)) → Left (g ∷ s) rest → Left (h ∷ s) (l ∷ rest)
more g h s l rest f r = push {L = Of g} {M = Of h} {K = Left s} l rest f r

-- a letter before what meets two goals, or three
more2 : (g h k : Goal) (s : List Goal) (l : Letter) (rest : List Letter) → ((a : List Letter) → Then (Of g) (Of h) a → Of k (l ∷ a)) → Left (g ∷ h ∷ s) rest → Left (k ∷ s) (l ∷ rest)
more2 g h k s l rest f r = push {L = Then (Of g) (Of h)} {M = Of k} {K = Left s} l rest f (regroup {L = Of g} {M = Of h} {K = Left s} rest r)

more3 : (g h i k : Goal) (s : List Goal) (l : Letter) (rest : List Letter) → ((a : List Letter) → Then (Of g) (Then (Of h) (Of i)) a → Of k (l ∷ a)) → Left (g ∷ h ∷ i ∷ s) rest → Left (k ∷ s) (l ∷ rest)
more3 g h i k s l rest f r =
    push {L = Then (Of g) (Then (Of h) (Of i))} {M = Of k} {K = Left s} l rest f
    (regroup {L = Of g} {M = Then (Of h) (Of i)} {K = Left s} rest (record { front = r.front; rest = r.rest; first = r.first; second = regroup {L = Of h} {M = Of i} {K = Left s} r.rest r.second; whole = r.whole }))

more4 : (g h i j k : Goal) (s : List Goal) (l : Letter) (rest : List Letter) → ((a : List Letter) → Then (Of g) (Then (Of h) (Then (Of i) (Of j))) a → Of k (l ∷ a)) → Left (g ∷ h ∷ i ∷ j ∷ s) rest → Left (k ∷ s) (l ∷ rest)
more4 g h i j k s l rest f r =
    let a = r.second in
    let b : Then (Then (Of i) (Of j)) (Left s) a.rest = regroup {L = Of i} {M = Of j} {K = Left s} a.rest a.second in
    let c : Then (Then (Of h) (Then (Of i) (Of j))) (Left s) r.rest = regroup {L = Of h} {M = Then (Of i) (Of j)} {K = Left s} r.rest (record { front = a.front; rest = a.rest; first = a.first; second = b; whole = a.whole }) in
    push {L = Then (Of g) (Then (Of h) (Then (Of i) (Of j)))} {M = Of k} {K = Left s} l rest f
    (regroup {L = Of g} {M = Then (Of h) (Then (Of i) (Of j))} {K = Left s} rest (record { front = r.front; rest = r.rest; first = r.first; second = c; whole = r.whole }))

-- ---- types

record IsSplit (gs : List TypeGoal) (s : List Goal) (t : List Letter) : Type 0 where
  front : List Letter
  back : List Letter
  types : types_found.Left gs (tokens_in front)
  others : Left s back
  whole : t ≡ front ++ back

split : (gs : List TypeGoal) (s : List Goal) (t : List Letter) → Left (map in_type gs ++ s) t → IsSplit gs s t
split [] s t h = record { front = []; back = t; types = refl; others = h; whole = refl }
split (g ∷ gs) s t h =
    let r = split gs s h.rest h.second in
    record {
      front = h.front ++ r.front;
      back = r.back;
      types = record { front = tokens_in h.front; rest = tokens_in r.front; first = h.first; second = r.types; whole = map-append (λ (l : Letter). l.0) h.front r.front };
      others = r.others;
      whole = h.whole ∙ ap (λ x. h.front ++ x) r.whole ∙ sym (append_assoc h.front r.front r.back);
    }

-- one goal of a type
pub type_alone : (g : TypeGoal) (ts : List Token) → types_found.Left (g ∷ []) ts → types_found.Of g ts
type_alone g ts h = subst (types_found.Of g) (sym (h.whole ∙ ap (λ x. h.front ++ x) h.second ∙ append-nil h.front)) h.first

moves_type : (g : TypeGoal) (s : List Goal) (l : Letter) (rest : List Letter) (u : List Goal) (o : Option (List TypeGoal)) → Sound s → types.step (g ∷ []) l.0 ≡ o → in_types o s ≡ Some u → StepsTo (in_type g ∷ s) l rest u
moves_type g s l rest u None h is e = absurd cc
moves_type g s l rest u (Some gs) h is e =
    goes_is (StepsTo (in_type g ∷ s) l rest) (map in_type gs ++ s) u (
      types_sound gs s h,
      λ r.
          let p = split gs s rest r in
          let m = types_found.moves (g ∷ []) l.0 (tokens_in p.front) gs tt is in
          let o : Of (in_type g) (l ∷ p.front) = type_alone g (tokens_in (l ∷ p.front)) (m.1 p.types) in
          record { front = l ∷ p.front; rest = p.back; first = o; second = p.others; whole = ap (λ x. l ∷ x) p.whole },
    ) e

-- ---- parts that make one

-- the letters of a type, wherever they stand
pub anywhere : (ts : List Token) (f : List Letter) → tokens_in f ≡ ts → Leads (map sign ts) f []
anywhere [] [] e = refl
anywhere [] (l ∷ f) e = absurd cc
anywhere (t ∷ ts) [] e = absurd cc
anywhere (t ∷ ts) (l ∷ f) e = (let same : l.0 ≡ t = cc in same, tt, anywhere ts f (let rest : tokens_in f ≡ ts = cc in rest))

record AreSomeColumns (t : List Letter) : Type 0 where
  first : ColumnText
  further : List ColumnText
  fits : Every ColumnFits (first ∷ further)
  leads : Leads (divided (map column_signs (first ∷ further))) t []

some_columns : (a : List Letter) → Then (Of a_name) (Then (Of (in_type AnyType)) (Of columns)) a → AreSomeColumns a
some_columns a q =
    let t = q.second in
    let name = q.first.0 in
    let ty = t.first.0 in
    let further = more_parts (map column_signs t.second.0) in
    record {
      first = record { name = name; ty = ty };
      further = t.second.0;
      fits = (t.first.1, t.second.1);
      leads = put (name_part name) (map sign (tokens_of ty) ++ further) a q.front q.rest q.whole q.first.1
          (put (map sign (tokens_of ty)) further q.rest t.front t.rest t.whole (anywhere (tokens_of ty) t.front t.first.2) t.second.2);
    }

columns_from : (p : ℕ) (a : List Letter) → Then (Of a_name) (Then (Of (in_type AnyType)) (Of columns)) a → Of columns ((comma, p) ∷ a)
columns_from p a q = let h = some_columns a q in (h.first ∷ h.further, h.fits, (refl, tt, h.leads))

names_from : (p : ℕ) (a : List Letter) → Then (Of a_name) (Of names) a → Of names ((comma, p) ∷ a)
names_from p a q = (q.first.0 ∷ q.second.0, (refl, tt, put (name_part q.first.0) (more_parts (map name_part q.second.0)) a q.front q.rest q.whole q.first.1 q.second.1))

literals_from : (p : ℕ) (a : List Letter) → Then (Of a_literal) (Of literals) a → Of literals ((comma, p) ∷ a)
literals_from p a q = (q.first.0 ∷ q.second.0, (q.first.1, q.second.1), (refl, tt, put (literal_part q.first.0) (more_parts (map literal_part q.second.0)) a q.front q.rest q.whole q.first.2 q.second.2))

calls_from : (p : ℕ) (a : List Letter) → Then (Of call) (Of calls) a → Of calls ((comma, p) ∷ a)
calls_from p a q = (q.first.0 ∷ q.second.0, (q.first.1, q.second.1), (refl, tt, put (call_signs q.first.0) (more_parts (map call_signs q.second.0)) a q.front q.rest q.whole q.first.2 q.second.2))

-- what stands behind a call's name
pub opened : (ps : Params) (ns : List Name) → sign open_bracket ∷ inside_signs ps ns ≡ params_signs ps ++ in_brackets (names_signs ns)
opened no_params ns = refl
opened (params ls) ns = refl

call_from : (w : List ℕ) (p : ℕ) (a : List Letter) → Then (Of opening) (Of in_call) a → Of call ((word w, p) ∷ a)
call_from w p a q =
    let c = q.second in
    (record { name = w; parameters = c.0; arguments = c.1 }, c.2, (refl, tt, subst (λ x. Leads x a []) (opened c.0 c.1) (put (sign open_bracket ∷ []) (inside_signs c.0 c.1) a q.front q.rest q.whole q.first c.3)))

-- a first name, further ones, and the closing bracket
closed_names : (n : Name) (a : List Letter) → Then (Of names) (Of closing) a → (ns : List Name) × Leads (more_parts (map name_part ns) ++ (sign close_bracket ∷ [])) a []
closed_names n a q = (q.first.0, put (more_parts (map name_part q.first.0)) (sign close_bracket ∷ []) a q.front q.rest q.whole q.first.1 q.second)

arguments_from : (w : List ℕ) (p : ℕ) (a : List Letter) → Then (Of names) (Of closing) a → Of in_names ((word w, p) ∷ a)
arguments_from w p a q =
    let n : Name = record { at = p; name = w } in
    let c = closed_names n a q in
    (n ∷ c.0, (refl, refl, c.1))

in_call_from : (w : List ℕ) (p : ℕ) (a : List Letter) → Then (Of names) (Of closing) a → Of in_call ((word w, p) ∷ a)
in_call_from w p a q =
    let n : Name = record { at = p; name = w } in
    let c = closed_names n a q in
    (no_params, n ∷ c.0, tt, (refl, refl, c.1))

params_from : (x : Token) (p : ℕ) → is_literal x ≡ true → (a : List Letter) → Then (Of literals) (Then (Of closing) (Then (Of opening) (Of in_names))) a → Of in_call ((x, p) ∷ a)
params_from x p lit a q =
    let c = q.second in
    let o = c.second in
    let more = more_parts (map literal_part q.first.0) in
    let arguments = names_signs o.second.0 ++ (sign close_bracket ∷ []) in (
      params (x ∷ q.first.0),
      o.second.0,
      (lit, q.first.1),
      (
        refl,
        tt,
        subst (λ y. Leads y a []) (sym (append_assoc more (sign close_bracket ∷ []) (sign open_bracket ∷ arguments)))
            (put more (sign close_bracket ∷ sign open_bracket ∷ arguments) a q.front q.rest q.whole q.first.2
            (put (sign close_bracket ∷ []) (sign open_bracket ∷ arguments) q.rest c.front c.rest c.whole c.first
            (put (sign open_bracket ∷ []) arguments c.rest o.front o.rest o.whole o.first o.second.1))),
      ),
    )

group_from : (w : List ℕ) (p : ℕ) → w ≡ codes "GROUP" → (a : List Letter) → Then (Of (keyword (codes "BY"))) (Then (Of a_name) (Of names)) a → Of group ((word w, p) ∷ a)
group_from w p e a q =
    let n = q.second in
    let further = more_parts (map name_part n.second.0) in (
      n.first.0 ∷ n.second.0,
      (
        ap word e,
        tt,
        put (sign (word (codes "BY")) ∷ []) (name_part n.first.0 ++ further) a q.front q.rest q.whole q.first
            (put (name_part n.first.0) further q.rest n.front n.rest n.whole n.first.1 n.second.1),
      ),
    )

-- ---- requests within a line

-- the last part of a line
alone : (M : List Letter → Type 0) (t : List Letter) → Then M IsEnd t → M t
alone M t h = subst M (sym (h.whole ∙ ap (λ x. h.front ++ x) h.second ∙ append-nil h.front)) h.first

record AreSelects (a : List Letter) : Type 0 where
  text : SelectText
  fits : HasCalls text.calls
  leads : Leads (select_signs text) a []

select_from : (a : List Letter) → Left select_goals a → AreSelects a
select_from a h =
    let c = h.second in
    let m = c.second in
    let ks = alone (Of group) m.rest m.second in
    let call_one = c.first.0 in
    let further = m.first.0 in
    let more = more_parts (map call_signs further) in
    record {
      text = record { calls = call_one ∷ further; keys = ks.0 };
      fits = (c.first.1, m.first.1);
      leads = put (sign (word (codes "SELECT")) ∷ []) ((call_signs call_one ++ more) ++ group_signs ks.0) a h.front h.rest h.whole h.first
          (subst (λ x. Leads x h.rest []) (sym (append_assoc (call_signs call_one) more (group_signs ks.0)))
          (put (call_signs call_one) (more ++ group_signs ks.0) h.rest c.front c.rest c.whole c.first.2
          (put more (group_signs ks.0) c.rest m.front m.rest m.whole m.first.2 ks.1)));
    }

-- ---- lines of scripts

choose : (P : Type 0) (u : List Goal) (t : Bool) (x y : Option (List Goal)) → (t ≡ true → x ≡ Some u → P) → (t ≡ false → y ≡ Some u → P) → cond t x y ≡ Some u → P
choose P u true x y f g e = f refl e
choose P u false x y f g e = g refl e

line_alone : (l : Letter) (rest : List Letter) → Of a_line (l ∷ rest) → Left (a_line ∷ []) (l ∷ rest)
line_alone l rest o = record { front = l ∷ rest; rest = []; first = o; second = refl; whole = sym (append-nil (l ∷ rest)) }

view_from : (w : List ℕ) (p : ℕ) (rest : List Letter) → w ≡ codes "VIEW" → Left (a_name ∷ select_goals) rest → Of a_line ((word w, p) ∷ rest)
view_from w p rest e h =
    let q = select_from h.rest h.second in
    (view h.first.0 q.text, q.fits, (ap word e, tt, put (name_sign h.first.0 ∷ []) (select_signs q.text) rest h.front h.rest h.whole h.first.1 q.leads))

session_from : (w : List ℕ) (p : ℕ) (rest : List Letter) → w ≡ codes "SESSION" → Of a_number rest → Of a_line ((word w, p) ∷ rest)
session_from w p rest e h = (session h.0 h.1, tt, (ap word e, tt, h.2))

insert_from : (w : List ℕ) (p : ℕ) (rest : List Letter) → w ≡ codes "INSERT" → Of a_count rest → Of a_line ((word w, p) ∷ rest)
insert_from w p rest e h = (insert h.0, h.1, (ap word e, tt, h.2))

load_from : (w : List ℕ) (p : ℕ) (rest : List Letter) → w ≡ codes "LOAD" → Left (a_name ∷ a_count ∷ []) rest → Of a_line ((word w, p) ∷ rest)
load_from w p rest e h =
    let c = alone (Of a_count) h.rest h.second in
    (load h.first.0 c.0, c.1, (ap word e, tt, put (name_sign h.first.0 ∷ []) (sign (integer c.0) ∷ []) rest h.front h.rest h.whole h.first.1 c.2))

read_from : (w : List ℕ) (p : ℕ) (rest : List Letter) → w ≡ codes "READ" → Of a_name rest → Of a_line ((word w, p) ∷ rest)
read_from w p rest e h = (read h.0, tt, (ap word e, tt, h.1))

states_from : (w : List ℕ) (p : ℕ) (rest : List Letter) → w ≡ codes "STATES" → Of a_name rest → Of a_line ((word w, p) ∷ rest)
states_from w p rest e h = (states h.0, tt, (ap word e, tt, h.1))

moves_line : (k : LineKind) (w : List ℕ) (p : ℕ) (rest : List Letter) (u : List Goal) → IsKind k w → line_goals k [] ≡ Some u → StepsTo (a_line ∷ []) (word w, p) rest u
moves_line View w p rest u is e = goes_is (StepsTo (a_line ∷ []) (word w, p) rest) _ u (refl, λ r. line_alone (word w, p) rest (view_from w p rest is r)) e
moves_line Session w p rest u is e = goes_is (StepsTo (a_line ∷ []) (word w, p) rest) _ u (tt, λ r. line_alone (word w, p) rest (session_from w p rest is (alone (Of a_number) rest r))) e
moves_line Insert w p rest u is e = goes_is (StepsTo (a_line ∷ []) (word w, p) rest) _ u (tt, λ r. line_alone (word w, p) rest (insert_from w p rest is (alone (Of a_count) rest r))) e
moves_line Load w p rest u is e = goes_is (StepsTo (a_line ∷ []) (word w, p) rest) _ u (tt, λ r. line_alone (word w, p) rest (load_from w p rest is r)) e
moves_line Read w p rest u is e = goes_is (StepsTo (a_line ∷ []) (word w, p) rest) _ u (tt, λ r. line_alone (word w, p) rest (read_from w p rest is (alone (Of a_name) rest r))) e
moves_line States w p rest u is e = goes_is (StepsTo (a_line ∷ []) (word w, p) rest) _ u (tt, λ r. line_alone (word w, p) rest (states_from w p rest is (alone (Of a_name) rest r))) e
moves_line Other w p rest u is e = absurd cc

line_moves : (s : List Goal) (w : List ℕ) (p : ℕ) (rest : List Letter) (u : List Goal) → s ≡ [] → line_goals (line_kind w) s ≡ Some u → StepsTo (a_line ∷ s) (word w, p) rest u
line_moves [] w p rest u h e = moves_line (line_kind w) w p rest u (is_kind w) e
line_moves (g ∷ s) w p rest u h e = absurd cc

not_true : (b : Bool) → not b ≡ true → b ≡ false
not_true true e = absurd cc
not_true false e = refl

-- ---- every step

pub moves : (s : List Goal) (x : Token) (p : ℕ) (rest : List Letter) (u : List Goal) → Sound s → step s x ≡ Some u → StepsTo s (x, p) rest u
moves (keyword k ∷ s) (word w) p rest u h e = goes_if_is (StepsTo (keyword k ∷ s) (word w, p) rest) (bytes_eq w k) s u (λ t. (h, one (keyword k) s (word w, p) rest (ap word (same_bytes w k t), tt, refl))) e
moves (a_name ∷ s) (word w) p rest u h e = goes_is (StepsTo (a_name ∷ s) (word w, p) rest) s u (h, one a_name s (word w, p) rest (record { at = p; name = w }, (refl, refl, refl))) e
moves (names ∷ s) comma p rest u h e = goes_is (StepsTo (names ∷ s) (comma, p) rest) _ u (h, more2 a_name names names s (comma, p) rest (names_from p)) e
moves (names ∷ s) x p rest u h e = let m = moves s x p rest u h.1 e in (m.0, λ r. skipped names s ((x, p) ∷ rest) ([], refl) (m.1 r))
moves (in_type g ∷ s) x p rest u h e = moves_type g s (x, p) rest u (types.step (g ∷ []) x) h refl e
moves (columns ∷ s) comma p rest u h e = goes_is (StepsTo (columns ∷ s) (comma, p) rest) _ u (h, more3 a_name (in_type AnyType) columns columns s (comma, p) rest (columns_from p)) e
moves (columns ∷ s) x p rest u h e = let m = moves s x p rest u (nothing s h) e in (m.0, λ r. skipped columns s ((x, p) ∷ rest) ([], tt, refl) (m.1 r))
moves (opening ∷ s) open_bracket p rest u h e = goes_is (StepsTo (opening ∷ s) (open_bracket, p) rest) s u (h, one opening s (open_bracket, p) rest (refl, tt, refl)) e
moves (closing ∷ s) close_bracket p rest u h e = goes_is (StepsTo (closing ∷ s) (close_bracket, p) rest) s u (h, one closing s (close_bracket, p) rest (refl, tt, refl)) e
moves (a_literal ∷ s) x p rest u h e = goes_if_is (StepsTo (a_literal ∷ s) (x, p) rest) (is_literal x) s u (λ t. (h, one a_literal s (x, p) rest (x, t, (refl, tt, refl)))) e
moves (literals ∷ s) comma p rest u h e = goes_is (StepsTo (literals ∷ s) (comma, p) rest) _ u (h, more2 a_literal literals literals s (comma, p) rest (literals_from p)) e
moves (literals ∷ s) x p rest u h e = let m = moves s x p rest u h.1 e in (m.0, λ r. skipped literals s ((x, p) ∷ rest) ([], tt, refl) (m.1 r))
moves (call ∷ s) (word w) p rest u h e = goes_is (StepsTo (call ∷ s) (word w, p) rest) _ u (h, more2 opening in_call call s (word w, p) rest (call_from w p)) e
moves (in_call ∷ s) close_bracket p rest u h e = goes_is (StepsTo (in_call ∷ s) (close_bracket, p) rest) _ u (h, more maybe_arguments in_call s (close_bracket, p) rest (λ a q. (q.0, q.1, q.2, q.3 p))) e
moves (in_call ∷ s) (word w) p rest u h e = goes_is (StepsTo (in_call ∷ s) (word w, p) rest) _ u ((tt, after_sound s h), more2 names closing in_call s (word w, p) rest (in_call_from w p)) e
moves (in_call ∷ s) x p rest u h e =
    goes_if_is (StepsTo (in_call ∷ s) (x, p) rest) (is_literal x) (literals ∷ closing ∷ opening ∷ in_names ∷ s) u (λ t. ((tt, after_sound s h), more4 literals closing opening in_names in_call s (x, p) rest (params_from x p t))) e
moves (maybe_arguments ∷ s) open_bracket p rest u h e =
    goes_is (StepsTo (maybe_arguments ∷ s) (open_bracket, p) rest) _ u (after_sound s h, more in_names maybe_arguments s (open_bracket, p) rest (λ a q. (params [], q.0, tt, λ at. (refl, tt, (refl, tt, q.1))))) e
moves (maybe_arguments ∷ s) x p rest u h e =
    let m = moves s x p rest u (after_sound s h) e in (m.0, λ r. skipped maybe_arguments s ((x, p) ∷ rest) (no_params, [], tt, λ at. (refl, tt, refl)) (m.1 r))
moves (in_names ∷ s) close_bracket p rest u h e = goes_is (StepsTo (in_names ∷ s) (close_bracket, p) rest) s u (h, one in_names s (close_bracket, p) rest ([], (refl, tt, refl))) e
moves (in_names ∷ s) (word w) p rest u h e = goes_is (StepsTo (in_names ∷ s) (word w, p) rest) _ u ((tt, h), more2 names closing in_names s (word w, p) rest (arguments_from w p)) e
moves (calls ∷ s) comma p rest u h e = goes_is (StepsTo (calls ∷ s) (comma, p) rest) _ u (ap (λ s. calls ∷ s) h, more2 call calls calls s (comma, p) rest (calls_from p)) e
moves (calls ∷ s) x p rest u h e = let m = moves s x p rest u (calls_sound s h) e in (m.0, λ r. skipped calls s ((x, p) ∷ rest) ([], tt, refl) (m.1 r))
moves (group ∷ s) (word w) p rest u h e =
    choose (StepsTo (group ∷ s) (word w, p) rest u) u (bytes_eq w (codes "GROUP")) _ _
    (λ t. goes_is (StepsTo (group ∷ s) (word w, p) rest) (keyword (codes "BY") ∷ a_name ∷ names ∷ s) u (names_sound s h, more3 (keyword (codes "BY")) a_name names group s (word w, p) rest (group_from w p (same_bytes w _ t))))
    (λ t e. let m = moves s (word w) p rest u (nothing s h) e in (m.0, λ r. skipped group s ((word w, p) ∷ rest) ([], refl) (m.1 r))) e
moves (group ∷ s) x p rest u h e = let m = moves s x p rest u (nothing s h) e in (m.0, λ r. skipped group s ((x, p) ∷ rest) ([], refl) (m.1 r))
moves (a_number ∷ s) (integer ds) p rest u h e = goes_is (StepsTo (a_number ∷ s) (integer ds, p) rest) s u (h, one a_number s (integer ds, p) rest (p, ds, (refl, refl, refl))) e
moves (a_count ∷ s) (integer ds) p rest u h e = goes_if_is (StepsTo (a_count ∷ s) (integer ds, p) rest) (not (has_minus ds)) s u (λ t. (h, one a_count s (integer ds, p) rest (ds, not_true _ t, (refl, tt, refl)))) e
moves (a_line ∷ s) (word w) p rest u h e = line_moves s w p rest u h e
moves s x p rest u h e = absurd cc

ended : (s : List Goal) (v : Unit {0}) → done s ≡ Some v → Left s []
ended [] v e = refl
ended (names ∷ s) v e = skipped names s [] ([], refl) (ended s v e)
ended (columns ∷ s) v e = skipped columns s [] ([], tt, refl) (ended s v e)
ended (literals ∷ s) v e = skipped literals s [] ([], tt, refl) (ended s v e)
ended (maybe_arguments ∷ s) v e = skipped maybe_arguments s [] (no_params, [], tt, λ p. (refl, tt, refl)) (ended s v e)
ended (calls ∷ s) v e = skipped calls s [] ([], tt, refl) (ended s v e)
ended (group ∷ s) v e = skipped group s [] ([], refl) (ended s v e)
ended (g ∷ s) v e = absurd cc

pub found : (s : List Goal) (t : List Letter) (v : Unit {0}) → Sound s → run move done s t ≡ Ok v → Left s t
found s [] v h e = ended s v (end_ok (done s) v e)
found s (l ∷ t) v h e =
    let p = letter_ok (λ s. run move done s t) (step s l.0) v e in
    let m = moves s l.0 l.1 t p.0 h p.1 in
    m.1 (found p.0 t v m.0 p.2)

pub kept : (s u : List Goal) (l : Letter) → Sound s → step s l.0 ≡ Some u → Sound u
kept s u l h e = (moves s l.0 l.1 [] u h e).0

pub table_found : (t : List Letter) → Left (keyword (codes "TABLE") ∷ a_name ∷ in_type AnyType ∷ columns ∷ []) t → (cs : List ColumnText) × tables.IsTable t cs
table_found t h =
    let n = h.second in
    let y = n.second in
    let q : Then (Of a_name) (Then (Of (in_type AnyType)) (Of columns)) h.rest = record { front = n.front; rest = n.rest; first = n.first; second = record { front = y.front; rest = y.rest; first = y.first; second = alone (Of columns) y.rest y.second; whole = y.whole }; whole = n.whole } in
    let c = some_columns h.rest q in
    (c.first ∷ c.further, (c.fits, put (sign (word (codes "TABLE")) ∷ []) (divided (map column_signs (c.first ∷ c.further))) t h.front h.rest h.whole h.first c.leads))

pub select_found : (t : List Letter) → Left select_goals t → (q : SelectText) × selects.IsSelect t q
select_found t h = let q = select_from t h in (q.text, (q.fits, q.leads))

pub line_found : (t : List Letter) → Left (a_line ∷ []) t → Of a_line t
line_found t h = alone (Of a_line) t h
