-- Lines of scripts, read.
use Rattle.std.proofs.Common.{◌≡◌, ℕ, List, [], ◌∷◌, codes, Some, None, true, false, Result, Ok, Err, refl, sym, ap, subst, ◌∙◌}
use Rattle.std.specs.Prelude.{ℤ}
use Rattle.line_tokens.specs.Tokens.{Token, word, integer}
use Rattle.type_shapes.specs.Literals.{has_minus, integer_value}
use Rattle.line_forms.specs.Letters.{Letter, sign, name_part, Leads, place}
use Rattle.line_forms.specs.Selects.{select_signs}
use Rattle.line_forms.specs.ScriptLines.{view, session, insert, load, read, states, line_signs}
use Rattle.line_forms.specs.declared.name.WrittenName.{WrittenName}
use Rattle.line_forms.specs.declared.select.WrittenSelect.{WrittenSelect}
use Rattle.line_forms.specs.declared.script_line.WrittenLine.{WrittenLine}
use Rattle.line_forms.specs.declared.script_line.WrittenLine.TheVariants as code
use Rattle.line_forms.specs.declared.fault.LineFault.{LineFault}
use Rattle.line_forms.specs.declared.fault.LineFault.TheVariants.{Syntax, OutOfMemory}
use Rattle.request_lines.specs.proving.Judging.{Goal, a_number, a_count, a_line, line_kind, line_goals, step, done, stop}
use Rattle.request_lines.specs.declared.script.LineKind.{LineKind}
use Rattle.request_lines.specs.declared.script.LineKind.TheVariants.{Other}
use Rattle.request_lines.specs.declared.rest.Rest.{Rest}
use Rattle.request_lines.specs.proving.Letters.{letters_left}
use Rattle.request_lines.specs.proving.Reads.{IsFault, EndsAt, ReadsAll, IsName, IsCount, IsRequest, IsBehindKeyword, IsLineRead}
use Rattle.request_lines.proofs.Leading.{leads_on}
use Rattle.request_lines.proofs.LineKinds.{IsKind, is_kind}
use Rattle.request_lines.proofs.Steps.{Refuses, HasNoWord, stops_first, faults, no_word}

-- ---- what comes first

ends_first : (goals : List Goal) (rest : Rest) (fault : LineFault) → fault ≡ Syntax (place rest.whole 0 (letters_left rest)) → Refuses goals (letters_left rest) → EndsAt goals rest fault
ends_first goals rest fault e h = subst (EndsAt goals rest) (sym e) (stops_first rest.whole goals (letters_left rest) h)

-- ---- numbers

abbrev pub HasNoInteger : List Letter → Type 0
HasNoInteger letters = (ds : List ℕ) (at : ℕ) (more : List Letter) → letters ≡ (integer ds, at) ∷ more → ⊥

no_integer : (s : List Goal) (letters : List Letter) → done s ≡ None → ((t : Token) → ((ds : List ℕ) → t ≡ integer ds → ⊥) → step s t ≡ None) → HasNoInteger letters → Refuses s letters
no_integer s [] ends others h = ends
no_integer s (l ∷ letters) ends others h = others l.0 (λ ds e. h ds l.1 letters (ap (λ t. (let x : Letter = (t, l.1) in x) ∷ letters) e))

number_others : (s : List Goal) (t : Token) → ((ds : List ℕ) → t ≡ integer ds → ⊥) → step (a_number ∷ s) t ≡ None
number_others s (integer ds) h = absurd (h ds refl)
number_others s t h = refl

count_others : (s : List Goal) (t : Token) → ((ds : List ℕ) → t ≡ integer ds → ⊥) → step (a_count ∷ s) t ≡ None
count_others s (integer ds) h = absurd (h ds refl)
count_others s t h = refl

pub number_ends : (rest : Rest) (fault : LineFault) → fault ≡ Syntax (place rest.whole 0 (letters_left rest)) → HasNoInteger (letters_left rest) → EndsAt (a_number ∷ []) rest fault
number_ends rest fault e h = ends_first (a_number ∷ []) rest fault e (no_integer (a_number ∷ []) (letters_left rest) refl (number_others []) h)

pub count_fails : (rest : Rest) (fault : LineFault) → fault ≡ Syntax (place rest.whole 0 (letters_left rest)) → HasNoInteger (letters_left rest) → IsFault (a_count ∷ []) rest fault
count_fails rest fault e h = faults (a_count ∷ []) rest fault e (λ s. no_integer (a_count ∷ s) (letters_left rest) refl (count_others s) h)

pub minus_fails : (rest : Rest) (fault : LineFault) (ds : List ℕ) (at : ℕ) (more : List Letter) → fault ≡ Syntax (place rest.whole 0 (letters_left rest)) → letters_left rest ≡ (integer ds, at) ∷ more → has_minus ds ≡ true → IsFault (a_count ∷ []) rest fault
minus_fails rest fault ds at more e first minus = faults (a_count ∷ []) rest fault e (λ s. subst (Refuses (a_count ∷ s)) (sym first) (minus_step s ds minus))
  where
    minus_step : (s : List Goal) (ds : List ℕ) → has_minus ds ≡ true → step (a_count ∷ s) (integer ds) ≡ None
    minus_step s ds m = rw m refl

pub count_passes : (rest behind : Rest) (ds : List ℕ) (at : ℕ) (s : List Goal) → letters_left rest ≡ (integer ds, at) ∷ letters_left behind → has_minus ds ≡ false → stop rest.whole (a_count ∷ s) (letters_left rest) ≡ stop rest.whole s (letters_left behind)
count_passes rest behind ds at s first none = ap (stop rest.whole (a_count ∷ s)) first ∙ plain_step
  where
    plain_step : stop rest.whole (a_count ∷ s) ((integer ds, at) ∷ letters_left behind) ≡ stop rest.whole s (letters_left behind)
    plain_step = rw none refl

-- ---- by the first word

pub line_told : (k : LineKind) (key : List ℕ) (goals : List Goal) (w : List ℕ) (at : ℕ) (rest behind : Rest) (r : Result WrittenLine LineFault) → line_kind w ≡ k → w ≡ key → line_goals k [] ≡ Some goals
    → letters_left rest ≡ (word w, at) ∷ letters_left behind → behind.whole ≡ rest.whole → ReadsAll goals (IsBehindKeyword key) behind r → ReadsAll (a_line ∷ []) IsLineRead rest r
line_told k key goals w at rest behind (Ok form) kind is goes first whole h = (
  h.0,
  (h.2, subst (λ x. Leads (line_signs h.0) x []) (sym first) (ap word (is ∙ sym h.1), tt, h.4)),
  h.3,
)
line_told k key goals w at rest behind (Err (Syntax place)) kind is goes first whole h =
    ap (stop rest.whole (a_line ∷ [])) first
    ∙ ap (λ o. Rattle.request_lines.specs.proving.Judging.at_step (λ v. stop rest.whole v (letters_left behind)) at o) (ap (λ x. line_goals x []) kind ∙ goes)
    ∙ ap (λ n. stop n goals (letters_left behind)) (sym whole) ∙ h
line_told k key goals w at rest behind (Err OutOfMemory) kind is goes first whole h = tt

pub word_is : (w : List ℕ) (k : LineKind) → line_kind w ≡ k → IsKind k w
word_is w k e = subst (λ x. IsKind x w) e (is_kind w)

line_others : (t : Token) → ((w : List ℕ) → t ≡ word w → ⊥) → step (a_line ∷ []) t ≡ None
line_others (word w) h = absurd (h w refl)
line_others t h = refl

pub line_fails : (rest : Rest) (fault : LineFault) → fault ≡ Syntax (place rest.whole 0 (letters_left rest)) → HasNoWord (letters_left rest) → EndsAt (a_line ∷ []) rest fault
line_fails rest fault e h = ends_first (a_line ∷ []) rest fault e (no_word (a_line ∷ []) (letters_left rest) refl line_others h)

pub other_fails : (rest : Rest) (fault : LineFault) (w : List ℕ) (at : ℕ) (more : List Letter) → fault ≡ Syntax (place rest.whole 0 (letters_left rest)) → letters_left rest ≡ (word w, at) ∷ more → line_kind w ≡ Other → EndsAt (a_line ∷ []) rest fault
other_fails rest fault w at more e first kind = ends_first (a_line ∷ []) rest fault e (subst (Refuses (a_line ∷ [])) (sym first) (ap (λ k. line_goals k []) kind))

-- ---- each line

pub view_read : (rest behind left : Rest) (name : WrittenName) (q : WrittenSelect) → IsName name (letters_left rest) (letters_left behind) → IsRequest q (letters_left behind) (letters_left left) → letters_left left ≡ [] → IsBehindKeyword (codes "VIEW") (code.View name q) (letters_left rest)
view_read rest behind left name q h k none = (
  view h.0 k.0,
  refl,
  k.1,
  (h.2, k.2),
  leads_on (name_part h.0) (select_signs k.0) (letters_left rest) (letters_left behind) [] h.3 (subst (λ x. Leads (select_signs k.0) (letters_left behind) x) none k.3),
)

pub session_read : (rest left : Rest) (ds : List ℕ) (at : ℕ) (value : ℤ) → letters_left rest ≡ (integer ds, at) ∷ letters_left left → value ≡ integer_value ds → letters_left left ≡ [] → IsBehindKeyword (codes "SESSION") (code.Session at value) (letters_left rest)
session_read rest left ds at value first is none = (session at ds, refl, tt, (refl, is), subst (λ x. Leads ((integer ds, Some at) ∷ []) x []) (sym first) (refl, refl, none))

pub insert_read : (rest left : Rest) (count : ℕ) → IsCount count (letters_left rest) (letters_left left) → letters_left left ≡ [] → IsBehindKeyword (codes "INSERT") (code.Insert count) (letters_left rest)
insert_read rest left count h none = (insert h.0, refl, h.1, h.2, subst (λ x. Leads (sign (integer h.0) ∷ []) (letters_left rest) x) none h.3)

pub load_read : (rest behind left : Rest) (name : WrittenName) (count : ℕ) → IsName name (letters_left rest) (letters_left behind) → IsCount count (letters_left behind) (letters_left left) → letters_left left ≡ [] → IsBehindKeyword (codes "LOAD") (code.Load name count) (letters_left rest)
load_read rest behind left name count h k none = (
  load h.0 k.0,
  refl,
  k.1,
  (h.2, k.2),
  leads_on (name_part h.0) (sign (integer k.0) ∷ []) (letters_left rest) (letters_left behind) [] h.3 (subst (λ x. Leads (sign (integer k.0) ∷ []) (letters_left behind) x) none k.3),
)

pub read_read : (rest left : Rest) (name : WrittenName) → IsName name (letters_left rest) (letters_left left) → letters_left left ≡ [] → IsBehindKeyword (codes "READ") (code.Read name) (letters_left rest)
read_read rest left name h none = (read h.0, refl, tt, h.2, subst (λ x. Leads (name_part h.0) (letters_left rest) x) none h.3)

pub states_read : (rest left : Rest) (name : WrittenName) → IsName name (letters_left rest) (letters_left left) → letters_left left ≡ [] → IsBehindKeyword (codes "STATES") (code.States name) (letters_left rest)
states_read rest left name h none = (states h.0, refl, tt, h.2, subst (λ x. Leads (name_part h.0) (letters_left rest) x) none h.3)
