-- Where a line stops at the letter that comes first.
use Rattle.std.proofs.Common.{◌≡◌, ℕ, List, [], ◌∷◌, ◌++◌, Some, None, false, refl, sym, ap, subst, ◌∙◌}
use Rattle.std.specs.Str.{bytes_eq}
use Rattle.line_tokens.specs.Tokens.{Token, word, open_bracket, close_bracket, comma}
use Rattle.line_forms.specs.Letters.{Letter, place}
use Rattle.line_forms.specs.declared.fault.LineFault.{LineFault}
use Rattle.line_forms.specs.declared.fault.LineFault.TheVariants.{Syntax}
use Rattle.type_shapes.specs.declared.mark.Mark.{Mark}
use Rattle.type_shapes.specs.declared.mark.Mark.TheVariants.{Opening, Closing}
use Rattle.type_shapes.specs.Reading.{mark_token}
use Rattle.request_lines.specs.declared.rest.Rest.{Rest}
use Rattle.request_lines.specs.proving.Letters.{letters_left}
use Rattle.request_lines.specs.proving.Reads.{IsFault}
use Rattle.request_lines.specs.proving.Judging.{Goal, keyword, a_name, names, columns, opening, closing, literals, call, calls, some_if, step, done, at_end, at_step, stop}

-- the goals want something that doesn't come first
abbrev pub Refuses : List Goal → List Letter → Type 0
Refuses s [] = done s ≡ None
Refuses s (l ∷ letters) = step s l.0 ≡ None

pub stops_first : (whole : ℕ) (s : List Goal) (letters : List Letter) → Refuses s letters → stop whole s letters ≡ Some (place whole 0 letters)
stops_first whole s [] h = ap (at_end whole) h
stops_first whole s (l ∷ letters) h = ap (at_step (λ v. stop whole v letters) l.1) h

-- a letter that goes on
pub steps : (whole : ℕ) (s u : List Goal) (t : Token) (at : ℕ) (all letters : List Letter) → all ≡ (t, at) ∷ letters → step s t ≡ Some u → stop whole s all ≡ stop whole u letters
steps whole s u t at all letters e h = ap (stop whole s) e ∙ ap (at_step (λ v. stop whole v letters) at) h

-- no word comes first
abbrev pub HasNoWord : List Letter → Type 0
HasNoWord letters = (w : List ℕ) (at : ℕ) (more : List Letter) → letters ≡ (word w, at) ∷ more → ⊥

pub no_word : (s : List Goal) (letters : List Letter) → done s ≡ None → ((t : Token) → ((w : List ℕ) → t ≡ word w → ⊥) → step s t ≡ None) → HasNoWord letters → Refuses s letters
no_word s [] ends others h = ends
no_word s (l ∷ letters) ends others h = others l.0 (λ w e. h w l.1 letters (ap (λ t. (let x : Letter = (t, l.1) in x) ∷ letters) e))

-- ---- what stops, by what comes first

pub faults : (goals : List Goal) (rest : Rest) (fault : LineFault) → fault ≡ Syntax (place rest.whole 0 (letters_left rest)) → ((s : List Goal) → Refuses (goals ++ s) (letters_left rest)) → IsFault goals rest fault
faults goals rest fault e h = subst (IsFault goals rest) (sym e) (λ s. stops_first rest.whole (goals ++ s) (letters_left rest) (h s))

name_others : (s : List Goal) (t : Token) → ((w : List ℕ) → t ≡ word w → ⊥) → step (a_name ∷ s) t ≡ None
name_others s (word w) h = absurd (h w refl)
name_others s t h = refl

pub name_fails : (rest : Rest) (fault : LineFault) → fault ≡ Syntax (place rest.whole 0 (letters_left rest)) → HasNoWord (letters_left rest) → IsFault (a_name ∷ []) rest fault
name_fails rest fault e h = faults (a_name ∷ []) rest fault e (λ s. no_word (a_name ∷ s) (letters_left rest) refl (name_others s) h)

keyword_others : (k : List ℕ) (s : List Goal) (t : Token) → ((w : List ℕ) → t ≡ word w → ⊥) → step (keyword k ∷ s) t ≡ None
keyword_others k s (word w) h = absurd (h w refl)
keyword_others k s t h = refl

pub keyword_fails : (k : List ℕ) (rest : Rest) (fault : LineFault) → fault ≡ Syntax (place rest.whole 0 (letters_left rest)) → HasNoWord (letters_left rest) → IsFault (keyword k ∷ []) rest fault
keyword_fails k rest fault e h = faults (keyword k ∷ []) rest fault e (λ s. no_word (keyword k ∷ s) (letters_left rest) refl (keyword_others k s) h)

pub keyword_other : (k w : List ℕ) (at : ℕ) (more : List Letter) (rest : Rest) (fault : LineFault) → fault ≡ Syntax (place rest.whole 0 (letters_left rest)) → letters_left rest ≡ (word w, at) ∷ more → bytes_eq w k ≡ false → IsFault (keyword k ∷ []) rest fault
keyword_other k w at more rest fault e first other = faults (keyword k ∷ []) rest fault e (λ s. subst (Refuses (keyword k ∷ s)) (sym first) (ap (λ t. some_if t s) other))

call_others : (s : List Goal) (t : Token) → ((w : List ℕ) → t ≡ word w → ⊥) → step (call ∷ s) t ≡ None
call_others s (word w) h = absurd (h w refl)
call_others s t h = refl

pub call_fails : (rest : Rest) (fault : LineFault) → fault ≡ Syntax (place rest.whole 0 (letters_left rest)) → HasNoWord (letters_left rest) → IsFault (call ∷ []) rest fault
call_fails rest fault e h = faults (call ∷ []) rest fault e (λ s. no_word (call ∷ s) (letters_left rest) refl (call_others s) h)

-- a goal that may be left out, where its mark doesn't come first
abbrev pub HasNoMark : Mark → List Letter → Type 0
HasNoMark mark letters = (at : ℕ) (more : List Letter) → letters ≡ (mark_token mark, at) ∷ more → ⊥

no_mark : (mark : Mark) (s : List Goal) (letters : List Letter) → done s ≡ None → ((t : Token) → (t ≡ mark_token mark → ⊥) → step s t ≡ None) → HasNoMark mark letters → Refuses s letters
no_mark mark s [] ends others h = ends
no_mark mark s (l ∷ letters) ends others h = others l.0 (λ e. h l.1 letters (ap (λ t. (let x : Letter = (t, l.1) in x) ∷ letters) e))

opening_others : (s : List Goal) (t : Token) → (t ≡ open_bracket → ⊥) → step (opening ∷ s) t ≡ None
opening_others s open_bracket h = absurd (h refl)
opening_others s t h = refl

closing_others : (s : List Goal) (t : Token) → (t ≡ close_bracket → ⊥) → step (closing ∷ s) t ≡ None
closing_others s close_bracket h = absurd (h refl)
closing_others s t h = refl

pub opening_fails : (rest : Rest) (fault : LineFault) → fault ≡ Syntax (place rest.whole 0 (letters_left rest)) → HasNoMark Opening (letters_left rest) → IsFault (opening ∷ []) rest fault
opening_fails rest fault e h = faults (opening ∷ []) rest fault e (λ s. no_mark Opening (opening ∷ s) (letters_left rest) refl (opening_others s) h)

pub closing_fails : (rest : Rest) (fault : LineFault) → fault ≡ Syntax (place rest.whole 0 (letters_left rest)) → HasNoMark Closing (letters_left rest) → IsFault (closing ∷ []) rest fault
closing_fails rest fault e h = faults (closing ∷ []) rest fault e (λ s. no_mark Closing (closing ∷ s) (letters_left rest) refl (closing_others s) h)

pub left_out : (whole : ℕ) (g : Goal) (mark : Mark) (s : List Goal) (letters : List Letter) → done (g ∷ s) ≡ done s → ((t : Token) → (t ≡ mark_token mark → ⊥) → step (g ∷ s) t ≡ step s t) → HasNoMark mark letters → stop whole (g ∷ s) letters ≡ stop whole s letters
left_out whole g mark s [] ends others h = ap (at_end whole) ends
left_out whole g mark s (l ∷ letters) ends others h = ap (at_step (λ v. stop whole v letters) l.1) (others l.0 (λ e. h l.1 letters (ap (λ t. (let x : Letter = (t, l.1) in x) ∷ letters) e)))

-- two lists of goals that take the first letter alike
pub alike : (whole : ℕ) (s u : List Goal) (letters : List Letter) → done s ≡ done u → ((t : Token) (at : ℕ) (more : List Letter) → letters ≡ (t, at) ∷ more → step s t ≡ step u t) → stop whole s letters ≡ stop whole u letters
alike whole s u [] ends h = ap (at_end whole) ends
alike whole s u (l ∷ letters) ends h = ap (at_step (λ v. stop whole v letters) l.1) (h l.0 l.1 letters refl)

pub no_columns : (s : List Goal) (t : Token) → (t ≡ comma → ⊥) → step (columns ∷ s) t ≡ step s t
no_columns s comma h = absurd (h refl)
no_columns s t h = refl

pub no_calls : (s : List Goal) (t : Token) → (t ≡ comma → ⊥) → step (calls ∷ s) t ≡ step s t
no_calls s comma h = absurd (h refl)
no_calls s t h = refl

pub no_names : (s : List Goal) (t : Token) → (t ≡ comma → ⊥) → step (names ∷ s) t ≡ step s t
no_names s comma h = absurd (h refl)
no_names s t h = refl

pub no_literals : (s : List Goal) (t : Token) → (t ≡ comma → ⊥) → step (literals ∷ s) t ≡ step s t
no_literals s comma h = absurd (h refl)
no_literals s t h = refl
