-- Lines that may stand in a place, and those that may not.
use Rattle.std.proofs.Common.{◌≡◌, refl, sym, ap, ◌∙◌, ℕ, zero, suc, ◌≤◌, Bool, true, false, cond, not, List, [], ◌∷◌, ◌++◌, length, take, codes, Some, None, Result, Ok, Err, arith}
use Rattle.first_fault.specs.FirstFault.{Begins, IsReading}
use Rattle.line_forms.specs.Answers.{IsLineAnswer}
use Rattle.line_forms.specs.Letters.{Letter, letters_of, place}
use Rattle.line_forms.specs.ScriptLines.{LineText, view, session, insert, load, read, states, keyword_of, IsScriptLine}
use Rattle.line_forms.specs.declared.fault.LineFault.{LineFault}
use Rattle.line_forms.specs.declared.script_line.WrittenLine.{WrittenLine}
use Rattle.line_tokens.specs.Tokens.{Token, word, integer, decimal, quoted, open_bracket, close_bracket, comma, bad}
use Rattle.script_text.specs.Forms.{IsFaultIn, IsFormIn, IsLineIn, is_misplaced, may_stand, misplaced, misplaced_at}

-- The keyword of a line tells whether the line may stand there.
pub keyword_tells : (started : Bool) (text : LineText) → may_stand started text ≡ not (is_misplaced started (keyword_of text))
keyword_tells true (view n q) = refl
keyword_tells true (session a n) = refl
keyword_tells true (insert c) = refl
keyword_tells true (load n c) = refl
keyword_tells true (read n) = refl
keyword_tells true (states n) = refl
keyword_tells false (view n q) = refl
keyword_tells false (session a n) = refl
keyword_tells false (insert c) = refl
keyword_tells false (load n c) = refl
keyword_tells false (read n) = refl
keyword_tells false (states n) = refl

-- A session may stand anywhere.
begins_somehow : (started : Bool) → Begins (IsLineIn started) []
begins_somehow started =
    ((word (codes "SESSION"), 0) ∷ (integer (49 ∷ []), 0) ∷ [], session 0 (49 ∷ []), (refl, (tt, (refl, tt, (refl, refl, refl)))))

-- ---- a keyword out of its place

record HasWord (started : Bool) (t : Token) (p at : ℕ) : Type 0 where
  pub name : List ℕ
  pub is : t ≡ word name
  pub wrong : is_misplaced started name ≡ true
  pub same : p ≡ at

chosen : (b : Bool) (p at : ℕ) → cond b (Some p) None ≡ Some at → (b ≡ true) × (p ≡ at)
chosen true p at e = (refl, cc)
chosen false p at e = absurd cc

not_chosen : (b : Bool) (p : ℕ) → cond b (Some p) None ≡ None → b ≡ false
not_chosen true p e = absurd cc
not_chosen false p e = refl

has_word : (started : Bool) (t : Token) (p at : ℕ) → misplaced_at started t p ≡ Some at → HasWord started t p at
has_word started (word w) p at e = let h = chosen (is_misplaced started w) p at e in record { name = w; is = refl; wrong = h.0; same = h.1 }
has_word started (integer d) p at e = absurd cc
has_word started (decimal d) p at e = absurd cc
has_word started (quoted d) p at e = absurd cc
has_word started open_bracket p at e = absurd cc
has_word started close_bracket p at e = absurd cc
has_word started comma p at e = absurd cc
has_word started bad p at e = absurd cc

same_word : (v w : List ℕ) → word v ≡ word w → v ≡ w
same_word v w e = cc

not_true : (b : Bool) → b ≡ not true → b ≡ true → ⊥
not_true b e h = cc

-- No line that may stand there begins with such a keyword.
none_begins : (started : Bool) (l : Letter) (tail : List Letter) (text : LineText) (at : ℕ) → HasWord started l.0 l.1 at → IsLineIn started (l ∷ tail) text → ⊥
none_begins started l tail text at w h =
    let k : w.name ≡ keyword_of text = same_word w.name (keyword_of text) (sym w.is ∙ h.1.1.0) in
    not_true (may_stand started text) (keyword_tells started text ∙ ap not (sym (ap (is_misplaced started) k) ∙ w.wrong)) h.0

none_longer : (started : Bool) (l : Letter) (letters : List Letter) (at n : ℕ) → HasWord started l.0 l.1 at → Begins (IsLineIn started) (take n (l ∷ letters)) → n ≤ 0
none_longer started l letters at zero w h = omega arith
none_longer started l letters at (suc n) w h = absurd (none_begins started l (take n letters ++ h.0) h.1 at w h.2)

first_wrong : (started : Bool) (letters : List Letter) (whole at : ℕ) → misplaced started letters ≡ Some at → IsReading (IsLineIn started) letters (Err 0) × (at ≡ place whole 0 letters)
first_wrong started [] whole at e = absurd cc
first_wrong started (l ∷ letters) whole at e =
    let w = has_word started l.0 l.1 at e in (
      (λ text h. none_begins started l letters text at w h, record { within = omega arith; begins = begins_somehow started; longest = λ n le h. none_longer started l letters at n w h }),
      sym w.same,
    )

pub wrong_place : (started : Bool) (line : List ℕ) (at : ℕ) → misplaced started (letters_of line) ≡ Some at → IsFaultIn started line at
wrong_place started line at e = let h = first_wrong started (letters_of line) (length line) at e in (0, h.0, h.1)

-- ---- a line that is in its place, if it is one

stands : (started : Bool) (l : Letter) (text : LineText) → misplaced_at started l.0 l.1 ≡ None → l.0 ≡ word (keyword_of text) → may_stand started text ≡ true
stands started l text e k =
    keyword_tells started text ∙ ap not (not_chosen (is_misplaced started (keyword_of text)) l.1 (sym (ap (λ t. misplaced_at started t l.1) k) ∙ e))

line_stands : (started : Bool) (letters : List Letter) (text : LineText) → misplaced started letters ≡ None → IsScriptLine letters text → IsLineIn started letters text
line_stands started [] text e h = absurd h.1
line_stands started (l ∷ letters) text e h = (stands started l text e h.1.0, h)

still_begins : (started : Bool) (letters : List Letter) (n : ℕ) → misplaced started letters ≡ None → Begins IsScriptLine (take n letters) → Begins (IsLineIn started) (take n letters)
still_begins started letters zero e h = begins_somehow started
still_begins started [] (suc n) e h = begins_somehow started
still_begins started (l ∷ letters) (suc n) e h = (h.0, h.1, (stands started l h.1 e h.2.1.0, h.2))

weaker : (started : Bool) (front : List Letter) → Begins (IsLineIn started) front → Begins IsScriptLine front
weaker started front h = (h.0, h.1, h.2.1)

pub in_place : (started : Bool) (line : List ℕ) (r : Result WrittenLine LineFault) → misplaced started (letters_of line) ≡ None → IsLineAnswer line r → IsFormIn started line r
in_place started line (Ok form) e h = (h.0, line_stands started (letters_of line) h.0 e h.1, h.2)
in_place started line (Err (LineFault.Syntax at)) e h = (
  h.0,
  (
    λ text k. h.1.0 text k.1,
    record {
      within = h.1.1.within;
      begins = still_begins started (letters_of line) h.0 e h.1.1.begins;
      longest = λ n le k. h.1.1.longest n le (weaker started (take n (letters_of line)) k);
    },
  ),
  h.2,
)
in_place started line (Err LineFault.OutOfMemory) e h = tt
