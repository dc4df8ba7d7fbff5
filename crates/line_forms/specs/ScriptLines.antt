-- The lines of a script behind its table, apart from lines of rows: a view, the head of a session, or a statement.
use Rattle.std.specs.Prelude.{◌≡◌, ℕ, ℤ, List, [], ◌∷◌, codes, Some, false}
use Rattle.std.specs.Str.Parse.{digits_value}
use Rattle.line_tokens.specs.Tokens.{word, integer}
use Rattle.type_shapes.specs.Literals.{has_minus, integer_value}
use Rattle.line_forms.specs.Letters.{Letter, Sign, sign, Name, name_sign, Leads}
use Rattle.line_forms.specs.Selects.{SelectText, select_signs, HasCalls, Select, IsSelectOf}

-- a line as its tokens spell it
pub data LineText : Type 0 where
  view : Name → SelectText → LineText
  -- the place of the number, and the number as it is written
  session : ℕ → List ℕ → LineText
  insert : List ℕ → LineText
  load : Name → List ℕ → LineText
  read : Name → LineText
  states : Name → LineText

abbrev pub keyword_of : LineText → List ℕ
keyword_of (view name q) = codes "VIEW"
keyword_of (session at number) = codes "SESSION"
keyword_of (insert count) = codes "INSERT"
keyword_of (load name count) = codes "LOAD"
keyword_of (read name) = codes "READ"
keyword_of (states name) = codes "STATES"

abbrev pub behind_keyword : LineText → List Sign
behind_keyword (view name q) = name_sign name ∷ select_signs q
behind_keyword (session at number) = (integer number, Some at) ∷ []
behind_keyword (insert count) = sign (integer count) ∷ []
behind_keyword (load name count) = name_sign name ∷ sign (integer count) ∷ []
behind_keyword (read name) = name_sign name ∷ []
behind_keyword (states name) = name_sign name ∷ []

abbrev pub line_signs : LineText → List Sign
line_signs text = sign (word (keyword_of text)) ∷ behind_keyword text

-- a count has no minus
abbrev pub LineFits : LineText → Type 0
LineFits (view name q) = HasCalls q.calls
LineFits (insert count) = has_minus count ≡ false
LineFits (load name count) = has_minus count ≡ false
LineFits text = Unit {0}

-- The letters are those of this line.
abbrev pub IsScriptLine : List Letter → LineText → Type 0
IsScriptLine letters text = LineFits text × Leads (line_signs text) letters []

-- A line: what follows its keyword, with numbers by their values.
pub data Line : Type 0 where
  View : Name → Select → Line
  Session : ℕ → ℤ → Line
  Insert : ℕ → Line
  Load : Name → ℕ → Line
  Read : Name → Line
  States : Name → Line

-- What the line stands for.
abbrev pub IsLineOf : LineText → Line → Type 0
IsLineOf (view name q) (View n w) = (n ≡ name) × IsSelectOf q w
IsLineOf (session place digits) (Session at number) = (at ≡ place) × (number ≡ integer_value digits)
IsLineOf (insert digits) (Insert count) = count ≡ digits_value 10 digits
IsLineOf (load name digits) (Load n count) = (n ≡ name) × (count ≡ digits_value 10 digits)
IsLineOf (read name) (Read n) = n ≡ name
IsLineOf (states name) (States n) = n ≡ name
IsLineOf text line = ⊥
