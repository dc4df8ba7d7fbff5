-- How the texts of numbers, strings, arrays and maps look (manual: "TabSeparated"; spaces between tokens, and what a
-- text in quotes may hold, are this project's own choice). Spaces may stand before and behind each token.
use Rattle.std.specs.Prelude.{◌≡◌, ℕ, suc, zero, ◌≤◌, List, [], ◌∷◌, codes, true, ◌⊎◌}
use Rattle.agg_terms.specs.Chains.{Ty, Whole, Signed, Str, Arr, MapTy, Nullable, StateOf}
use Rattle.first_fault.specs.Grammar.{Then}
use Rattle.tsv_text.specs.Escapes.{Piece, plain, letter, hexed, pieces_then, is_hex_digit}

-- A type, as far as its texts go: numbers of any width are alike, and so are strings and states.
pub data FieldForm : Type 0 where
  number : FieldForm
  string : FieldForm
  nullable : FieldForm → FieldForm
  array : FieldForm → FieldForm
  map_of : FieldForm → FieldForm → FieldForm

-- How the texts of a type look.
abbrev pub form_of : Ty → FieldForm
form_of (Whole n) = number
form_of (Signed w) = number
form_of Str = string
form_of (StateOf c ts) = string
form_of (Nullable t) = nullable (form_of t)
form_of (Arr t) = array (form_of t)
form_of (MapTy k t) = map_of (form_of k) (form_of t)

abbrev pub IsSpaces : List ℕ → Type 0
IsSpaces [] = Unit {0}
IsSpaces (b ∷ text) = (b ≡ 32) × IsSpaces text

-- This byte, behind spaces.
abbrev pub Token : ℕ → List ℕ → Type 0
Token b = Then IsSpaces (λ t. t ≡ b ∷ [])

abbrev pub IsDigit : ℕ → Type 0
IsDigit b = (48 ≤ b) × (b ≤ 57)

abbrev pub AreDigits : List ℕ → Type 0
AreDigits [] = Unit {0}
AreDigits (b ∷ text) = IsDigit b × AreDigits text

-- One digit or more.
abbrev pub IsDigits : List ℕ → Type 0
IsDigits [] = ⊥
IsDigits (b ∷ text) = IsDigit b × AreDigits text

-- A number: `+` or `-` or no sign, and digits. Leading zeros may stand.
abbrev pub IsNumber : List ℕ → Type 0
IsNumber [] = ⊥
IsNumber (b ∷ text) = (IsDigit b × AreDigits text) ⊎ (((b ≡ 43) ⊎ (b ≡ 45)) × IsDigits text)

-- What may stand in quotes: the pieces of a field, but that a quote doesn't stand for itself.
abbrev pub FitsInQuotes : Piece → Type 0
FitsInQuotes (plain b) = (b ≡ 39 → ⊥) × (b ≡ 92 → ⊥)
FitsInQuotes (letter c) = c ≡ 120 → ⊥
FitsInQuotes (hexed high low) = (is_hex_digit high ≡ true) × (is_hex_digit low ≡ true)

abbrev pub AllFitInQuotes : List Piece → Type 0
AllFitInQuotes [] = Unit {0}
AllFitInQuotes (p ∷ ps) = FitsInQuotes p × AllFitInQuotes ps

-- Pieces, and the closing quote.
abbrev pub closed_text : List Piece → List ℕ
closed_text ps = pieces_then ps (39 ∷ [])

-- Behind the opening quote.
abbrev pub InQuotes : List ℕ → Type 0
InQuotes t = (ps : List Piece) × AllFitInQuotes ps × (t ≡ closed_text ps)

abbrev pub IsQuoted : List ℕ → Type 0
IsQuoted [] = ⊥
IsQuoted (b ∷ t) = (b ≡ 39) × InQuotes t

-- So many more, each behind a comma, and then the closing byte.
abbrev pub MoreOf : (List ℕ → Type 0) → ℕ → ℕ → List ℕ → Type 0
MoreOf L close zero = Token close
MoreOf L close (suc n) = Then (Token 44) (Then L (MoreOf L close n))

abbrev pub Closing : (List ℕ → Type 0) → ℕ → List ℕ → Type 0
Closing L close t = (n : ℕ) × MoreOf L close n t

-- Behind the opening byte: the closing byte, or one and so many more.
abbrev pub Opened : (List ℕ → Type 0) → ℕ → List ℕ → Type 0
Opened L close t = Token close t ⊎ Then L (Closing L close) t

-- The texts of a shape: a number; a text in quotes; `NULL` where it may be; `[`, elements divided by `,`, `]`; `{`, entries
-- `key:value` divided by `,`, `}`.
abbrev pub SyntaxOf : FieldForm → List ℕ → Type 0
SyntaxOf number t = Then IsSpaces IsNumber t
SyntaxOf string t = Then IsSpaces IsQuoted t
SyntaxOf (nullable s) t = SyntaxOf s t ⊎ Then IsSpaces (λ t. t ≡ codes "NULL") t
SyntaxOf (array s) t = Then (Token 91) (Opened (SyntaxOf s) 93) t
SyntaxOf (map_of key s) t = Then (Token 123) (Opened (Then (SyntaxOf key) (Then (Token 58) (SyntaxOf s))) 125) t

-- A whole field, with spaces behind it.
abbrev pub IsField : FieldForm → List ℕ → Unit {0} → Type 0
IsField s t _ = Then (SyntaxOf s) IsSpaces t
