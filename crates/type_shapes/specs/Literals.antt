-- What a literal in the text of a type stands for (manual: "Parametric aggregate functions").
use Rattle.std.specs.Prelude.{◌≡◌, ◌==◌, ◌<◌, ◌≤◌, ◌^◌, if◌then◌else◌, ℕ, ℤ, pos, neg_ℤ, Bool, false, List, [], ◌∷◌, ◌++◌, length, drop, Ok}
use Rattle.std.specs.List.{before_first, after_first, position_or_len}
use Rattle.std.specs.Str.Parse.{digits_value}
use Rattle.agg_typing.specs.Literals.{Literal, Int, Decimal, Text}
use Rattle.line_tokens.specs.Tokens.{Token, integer, decimal, quoted}
use Rattle.tsv_text.specs.Escapes.{IsUnescaped}

abbrev pub is_point : ℕ → Bool
is_point b = b == 46

-- the digits of a decimal, without its point
abbrev pub digits_in : List ℕ → List ℕ
digits_in text = before_first is_point text ++ after_first is_point text

abbrev pub has_minus : List ℕ → Bool
has_minus [] = false
has_minus (b ∷ bs) = b == 45

-- the digits of an integer, without its minus
abbrev pub without_minus : List ℕ → List ℕ
without_minus text = if has_minus text then drop 1 text else text

abbrev pub integer_value : List ℕ → ℤ
integer_value text = if has_minus text then neg_ℤ (pos (digits_value 10 (drop 1 text))) else pos (digits_value 10 text)

-- An integer stands for its number, a decimal for the number of its digits and how many of them stand behind the point,
-- a text in quotes for its bytes, with the escapes undone.
abbrev pub IsLiteral : Token → Literal → Type 0
IsLiteral (integer text) (Int n) = n ≡ integer_value text
IsLiteral (decimal text) (Decimal units places) = (units ≡ digits_value 10 (digits_in text)) × (places ≡ length (after_first is_point text))
IsLiteral (quoted inside) (Text bytes) = IsUnescaped inside (Ok bytes)
IsLiteral token literal = ⊥

-- The tokens stand for these literals, each for its own.
abbrev pub AreRead : List Token → List Literal → Type 0
AreRead [] [] = Unit {0}
AreRead (t ∷ tokens) (l ∷ literals) = IsLiteral t l × AreRead tokens literals
AreRead tokens literals = ⊥

-- What the tokens of a text keep to, so that each literal among them stands for something.

-- an integer's number is below 2^127
abbrev pub IsSmallInteger : List ℕ → Type 0
IsSmallInteger text = digits_value 10 (without_minus text) < 2 ^ 127

-- a decimal has a point, and its digits, of which there are at most 18, write a number below 2^64
pub record IsSmallDecimal (text : List ℕ) : Type 0 where
  pub value : digits_value 10 (digits_in text) < 2 ^ 64
  pub places : length (after_first is_point text) ≤ 18
  pub point : position_or_len is_point text < length text

abbrev pub HasValue : Token → Type 0
HasValue (integer text) = IsSmallInteger text
HasValue (decimal text) = IsSmallDecimal text
HasValue (quoted inside) = (bytes : List ℕ) × IsUnescaped inside (Ok bytes)
HasValue token = Unit {0}
