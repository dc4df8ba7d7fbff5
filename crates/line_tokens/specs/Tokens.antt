-- The tokens of a line: names, numbers, quoted texts, brackets and commas, with spaces between them.
use Rattle.std.specs.Prelude.{ℕ, suc, zero, ◌+◌, ◌-◌, ◌^◌, List, [], ◌∷◌, length, drop, take, Option, Some, None, Bool, false, not, nat_le, nat_lt, ◌==◌, ◌||◌, if◌then◌else◌}
use Rattle.std.specs.List.{prefix_len}
use Rattle.std.specs.Char.{is_ascii_alphabetic, is_ascii_digit}
use Rattle.std.specs.Str.Parse.{digits_value}
use Rattle.tsv_text.specs.Escapes.{is_hex_digit}
use Rattle.line_tokens.specs.declared.quote.Within.{Within}
use Rattle.line_tokens.specs.declared.quote.Within.TheVariants.{Plain, Backslash, Hex, HalfHex}
use Rattle.line_tokens.specs.declared.quote.Next.{Next}
use Rattle.line_tokens.specs.declared.quote.Next.TheVariants.{Closed, Broken, Goes}

pub data Token : Type 0 where
  word : List ℕ → Token
  -- digits, and a minus before them where it stands there
  integer : List ℕ → Token
  -- digits, a point, digits
  decimal : List ℕ → Token
  -- what stands between the quotes, with its escapes
  quoted : List ℕ → Token
  open_bracket : Token
  close_bracket : Token
  comma : Token
  -- a byte that begins no token
  bad : Token

-- A letter or `_` begins a name, and digits may follow.
abbrev pub begins_name : ℕ → Bool
begins_name b = is_ascii_alphabetic b || b == 95

abbrev pub continues_name : ℕ → Bool
continues_name b = is_ascii_alphabetic b || is_ascii_digit b || b == 95

-- Behind an opening quote: what the next byte does. A backslash begins an escape, and `\x` wants two hexadecimal digits.
abbrev pub next_in_quotes : Within → ℕ → Next
next_in_quotes Plain b = if b == 39 then Closed else (if b == 92 then Goes Backslash else Goes Plain)
next_in_quotes Backslash b = if b == 120 then Goes Hex else Goes Plain
next_in_quotes Hex b = if is_hex_digit b then Goes HalfHex else Broken
next_in_quotes HalfHex b = if is_hex_digit b then Goes Plain else Broken

abbrev pub one_more : Option ℕ → Option ℕ
one_more (Some n) = Some (suc n)
one_more None = None

abbrev pub as_next : (Within → Option ℕ) → Next → Option ℕ
as_next more Closed = Some 0
as_next more Broken = None
as_next more (Goes within) = one_more (more within)

-- How many bytes stand before the closing quote, if it comes and each escape is whole.
abbrev pub quoted_length : Within → List ℕ → Option ℕ
quoted_length within [] = None
quoted_length within (b ∷ bs) = as_next (λ next. quoted_length next bs) (next_in_quotes within b)

-- An integer is at most 2^127 - 1 in size.
abbrev pub is_small : List ℕ → Bool
is_small digits = nat_lt (digits_value 10 digits) (2 ^ 127)

-- How many digits begin a text.
abbrev pub digit_count : List ℕ → ℕ
digit_count text = prefix_len is_ascii_digit text

-- The digits behind a point, if some are there.
abbrev pub place_count : List ℕ → ℕ
place_count [] = 0
place_count (b ∷ bs) = if b == 46 then digit_count bs else 0

-- A number that begins with a digit: a decimal of at most 18 digits where a point and a digit follow, and else an integer.
abbrev pub number_with : ℕ → ℕ → List ℕ → Option (Token × ℕ)
number_with digits places text =
    if places == 0 then (if is_small (take digits text) then Some (integer (take digits text), digits) else None)
    else (if nat_le (digits + places) 18 then Some (decimal (take (digits + 1 + places) text), digits + 1 + places) else None)

abbrev pub number_at : List ℕ → Option (Token × ℕ)
number_at text = number_with (digit_count text) (place_count (drop (digit_count text) text)) text

-- A minus stands before an integer alone.
abbrev pub negative_at : List ℕ → Option (Token × ℕ)
negative_at digits =
    if digit_count digits == 0 then None
    else (if is_small (take (digit_count digits) digits) then Some (integer (45 ∷ take (digit_count digits) digits), digit_count digits + 1) else None)

abbrev pub in_quotes : Option ℕ → List ℕ → Option (Token × ℕ)
in_quotes None text = None
in_quotes (Some n) text = Some (quoted (take n text), n + 2)

-- The token that begins a text, and its length; the longest is taken.
abbrev pub token_at : List ℕ → Option (Token × ℕ)
token_at [] = None
token_at (b ∷ bs) =
    if b == 40 then Some (open_bracket, 1)
    else (if b == 41 then Some (close_bracket, 1)
    else (if b == 44 then Some (comma, 1)
    else (if b == 39 then in_quotes (quoted_length Plain bs) bs
    else (if b == 45 then negative_at bs
    else (if is_ascii_digit b then number_at (b ∷ bs)
    else (if begins_name b then Some (word (take (prefix_len continues_name (b ∷ bs)) (b ∷ bs)), prefix_len continues_name (b ∷ bs))
    else None))))))

-- A token, and how many bytes of the text are left from its first byte on.
abbrev pub Placed : Type 0
Placed = Token × ℕ

-- a token of so many bytes, and the tokens behind it
abbrev pub and_more : (ℕ → List Placed) → ℕ → Option (Token × ℕ) → List Placed
and_more behind left None = (bad, left) ∷ []
and_more behind left (Some t) = (t.0, left) ∷ behind (t.1 - 1)

-- The tokens of a text behind its first bytes, so many of them; the last one may be bad. A space divides tokens and is none.
abbrev pub tokens_behind : ℕ → List ℕ → List Placed
tokens_behind skipped [] = []
tokens_behind (suc skipped) (b ∷ bs) = tokens_behind skipped bs
tokens_behind zero (b ∷ bs) = if b == 32 then tokens_behind 0 bs else and_more (λ n. tokens_behind n bs) (suc (length bs)) (token_at (b ∷ bs))

-- The tokens of a text.
abbrev pub tokens_of : List ℕ → List Placed
tokens_of text = tokens_behind 0 text

-- A text whose first byte is no space.
abbrev pub begins_token : List ℕ → Bool
begins_token [] = false
begins_token (b ∷ bs) = not (b == 32)
