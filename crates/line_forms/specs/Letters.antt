-- The tokens of a line with their places, and what it is to begin with given ones.
use Rattle.std.specs.Prelude.{◌≡◌, ℕ, zero, suc, ◌-◌, List, [], ◌∷◌, ◌++◌, length, map, Option, Some, None}
use Rattle.line_tokens.specs.Tokens.{Token, Placed, word, open_bracket, close_bracket, comma, tokens_of}

-- A token, and the place of its first byte in its line.
abbrev pub Letter : Type 0
Letter = Token × ℕ

-- The letters of a text that ends a line of this length.
abbrev pub letters_in : ℕ → List ℕ → List Letter
letters_in whole text = map (λ (t : Placed). (t.0, whole - t.1)) (tokens_of text)

-- The letters of a line.
abbrev pub letters_of : List ℕ → List Letter
letters_of line = letters_in (length line) line

-- The place of the n-th letter in a line of this length; behind the last one stands the line's end.
abbrev pub place : ℕ → ℕ → List Letter → ℕ
place whole n [] = whole
place whole zero (l ∷ letters) = l.1
place whole (suc n) (l ∷ letters) = place whole n letters

-- A token that is to come, with its place where the form tells it.
abbrev pub Sign : Type 0
Sign = Token × Option ℕ

abbrev pub StandsAt : Option ℕ → ℕ → Type 0
StandsAt None at = Unit {0}
StandsAt (Some place) at = at ≡ place

-- The letters begin with these signs, and the other letters stand behind them.
abbrev pub Leads : List Sign → List Letter → List Letter → Type 0
Leads [] letters behind = letters ≡ behind
Leads (s ∷ signs) [] behind = ⊥
Leads (s ∷ signs) (l ∷ letters) behind = (l.0 ≡ s.0) × StandsAt s.1 l.1 × Leads signs letters behind

-- A token, wherever it stands.
abbrev pub sign : Token → Sign
sign t = (t, None)

-- A name and its place in the line.
pub record Name : Type 0 where
  pub at : ℕ
  pub name : List ℕ

abbrev pub name_sign : Name → Sign
name_sign n = (word n.name, Some n.at)

abbrev pub name_part : Name → List Sign
name_part n = name_sign n ∷ []

-- Parts, each behind a comma.
abbrev pub more_parts : List (List Sign) → List Sign
more_parts [] = []
more_parts (p ∷ parts) = sign comma ∷ (p ++ more_parts parts)

-- Parts divided by commas.
abbrev pub divided : List (List Sign) → List Sign
divided [] = []
divided (p ∷ parts) = p ++ more_parts parts

abbrev pub in_brackets : List Sign → List Sign
in_brackets inside = sign open_bracket ∷ (inside ++ (sign close_bracket ∷ []))

-- The fact holds of each item.
abbrev pub Every : {T : Type 0} → (T → Type 0) → List T → Type 0
Every fact [] = Unit {0}
Every fact (t ∷ ts) = fact t × Every fact ts

-- The lists have items that go together, one by one.
abbrev pub EachPair : {T V : Type 0} → (T → V → Type 0) → List T → List V → Type 0
EachPair pair [] [] = Unit {0}
EachPair pair (t ∷ ts) (v ∷ vs) = pair t v × EachPair pair ts vs
EachPair pair ts vs = ⊥
