-- The place at which the text of a type is no such text.
use Rattle.std.specs.Prelude.{◌≡◌, ℕ, zero, suc, ◌-◌, List, [], ◌∷◌, length, map, Option, Some, None, Err}
use Rattle.first_fault.specs.FirstFault.{IsReading}
use Rattle.line_tokens.specs.Tokens.{Token, Placed, tokens_of}
use Rattle.type_names.specs.TypeTexts.{WrittenType, IsType}

-- The tokens of a text, without their places.
abbrev pub tokens_in : List ℕ → List Token
tokens_in text = map (λ (t : Placed). t.0) (tokens_of text)

-- Where the n-th token stands in a text of this length; behind the last one stands the text's end.
abbrev pub place : ℕ → ℕ → List Placed → ℕ
place whole n [] = whole
place whole zero (t ∷ tokens) = whole - t.1
place whole (suc n) (t ∷ tokens) = place whole n tokens

-- No fault where the tokens spell a type. Otherwise the place is that of the first token behind the longest front of
-- tokens that begins some type, or the text's length where the text ends there.
abbrev pub IsTypeFault : List ℕ → Option ℕ → Type 0
IsTypeFault text None = (ty : WrittenType) × IsType (tokens_in text) ty
IsTypeFault text (Some at) = (n : ℕ) × IsReading IsType (tokens_in text) (Err n) × (at ≡ place (length text) n (tokens_of text))
