-- Types as they're written, token by token (manual: "Data types").
use Rattle.std.specs.Prelude.{◌≡◌, ℕ, List, [], ◌∷◌, ◌++◌, codes, Bool, true, false, ◌||◌}
use Rattle.std.specs.Str.{bytes_eq}
use Rattle.line_tokens.specs.Tokens.{Token, word, integer, decimal, quoted, open_bracket, close_bracket, comma}

mutual
  -- a type as it's written; plain is a type of one name
  pub data WrittenType : Type 0 where
    plain : List ℕ → WrittenType
    array : WrittenType → WrittenType
    map_of : WrittenType → WrittenType → WrittenType
    nullable : WrittenType → WrittenType
    state : List ℕ → List Token → WrittenTypes → WrittenType

  pub data WrittenTypes : Type 0 where
    none : WrittenTypes
    and_one : WrittenType → WrittenTypes → WrittenTypes

abbrev pub is_number_name : List ℕ → Bool
is_number_name w = bytes_eq w (codes "UInt8") || bytes_eq w (codes "UInt16") || bytes_eq w (codes "UInt32") || bytes_eq w (codes "UInt64")
    || bytes_eq w (codes "Int8") || bytes_eq w (codes "Int16") || bytes_eq w (codes "Int32") || bytes_eq w (codes "Int64")

-- the types of one name
abbrev pub is_plain_name : List ℕ → Bool
is_plain_name w = is_number_name w || bytes_eq w (codes "String")

abbrev pub is_literal : Token → Bool
is_literal (integer ds) = true
is_literal (decimal ds) = true
is_literal (quoted bs) = true
is_literal t = false

abbrev pub literals_tokens : List Token → List Token
literals_tokens [] = close_bracket ∷ []
literals_tokens (l ∷ ls) = comma ∷ l ∷ literals_tokens ls

-- the brackets behind a name that hold one literal or more; nothing where there is none
abbrev pub brackets : List Token → List Token
brackets [] = []
brackets (l ∷ ls) = open_bracket ∷ l ∷ literals_tokens ls

abbrev mutual
  pub tokens_of : WrittenType → List Token
  tokens_of (plain name) = word name ∷ []
  tokens_of (array ty) = word (codes "Array") ∷ open_bracket ∷ (tokens_of ty ++ (close_bracket ∷ []))
  tokens_of (map_of key ty) = word (codes "Map") ∷ open_bracket ∷ (tokens_of key ++ (comma ∷ (tokens_of ty ++ (close_bracket ∷ []))))
  tokens_of (nullable ty) = word (codes "Nullable") ∷ open_bracket ∷ (tokens_of ty ++ (close_bracket ∷ []))
  tokens_of (state name literals types) = word (codes "AggregateFunction") ∷ open_bracket ∷ word name ∷ (brackets literals ++ tokens_of_all types)

  -- each behind a comma, and the Closing bracket
  pub tokens_of_all : WrittenTypes → List Token
  tokens_of_all none = close_bracket ∷ []
  tokens_of_all (and_one ty types) = comma ∷ (tokens_of ty ++ tokens_of_all types)

-- what may stand in Nullable, and be a key
abbrev pub IsOneWord : WrittenType → Type 0
IsOneWord (plain name) = Unit {0}
IsOneWord s = ⊥

abbrev pub AreLiterals : List Token → Type 0
AreLiterals [] = Unit {0}
AreLiterals (l ∷ ls) = (is_literal l ≡ true) × AreLiterals ls

abbrev mutual
  pub ShapeFits : WrittenType → Type 0
  ShapeFits (plain name) = is_plain_name name ≡ true
  ShapeFits (array ty) = ShapeFits ty
  ShapeFits (map_of key ty) = IsOneWord key × ShapeFits key × ShapeFits ty
  ShapeFits (nullable ty) = IsOneWord ty × ShapeFits ty
  ShapeFits (state name literals types) = AreLiterals literals × ShapesFit types

  pub ShapesFit : WrittenTypes → Type 0
  ShapesFit none = Unit {0}
  ShapesFit (and_one ty types) = ShapeFits ty × ShapesFit types

-- Which tokens spell which type.
abbrev pub IsType : List Token → WrittenType → Type 0
IsType tokens ty = ShapeFits ty × (tokens ≡ tokens_of ty)
