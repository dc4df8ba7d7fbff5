-- What is found at the front of a text by one that knows that a type stands there.
use Rattle.std.specs.Prelude.{◌≡◌, ℕ, suc, ◌≤◌, ◌<◌, List, ◌∷◌, ◌++◌, Bool, true, false, Option, Some, None}
use Rattle.agg_typing.specs.Literals.{Literal}
use Rattle.line_tokens.specs.Tokens.{Token, word, open_bracket, close_bracket, comma}
use Rattle.type_names.specs.Syntax.{tokens_in}
use Rattle.type_names.specs.TypeTexts.{WrittenType as Written, WrittenTypes as WrittenTypes, tokens_of, tokens_of_all, brackets, ShapeFits, ShapesFit, AreLiterals}
use Rattle.type_shapes.specs.declared.mark.Mark.{Mark}
use Rattle.type_shapes.specs.declared.mark.Mark.TheVariants.{Opening, Closing, Dividing}
use Rattle.type_shapes.specs.Literals.{AreRead}
use Rattle.type_shapes.specs.Shapes.{Shape, Spells, AllSpell, shapes, nesting, deepest}

abbrev pub mark_token : Mark → Token
mark_token Opening = open_bracket
mark_token Closing = close_bracket
mark_token Dividing = comma

abbrev pub is_mark : Mark → Token → Bool
is_mark Opening open_bracket = true
is_mark Closing close_bracket = true
is_mark Dividing comma = true
is_mark mark token = false

-- something nested so deep, at most as deep as may be; the value that it spells, and what stands behind it
pub record IsRead {V : Type 0} (most depth : ℕ) (spells : V → Type 0) (more : List Token) (value : V) (rest : List ℕ) : Type 0 where
  pub within : depth ≤ most
  pub spelled : spells value
  pub behind : tokens_in rest ≡ more

-- nothing where it is nested too deep
abbrev pub IsFound : {V : Type 0} → ℕ → ℕ → (V → Type 0) → List Token → Option (V × List ℕ) → Type 0
IsFound most depth spells more None = most < depth
IsFound most depth spells more (Some f) = IsRead most depth spells more f.0 f.1

-- a type stands at the front of a text
abbrev pub HasType : List ℕ → Type 0
HasType text = (ty : Written) × (more : List Token) × ShapeFits ty × (tokens_in text ≡ tokens_of ty ++ more)

-- at a type's text
abbrev pub ReadsType : ℕ → List ℕ → Option (Shape × List ℕ) → Type 0
ReadsType most text found =
    (ty : Written) (more : List Token) → ShapeFits ty → tokens_in text ≡ tokens_of ty ++ more → IsFound most (nesting ty) (Spells ty) more found

-- at a type's text in brackets
abbrev pub ReadsInside : ℕ → List ℕ → Option (Shape × List ℕ) → Type 0
ReadsInside most text found =
    (ty : Written) (more : List Token) → ShapeFits ty → tokens_in text ≡ open_bracket ∷ (tokens_of ty ++ (close_bracket ∷ more)) → IsFound most (nesting ty) (Spells ty) more found

-- behind the name of a type, whose parts may be nested so deep
abbrev pub ReadsBehind : List ℕ → ℕ → List ℕ → Option (Shape × List ℕ) → Type 0
ReadsBehind name most text found =
    (ty : Written) (more : List Token) → ShapeFits ty → word name ∷ tokens_in text ≡ tokens_of ty ++ more → IsFound (suc most) (nesting ty) (Spells ty) more found

-- at types, each behind a comma, and the bracket that closes them
abbrev pub ReadsTypes : ℕ → List ℕ → Option (List Shape × List ℕ) → Type 0
ReadsTypes most text found =
    (types : WrittenTypes) (more : List Token) → ShapesFit types → tokens_in text ≡ tokens_of_all types ++ more
    → IsFound most (deepest types) (λ ss. AllSpell types (shapes ss)) more found

-- at the literals behind a name, before types
abbrev pub AreFound : List Token → List Token → Option (List Literal × List ℕ) → Type 0
AreFound literals more None = ⊥
AreFound literals more (Some f) = AreRead literals f.0 × (tokens_in f.1 ≡ more)

abbrev pub ReadsLiterals : List ℕ → Option (List Literal × List ℕ) → Type 0
ReadsLiterals text found =
    (literals : List Token) (types : WrittenTypes) (more : List Token) → AreLiterals literals → tokens_in text ≡ brackets literals ++ (tokens_of_all types ++ more)
    → AreFound literals (tokens_of_all types ++ more) found
