-- What is printed reads back: the shape that the text of a type has.
use Rattle.std.specs.Prelude.{◌≡◌, ℕ, suc, max, ◌<◌, ◌≤◌, ◌^◌, ◌/◌, ◌%◌, ℤ, pos, negsuc, Bool, true, false, List, [], ◌∷◌, ◌++◌, length, Some, Result, Ok, Err, codes}
use Rattle.std.specs.Fmt.{decimal}
use Rattle.std.specs.Str.Parse.{digits_value}
use Rattle.agg_terms.specs.Chains.{Chain, Ty, Tys, Leaf, no_tys, a_ty}
use Rattle.agg_terms.specs.Chains as terms
use Rattle.agg_terms.specs.Widths.{IsSignedWidth, IsWholeWidth}
use Rattle.agg_typing.specs.Legal.{is_basic}
use Rattle.agg_typing.specs.Literals.{Literal, Int, Decimal, Text}
use Rattle.type_texts.specs.ChainNames.{chain_name}
use Rattle.type_texts.specs.ParamTexts.{places_of}
use Rattle.type_texts.specs.PatternTexts.{pattern_text}
use Rattle.type_shapes.specs.declared.shape.TypeShape.{TypeShape}
use Rattle.type_shapes.specs.declared.shape.ShapeFault.{ShapeFault}
use Rattle.type_shapes.specs.Answer.{IsShapeAnswer}
use Rattle.type_shapes.specs.Folds.{shape_of}
use Rattle.type_shapes.specs.Shapes.{Shape, Shapes, Whole, Signed, Str, Arr, MapOf, Nullable, State, no_shapes, a_shape}
use Rattle.type_texts.specs.TypeNames.{ty_text}

-- a number with these digits behind its point, or a whole one where there is none
abbrev pub with_places : ℕ → List ℕ → Literal
with_places whole [] = Int (pos whole)
with_places whole (p ∷ places) = Decimal (digits_value 10 (decimal whole ++ (p ∷ places))) (length (p ∷ places))

-- a level in billionths, with as many places as it needs
abbrev pub level_literal : ℕ → Literal
level_literal n = with_places (n / 1000000000) (places_of 9 (n % 1000000000))

abbrev pub mode_literals : Bool → List Literal
mode_literals true = Text (codes "strict_increase") ∷ []
mode_literals false = []

-- The parameters of a function: groupArray has none without a limit, quantileExact always has its level.
abbrev pub leaf_literals : Leaf → List Literal
leaf_literals (terms.GroupArray (Some most)) = Int (pos most) ∷ []
leaf_literals (terms.QuantileExact level) = level_literal level ∷ []
leaf_literals (terms.WindowFunnel window strict) = Int (pos window) ∷ mode_literals strict
leaf_literals (terms.SequenceMatch pattern) = Text (pattern_text pattern) ∷ []
leaf_literals f = []

-- The parameters of a chain: those of its function, and behind them three for each Resample, the outermost last.
abbrev pub literals_of : Chain → List Literal
literals_of (terms.Of f) = leaf_literals f
literals_of (terms.If c) = literals_of c
literals_of (terms.Array c) = literals_of c
literals_of (terms.MapOf c) = literals_of c
literals_of (terms.ForEach c) = literals_of c
literals_of (terms.OrNull c) = literals_of c
literals_of (terms.OrDefault c) = literals_of c
literals_of (terms.Distinct c) = literals_of c
literals_of (terms.State c) = literals_of c
literals_of (terms.Merge c) = literals_of c
literals_of (terms.Resample start end step c) = literals_of c ++ (Int start ∷ Int end ∷ Int (pos step) ∷ [])

-- The shape of a type.
abbrev mutual
  pub shape_in : Ty → Shape
  shape_in (terms.Whole n) = Whole n
  shape_in (terms.Signed w) = Signed w
  shape_in terms.Str = Str
  shape_in (terms.Arr t) = Arr (shape_in t)
  shape_in (terms.MapTy k t) = MapOf (shape_in k) (shape_in t)
  shape_in (terms.Nullable t) = Nullable (shape_in t)
  shape_in (terms.StateOf c ts) = State (chain_name c) (literals_of c) (shapes_in ts)

  pub shapes_in : Tys → Shapes
  shapes_in no_tys = no_shapes
  shapes_in (a_ty t ts) = a_shape (shape_in t) (shapes_in ts)

-- How deep types stand in one another: a type without a part is at 1, any other one more than its deepest part.
abbrev mutual
  pub levels : Ty → ℕ
  levels (terms.Whole n) = 1
  levels (terms.Signed w) = 1
  levels terms.Str = 1
  levels (terms.Arr t) = suc (levels t)
  levels (terms.MapTy k t) = suc (max (levels k) (levels t))
  levels (terms.Nullable t) = suc (levels t)
  levels (terms.StateOf c ts) = suc (most_levels ts)

  pub most_levels : Tys → ℕ
  most_levels no_tys = 0
  most_levels (a_ty t ts) = max (levels t) (most_levels ts)

-- a number of i64
abbrev pub FitsInt : ℤ → Type 0
FitsInt (pos n) = n < 2 ^ 63
FitsInt (negsuc n) = n < 2 ^ 63

-- The parameters have values of their types: u32, u64 and i64.
abbrev pub FitsLeaf : Leaf → Type 0
FitsLeaf (terms.GroupArray (Some most)) = most < 2 ^ 32
FitsLeaf (terms.QuantileExact level) = level < 2 ^ 32
FitsLeaf (terms.WindowFunnel window strict) = window < 2 ^ 64
FitsLeaf f = Unit {0}

abbrev pub FitsChain : Chain → Type 0
FitsChain (terms.Of f) = FitsLeaf f
FitsChain (terms.If c) = FitsChain c
FitsChain (terms.Array c) = FitsChain c
FitsChain (terms.MapOf c) = FitsChain c
FitsChain (terms.ForEach c) = FitsChain c
FitsChain (terms.OrNull c) = FitsChain c
FitsChain (terms.OrDefault c) = FitsChain c
FitsChain (terms.Distinct c) = FitsChain c
FitsChain (terms.State c) = FitsChain c
FitsChain (terms.Merge c) = FitsChain c
FitsChain (terms.Resample start end step c) = FitsInt start × FitsInt end × (step < 2 ^ 64) × FitsChain c

-- Nullable and Map have the parts that they may have: a number type or String in Nullable and for keys. Numbers have 8 to
-- 64 bits.
abbrev mutual
  pub HasParts : Ty → Type 0
  HasParts (terms.Whole n) = IsWholeWidth n
  HasParts (terms.Signed w) = IsSignedWidth w
  HasParts terms.Str = Unit {0}
  HasParts (terms.Arr t) = HasParts t
  HasParts (terms.MapTy k t) = (is_basic k ≡ true) × HasParts k × HasParts t
  HasParts (terms.Nullable t) = (is_basic t ≡ true) × HasParts t
  HasParts (terms.StateOf c ts) = FitsChain c × HaveParts ts

  pub HaveParts : Tys → Type 0
  HaveParts no_tys = Unit {0}
  HaveParts (a_ty t ts) = HasParts t × HaveParts ts

-- The answer is this shape, unless memory ran out.
abbrev pub IsShapeUnlessMemory : Shape → Result TypeShape ShapeFault → Type 0
IsShapeUnlessMemory shape (Ok answer) = shape_of answer ≡ shape
IsShapeUnlessMemory shape (Err fault) = fault ≡ ShapeFault.OutOfMemory

-- Whoever answers right to the printed text of a type of at most sixteen levels answers that type's shape.
abbrev pub TypesReadBack : Type 0
TypesReadBack = (t : Ty) (answer : Result TypeShape ShapeFault) → HasParts t → levels t ≤ 16 → IsShapeAnswer (ty_text t) answer → IsShapeUnlessMemory (shape_in t) answer
