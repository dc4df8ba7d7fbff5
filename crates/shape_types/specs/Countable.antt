-- Shapes whose lists have fewer than 2^32 items, so that places in them are numbers of 32 bits.
use Rattle.std.specs.Prelude.{ℕ, suc, ◌<◌, ◌^◌, List, length, Ok}
use Rattle.type_shapes.specs.declared.shape.TypeShape.{TypeShape}
use Rattle.type_shapes.specs.Answer.{IsShapeAnswer}
use Rattle.type_shapes.specs.Folds.{shape_of}
use Rattle.type_shapes.specs.Shapes.{Shape, Shapes, Whole, Signed, Str, Arr, MapOf, Nullable, State, no_shapes, a_shape}

abbrev pub shape_count : Shapes → ℕ
shape_count no_shapes = 0
shape_count (a_shape shape more) = suc (shape_count more)

abbrev mutual
  -- Each state type in the shape has fewer than 2^32 literals and fewer than 2^32 types.
  pub IsCountable : Shape → Type 0
  IsCountable (Whole n) = Unit {0}
  IsCountable (Signed w) = Unit {0}
  IsCountable Str = Unit {0}
  IsCountable (Arr item) = IsCountable item
  IsCountable (MapOf key item) = IsCountable key × IsCountable item
  IsCountable (Nullable of) = IsCountable of
  IsCountable (State name literals types) = (length literals < 2 ^ 32) × (shape_count types < 2 ^ 32) × AreCountable types

  pub AreCountable : Shapes → Type 0
  AreCountable no_shapes = Unit {0}
  AreCountable (a_shape shape more) = IsCountable shape × AreCountable more

-- What is read from a text of fewer than 2^32 bytes is such a shape.
abbrev pub ShortTextsAreCountable : Type 0
ShortTextsAreCountable = (text : List ℕ) (shape : TypeShape) → length text < 2 ^ 32 → IsShapeAnswer text (Ok shape) → IsCountable (shape_of shape)
