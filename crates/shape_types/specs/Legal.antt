-- What a text spells stands for a legal type.
use Rattle.std.specs.Prelude.{◌≡◌, ℕ, true, List, Ok}
use Rattle.agg_terms.specs.Chains.{Ty}
use Rattle.agg_typing.specs.Legal.{is_legal_type}
use Rattle.type_shapes.specs.declared.shape.TypeShape.{TypeShape}
use Rattle.type_shapes.specs.Answer.{IsShapeAnswer}
use Rattle.type_shapes.specs.Folds.{shape_of}
use Rattle.shape_types.specs.Types.{type_of_shape}

-- The type that a shape which was read stands for is legal.
abbrev pub ReadTypesAreLegal : Type 0
ReadTypesAreLegal =
    (text : List ℕ) (shape : TypeShape) (t : Ty) → IsShapeAnswer text (Ok shape) → type_of_shape (shape_of shape) ≡ Ok t → is_legal_type t ≡ true
