-- What is printed for a type is read as that type.
use Rattle.std.specs.Prelude.{◌≡◌, ◌≤◌, true, Result, Ok, Err}
use Rattle.agg_terms.specs.Chains as terms
use Rattle.agg_typing.specs.Legal.{is_legal_type}
use Rattle.value_types.specs.declared.ty.Ty.{Ty}
use Rattle.value_types.specs.Folds.{ty_of}
use Rattle.type_texts.specs.TypeNames.{ty_text}
use Rattle.type_shapes.specs.declared.shape.TypeShape.{TypeShape}
use Rattle.type_shapes.specs.declared.shape.ShapeFault.{ShapeFault}
use Rattle.type_shapes.specs.Answer.{IsShapeAnswer}
use Rattle.type_shapes.specs.Folds.{shape_of}
use Rattle.type_shapes.specs.ReadsBack.{levels}
use Rattle.shape_types.specs.Countable.{IsCountable}
use Rattle.shape_types.specs.Types.{type_of_shape}

-- The answer is a shape that may be judged and that stands for this type, unless memory ran out.
abbrev pub IsTypeUnlessMemory : terms.Ty → Result TypeShape ShapeFault → Type 0
IsTypeUnlessMemory t (Ok shape) = IsCountable (shape_of shape) × (type_of_shape (shape_of shape) ≡ Ok t)
IsTypeUnlessMemory t (Err fault) = fault ≡ ShapeFault.OutOfMemory

-- Whoever answers right to the printed text of a legal type of at most sixteen levels answers a shape that stands for
-- that type. A legal type's chains have at most eight suffixes.
abbrev pub PrintedTypesAreRead : Type 0
PrintedTypesAreRead =
    (ty : Ty) (answer : Result TypeShape ShapeFault) → is_legal_type (ty_of ty) ≡ true → levels (ty_of ty) ≤ 16 →
    IsShapeAnswer (ty_text (ty_of ty)) answer → IsTypeUnlessMemory (ty_of ty) answer
