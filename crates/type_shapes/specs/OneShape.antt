-- A text has one shape.
use Rattle.std.specs.Prelude.{◌≡◌, List, ℕ, Result, Ok, Err}
use Rattle.type_shapes.specs.declared.shape.TypeShape.{TypeShape}
use Rattle.type_shapes.specs.declared.shape.ShapeFault.{ShapeFault}
use Rattle.type_shapes.specs.Answer.{IsShapeAnswer}
use Rattle.type_shapes.specs.Folds.{shape_of}
use Rattle.type_shapes.specs.Shapes.{Shape}

-- The answer is one that may be told, but for want of memory.
abbrev pub IsToldShape : (Result Shape ShapeFault → Type 0) → Result TypeShape ShapeFault → Type 0
IsToldShape told (Ok shape) = told (Ok (shape_of shape))
IsToldShape told (Err ShapeFault.OutOfMemory) = Unit {0}
IsToldShape told (Err fault) = told (Err fault)

-- Two answers are one, unless memory ran out: one shape, or one fault.
abbrev pub IsSameShape : Result TypeShape ShapeFault → Result TypeShape ShapeFault → Type 0
IsSameShape one other = IsToldShape (λ a. IsToldShape (λ b. a ≡ b) other) one

-- A text allows one answer.
abbrev pub OneShapeAnswer : Type 0
OneShapeAnswer = (text : List ℕ) (one other : Result TypeShape ShapeFault) → IsShapeAnswer text one → IsShapeAnswer text other → IsSameShape one other
