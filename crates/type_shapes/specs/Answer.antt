-- What the reader of types answers.
use Rattle.std.specs.Prelude.{ℕ, ◌≤◌, ◌<◌, List, Some, Result, Ok, Err}
use Rattle.type_names.specs.Syntax.{tokens_in, IsTypeFault}
use Rattle.type_names.specs.TypeTexts.{WrittenType as Written, IsType}
use Rattle.type_shapes.specs.declared.shape.TypeShape.{TypeShape}
use Rattle.type_shapes.specs.declared.shape.ShapeFault.{ShapeFault}
use Rattle.type_shapes.specs.Folds.{shape_of}
use Rattle.type_shapes.specs.Shapes.{Spells, nesting}

-- The shape that the text spells, where that is nested at most sixteen deep; that it spells one nested deeper; or where
-- the text is that of no type: the place of the first token that no type goes on with.
abbrev pub IsShapeAnswer : List ℕ → Result TypeShape ShapeFault → Type 0
IsShapeAnswer text (Ok shape) = (written : Written) × IsType (tokens_in text) written × Spells written (shape_of shape) × (nesting written ≤ 16)
IsShapeAnswer text (Err (ShapeFault.Syntax at)) = IsTypeFault text (Some at)
IsShapeAnswer text (Err ShapeFault.Depth) = (written : Written) × IsType (tokens_in text) written × (16 < nesting written)
IsShapeAnswer text (Err ShapeFault.OutOfMemory) = Unit {0}
