-- The shape of a state type.
use Rattle.std.proofs.Common.{◌≡◌, ℕ, List, map, sym, ap, ◌∙◌}
use Rattle.value_types.specs.declared.literal.Literal.{Literal}
use Rattle.chain_params.specs.Literals.{literal_of}
use Rattle.type_shapes.specs.declared.shape.TypeShape.{TypeShape}
use Rattle.type_shapes.specs.declared.shape.TypeShape.TheVariants as code
use Rattle.type_shapes.specs.declared.shape.TypeShape.TheOpen.{TypeShape-F}
use Rattle.type_shapes.specs.declared.shape.TypeShape.TheFolds.{fold-roll-TypeShape}
use Rattle.type_shapes.specs.Folds.{shape_of, shape_step}
use Rattle.type_shapes.specs.Shapes.{Shape, State, shapes}

pub shape_State : (shape : TypeShape) (name : List ℕ) (ls : List Literal) (ss : List TypeShape) → shape ≡ code.State name ls ss → shape_of shape ≡ State name (map literal_of ls) (shapes (map shape_of ss))
shape_State shape name ls ss e = ap shape_of (e ∙ sym (code.rolls-State name ls ss)) ∙ fold-roll-TypeShape Shape shape_step (TypeShape-F.State name ls ss)
