-- The fold of shapes at each variant with parts.
use Rattle.std.proofs.Common.{◌≡◌, ℕ, List, map, sym, ap, ◌∙◌}
use Rattle.value_types.specs.declared.literal.Literal.{Literal}
use Rattle.type_shapes.specs.declared.shape.TypeShape.{TypeShape}
use Rattle.type_shapes.specs.declared.shape.TypeShape.TheVariants as code
use Rattle.type_shapes.specs.declared.shape.TypeShape.TheOpen.{TypeShape-F}
use Rattle.type_shapes.specs.declared.shape.TypeShape.TheFolds.{fold-roll-TypeShape}
use Rattle.chain_params.specs.Literals.{literal_of}
use Rattle.type_shapes.specs.Folds.{shape_of, shape_step}
use Rattle.type_shapes.specs.Shapes.{Shape, Arr, MapOf, Nullable, State, shapes}

pub shape_of-Arr : (s : TypeShape) → shape_of (code.Arr s) ≡ Arr (shape_of s)
shape_of-Arr s = ap shape_of (sym (code.rolls-Arr s)) ∙ fold-roll-TypeShape Shape shape_step (TypeShape-F.Arr s)

pub shape_of-Map : (k s : TypeShape) → shape_of (code.Map k s) ≡ MapOf (shape_of k) (shape_of s)
shape_of-Map k s = ap shape_of (sym (code.rolls-Map k s)) ∙ fold-roll-TypeShape Shape shape_step (TypeShape-F.Map k s)

pub shape_of-Nullable : (s : TypeShape) → shape_of (code.Nullable s) ≡ Nullable (shape_of s)
shape_of-Nullable s = ap shape_of (sym (code.rolls-Nullable s)) ∙ fold-roll-TypeShape Shape shape_step (TypeShape-F.Nullable s)

pub shape_of-State : (name : List ℕ) (ls : List Literal) (ss : List TypeShape) → shape_of (code.State name ls ss) ≡ State name (map literal_of ls) (shapes (map shape_of ss))
shape_of-State name ls ss = ap shape_of (sym (code.rolls-State name ls ss)) ∙ fold-roll-TypeShape Shape shape_step (TypeShape-F.State name ls ss)
