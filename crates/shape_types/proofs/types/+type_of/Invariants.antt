use Rattle.std.proofs.Common.{◌≡◌, map, take, Ok}
use Rattle.shape_types.specs.Types.{types_of_shapes}
use Rattle.type_shapes.specs.Folds.{shape_of}
use Rattle.type_shapes.specs.Shapes.{shapes}
use Rattle.value_types.specs.Folds.{ty_of}
use Rattle.shape_types.proofs.types.+type_of.Given as goal

abbrev pub invariant-types_of-loop-shape : goal.invariant-types_of-loop-shape
invariant-types_of-loop-shape l = types_of_shapes (shapes (map shape_of (take l.shape-index l.written))) ≡ Ok (map ty_of l.types)
