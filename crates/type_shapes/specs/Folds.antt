-- What a shape of the code is in the definitions.
use Rattle.std.specs.Prelude.{map}
use mir.Syntax.{w8, w16, w32, w64}
use Rattle.chain_params.specs.Literals.{literal_of}
use Rattle.type_shapes.specs.declared.shape.TypeShape.{TypeShape}
use Rattle.type_shapes.specs.declared.shape.TypeShape.TheOpen.{TypeShape-F}
use Rattle.type_shapes.specs.declared.shape.TypeShape.TheFolds.{fold-TypeShape}
use Rattle.type_shapes.specs.Shapes.{Shape, Whole, Signed, Str, Arr, MapOf, Nullable, State, shapes}

-- one layer of a shape, over what its parts are; number types are told by their width
abbrev pub shape_step : TypeShape-F Shape → Shape
shape_step TypeShape-F.U8 = Whole 8
shape_step TypeShape-F.U16 = Whole 16
shape_step TypeShape-F.U32 = Whole 32
shape_step TypeShape-F.U64 = Whole 64
shape_step TypeShape-F.I8 = Signed w8
shape_step TypeShape-F.I16 = Signed w16
shape_step TypeShape-F.I32 = Signed w32
shape_step TypeShape-F.I64 = Signed w64
shape_step TypeShape-F.Str = Str
shape_step (TypeShape-F.Arr s) = Arr s
shape_step (TypeShape-F.Map k s) = MapOf k s
shape_step (TypeShape-F.Nullable s) = Nullable s
shape_step (TypeShape-F.State name literals types) = State name (map literal_of literals) (shapes types)

abbrev pub shape_of : TypeShape → Shape
shape_of = fold-TypeShape Shape shape_step
