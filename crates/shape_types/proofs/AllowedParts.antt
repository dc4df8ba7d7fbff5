-- A shape whose parts may stand there gives a legal type.
use Rattle.std.proofs.Common.{refl, subst}
use Rattle.agg_typing.specs.Legal.{is_basic, is_legal_type}
use Rattle.agg_typing.specs.Promises.{AllowedStateIsLegal}
use Rattle.type_shapes.specs.Shapes.{Shape, Shapes, Whole, Signed, Str, Arr, MapOf, Nullable, State, no_shapes, a_shape}
use Rattle.shape_types.specs.AllowedParts.{AllowedPartsGiveLegalTypes, HasAllowedParts, HaveAllowedParts, IsBasicShape}
use Rattle.shape_types.specs.Types.{type_of_shape, types_of_shapes}
use Rattle.shape_types.proofs.LegalTypes.{IfType, IfTypes, array_legal, map_legal, more_legal, nullable_legal, state_legal}

basic : (s : Shape) → IsBasicShape s → IfType is_basic (type_of_shape s)
basic (Whole n) h = refl
basic (Signed w) h = refl
basic Str h = refl
basic (Arr s) h = absurd h
basic (MapOf k s) h = absurd h
basic (Nullable s) h = absurd h
basic (State n ls ss) h = absurd h

mutual
  allowed : AllowedStateIsLegal → (s : Shape) → HasAllowedParts s → IfType is_legal_type (type_of_shape s)
  allowed law (Whole n) h = refl
  allowed law (Signed w) h = refl
  allowed law Str h = refl
  allowed law (Arr s) h = array_legal (type_of_shape s) (allowed law s h)
  allowed law (MapOf k s) h = map_legal (type_of_shape k) (type_of_shape s) (basic k h.0) (allowed law s h.1)
  allowed law (Nullable s) h = nullable_legal (type_of_shape s) (basic s h)
  allowed law (State n ls ss) h = state_legal law n ls (types_of_shapes ss) (all_allowed law ss h)

  all_allowed : AllowedStateIsLegal → (ss : Shapes) → HaveAllowedParts ss → IfTypes (types_of_shapes ss)
  all_allowed law no_shapes h = refl
  all_allowed law (a_shape s ss) h = more_legal (type_of_shape s) (types_of_shapes ss) (allowed law s h.0) (all_allowed law ss h.1)

pub allowed_parts : AllowedStateIsLegal → AllowedPartsGiveLegalTypes
allowed_parts law shape t h e = subst (IfType is_legal_type) e (allowed law shape h)
