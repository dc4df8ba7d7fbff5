-- The types of shapes that have the parts that they may have.
use Rattle.std.specs.Prelude.{◌≡◌, true, Ok}
use Rattle.agg_terms.specs.Chains.{Ty}
use Rattle.agg_typing.specs.Legal.{is_legal_type}
use Rattle.type_shapes.specs.Shapes.{Shape, Shapes, Whole, Signed, Str, Arr, MapOf, Nullable, State, no_shapes, a_shape}
use Rattle.shape_types.specs.Types.{type_of_shape}

-- a number or String
abbrev pub IsBasicShape : Shape → Type 0
IsBasicShape (Whole n) = Unit {0}
IsBasicShape (Signed w) = Unit {0}
IsBasicShape Str = Unit {0}
IsBasicShape shape = ⊥

-- In a Nullable and as a map's key stands a number or String.
abbrev mutual
  pub HasAllowedParts : Shape → Type 0
  HasAllowedParts (Arr item) = HasAllowedParts item
  HasAllowedParts (MapOf key item) = IsBasicShape key × HasAllowedParts item
  HasAllowedParts (Nullable of) = IsBasicShape of
  HasAllowedParts (State name literals types) = HaveAllowedParts types
  HasAllowedParts shape = Unit {0}

  pub HaveAllowedParts : Shapes → Type 0
  HaveAllowedParts no_shapes = Unit {0}
  HaveAllowedParts (a_shape shape more) = HasAllowedParts shape × HaveAllowedParts more

-- Such a shape stands for a legal type, whoever made it.
abbrev pub AllowedPartsGiveLegalTypes : Type 0
AllowedPartsGiveLegalTypes = (shape : Shape) (t : Ty) → HasAllowedParts shape → type_of_shape shape ≡ Ok t → is_legal_type t ≡ true
