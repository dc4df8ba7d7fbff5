-- The type that a written shape stands for (manual: "Data types", "AggregateFunction").
use Rattle.std.specs.Prelude.{List, [], ◌∷◌, Result, Ok}
use Rattle.agg_terms.specs.Chains.{Ty}
use Rattle.agg_terms.specs.Chains as terms
use Rattle.agg_typing.specs.Faults.{Fault, and_then}
use Rattle.agg_typing.specs.Typing.{resolved_state}
use Rattle.pattern_texts.specs.Machine.{pattern_reader}
use Rattle.type_shapes.specs.Shapes.{Shape, Shapes, Whole, Signed, Str, Arr, MapOf, Nullable, State, no_shapes, a_shape}

abbrev mutual
  -- The type, or the first refusal of a state type in it, in the order in which their closing brackets stand: what stands
  -- in the brackets of a state type is judged before the state type itself, and a map's key before its values.
  pub type_of_shape : Shape → Result Ty Fault
  type_of_shape (Whole n) = Ok (terms.Whole n)
  type_of_shape (Signed w) = Ok (terms.Signed w)
  type_of_shape Str = Ok terms.Str
  type_of_shape (Arr item) = and_then (type_of_shape item) (λ (t : Ty). Ok (terms.Arr t))
  type_of_shape (MapOf key item) = and_then (type_of_shape key) (λ (k : Ty). and_then (type_of_shape item) (λ (t : Ty). Ok (terms.MapTy k t)))
  type_of_shape (Nullable of) = and_then (type_of_shape of) (λ (t : Ty). Ok (terms.Nullable t))
  type_of_shape (State name literals types) = and_then (types_of_shapes types) (λ (ts : List Ty). resolved_state pattern_reader name literals ts)

  -- the same of each, from left to right
  pub types_of_shapes : Shapes → Result (List Ty) Fault
  types_of_shapes no_shapes = Ok []
  types_of_shapes (a_shape shape more) = and_then (type_of_shape shape) (λ (t : Ty). and_then (types_of_shapes more) (λ (ts : List Ty). Ok (t ∷ ts)))
