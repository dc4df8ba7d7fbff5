-- Values of which some are NULL.
use Rattle.std.specs.Prelude.{Bool, true, false, List, [], ◌∷◌}
use Rattle.value_types.specs.declared.value.Value.{Value}
use Rattle.value_types.specs.declared.value.Value.TheVariants.{Nil}

-- NULL where the mask is true, and elsewhere the value
abbrev pub masked : List Bool → List Value → List Value
masked [] values = []
masked (mark ∷ mask) [] = []
masked (true ∷ mask) (value ∷ values) = Nil ∷ masked mask values
masked (false ∷ mask) (value ∷ values) = value ∷ masked mask values
