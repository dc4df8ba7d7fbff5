-- The values that a list of values keeps.
use Rattle.std.specs.Prelude.{List, map}
use Rattle.value_types.specs.declared.value.Value.{Value}
use Rattle.value_types.specs.declared.value.Value.TheVariants.{Num}
use Rattle.list_leaves.specs.declared.kept.Kept.{Kept}
use Rattle.list_leaves.specs.declared.kept.Kept.TheVariants as kept

abbrev pub kept_values : Kept → List Value
kept_values (kept.Numbers numbers) = map Num numbers
kept_values (kept.Values values) = values
