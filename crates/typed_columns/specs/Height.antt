-- How deeply a type is nested.
use Rattle.std.specs.Prelude.{ℕ, ◌+◌, max}
use Rattle.value_types.specs.declared.ty.Ty.{Ty}
use Rattle.value_types.specs.declared.ty.Ty.TheOpen.{Ty-F}
use Rattle.value_types.specs.declared.ty.Ty.TheFolds.{fold-Ty}

-- one layer more around parts of these heights; a state's types count for nothing
abbrev pub height_step : Ty-F ℕ → ℕ
height_step (Ty-F.Arr item) = item + 1
height_step (Ty-F.Map key item) = max key item + 1
height_step (Ty-F.Nullable of) = of + 1
height_step ty = 0

-- how many arrays, maps and Nullables stand one inside another
abbrev pub height : Ty → ℕ
height = fold-Ty ℕ height_step
