-- How deeply a type is nested.
use Rattle.std.specs.Prelude.{ℕ, ◌+◌, max}
use Rattle.agg_terms.specs.Chains.{Ty, Arr, MapTy, Nullable}

-- How many arrays, maps and Nullables stand one inside another; a state's types count for nothing.
abbrev pub height : Ty → ℕ
height (Arr t) = height t + 1
height (MapTy k t) = max (height k) (height t) + 1
height (Nullable t) = height t + 1
height t = 0
