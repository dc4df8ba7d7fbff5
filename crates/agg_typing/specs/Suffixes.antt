-- The rules on the suffixes of a name alone. Each list of suffixes here begins with the outermost.
use Rattle.std.specs.Prelude.{ℕ, ◌+◌, ◌-◌, nat_le, Bool, true, false, ◌&&◌, ◌||◌, List, [], ◌∷◌, length, Option, Some, None}
use Rattle.std.specs.List.{list_any}
use Rattle.agg_terms.specs.declared.words.LeafName.{LeafName}
use Rattle.agg_terms.specs.declared.words.Suffix.{Suffix}

-- Too many suffixes: a chain has at most eight suffixes (this project's own limit).
abbrev pub most_suffixes : ℕ
most_suffixes = 8

-- no more suffixes than that
abbrev pub has_few_suffixes : List Suffix → Bool
has_few_suffixes outermost_first = nat_le (length outermost_first) most_suffixes

-- whether a suffix is an If
abbrev pub is_if : Suffix → Bool
is_if Suffix.If = true
is_if _ = false

-- Array outside If: an Array stands further out than an If. The manual says that Array comes first in a name ("Aggregate function
-- combinators", -Array); that the whole name is asked is this project's own choice.
abbrev pub has_array_outside_if : List Suffix → Bool
has_array_outside_if [] = false
has_array_outside_if (Suffix.Array ∷ inner) = list_any is_if inner || has_array_outside_if inner
has_array_outside_if (s ∷ inner) = has_array_outside_if inner

-- how few parameters a function takes (manual: "Parametric aggregate functions")
abbrev pub fewest_params : LeafName → ℕ
fewest_params LeafName.WindowFunnel = 1
fewest_params LeafName.SequenceMatch = 1
fewest_params _ = 0

-- how many parameters a function takes at most (manual: the same)
abbrev pub most_params : LeafName → ℕ
most_params LeafName.GroupArray = 1
most_params LeafName.QuantileExact = 1
most_params LeafName.WindowFunnel = 2
most_params LeafName.SequenceMatch = 1
most_params _ = 0

-- three parameters for each Resample: its start, its end and its step
abbrev pub resample_params : List Suffix → ℕ
resample_params [] = 0
resample_params (Suffix.Resample ∷ inner) = resample_params inner + 3
resample_params (s ∷ inner) = resample_params inner

-- Number of parameters: what the Resamples leave of the parameters is a number of parameters that the function takes
-- (this project's own choice).
abbrev pub takes_param_count : LeafName → List Suffix → ℕ → Bool
takes_param_count f outermost_first n =
    nat_le (resample_params outermost_first + fewest_params f) n && nat_le n (resample_params outermost_first + most_params f)

-- How many arguments reach the function, of n that reach the suffixes: an If and a Resample
-- keep one to themselves, a Map passes one on, and inside a Merge there is no such number.
abbrev pub arguments_reaching : List Suffix → ℕ → Option ℕ
arguments_reaching [] n = Some n
arguments_reaching (Suffix.If ∷ inner) n = arguments_reaching inner (n - 1)
arguments_reaching (Suffix.Resample ∷ inner) n = arguments_reaching inner (n - 1)
arguments_reaching (Suffix.MapOf ∷ inner) n = arguments_reaching inner 1
arguments_reaching (Suffix.Merge ∷ inner) n = None
arguments_reaching (s ∷ inner) n = arguments_reaching inner n
