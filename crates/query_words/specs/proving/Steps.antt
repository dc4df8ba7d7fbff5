-- Options that are read one by one.
use Rattle.std.specs.Prelude.{ℕ, List, [], ◌∷◌, codes, Option, None, Some, option_map, if◌then◌else◌}
use Rattle.std.specs.List.{list_all}
use Rattle.std.specs.Str.{bytes_eq}
use Rattle.query_words.specs.Words.{Setting, at_most_once, both, is_known, number_between, settings_of, values_of}
use Rattle.query_words.specs.declared.options.Options.{Options}

-- one option more, where it didn't stand before
abbrev pub once_more : ℕ → Option ℕ → List ℕ → Option ℕ
once_more most None value = number_between 1 most value
once_more most (Some n) value = None

abbrev pub with_setting : Options → List ℕ → List ℕ → Option Options
with_setting options name value =
    if bytes_eq name (codes "--threads") then option_map (λ n. record { threads = Some n; pieces = options.pieces }) (once_more 32 options.threads value)
    else if bytes_eq name (codes "--pieces") then option_map (λ n. record { threads = options.threads; pieces = Some n }) (once_more 64 options.pieces value)
    else None

-- an option's values behind what was given
abbrev pub once_behind : ℕ → Option ℕ → List (List ℕ) → Option (Option ℕ)
once_behind most None values = at_most_once most values
once_behind most (Some n) [] = Some (Some n)
once_behind most (Some n) (value ∷ more) = None

abbrev pub given_behind : Options → List Setting → Option Options
given_behind options settings =
    if list_all is_known settings
    then both (once_behind 32 options.threads (values_of (codes "--threads") settings)) (once_behind 64 options.pieces (values_of (codes "--pieces") settings))
    else None

-- what options and the words behind them come to
abbrev pub options_behind : Options → List (List ℕ) → Option Options
options_behind options words = elim (settings_of words) [
  | None ↦ None
  | Some settings ↦ given_behind options settings
]
