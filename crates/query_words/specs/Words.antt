-- What the words of a command line ask for. The first is the name of a command; behind `query` and `script` stand options,
-- behind `make` two numbers.
use Rattle.std.specs.Prelude.{◌≤◌, ℕ, ◌==◌, ◌&&◌, ◌||◌, Bool, nat_le, List, [], ◌∷◌, length, map, codes, String, string_bytes, Option, None, Some, option_map, unwrap_or, if◌then◌else◌}
use Rattle.std.specs.Global.{Global}
use Rattle.std.specs.List.{after_first, before_first, filter, list_all, list_any}
use Rattle.std.specs.Char.{is_ascii_digit}
use Rattle.std.specs.Str.{bytes_eq}
use Rattle.std.specs.Str.Parse.{digits_value}
use Rattle.query_words.specs.declared.command.Command.{Command}
use Rattle.query_words.specs.declared.command.Command.TheVariants.{Make, Query, Script}
use Rattle.query_words.specs.declared.options.Options.{Options}

-- the words as texts
abbrev pub texts_of : List (String Global) → List (List ℕ)
texts_of words = map (λ word. string_bytes word) words

-- Numbers.

-- a number has 1 to 20 digits and no sign
abbrev pub is_number : List ℕ → Bool
is_number word = list_all is_ascii_digit word && (nat_le 1 (length word) && nat_le (length word) 20)

-- the number that a word is, from `least` to `most`
abbrev pub number_between : ℕ → ℕ → List ℕ → Option ℕ
number_between least most word =
    if is_number word && (nat_le least (digits_value 10 word) && nat_le (digits_value 10 word) most) then Some (digits_value 10 word) else None

-- Options.

-- an option as it is written: its name and its value
abbrev pub Setting : Type 0
Setting = List ℕ × List ℕ

abbrev pub is_equals : ℕ → Bool
is_equals b = b == 61

-- The options that words are, each `--name=V` in one word or `--name V` in two; none where the last has no value.
abbrev pub settings_of : List (List ℕ) → Option (List Setting)
settings_of [] = Some []
settings_of (word ∷ []) = if list_any is_equals word then Some ((before_first is_equals word, after_first is_equals word) ∷ []) else None
settings_of (word ∷ next ∷ words) =
    if list_any is_equals word
    then option_map (λ more. (before_first is_equals word, after_first is_equals word) ∷ more) (settings_of (next ∷ words))
    else option_map (λ more. (word, next) ∷ more) (settings_of words)

abbrev pub has_name : List ℕ → Setting → Bool
has_name name setting = bytes_eq setting.0 name

-- there are two options
abbrev pub is_known : Setting → Bool
is_known setting = has_name (codes "--threads") setting || has_name (codes "--pieces") setting

-- the values that an option is given, in their order
abbrev pub values_of : List ℕ → List Setting → List (List ℕ)
values_of name settings = map (λ setting. setting.1) (filter (has_name name) settings)

-- An option may stand once, with a number from 1 to `most`; none where its values break this.
abbrev pub at_most_once : ℕ → List (List ℕ) → Option (Option ℕ)
at_most_once most [] = Some None
at_most_once most (value ∷ []) = option_map (λ n. Some n) (number_between 1 most value)
at_most_once most (value ∷ other ∷ more) = None

abbrev pub both : Option (Option ℕ) → Option (Option ℕ) → Option Options
both None pieces = None
both (Some threads) None = None
both (Some threads) (Some pieces) = Some (record { threads = threads; pieces = pieces })

-- the two options as they are given
abbrev pub given : List Setting → Option Options
given settings =
    if list_all is_known settings then both (at_most_once 32 (values_of (codes "--threads") settings)) (at_most_once 64 (values_of (codes "--pieces") settings)) else None

abbrev pub options_of : List (List ℕ) → Option Options
options_of words = elim (settings_of words) [
  | None ↦ None
  | Some settings ↦ given settings
]

-- Commands.

abbrev pub query_with : Options → Command
query_with options = Query (unwrap_or options.threads 1) (unwrap_or options.pieces 1)

abbrev pub query_of : List (List ℕ) → Option Command
query_of words = option_map query_with (options_of words)

-- a script has no pieces
abbrev pub script_with : Option ℕ → Option ℕ → Option Command
script_with threads None = Some (Script (unwrap_or threads 32))
script_with threads (Some pieces) = None

abbrev pub script_of : List (List ℕ) → Option Command
script_of words = elim (options_of words) [
  | None ↦ None
  | Some options ↦ script_with options.threads options.pieces
]

abbrev pub make_with : Option ℕ → Option ℕ → Option Command
make_with None rows = None
make_with (Some number) None = None
make_with (Some number) (Some rows) = Some (Make number rows)

-- a number of 64 bits, and at most 1,000,000 rows
abbrev pub make_of : List (List ℕ) → Option Command
make_of [] = None
make_of (one ∷ []) = None
make_of (number ∷ rows ∷ []) = make_with (number_between 0 18446744073709551615 number) (number_between 0 1000000 rows)
make_of (one ∷ two ∷ three ∷ more) = None

-- The command that words ask for; every other list of words asks for none.
abbrev pub command_of : List (List ℕ) → Option Command
command_of [] = None
command_of (name ∷ words) =
    if bytes_eq name (codes "query") then query_of words
    else if bytes_eq name (codes "script") then script_of words
    else if bytes_eq name (codes "make") then make_of words
    else None

-- The numbers of a command are in their ranges.
abbrev pub IsInRange : Command → Type 0
IsInRange (Query threads pieces) = (1 ≤ threads) × (threads ≤ 32) × (1 ≤ pieces) × (pieces ≤ 64)
IsInRange (Script threads) = (1 ≤ threads) × (threads ≤ 32)
IsInRange (Make number rows) = rows ≤ 1000000
