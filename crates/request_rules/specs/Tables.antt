-- The rules on a table, and which of them is broken first.
use Rattle.std.specs.Prelude.{◌≡◌, ℕ, suc, Bool, true, not, nat_le, List, [], ◌∷◌, length, map, Option, Some, None, is_some, Result, Ok, Err}
use Rattle.std.specs.List.{list_all, list_any}
use Rattle.std.specs.Str.{bytes_eq}
use Rattle.agg_terms.specs.Chains.{Ty}
use Rattle.agg_typing.specs.Legal.{are_legal_types}
use Rattle.line_forms.specs.Letters.{Name}
use Rattle.line_forms.specs.Tables as written
use Rattle.refusals.specs.declared.why.LimitName.{LimitName}
use Rattle.refusals.specs.declared.why.Why.{Why}
use Rattle.request_rules.specs.Turns.{and_then, check, at_part, in_turn}
use Rattle.shape_types.specs.Countable.{IsCountable}
use Rattle.shape_types.specs.Types.{type_of_shape}
use Rattle.type_shapes.specs.Shapes.{Shape}

-- a column of a table: its name and its type
pub record Column : Type 0 where
  pub name : List ℕ
  pub ty : Ty

-- Limit: a table has at most 64 columns.
abbrev pub has_few_columns : List written.Column → Result (Unit {0}) Why
has_few_columns columns = check (nat_le (length columns) 64) (Why.Limit LimitName.Columns)

-- whether the types of all columns stand in one another at most 16 deep
abbrev pub are_within_depth : List written.Column → Bool
are_within_depth columns = list_all (λ (c : written.Column). is_some c.shape) columns

-- Limit: types stand in one another at most 16 deep.
abbrev pub has_few_levels : List written.Column → Result (Unit {0}) Why
has_few_levels columns = check (are_within_depth columns) (Why.Limit LimitName.Depth)

-- whether a column has this name
abbrev pub is_among : List Column → List ℕ → Bool
is_among columns name = list_any (λ (c : Column). bytes_eq c.name name) columns

-- Repeated: no column to the left has the name.
abbrev pub is_new : List Column → Name → Result (Unit {0}) Why
is_new before name = check (not (is_among before name.name)) (Why.Repeated name.at)

-- Chain: no state type in the type of the column of this number is refused.
abbrev pub column_type : ℕ → Option Shape → Result Ty Why
column_type number (Some shape) = at_part number (type_of_shape shape)
column_type number None = Err (Why.Limit LimitName.Depth)

-- the rules on a column that stands to the right of these
abbrev pub judged_column : List Column → written.Column → Result Column Why
judged_column before column =
    and_then (is_new before column.name) (λ (_ : Unit {0}).
    and_then (column_type (suc (length before)) column.shape) (λ (ty : Ty).
    Ok (record { name = column.name.name; ty = ty })))

-- The columns that a table stands for, or why it is refused: the limits, and then the columns from left to right.
abbrev pub judged_table : List written.Column → Result (List Column) Why
judged_table columns =
    and_then (has_few_columns columns) (λ (_ : Unit {0}).
    and_then (has_few_levels columns) (λ (_ : Unit {0}).
    in_turn judged_column [] columns))

-- a type in whose state types literals and types are fewer than 2^32
abbrev pub IsCountableShape : Option Shape → Type 0
IsCountableShape (Some shape) = IsCountable shape
IsCountableShape None = Unit {0}

-- the same of the types of all columns
abbrev pub AreCountableShapes : List written.Column → Type 0
AreCountableShapes [] = Unit {0}
AreCountableShapes (c ∷ cs) = IsCountableShape c.shape × AreCountableShapes cs

-- the types of these columns are legal
abbrev pub AreLegal : List Column → Type 0
AreLegal columns = are_legal_types (map (λ (c : Column). c.ty) columns) ≡ true
