-- Which columns a view names, and what their numbers are among themselves.
use Rattle.std.specs.Prelude.{ℕ, zero, suc, ◌==◌, ◌||◌, Bool, true, false, List, [], ◌∷◌, map}
use Rattle.std.specs.List.{list_any}
use Rattle.agg_terms.specs.Lists.{places}
use Rattle.agg_meaning.specs.Views.{Call, View}
use Rattle.agg_defs.specs.declared.schema.Schema.{Schema}
use Rattle.quick_rows.specs.Keeping.{kept}

-- the column is an argument of the call
abbrev pub is_argument : ℕ → Call → Bool
is_argument column call = list_any (λ i. i == column) call.columns

-- the view names the column, as a key or as an argument
abbrev pub is_named : View → ℕ → Bool
is_named v column = list_any (λ i. i == column) v.keys || list_any (is_argument column) v.calls

-- a mark for each of so many columns: whether the view names it
abbrev pub marks_of : ℕ → View → List Bool
marks_of columns v = map (is_named v) (places 0 columns)

-- a column's number among the marked ones: how many of these stand before it
abbrev pub place_in : List Bool → ℕ → ℕ
place_in [] column = zero
place_in (mark ∷ marks) zero = zero
place_in (true ∷ marks) (suc column) = suc (place_in marks column)
place_in (false ∷ marks) (suc column) = place_in marks column

-- the call and the view over the marked columns
abbrev pub narrowed_call : List Bool → Call → Call
narrowed_call marks c = record { chain = c.chain; types = c.types; columns = map (place_in marks) c.columns }

abbrev pub narrowed : List Bool → View → View
narrowed marks v = record { keys = map (place_in marks) v.keys; calls = map (narrowed_call marks) v.calls }

-- the table of the marked columns
abbrev pub kept_schema : List Bool → Schema → Schema
kept_schema marks schema = record { columns = kept marks schema.columns }
