-- Legal calls and views over the columns of a table.
use Rattle.std.specs.Prelude.{◌≡◌, ◌<◌, ℕ, true, get_or, length, List, map}
use Rattle.agg_terms.specs.Chains.{Str, Ty}
use Rattle.agg_terms.specs.Lists.{Each}
use Rattle.agg_meaning.specs.Views.{Call, View}
use Rattle.agg_typing.specs.Kinds.{is_number_or_text}
use Rattle.agg_typing.specs.Promises.{IsLegalCall}

-- a legal call over columns of these types: its columns are among them, and their types are those of its arguments
abbrev pub IsCallOver : List Ty → Call → Type 0
IsCallOver types call =
    IsLegalCall call.chain call.types
    × Each (λ i. i < length types) call.columns
    × (call.types ≡ map (λ i. get_or types i Str) call.columns)

-- a key over columns of these types: one of them, of a number type, String or Nullable of one
abbrev pub IsKeyOver : List Ty → ℕ → Type 0
IsKeyOver types key = (key < length types) × (is_number_or_text (get_or types key Str) ≡ true)

-- a view over columns of these types
pub record IsViewOver (types : List Ty) (v : View) : Type 0 where
  pub calls : Each (IsCallOver types) v.calls
  pub keys : Each (IsKeyOver types) v.keys
