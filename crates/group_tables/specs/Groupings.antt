-- What a plan made ready asks for.
use Rattle.std.specs.Prelude.{◌≡◌, List, ◌++◌, get_or, map}
use Rattle.agg_terms.specs.Chains as terms
use Rattle.agg_meaning.specs.Results.{result}
use Rattle.agg_meaning.specs.Views.{Call, View}
use Rattle.agg_typing.specs.Views.{IsViewOver}
use Rattle.value_types.specs.Folds.{ty_of}
use Rattle.value_types.specs.declared.ty.Ty.TheVariants as ty
use Rattle.group_tables.specs.declared.grouping.Grouping.{Grouping}
use Rattle.group_tables.specs.Calls.{calls_of}

-- the view
abbrev pub view_of : Grouping → View
view_of g = record { keys = g.keys; calls = calls_of g.calls }

-- it agrees with the types of the columns, and knows those of its keys
pub record IsReady (g : Grouping) : Type 0 where
  pub fits : IsViewOver (map ty_of g.types) (view_of g)
  pub key_types_are : g.key_types ≡ map (λ k. get_or g.types k ty.Str) g.keys

-- the types of the fields of an answer's line, over a table's columns of these types: the keys', and then the results'
abbrev pub answer_types : List terms.Ty → View → List terms.Ty
answer_types types v = map (λ k. get_or types k terms.Str) v.keys ++ map (λ (c : Call). result c.chain c.types) v.calls
