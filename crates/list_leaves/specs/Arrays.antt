-- The state of groupArray that a state of the code is. It keeps no type: it is one for each type of a result.
use Rattle.std.specs.Prelude.{map}
use Rattle.agg_terms.specs.Chains.{GroupArray, Ty}
use Rattle.agg_terms.specs.Values.{values_tree}
use Rattle.agg_meaning.specs.States.{Held}
use Rattle.value_types.specs.Folds.{value_of}
use Rattle.list_leaves.specs.Kept.{kept_values}
use Rattle.list_leaves.specs.Limits.{limit_of}
use Rattle.list_leaves.specs.declared.array.ArrayState.{ArrayState}

abbrev pub held : Ty → ArrayState → Held
held t s = record {
  made = record { leaf = GroupArray (limit_of s.limit.beyond_first); result = t; arguments = 1 };
  tree = values_tree (map value_of (kept_values s.values));
}
