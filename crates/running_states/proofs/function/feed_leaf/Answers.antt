-- Answers of the goals that the search leaves open in running_states::function::feed_leaf.
use Rattle.std.proofs.Common.{map}
use Rattle.value_types.specs.Folds.{leaf_of, ty_of}
use Rattle.row_parts.specs.Rows.{arguments}
use Rattle.running_states.proofs.Functions.{flipped, leaf_leaves}
use Rattle.running_states.proofs.function.feed_leaf.Goals as goal

pub returns-then-has_null-clause-row : goal.returns-then-has_null-clause-row
returns-then-has_null-clause-row c = leaf_leaves (leaf_of c.args.leaf.now) (map ty_of c.args.types.now) (arguments c.args.row.now) c.args.state.now (flipped _ _ c.has_null.ensures c.if-has_null.true)
