use Rattle.std.proofs.Common.{◌∙◌, ap, map}
use Rattle.value_types.specs.Folds.{value_of}
use Rattle.list_leaves.proofs.Items.{values_read}
use Rattle.list_leaves.proofs.array.values_in.Goals as goal

pub returns-in-Values : goal.returns-in-Values
returns-in-Values c = ap (map value_of) c.as_slice.ensures ∙ values_read c.args.tree.now c.in-Values.values c.in-Values.is
