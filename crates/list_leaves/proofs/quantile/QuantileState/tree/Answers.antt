use Rattle.std.proofs.Common.{◌∙◌, ap, map}
use Rattle.std.specs.Ordering.{int_cmp}
use Rattle.agg_terms.specs.Order.{ascending}
use Rattle.value_types.specs.declared.value.Value.TheVariants.{Num}
use Rattle.list_leaves.proofs.Quantiles.{tree_made}
use Rattle.list_leaves.proofs.quantile.QuantileState.tree.Goals as goal

pub returns : goal.returns
returns c =
    tree_made c.in_ok-values_of.field-0 c.in_ok-all.all.items c.args.self.now.numbers (c.in_ok-values_of.ensures ∙ ap (map Num) c.as_slice-2.ensures.value)
    (c.in_ok-all.ensures ∙ ap (ascending int_cmp) c.as_slice.ensures)
