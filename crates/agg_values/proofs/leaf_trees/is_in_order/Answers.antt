use Rattle.std.proofs.Common.{Bool, List, ◌&&◌, map, ap, sym, ◌∙◌}
use Rattle.agg_terms.specs.Values as family
use Rattle.std.specs.List.{list_all}
use Rattle.agg_terms.specs.Order.{compare}
use Rattle.agg_terms.specs.Fitting.{fits_plain, is_not_falling}
use Rattle.value_types.specs.Folds.{ty_of, value_of}
use Rattle.agg_values.proofs.Images.{values_at}
use Rattle.agg_values.proofs.leaf_trees.is_in_order.Goals as goal

pub returns-in-Values : goal.returns-in-Values
returns-in-Values c =
    let test : List family.Value → Bool = (λ vs. list_all (fits_plain (ty_of c.args.ty.now)) vs && is_not_falling compare vs) in
    c.are_in_order.ensures ∙ ap (λ xs. test (map value_of xs)) c.as_slice.ensures ∙ sym (values_at test c.args.tree.now c.in-Values.values c.in-Values.is)
