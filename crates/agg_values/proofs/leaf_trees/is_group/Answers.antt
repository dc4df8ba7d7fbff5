use Rattle.std.proofs.Common.{Bool, List, ◌&&◌, length, map, ap, sym, ◌∙◌}
use Rattle.agg_terms.specs.Values as family
use Rattle.std.specs.List.{list_all}
use Rattle.agg_terms.specs.Fitting.{fits_plain, is_up_to}
use Rattle.value_types.specs.Folds.{ty_of, value_of}
use Rattle.agg_values.proofs.Images.{values_at}
use Rattle.agg_values.proofs.leaf_trees.is_group.Goals as goal

pub returns-in-Values : goal.returns-in-Values
returns-in-Values c =
    let test : List family.Value → Bool = (λ vs. list_all (fits_plain (ty_of c.args.ty.now)) vs && is_up_to c.args.most.now (length vs)) in
    c.are_group.ensures ∙ ap (λ xs. test (map value_of xs)) c.as_slice.ensures ∙ sym (values_at test c.args.tree.now c.in-Values.values c.in-Values.is)
