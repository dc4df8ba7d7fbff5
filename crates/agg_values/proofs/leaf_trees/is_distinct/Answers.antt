use Rattle.std.proofs.Common.{Bool, List, ◌&&◌, map, ap, sym, ◌∙◌}
use Rattle.agg_terms.specs.Values as family
use Rattle.std.specs.List.{list_all}
use Rattle.agg_terms.specs.Order.{compare_rows}
use Rattle.agg_terms.specs.Fitting.{are_apart, fits_row}
use Rattle.value_types.specs.Folds.{value_of}
use Rattle.agg_values.specs.Peels.{peeled_types}
use Rattle.agg_values.proofs.Images.{rows_at}
use Rattle.agg_values.proofs.leaf_trees.is_distinct.Goals as goal

pub returns-in-Rows : goal.returns-in-Rows
returns-in-Rows c =
    let test : List (List family.Value) → Bool = (λ rs. list_all (fits_row (peeled_types c.args.peels.now c.args.types.now)) rs && are_apart compare_rows rs) in
    c.are_different.ensures ∙ ap (λ xs. test (map (map value_of) xs)) c.as_slice.ensures ∙ sym (rows_at test c.args.tree.now c.in-Rows.rows c.in-Rows.is)
