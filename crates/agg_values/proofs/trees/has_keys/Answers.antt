use Rattle.std.proofs.Common.{Bool, List, map, ap, sym, ◌&&◌, ◌∙◌}
use Rattle.std.specs.List.{list_all}
use Rattle.agg_terms.specs.Values as family
use Rattle.agg_terms.specs.Order.{compare}
use Rattle.agg_terms.specs.Fitting.{fits_plain, is_rising}
use Rattle.value_types.specs.Folds.{entry_of, ty_of}
use Rattle.agg_values.proofs.Images.{keyed_at}
use Rattle.agg_values.proofs.trees.has_keys.Goals as goal

pub returns-in-Keyed : goal.returns-in-Keyed
returns-in-Keyed c =
    let test : List (family.Value × family.Tree) → Bool = (λ es. list_all (λ e. fits_plain (ty_of c.args.ty.now) e.0) es && is_rising compare (map (λ e. e.0) es)) in
    c.are_keys.ensures ∙ ap (λ xs. test (map entry_of xs)) c.as_slice.ensures ∙ sym (keyed_at test c.args.tree.now c.in-Keyed.entries c.in-Keyed.is)
