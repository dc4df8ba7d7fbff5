use Rattle.std.proofs.Common.{map, sym, ◌∙◌}
use Rattle.agg_terms.specs.Fitting.{is_tree}
use Rattle.value_types.specs.Folds.{chain_of, ty_of}
use Rattle.agg_values.proofs.FitsKinds.{cell_at}
use Rattle.agg_values.proofs.value_fits.cell_fits.Goals as goal

pub returns-in-Cell : goal.returns-in-Cell
returns-in-Cell c = c.tree_fits.ensures ∙ sym (cell_at (is_tree (chain_of c.args.chain.now) (map ty_of c.args.args.now)) c.args.value.now c.in-Cell.tree c.in-Cell.is)
