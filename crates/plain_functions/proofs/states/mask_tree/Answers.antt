use Rattle.std.proofs.Common.{◌≡◌, length, ap, ◌∙◌, arith}
use Rattle.agg_meaning.proofs.EventLists.{length-met_set}
use Rattle.plain_rows.specs.Rows.{rows_of}
use Rattle.plain_functions.proofs.states.mask_tree.Goals as goal

pub mask_of-mask-requires : goal.mask_of-mask-requires
mask_of-mask-requires c =
    let e : length c.as_slice.result.now ≡ c.args.conditions =
    ap length (c.as_slice.ensures ∙ c.in_ok-set.ensures) ∙ length-met_set c.args.conditions (rows_of c.args.rows.now) in
    omega arith
