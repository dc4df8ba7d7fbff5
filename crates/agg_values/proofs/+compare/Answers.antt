use Rattle.std.proofs.Common.{◌≡◌, ◌∙◌, ap₂, arith, rules}
use Rattle.std.specs.Cmp.Lexicographic.{slice_cmp}
use Rattle.agg_values.specs.proving.Comparing.{keyed_cmp, pair_cmp, tree_cmp, value_cmp}
use Rattle.agg_values.proofs.Compared.{differs, ends}
use Rattle.agg_values.proofs.+compare.Goals as goal

pub order::compare_pairs-returns : goal.order::compare_pairs-returns
order::compare_pairs-returns t c = ends pair_cmp c.args.left.now c.args.right.now c.loop-i.i c.cmp.result c.loop-i.invariant (search rules) (search rules) c.cmp.ensures

pub order::compare_values-returns : goal.order::compare_values-returns
order::compare_values-returns t c = ends value_cmp c.args.a.now c.args.b.now c.loop-i.i c.cmp.result c.loop-i.invariant (search rules) (search rules) c.cmp.ensures

pub tree_order::compare_keyed-returns : goal.tree_order::compare_keyed-returns
tree_order::compare_keyed-returns t c = ends keyed_cmp c.args.a.now c.args.b.now c.loop-i.i c.cmp.result c.loop-i.invariant (search rules) (search rules) c.cmp.ensures

pub tree_order::compare_slots-returns : goal.tree_order::compare_slots-returns
tree_order::compare_slots-returns t c = ends tree_cmp c.args.a.now c.args.b.now c.loop-i.i c.cmp.result c.loop-i.invariant (search rules) (search rules) c.cmp.ensures

pub tree_order::compare_tables-returns : goal.tree_order::compare_tables-returns
tree_order::compare_tables-returns t c = ends (slice_cmp value_cmp) c.args.a.now c.args.b.now c.loop-i.i c.cmp-2.result c.loop-i.invariant (search rules) (search rules) c.cmp-2.ensures

pub tree_order::compare_tables-returns-in_default-cmp : goal.tree_order::compare_tables-returns-in_default-cmp
tree_order::compare_tables-returns-in_default-cmp t c =
    let rows : c.cmp.result ≡ slice_cmp value_cmp c.as_slice-left.result.now c.as_slice-right.result.now =
    ends value_cmp c.as_slice-left.result.now c.as_slice-right.result.now c.loop-j.j c.cmp.result c.loop-j.invariant.0 (search rules) (search rules) c.cmp.ensures in
    differs (slice_cmp value_cmp) c.args.a.now c.args.b.now c.loop-i.i c.index-a-i.result c.index-b-i.result c.cmp.result c.loop-j.invariant.1
    (omega (arith, c.min-i-end.ensures)) (omega (arith, c.min-i-end.ensures)) c.index-a-i.is c.index-b-i.is
    (rows ∙ ap₂ (slice_cmp value_cmp) c.as_slice-left.ensures c.as_slice-right.ensures) c.in_default-cmp.not-Equal
