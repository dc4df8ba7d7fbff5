use Rattle.std.proofs.Common.{◌≡◌, drop}
use Rattle.std.specs.Cmp.Lexicographic.{slice_cmp}
use Rattle.agg_values.specs.proving.Comparing.{keyed_cmp, pair_cmp, tree_cmp, value_cmp}
use Rattle.agg_values.proofs.+compare.Given as goal

-- what is left decides
abbrev pub invariant-order::compare_values-loop-i : goal.invariant-order::compare_values-loop-i
invariant-order::compare_values-loop-i l = slice_cmp value_cmp (drop l.i l.a) (drop l.i l.b) ≡ slice_cmp value_cmp l.a l.b

abbrev pub invariant-order::compare_pairs-loop-i : goal.invariant-order::compare_pairs-loop-i
invariant-order::compare_pairs-loop-i l = slice_cmp pair_cmp (drop l.i l.left) (drop l.i l.right) ≡ slice_cmp pair_cmp l.left l.right

abbrev pub invariant-tree_order::compare_tables-loop-i : goal.invariant-tree_order::compare_tables-loop-i
invariant-tree_order::compare_tables-loop-i l = slice_cmp (slice_cmp value_cmp) (drop l.i l.a) (drop l.i l.b) ≡ slice_cmp (slice_cmp value_cmp) l.a l.b

abbrev pub invariant-tree_order::compare_slots-loop-i : goal.invariant-tree_order::compare_slots-loop-i
invariant-tree_order::compare_slots-loop-i l = slice_cmp tree_cmp (drop l.i l.a) (drop l.i l.b) ≡ slice_cmp tree_cmp l.a l.b

abbrev pub invariant-tree_order::compare_keyed-loop-i : goal.invariant-tree_order::compare_keyed-loop-i
invariant-tree_order::compare_keyed-loop-i l = slice_cmp keyed_cmp (drop l.i l.a) (drop l.i l.b) ≡ slice_cmp keyed_cmp l.a l.b

abbrev pub invariant-tree_order::compare_tables-loop-j : goal.invariant-tree_order::compare_tables-loop-j
invariant-tree_order::compare_tables-loop-j l =
    (slice_cmp value_cmp (drop l.j l.left) (drop l.j l.right) ≡ slice_cmp value_cmp l.left l.right)
    × (slice_cmp (slice_cmp value_cmp) (drop l.i l.a) (drop l.i l.b) ≡ slice_cmp (slice_cmp value_cmp) l.a l.b)
