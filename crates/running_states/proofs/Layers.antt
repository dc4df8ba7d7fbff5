-- Each variant of a state: what it holds, and its tree.
use Rattle.std.proofs.Common.{◌≡◌, List, [], ◌∷◌, map, refl, sym, ap, ◌∙◌, Vec, Box, Global}
use Rattle.agg_terms.specs.Chains.{Str}
use Rattle.agg_terms.specs.Values.{Tree, keyed_tree, rows_tree, slots_tree}
use Rattle.boxed_leaves.specs.Boxed as boxed
use Rattle.boxed_leaves.specs.declared.state.BoxedState.{BoxedState}
use Rattle.distinct_rows.specs.Rows.{rows_in}
use Rattle.distinct_rows.specs.declared.rows.DistinctRows.{DistinctRows}
use Rattle.int_leaves.specs.Parts as int
use Rattle.value_types.specs.Folds.{value_of}
use Rattle.value_types.specs.declared.value.Value.{Value as Valued}
use Rattle.running_states.specs.declared.running.Running.{Running}
use Rattle.running_states.specs.declared.running.Running.TheVariants.{Boxed, Int, Keyed, Rows, Slots, rolls-Boxed, rolls-Int, rolls-Keyed, rolls-Rows, rolls-Slots}
use Rattle.running_states.specs.declared.running.Running.TheOpen.{Running-F}
use Rattle.running_states.specs.declared.running.Running.TheViews.{out-Running, out-roll-Running}
use Rattle.running_states.specs.declared.running.Running.TheFolds.{fold-roll-Running}
use Rattle.running_states.specs.Trees.{entry_tree, tree_in, tree_step}
use Rattle.running_states.specs.Entries.{entries_in}

pub out_Int : (s : int.Parts) → out-Running (Int s) ≡ Running-F.Int s
out_Int s = ap out-Running (sym (rolls-Int s)) ∙ out-roll-Running (Running-F.Int s)

pub out_Boxed : (s : BoxedState) → out-Running (Boxed s) ≡ Running-F.Boxed s
out_Boxed s = ap out-Running (sym (rolls-Boxed s)) ∙ out-roll-Running (Running-F.Boxed s)

pub out_Slots : (v : Vec Running Global) → out-Running (Slots v) ≡ Running-F.Slots v
out_Slots v = ap out-Running (sym (rolls-Slots v)) ∙ out-roll-Running (Running-F.Slots v)

pub out_Keyed : (v : Vec (Valued × Running) Global) → out-Running (Keyed v) ≡ Running-F.Keyed v
out_Keyed v = ap out-Running (sym (rolls-Keyed v)) ∙ out-roll-Running (Running-F.Keyed v)

pub out_Rows : (v : Box DistinctRows Global) → out-Running (Rows v) ≡ Running-F.Rows v
out_Rows v = ap out-Running (sym (rolls-Rows v)) ∙ out-roll-Running (Running-F.Rows v)

pub tree_Int : (s : int.Parts) → tree_in (Int s) ≡ (int.held s).tree
tree_Int s = ap tree_in (sym (rolls-Int s)) ∙ fold-roll-Running Tree tree_step (Running-F.Int s)

pub tree_Boxed : (s : BoxedState) → tree_in (Boxed s) ≡ (boxed.held Str s).tree
tree_Boxed s = ap tree_in (sym (rolls-Boxed s)) ∙ fold-roll-Running Tree tree_step (Running-F.Boxed s)

pub tree_Slots : (v : Vec Running Global) → tree_in (Slots v) ≡ slots_tree (map tree_in v.items)
tree_Slots v = ap tree_in (sym (rolls-Slots v)) ∙ fold-roll-Running Tree tree_step (Running-F.Slots v)

one_map : (es : List (Valued × Running)) → map entry_tree (map (λ e. (e.0, tree_in e.1)) es) ≡ entries_in es
one_map [] = refl
one_map (e ∷ es) = ap (◌∷◌ (value_of e.0, tree_in e.1)) (one_map es)

pub tree_Keyed : (v : Vec (Valued × Running) Global) → tree_in (Keyed v) ≡ keyed_tree (entries_in v.items)
tree_Keyed v = ap tree_in (sym (rolls-Keyed v)) ∙ fold-roll-Running Tree tree_step (Running-F.Keyed v) ∙ ap keyed_tree (one_map v.items)

pub tree_Rows : (v : Box DistinctRows Global) → tree_in (Rows v) ≡ rows_tree (rows_in v.value)
tree_Rows v = ap tree_in (sym (rolls-Rows v)) ∙ fold-roll-Running Tree tree_step (Running-F.Rows v)

pub ruleset slot_laws = (out_Int, out_Boxed, out_Slots, out_Keyed, out_Rows, tree_Slots)

pub ruleset key_laws = (out_Int, out_Boxed, out_Slots, out_Keyed, out_Rows, tree_Keyed)

pub ruleset row_laws = (out_Int, out_Boxed, out_Slots, out_Keyed, out_Rows, tree_Rows)

pub ruleset fresh_laws = (out_Slots, out_Keyed, out_Rows, tree_Slots, tree_Keyed, tree_Rows)

pub ruleset copy_laws = (out_Int, out_Boxed, out_Slots, out_Keyed, out_Rows, tree_Slots, tree_Keyed)

pub ruleset tree_laws = (tree_Int, tree_Boxed, tree_Slots, tree_Keyed, tree_Rows)
