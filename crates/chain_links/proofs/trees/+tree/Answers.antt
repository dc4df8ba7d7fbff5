-- Answers of the goals that the search leaves open in chain_links::trees::tree.
use Rattle.std.proofs.Common.{◌≡◌, ◌*◌, ◌<◌, ◌≤◌, suc, arith, ap, ◌∙◌, sym}
use Rattle.chain_links.proofs.Heights.{below_tallest, entry_heights, height, height_Keyed, height_Slots, heights}
use Rattle.chain_links.proofs.trees.+tree.Goals as goal

pub tree-all_trees-requires : goal.tree-all_trees-requires
tree-all_trees-requires t c =
    let e : height c.args.state.now ≡ suc (heights c.as_slice.result.now) = ap height c.in-Slots.is ∙ height_Slots c.in-Slots.slots ∙ ap (λ z. suc (heights z)) (sym c.as_slice.ensures.value) in
    let d : 2 * height c.args.state.now ≡ t = c.decreases in
    let g : suc (2 * heights c.as_slice.result.now) < t = omega arith in
    (g, tt)

pub tree-keyed_trees-requires : goal.tree-keyed_trees-requires
tree-keyed_trees-requires t c =
    let e : height c.args.state.now ≡ suc (entry_heights c.as_slice-in-Keyed.result.now) = ap height c.in-Keyed.is ∙ height_Keyed c.in-Keyed.entries ∙ ap (λ z. suc (entry_heights z)) (sym c.as_slice-in-Keyed.ensures.value) in
    let d : 2 * height c.args.state.now ≡ t = c.decreases in
    let g : suc (2 * entry_heights c.as_slice-in-Keyed.result.now) < t = omega arith in
    (g, tt)

pub all_trees-tree-requires : goal.all_trees-tree-requires
all_trees-tree-requires t c =
    let e : height c.slot-item.result ≤ heights c.args.slots.now = below_tallest height c.args.slots.now c.loop-slot.slot-index c.slot-item.result c.loop-slot-test.true c.slot-item.is in
    let d : suc (2 * heights c.args.slots.now) ≡ t = c.decreases in
    let g : 2 * height c.slot-item.result < t = omega arith in
    (g, tt)

pub keyed_trees-tree-requires : goal.keyed_trees-tree-requires
keyed_trees-tree-requires t c =
    let e : height c.entry-item.result.1 ≤ entry_heights c.args.entries.now = below_tallest (λ z. height z.1) c.args.entries.now c.loop-entry.entry-index c.entry-item.result c.loop-entry-test.true c.entry-item.is in
    let d : suc (2 * entry_heights c.args.entries.now) ≡ t = c.decreases in
    let g : 2 * height c.entry-item.result.1 < t = omega arith in
    (g, tt)
