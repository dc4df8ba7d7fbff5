use Rattle.std.proofs.Common.{ap, length, nat_eq, sym, ◌∙◌}
use Rattle.std.proofs.lemmas.List.{length-map}
use Rattle.value_types.specs.Folds.{tree_of}
use Rattle.agg_values.proofs.Images.{slots_at}
use Rattle.agg_values.proofs.trees.has_places.Goals as goal

pub returns-in-Slots : goal.returns-in-Slots
returns-in-Slots c =
    let n = c.args.count in
    ap (λ k. nat_eq k n) (c.len.ensures ∙ sym (length-map c.in-Slots.slots tree_of)) ∙ sym (slots_at (λ slots. nat_eq (length slots) n) c.args.tree.now c.in-Slots.slots c.in-Slots.is)
