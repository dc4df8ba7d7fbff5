use Rattle.std.proofs.Common.{◌≡◌, ◌++◌, length, take, map}
use Rattle.std.specs.Prelude.{flat_map}
use Rattle.agg_values.specs.Peels.{peeled_types}
use Rattle.value_types.specs.Folds.{chain_of, entry_of, tree_of, ty_of}
use Rattle.state_texts.specs.Texts.{body}
use Rattle.state_texts.specs.proving.Writing.{entry_text}
use Rattle.state_texts.proofs.bodies.+write.Given as goal

abbrev pub invariant-put_slots-loop-slot : goal.invariant-put_slots-loop-slot
invariant-put_slots-loop-slot l = l.out.items ≡ l.fn.out.items ++ (flat_map (body l.version (chain_of l.chain) (peeled_types l.peels l.types)) (map tree_of (take l.slot-index l.slots)))

abbrev pub invariant-put_entries-loop-entry : goal.invariant-put_entries-loop-entry
invariant-put_entries-loop-entry l = l.out.items ≡ l.fn.out.items ++ (flat_map (entry_text (ty_of l.key) (body l.version (chain_of l.chain) (peeled_types l.peels l.types))) (map entry_of (take l.entry-index l.entries)))
