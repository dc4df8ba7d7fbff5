use Rattle.std.proofs.Common.{◌≡◌, ℕ, ◌-◌, ◌<◌, ◌≤◌, false, get_or, length, vec_capacity}
use mathlib.Core.Option.{some}
use lib.ListN.{get_elem?}
use Rattle.std.specs.Mem.Slots.{slots_filled, slots_items, slots_len}
use Rattle.std.specs.Mem.Slots.Ownership.{Filled}
use Rattle.piece_claims.specs.declared.board.Slot.TheVariants.{Done}
use Rattle.piece_claims.proofs.claiming.take_home.Given as goal

abbrev pub invariant-loop-number : goal.invariant-loop-number
invariant-loop-number g l =
    Filled (slots_filled l.closed.slots) l.number (slots_len l.closed.slots)
    × ((k : ℕ) → k < l.number → get_or (slots_filled l.closed.slots) k false ≡ false)
    × (slots_items l.closed.slots ≡ slots_items l.initial.closed.slots)
    × (slots_len l.closed.slots ≡ slots_len l.initial.closed.slots)
    × (l.number ≤ l.fn.count)
    × (length l.outcomes.items ≡ l.number)
    × (l.fn.count ≤ vec_capacity l.outcomes)
    × ((k : ℕ) (x : _) → get_elem? l.outcomes.items k ≡ some x → get_elem? (slots_items l.closed.slots) k ≡ some (Done x))

abbrev pub decreases-loop-number : goal.decreases-loop-number
decreases-loop-number g l = l.count - l.number
