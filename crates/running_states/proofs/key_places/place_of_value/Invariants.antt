-- Measures and loop invariants of running_states::key_places::place_of_value.
use Rattle.std.proofs.Common.{◌-◌}
use Rattle.value_types.specs.Folds.{value_of}
use Rattle.running_states.specs.Entries.{keys_in}
use Rattle.running_states.proofs.KeyOrder.{IsNarrowed}
use Rattle.running_states.proofs.key_places.place_of_value.Given as goal

abbrev pub invariant-loop-low : goal.invariant-loop-low
invariant-loop-low l = IsNarrowed (value_of l.key) (keys_in l.entries) l.low l.high

abbrev pub decreases-loop-low : goal.decreases-loop-low
decreases-loop-low l = l.high - l.low
