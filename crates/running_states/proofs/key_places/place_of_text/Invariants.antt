-- Measures and loop invariants of running_states::key_places::place_of_text.
use Rattle.std.proofs.Common.{◌-◌}
use Rattle.agg_terms.specs.Values.{Bytes}
use Rattle.running_states.specs.Entries.{keys_in}
use Rattle.running_states.proofs.KeyOrder.{IsNarrowed}
use Rattle.running_states.proofs.key_places.place_of_text.Given as goal

abbrev pub invariant-loop-low : goal.invariant-loop-low
invariant-loop-low l = IsNarrowed (Bytes l.text) (keys_in l.entries) l.low l.high

abbrev pub decreases-loop-low : goal.decreases-loop-low
decreases-loop-low l = l.high - l.low
