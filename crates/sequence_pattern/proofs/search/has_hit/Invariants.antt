use Rattle.std.proofs.Common.{◌-◌, length, map}
use Rattle.value_types.specs.Folds.{event_of, item_of, link_of}
use Rattle.sequence_pattern.specs.proving.Fronts.{AreFronts, next_place}
use Rattle.sequence_pattern.proofs.search.has_hit.Given as goal

abbrev pub invariant-loop-fronts : goal.invariant-loop-fronts
invariant-loop-fronts l = AreFronts (map item_of l.items) (map link_of l.links) (map event_of l.events) l.fronts

abbrev pub decreases-loop-fronts : goal.decreases-loop-fronts
decreases-loop-fronts l = length l.events - next_place l.fronts
