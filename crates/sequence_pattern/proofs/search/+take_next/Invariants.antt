use Rattle.std.proofs.Common.{◌≡◌, ◌-◌, length, map, drop}
use Rattle.value_types.specs.Folds.{event_of, item_of, link_of}
use Rattle.sequence_pattern.specs.proving.Fronts.{AreFronts, next_place}
use Rattle.sequence_pattern.proofs.search.+take_next.Given as goal

abbrev pub decreases-take_next : goal.decreases-take_next
decreases-take_next l = length l.fronts.now

abbrev pub invariant-loop-follows : goal.invariant-loop-follows
invariant-loop-follows l = record {
  here : next_place l.fronts ≡ l.place;
  fronts : AreFronts (map item_of l.items) (map link_of l.links) (map event_of l.events) l.fronts;
}

abbrev pub decreases-loop-follows : goal.decreases-loop-follows
decreases-loop-follows l = length l.events - next_place (drop 1 l.fronts)
