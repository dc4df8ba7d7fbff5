use Rattle.std.proofs.Common.{◌≡◌, map, take}
use Rattle.group_keys.proofs.placed.places_of.Given as goal

abbrev pub invariant-loop-key : goal.invariant-loop-key
invariant-loop-key g l = l.places.items ≡ map (λ e. e.place) (take l.key-index l.keys)
