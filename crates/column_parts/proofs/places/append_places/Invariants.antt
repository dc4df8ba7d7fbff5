use Rattle.std.proofs.Common.{◌≡◌, ◌+◌, ◌-◌, ◌++◌, map, take, drop}
use Rattle.column_parts.proofs.places.append_places.Given as goal

abbrev pub invariant-loop-i : goal.invariant-loop-i
invariant-loop-i l = l.starts.items ≡ l.initial.starts.items ++ map (λ place. l.base + place) (take (l.i - 1) (drop 1 l.more))
