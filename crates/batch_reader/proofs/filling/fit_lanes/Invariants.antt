use Rattle.std.proofs.Common.{◌≡◌, ◌≤◌, length}
use Rattle.batch_reader.specs.proving.Pieces.{AreOf}
use Rattle.batch_reader.proofs.filling.fit_lanes.Given as goal

abbrev pub invariant-loop : goal.invariant-loop
invariant-loop l = record { types : AreOf l.types l.lanes.items; made : length l.lanes.items ≡ l.counter; few : l.counter ≤ l.count }
