use Rattle.std.proofs.Common.{◌≡◌, ◌+◌, length, take}
use Rattle.batch_reader.specs.proving.Joining.{AreFit}
use Rattle.batch_reader.specs.proving.Pieces.{rows_in}
use Rattle.batch_reader.proofs.joining.count_all.Given as goal

abbrev pub invariant-loop-lane : goal.invariant-loop-lane
invariant-loop-lane l = record { total : l.total ≡ l.count + length (rows_in (take l.lane-index l.lanes)); fit : AreFit (take l.lane-index l.lanes) }
