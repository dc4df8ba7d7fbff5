use Rattle.std.proofs.Common.{◌-◌, length, take}
use Rattle.std.specs.Io.KnownBytes.{Appends}
use Rattle.agg_ports.proofs.streams.write_through.Given as goal

-- what is written stands behind what the writer held
abbrev pub invariant-loop-written : goal.invariant-loop-written
invariant-loop-written g l =
    Appends (g.W.Write.contents l.initial.writer) (g.W.Write.contents l.writer) (take l.written l.piece)

abbrev pub decreases-loop-written : goal.decreases-loop-written
decreases-loop-written g l = length l.piece - l.written
