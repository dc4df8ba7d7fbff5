use Rattle.std.proofs.Common.{arith, length}
use Rattle.agg_ports.proofs.Pieces.{Appends-part, all-appended}
use Rattle.agg_ports.proofs.streams.write_through.Goals as goal

pub loop-written-preserved : goal.loop-written-preserved
loop-written-preserved g c =
    Appends-part _ _ _ c.args.piece.now _ _ c.loop-written.invariant c.write_front-count.ensures.front

pub returns-then-is_err-clause-writes : goal.returns-then-is_err-clause-writes
returns-then-is_err-clause-writes g c =
    let whole = all-appended _ _ _ c.args.piece.now c.loop-written.written (omega arith) c.loop-written.invariant c.flush.ensures.bytes in
    record { count = length c.args.piece.now; least = omega arith; within = omega arith; front = whole }
