use Rattle.std.proofs.Common.{◌≡◌}
use Rattle.turnstile_tests.proofs.sessions.session.Given as goal

abbrev pub invariant-loop-seq : goal.invariant-loop-seq
invariant-loop-seq g l = l.pass.seat.table_id ≡ l.initial.pass.seat.table_id
