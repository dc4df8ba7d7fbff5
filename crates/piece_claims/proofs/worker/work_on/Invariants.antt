use Rattle.std.proofs.Common.{◌≡◌}
use Rattle.piece_claims.specs.proving.Rule.{IsReady, IsAsRooted}
use Rattle.piece_claims.proofs.worker.work_on.Given as goal

abbrev pub invariant-loop-number : goal.invariant-loop-number
invariant-loop-number g l = (l.place.table_id ≡ l.initial.place.table_id) × IsReady l.place.me × IsAsRooted l.initial.place.me l.place.me

abbrev pub decreases-loop-number : goal.decreases-loop-number
decreases-loop-number g l = l.place.me.0.quota
