use Rattle.std.proofs.Common.{◌+◌, ◌-◌, ◌*◌, length}
use Rattle.batch_reader.proofs.apart.+apart.Given as goal

abbrev pub decreases-from_place : goal.decreases-from_place
decreases-from_place g l = 4 * length l.items.now

abbrev pub decreases-first_and_rest : goal.decreases-first_and_rest
decreases-first_and_rest g l = 4 * (length l.first.now + length l.rest.now) - 1

abbrev pub decreases-first_and_rest-behind : goal.decreases-first_and_rest-behind
decreases-first_and_rest-behind g l = 4 * length l.rest.now + 1
