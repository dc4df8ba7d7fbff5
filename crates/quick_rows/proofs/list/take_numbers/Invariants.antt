use Rattle.std.proofs.Common.{length}
use Rattle.quick_rows.specs.Taking.{numbers_seen}
use Rattle.quick_rows.proofs.ListLaws.{Listed}
use Rattle.quick_rows.proofs.list.take_numbers.Given as goal

abbrev pub invariant-loop-number : goal.invariant-loop-number
invariant-loop-number l = Listed (numbers_seen l.initial.numbers) (numbers_seen l.numbers) l.inside l.left

abbrev pub decreases-loop-number : goal.decreases-loop-number
decreases-loop-number l = length l.left
