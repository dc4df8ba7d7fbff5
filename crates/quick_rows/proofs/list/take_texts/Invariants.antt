use Rattle.std.proofs.Common.{length}
use Rattle.quick_rows.specs.Taking.{texts_seen}
use Rattle.quick_rows.proofs.ListLaws.{Listed}
use Rattle.quick_rows.proofs.list.take_texts.Given as goal

abbrev pub invariant-loop-text : goal.invariant-loop-text
invariant-loop-text l = Listed (texts_seen l.initial.texts) (texts_seen l.texts) l.inside l.left

abbrev pub decreases-loop-text : goal.decreases-loop-text
decreases-loop-text l = length l.left
