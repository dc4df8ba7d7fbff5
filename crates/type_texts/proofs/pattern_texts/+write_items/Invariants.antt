use Rattle.std.proofs.Common.{length}
use Rattle.type_texts.proofs.pattern_texts.+write_items.Given as goal

abbrev pub decreases-write_items : goal.decreases-write_items
decreases-write_items l = length l.items.now
