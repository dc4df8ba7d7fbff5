use Rattle.std.proofs.Common.{vec_len}
use Rattle.field_texts.proofs.judge.+may_end.Given as goal

abbrev pub decreases-may_end : goal.decreases-may_end
decreases-may_end l = vec_len l.goals.now
