use Rattle.std.proofs.Common.{vec_len}
use Rattle.field_texts.proofs.step.+step.Given as goal

abbrev pub decreases-step : goal.decreases-step
decreases-step l = vec_len l.goals.now
