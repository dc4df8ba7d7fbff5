use Rattle.std.proofs.lemmas.Result.{on_ok_weaker}
use Rattle.value_types.specs.Folds.{pattern_of}
use Rattle.event_leaves.proofs.Matches.{rows_taken}
use Rattle.event_leaves.proofs.matching.MatchState.merge.Goals as goal

pub returns-clause-rows : goal.returns-clause-rows
returns-clause-rows c =
    on_ok_weaker _
    (rows_taken (pattern_of c.args.self.now.pattern) (pattern_of c.args.later.now.pattern) c.args.self.now.rows c.args.later.now.rows c.merge.new.self c.merge.ensures.sound c.merge.ensures.later_sound)
    c.merge.ensures.ok
