use Rattle.std.proofs.Common.{map}
use Rattle.std.proofs.lemmas.Result.{on_ok_weaker}
use Rattle.event_leaves.specs.Rows.{argument}
use Rattle.value_types.specs.Folds.{pattern_of}
use Rattle.event_leaves.proofs.Matches.{row_taken}
use Rattle.event_leaves.proofs.matching.MatchState.feed_items.Goals as goal

pub returns-clause-row : goal.returns-clause-row
returns-clause-row c =
    on_ok_weaker _ (row_taken (pattern_of c.args.self.now.pattern) c.args.self.now.rows c.feed.new.self (map argument c.args.row.now) c.feed.ensures.sound) c.feed.ensures.ok
