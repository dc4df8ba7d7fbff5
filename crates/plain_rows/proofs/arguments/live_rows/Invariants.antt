use Rattle.std.proofs.Common.{◌≡◌, take}
use Rattle.std.specs.Prelude.{filter}
use Rattle.agg_meaning.specs.Feeds.{no_null}
use Rattle.plain_rows.specs.Rows.{rows_of}
use Rattle.plain_rows.proofs.arguments.live_rows.Given as goal

abbrev pub invariant-loop-row : goal.invariant-loop-row
invariant-loop-row l = rows_of l.live ≡ filter no_null (rows_of (take l.row-index l.rows))
