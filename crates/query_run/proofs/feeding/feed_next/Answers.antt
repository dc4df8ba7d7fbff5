use Rattle.state_codec.specs.Codec.{state_reading}
use Rattle.query_run.proofs.Streamed.{fed-next, fed-refused}
use Rattle.query_run.proofs.feeding.feed_next.Goals as goal

pub returns-in_ok-feed_all-in-Ok-clause-fed : goal.returns-in_ok-feed_all-in-Ok-clause-fed
returns-in_ok-feed_all-in-Ok-clause-fed g c =
    fed-next state_reading (g.S.Source.left c.args.source.now) (g.S.Source.left c.next_batch.new.source) c.args.stream.now c.next_batch.new.self c.next_batch.new.batch c.args.grouping.now c.args.table.now
    c.feed_all.new.table c.in-Ok.more c.in-Ok.ensures.rows c.in-Ok.ensures.next c.in_ok-feed_all-in-Ok.ensures

pub returns-in-Err-clause-fed : goal.returns-in-Err-clause-fed
returns-in-Err-clause-fed g c =
    fed-refused state_reading (g.S.Source.left c.args.source.now) (g.S.Source.left c.next_batch.new.source) c.args.stream.now c.next_batch.new.self c.next_batch.new.batch c.args.grouping.now c.args.table.now
    c.args.table.now c.in-Err.fault c.in-Err.ensures.rows
