use Rattle.std.proofs.Common.{Bool, Ok, subst}
use Rattle.batch_reader.specs.Reading.{schema_types}
use Rattle.batch_reader.specs.Streaming.{ReadsMore}
use Rattle.batch_reader.proofs.Batches.{collected-all, collected-fault, collected-more, collected-none}
use Rattle.batch_reader.proofs.collecting.collect_rows.Goals as goal

pub loop-init : goal.loop-init
loop-init g c =
    collected-none (g.R.StateReader.reads c.args.reader.now) (schema_types c.args.schema.now) c.args.keep.items (g.S.Source.left c.args.source.now) c.args.ahead c.in_ok-stream.stream
    c.in_ok-batch.batch c.in_ok-all.all (g.S.Source.faults c.args.source.now) c.in_ok-stream.ensures.types c.in_ok-stream.ensures.keep c.in_ok-stream.ensures.ahead c.in_ok-stream.ensures.next
    c.in_ok-batch.ensures c.in_ok-all.ensures (c.in_ok-stream.ensures.none (g.R.StateReader.reads c.args.reader.now) (g.S.Source.left c.args.source.now))

pub loop-preserved : goal.loop-preserved
loop-preserved g c =
    let reads = g.R.StateReader.reads c.args.reader.now in
    let mid = g.S.Source.left c.loop.source in
    let now = g.S.Source.left c.next_batch.new.source in
    let one = subst (λ (b : Bool). ReadsMore reads mid now c.loop.stream c.next_batch.new.self c.next_batch.new.batch (Ok b)) c.if-not-more.false c.in-Ok.ensures.rows in
    collected-more reads (schema_types c.args.schema.now) c.args.keep.items (g.S.Source.left c.args.source.now) mid now c.args.ahead c.loop.stream c.next_batch.new.self c.loop.batch c.next_batch.new.batch
    c.loop.all c.append.new.self (g.S.Source.faults c.args.source.now) (g.S.Source.faults c.loop.source) (g.S.Source.faults c.next_batch.new.source)
    c.loop.invariant one c.in-Ok.ensures.types c.in-Ok.ensures.keep c.in-Ok.ensures.of c.in-Ok.ensures.next c.in-Ok-append.ensures.ok c.in-Ok.ensures.cause

pub returns-then-not-more-clause-rows : goal.returns-then-not-more-clause-rows
returns-then-not-more-clause-rows g c =
    let reads = g.R.StateReader.reads c.args.reader.now in
    let mid = g.S.Source.left c.loop.source in
    let now = g.S.Source.left c.next_batch.new.source in
    let one = subst (λ (b : Bool). ReadsMore reads mid now c.loop.stream c.next_batch.new.self c.next_batch.new.batch (Ok b)) c.if-not-more.true c.in-Ok.ensures.rows in
    collected-all reads (schema_types c.args.schema.now) c.args.keep.items (g.S.Source.left c.args.source.now) mid now c.args.ahead c.loop.stream c.next_batch.new.self c.loop.batch c.next_batch.new.batch
    c.loop.all c.append.new.self (g.S.Source.faults c.args.source.now) (g.S.Source.faults c.loop.source) c.loop.invariant one c.in-Ok-append.ensures.ok

pub returns-in-Err-clause-rows : goal.returns-in-Err-clause-rows
returns-in-Err-clause-rows g c =
    collected-fault (g.R.StateReader.reads c.args.reader.now) (schema_types c.args.schema.now) c.args.keep.items (g.S.Source.left c.args.source.now) (g.S.Source.left c.loop.source) (g.S.Source.left c.next_batch.new.source)
    c.args.ahead c.loop.stream c.next_batch.new.self c.loop.batch c.next_batch.new.batch c.loop.all (g.S.Source.faults c.args.source.now) (g.S.Source.faults c.loop.source) c.in-Err.fault
    c.loop.invariant c.in-Err.ensures.rows
