use Rattle.std.proofs.Common.{Err, sym, subst}
use Rattle.batch_reader.specs.Streaming.{Coming, ReadsMore}
use Rattle.batch_reader.proofs.Streams.{stream-on, stream-refused}
use Rattle.batch_reader.proofs.streaming.RowStream.next_batch.Goals as goal

pub returns-in-Ok-clause-rows : goal.returns-in-Ok-clause-rows
returns-in-Ok-clause-rows g c =
    let reads = g.R.StateReader.reads c.args.reader.now in
    let left = g.S.Source.left c.args.source.now in
    let now = g.S.Source.left c.read_block_of.new.source in
    let before : Coming = record { ahead = c.self.inside.ahead; types = c.self.inside.types.items; keep = c.self.inside.keep.items; next = c.self.inside.next } in
    let after : Coming = record { ahead = c.read_block_of.new.self; types = c.self.inside.types.items; keep = c.self.inside.keep.items; next = c.in-Ok.next } in
    let batch = c.keep_behind.new.batch in
    subst (λ (b : Coming). ReadsMore reads left now b after batch c.stop_answer.result) c.self.view_is
    (subst (ReadsMore reads left now before after batch) (sym c.stop_answer.ensures)
    (stream-on reads left now before after c.deref.result.now c.deref-2.result.now c.read_block_of.new.block c.as_slice-text.result.now batch c.in-Ok.next c.in_ok-stop.stop
    c.in_ok-stop.ensures.block c.as_slice-text.ensures c.deref.ensures.value c.deref-2.ensures.value c.in-Ok.ensures.rows))

pub returns-in-Err-clause-rows : goal.returns-in-Err-clause-rows
returns-in-Err-clause-rows g c =
    let reads = g.R.StateReader.reads c.args.reader.now in
    let left = g.S.Source.left c.args.source.now in
    let now = g.S.Source.left c.read_block_of.new.source in
    let before : Coming = record { ahead = c.self.inside.ahead; types = c.self.inside.types.items; keep = c.self.inside.keep.items; next = c.self.inside.next } in
    let after : Coming = record { ahead = c.read_block_of.new.self; types = c.self.inside.types.items; keep = c.self.inside.keep.items; next = c.self.inside.next } in
    let batch = c.keep_behind.new.batch in
    subst (λ (b : Coming). ReadsMore reads left now b after batch (Err c.in-Err.fault)) c.self.view_is
    (stream-refused reads left now before after c.deref.result.now c.deref-2.result.now c.read_block_of.new.block c.as_slice-text.result.now batch c.in_ok-stop.stop c.in-Err.fault
    c.in_ok-stop.ensures.block c.as_slice-text.ensures c.deref.ensures.value c.in-Err.ensures.rows)

pub returns-in-Err-clause-cause : goal.returns-in-Err-clause-cause
returns-in-Err-clause-cause g c = c.in-Err.ensures.quiet (g.S.Source.faults c.args.source.now) (g.S.Source.faults c.read_block_of.new.source)
