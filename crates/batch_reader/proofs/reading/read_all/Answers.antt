use Rattle.std.proofs.Common.{List, Result, Err, ap, arith, length, refl, subst, sym, ℕ}
use Rattle.tsv_text.specs.Lines.{lines_of}
use Rattle.columns.specs.Rows.{Rows}
use Rattle.batch_reader.specs.proving.Pushing.{PushesBlock}
use Rattle.batch_reader.specs.Reading.{ReadsRows, RowCause}
use Rattle.batch_reader.specs.declared.fault.RowFault.{RowFault}
use Rattle.batch_reader.proofs.Blocks.{ended, ended-cause, refused-cause}
use Rattle.batch_reader.proofs.Pending.{first-block, last-block, next-block, pending-refused}
use Rattle.batch_reader.proofs.reading.read_all.Goals as goal

pub loop-init : goal.loop-init
loop-init g c =
    first-block (g.R.StateReader.reads c.args.reader.now) c.args.types.now (g.S.Source.left c.args.source.now) (g.S.Source.left c.read_block.new.source)
    c.args.ahead.now c.read_block.new.self c.in_ok-batch.batch c.read_block.new.block c.in_ok-stop.stop (g.S.Source.faults c.args.source.now) (g.S.Source.faults c.read_block.new.source)
    c.new-lanes.result.items c.in_ok-batch.ensures c.in_ok-stop.ensures.block c.in_ok-stop.ensures.cause (λ k d within. absurd (omega (arith, within, ap length c.new-lanes.ensures.items)))

pub loop-preserved : goal.loop-preserved
loop-preserved g c =
    next-block (g.R.StateReader.reads c.args.reader.now) c.args.types.now (g.S.Source.left c.args.source.now) (g.S.Source.left c.loop.source) (g.S.Source.left c.push_and_read.new.source)
    c.args.ahead.now c.loop.ahead c.push_and_read.new.ahead c.loop.batch c.push_and_read.new.batch c.loop.block c.push_and_read.new.block c.loop.stop c.in-Ok.next
    (g.S.Source.faults c.args.source.now) (g.S.Source.faults c.loop.source) (g.S.Source.faults c.push_and_read.new.source) c.loop.lanes.items c.push_and_read.new.lanes.items
    c.loop.invariant c.in-More.is c.in-Ok.ensures.ok c.in-Ok.ensures.block c.in-Ok.ensures.cause c.in-Ok.ensures.lanes

pub returns-in-Err-clause-rows : goal.returns-in-Err-clause-rows
returns-in-Err-clause-rows g c =
    let reads = g.R.StateReader.reads c.args.reader.now in
    pending-refused reads c.args.types.now (g.S.Source.left c.args.source.now) (g.S.Source.left c.loop.source) (g.S.Source.left c.push_and_read.new.source)
    c.args.ahead.now c.loop.ahead c.loop.batch c.push_and_read.new.batch c.loop.block c.loop.stop (g.S.Source.faults c.args.source.now) (g.S.Source.faults c.loop.source) c.loop.lanes.items
    c.refused_behind.result c.loop.invariant (c.refused_behind.ensures reads c.loop.batch (lines_of c.loop.block) c.in-Err.ensures.err)

pub returns-in-Err-clause-cause : goal.returns-in-Err-clause-cause
returns-in-Err-clause-cause g c =
    let reads = g.R.StateReader.reads c.args.reader.now in
    refused-cause reads c.loop.batch c.push_and_read.new.batch (lines_of c.loop.block) (g.S.Source.faults c.args.source.now) (g.S.Source.faults c.push_and_read.new.source)
    c.refused_behind.result (c.refused_behind.ensures reads c.loop.batch (lines_of c.loop.block) c.in-Err.ensures.err)

pub returns-in-Err-push_last-clause-rows : goal.returns-in-Err-push_last-clause-rows
returns-in-Err-push_last-clause-rows g c =
    let reads = g.R.StateReader.reads c.args.reader.now in
    let pushed = subst (λ (text : List ℕ). PushesBlock reads c.loop.batch (lines_of text) c.push_last.new.batch (Err c.in-Err-push_last.fault)) c.as_slice-text.ensures c.in-Err-push_last.ensures in
    pending-refused reads c.args.types.now (g.S.Source.left c.args.source.now) (g.S.Source.left c.loop.source) (g.S.Source.left c.loop.source)
    c.args.ahead.now c.loop.ahead c.loop.batch c.push_last.new.batch c.loop.block c.loop.stop (g.S.Source.faults c.args.source.now) (g.S.Source.faults c.loop.source) c.loop.lanes.items
    c.in-Err-push_last.fault c.loop.invariant pushed

pub returns-in-Ok-push_last-clause-rows : goal.returns-in-Ok-push_last-clause-rows
returns-in-Ok-push_last-clause-rows g c =
    let reads = g.R.StateReader.reads c.args.reader.now in
    let left = g.S.Source.left c.args.source.now in
    let now = g.S.Source.left c.loop.source in
    let n = c.in-Ok-push_last.next in
    let exit = last-block reads c.args.types.now left now c.args.ahead.now c.loop.ahead c.loop.batch c.push_last.new.batch c.loop.block c.as_slice-text.result.now c.loop.stop c.loop.stop
    (g.S.Source.faults c.args.source.now) (g.S.Source.faults c.loop.source) n c.loop.lanes.items c.loop.invariant c.as_slice-text.ensures c.in-Ok-push_last.ensures refl in
    subst (λ (answer : Result Rows RowFault). ReadsRows reads c.args.types.now left now c.args.ahead.now answer) (sym c.ending.ensures)
    (ended reads c.args.types.now left now c.args.ahead.now c.loop.ahead c.push_last.new.batch n c.loop.stop exit)

pub returns-in-Ok-push_last-clause-cause : goal.returns-in-Ok-push_last-clause-cause
returns-in-Ok-push_last-clause-cause g c =
    let so_far = c.loop.invariant in
    subst (λ (answer : Result Rows RowFault). RowCause (g.S.Source.faults c.args.source.now) (g.S.Source.faults c.loop.source) answer) (sym c.ending.ensures)
    (ended-cause (g.S.Source.faults c.args.source.now) so_far.faults (g.S.Source.faults c.loop.source) c.in-Ok-push_last.next c.push_last.new.batch c.loop.stop so_far.quiet so_far.cause)
