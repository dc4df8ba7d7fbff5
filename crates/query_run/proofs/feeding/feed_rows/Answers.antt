use Rattle.std.proofs.Common.{Bool, Ok, refl, subst, ◌∙◌}
use Rattle.state_codec.specs.Codec.{state_reading}
use Rattle.query_run.specs.proving.Feeding.{FeedsMore}
use Rattle.query_run.proofs.Batches.{no-memory}
use Rattle.query_run.proofs.Statuses.{later-cause}
use Rattle.query_run.proofs.Streamed.{fed-last, fed-on, fed-start, fed-wrong}
use Rattle.query_run.proofs.feeding.feed_rows.Goals as goal

pub loop-init : goal.loop-init
loop-init g c = record {
  fed =
      fed-start state_reading c.args.stream.now.types c.args.stream.now.keep (g.S.Source.left c.args.source.now) c.args.stream.now c.args.grouping.now c.args.table.now refl refl c.requires.next
      (c.requires.none (g.S.Source.left c.args.source.now)) c.requires.empty;
  batch = c.requires.batch;
  quiet = refl;
}

pub loop-preserved : goal.loop-preserved
loop-preserved g c =
    let start = g.S.Source.left c.args.source.now in
    let mid = g.S.Source.left c.loop.source in
    let now = g.S.Source.left c.feed_next.new.source in
    let stream = c.args.stream.now in
    let table = c.feed_next.new.table in
    let fed = subst (λ (b : Bool). FeedsMore state_reading mid now c.loop.stream c.feed_next.new.stream c.args.grouping.now c.loop.table table (Ok b)) c.in-Ok-true.field-0-test c.in-Ok-true.ensures.fed in
    record {
      fed =
          fed-on state_reading stream.types stream.keep start mid now stream.ahead c.loop.stream c.feed_next.new.stream c.args.grouping.now c.loop.table table c.loop.invariant.fed fed c.in-Ok-true.ensures.types
          c.in-Ok-true.ensures.keep;
      batch = c.in-Ok-true.ensures.batch ∙ c.loop.invariant.batch;
      quiet = c.in-Ok-true.ensures.cause ∙ c.loop.invariant.quiet;
    }

pub returns-in-Ok-false-clause-fed : goal.returns-in-Ok-false-clause-fed
returns-in-Ok-false-clause-fed g c =
    let start = g.S.Source.left c.args.source.now in
    let mid = g.S.Source.left c.loop.source in
    let now = g.S.Source.left c.feed_next.new.source in
    let stream = c.args.stream.now in
    let table = c.feed_next.new.table in
    let fed = subst (λ (b : Bool). FeedsMore state_reading mid now c.loop.stream c.feed_next.new.stream c.args.grouping.now c.loop.table table (Ok b)) c.in-Ok-false.field-0-test c.in-Ok-false.ensures.fed in
    fed-last state_reading stream.types stream.keep start mid now stream.ahead c.loop.stream c.feed_next.new.stream c.args.grouping.now c.loop.table table c.loop.invariant.fed fed

pub returns-in-Err-clause-fed : goal.returns-in-Err-clause-fed
returns-in-Err-clause-fed g c =
    let stream = c.args.stream.now in
    fed-wrong state_reading stream.types stream.keep (g.S.Source.left c.args.source.now) (g.S.Source.left c.loop.source) (g.S.Source.left c.feed_next.new.source) stream.ahead c.loop.stream c.feed_next.new.stream
    c.args.grouping.now c.loop.table c.feed_next.new.table c.loop.invariant.fed c.in-Err.fault c.in-Err.ensures.fed

pub returns-in-Err-clause-cause : goal.returns-in-Err-clause-cause
returns-in-Err-clause-cause g c =
    later-cause Bool (Unit {0}) (g.S.Source.faults c.args.source.now) (g.S.Source.faults c.loop.source) (g.S.Source.faults c.feed_next.new.source) c.in-Err.fault c.loop.invariant.quiet c.in-Err.ensures.cause

pub returns-clause-fed : goal.returns-clause-fed
returns-clause-fed g c =
    no-memory state_reading c.args.stream.now.types (g.S.Source.left c.args.source.now) (g.S.Source.left c.loop.source) c.args.stream.now.ahead
