use Rattle.std.proofs.Common.{arith}
use Rattle.page_events.proofs.Readable.{longer, one-more}
use Rattle.page_events.proofs.events.table.Goals as goal

pub loop-place-preserved : goal.loop-place-preserved
loop-place-preserved c =
    let so_far = c.loop-place.invariant in
    let one = longer c.loop-place.columns c.push.new.self _ c.in_ok-push.ensures.ok in (
      omega (arith, one, so_far.0),
      omega (arith, one, so_far.0, c.loop-place-test.true),
      one-more c.loop-place.columns c.push.new.self _ so_far.2 c.in_ok-ty.ensures c.in_ok-push.ensures.ok,
    )
