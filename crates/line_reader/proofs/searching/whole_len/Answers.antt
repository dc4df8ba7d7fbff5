use Rattle.std.proofs.Common.{arith}
use Rattle.line_reader.proofs.Next.{more-unbroken, ends-here, none-unbroken}
use Rattle.line_reader.proofs.searching.whole_len.Goals as goal

pub loop-count-init : goal.loop-count-init
loop-count-init c = record { within = omega arith; unbroken = none-unbroken c.args.text.now }

pub loop-count-preserved : goal.loop-count-preserved
loop-count-preserved c =
    let so_far = c.loop-count.invariant in
    record {
      within = omega (arith, so_far.within);
      unbroken = more-unbroken c.args.text.now c.loop-count.count c.loop-count-test.true so_far.within c.if-text-count-eq10.false so_far.unbroken;
    }

pub returns-then-text-count-eq10-clause-ends : goal.returns-then-text-count-eq10-clause-ends
returns-then-text-count-eq10-clause-ends c =
    ends-here c.args.text.now c.loop-count.count c.loop-count-test.true c.loop-count.invariant.within c.if-text-count-eq10.true
