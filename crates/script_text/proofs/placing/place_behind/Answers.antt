use Rattle.std.proofs.Common.{arith}
use Rattle.script_text.proofs.Placed.{pass_none, pass_one, pass_ends, all_passed}
use Rattle.script_text.proofs.placing.place_behind.Goals as goal

pub loop-left-init : goal.loop-left-init
loop-left-init c = pass_none c.args.text.now c.args.at c.args.count c.requires.within

pub loop-left-preserved : goal.loop-left-preserved
loop-left-preserved c =
    pass_one c.args.text.now c.args.at c.args.count c.loop-left.left c.loop-left.to c.line_at-to.result.1 c.line_at-to.result.0.now
    c.loop-left.invariant c.loop-left-test.true c.line_at-to.ensures.lines c.line_at-to.ensures.within

pub returns-then-to-text : goal.returns-then-to-text
returns-then-to-text c = pass_ends c.args.text.now c.args.at c.args.count c.loop-left.left c.loop-left.to c.loop-left.invariant c.loop-left-test.true c.if-to-text.true

pub returns : goal.returns
returns c =
    all_passed c.args.text.now c.args.at c.args.count c.loop-left.left c.loop-left.to c.requires.within c.loop-left.invariant (let e = c.loop-left-test.false in omega (arith, e))
