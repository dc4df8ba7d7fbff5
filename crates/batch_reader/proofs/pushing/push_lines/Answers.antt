use Rattle.std.proofs.Common.{arith}
use Rattle.std.proofs.lemmas.Grind.{common_steps}
use Rattle.batch_reader.proofs.Pushed.{start, one-more, all-pushed, stopped}
use Rattle.batch_reader.proofs.pushing.push_lines.Goals as goal

pub loop-left-init : goal.loop-left-init
loop-left-init g c = start (g.R.StateReader.reads c.args.reader.now) c.args.batch.now c.args.text.now

pub loop-left-preserved : goal.loop-left-preserved
loop-left-preserved g c =
    one-more (g.R.StateReader.reads c.args.reader.now) c.args.batch.now c.loop-left.batch c.push_line.new.batch c.args.text.now c.loop-left.left.now
    c.first_line.result.0.now c.first_line.result.1.now c.in-Ok.ensures.0 c.loop-left.invariant c.first_line.ensures.lines c.in-Ok.ensures.1 c.in-Ok.ensures.2

pub returns : goal.returns
returns g c =
    all-pushed (g.R.StateReader.reads c.args.reader.now) c.args.batch.now c.loop-left.batch c.args.text.now c.loop-left.left.now c.loop-left.invariant (grind (arith, common_steps))

pub returns-in-Err : goal.returns-in-Err
returns-in-Err g c =
    stopped (g.R.StateReader.reads c.args.reader.now) c.args.batch.now c.loop-left.batch c.push_line.new.batch c.args.text.now c.loop-left.left.now
    c.first_line.result.0.now c.first_line.result.1.now c.in-Err.refusal c.loop-left.invariant c.first_line.ensures.lines c.in-Err.ensures
