use Rattle.std.proofs.Common.{arith}
use Rattle.std.proofs.lemmas.Grind.{common_steps}
use Rattle.batch_reader.proofs.Kept.{kept-all, kept-more, kept-start, kept-stopped, kept-types}
use Rattle.batch_reader.proofs.keeping.keep_lines.Goals as goal

pub loop-left-init : goal.loop-left-init
loop-left-init g c = kept-start (g.R.StateReader.reads c.args.reader.now) c.args.types.now c.args.keep.now c.args.batch.now c.args.text.now c.requires.empty

pub keep_line-requires-clause-types : goal.keep_line-requires-clause-types
keep_line-requires-clause-types g c =
    kept-types (g.R.StateReader.reads c.args.reader.now) c.args.types.now c.args.keep.now c.loop-left.batch c.args.text.now c.loop-left.left.now c.loop-left.invariant

pub loop-left-preserved : goal.loop-left-preserved
loop-left-preserved g c =
    kept-more (g.R.StateReader.reads c.args.reader.now) c.args.types.now c.args.keep.now c.loop-left.batch c.keep_line.new.batch c.args.text.now c.loop-left.left.now
    c.first_line.result.0.now c.first_line.result.1.now c.loop-left.invariant c.first_line.ensures.lines c.in-Ok.ensures

pub returns : goal.returns
returns g c =
    kept-all (g.R.StateReader.reads c.args.reader.now) c.args.types.now c.args.keep.now c.loop-left.batch c.args.text.now c.loop-left.left.now c.loop-left.invariant (grind (arith, common_steps))

pub returns-in-Err : goal.returns-in-Err
returns-in-Err g c =
    kept-stopped (g.R.StateReader.reads c.args.reader.now) c.args.types.now c.args.keep.now c.loop-left.batch c.keep_line.new.batch c.args.text.now c.loop-left.left.now
    c.first_line.result.0.now c.first_line.result.1.now c.in-Err.refusal c.loop-left.invariant c.first_line.ensures.lines c.in-Err.ensures
