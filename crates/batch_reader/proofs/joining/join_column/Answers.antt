use Rattle.std.proofs.Common.{◌∙◌}
use Rattle.batch_reader.proofs.Joined.{joins-first}
use Rattle.batch_reader.proofs.joining.join_column.Goals as goal

pub returns-in-Err : goal.returns-in-Err
returns-in-Err c = joins-first c.args.place c.loop-i.i c.args.lanes.now c.args.column.now c.append.new.self (c.in-Err.ensures.err ∙ c.loop-i.invariant)
