use Rattle.query_run.proofs.Answered.{text-is}
use Rattle.query_run.proofs.answer.text_of.Goals as goal

pub returns : goal.returns
returns c = text-is c.args.grouping.now c.args.table.now c.new-text.result.items c.put_answer.new.text.items c.new-text.ensures.items c.in_ok-put_answer.ensures
