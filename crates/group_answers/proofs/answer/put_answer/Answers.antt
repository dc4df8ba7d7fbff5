use Rattle.std.proofs.lemmas.Result.{on_ok_weaker}
use Rattle.group_answers.proofs.AnswerLines.{all-lines}
use Rattle.group_answers.proofs.answer.put_answer.Goals as goal

pub returns : goal.returns
returns g c =
    on_ok_weaker c.put_groups.result
    (all-lines (g.W.StateWriter.writes c.args.writer.now) c.args.grouping.now c.args.table.now c.in_ok-groups.groups.items c.args.text.now.items c.put_groups.new.text.items c.in_ok-groups.ensures)
    c.put_groups.ensures
