use Rattle.std.proofs.Common.{subst, sym}
use Rattle.answer_texts.specs.Lines.{AreWritten}
use Rattle.group_answers.proofs.AnswerLines.{line-written}
use Rattle.group_answers.proofs.answer.put_group.Goals as goal

pub put_line-requires : goal.put_line-requires
put_line-requires g c =
    let takes = g.W.StateWriter.takes c.args.writer.now in
    subst (AreWritten takes c.args.types.now) (sym c.as_slice.ensures)
    (line-written c.law_meanings_fit.ensures c.law_types.ensures.widths c.args.grouping.now c.args.table.now c.requires.ready c.requires.table takes c.args.types.now c.in_ok-line.line c.args.place c.requires.types c.requires.states c.requires.placed c.in_ok-line.ensures)
