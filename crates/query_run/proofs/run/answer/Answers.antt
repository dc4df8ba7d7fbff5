use Rattle.std.proofs.Common.{subst, sym, Err}
use Rattle.query_run.specs.Runs.{IsQueryRun}
use Rattle.query_run.proofs.Batches.{rows-answered, rows-refused}
use Rattle.query_run.proofs.run.answer.Goals as goal

pub returns-in-Ok-answer_rows-clause-text : goal.returns-in-Ok-answer_rows-clause-text
returns-in-Ok-answer_rows-clause-text g c =
    rows-answered g.S.Source.left c.args.source.now c.read_head.new.source c.answer_rows.new.source c.read_head.new.ahead c.in-Ok.query c.in-Ok.ensures.limit c.in-Ok.ensures.head
    c.in-Ok-answer_rows.text.items c.in-Ok-answer_rows.ensures.text

pub returns-clause-refused : goal.returns-clause-refused
returns-clause-refused g c =
    subst (λ status. IsQueryRun g.S.Source.left c.args.source.now c.answer_rows.new.source (Err status)) (sym c.status_of.ensures)
    (rows-refused g.S.Source.left c.args.source.now c.read_head.new.source c.answer_rows.new.source c.read_head.new.ahead c.in-Ok.query c.in-Ok.ensures.limit c.in-Ok.ensures.head
    c.in-Err-answer_rows.fault c.in-Err-answer_rows.ensures.fault)
