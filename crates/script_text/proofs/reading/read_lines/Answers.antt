use Rattle.std.proofs.Common.{Err, subst, sym}
use Rattle.refusals.specs.declared.why.RequestFault.{RequestFault}
use Rattle.script_text.specs.proving.Taking.{ReadsOn}
use Rattle.script_text.proofs.Read.{read_all, read_more, read_refused}
use Rattle.script_text.proofs.reading.read_lines.Goals as goal

pub loop-at-preserved : goal.loop-at-preserved
loop-at-preserved c =
    read_more c.args.text.now c.args.table c.args.from c.loop-at.script c.loop-at.at c.loop-at.number c.line_at-behind.result.1 c.line_at-behind.result.0.now c.in-Ok.step
    c.loop-at.invariant c.line_at-behind.ensures.lines c.line_at-behind.ensures.further c.in-Ok.ensures

pub returns-in-Err : goal.returns-in-Err
returns-in-Err c =
    subst (λ (fault : RequestFault). ReadsOn c.args.text.now c.args.table c.args.from (Err fault)) (sym c.on_line.ensures)
    (read_refused c.args.text.now c.args.table c.args.from c.loop-at.script c.loop-at.at c.loop-at.number c.line_at-behind.result.1 c.line_at-behind.result.0.now c.in-Err.refusal
    c.loop-at.invariant c.line_at-behind.ensures.lines c.in-Err.ensures)

pub returns : goal.returns
returns c = read_all c.args.text.now c.args.table c.args.from c.loop-at.script c.loop-at.at c.loop-at.number c.loop-at.invariant c.loop-at-test.false
