use Rattle.std.proofs.Common.{Err, subst, sym}
use Rattle.refusals.specs.declared.why.RequestFault.{RequestFault}
use Rattle.request_rules.specs.Views.{schema_of}
use Rattle.script_text.specs.Answers.{IsScriptAnswer}
use Rattle.script_text.proofs.Read.{table_refused, whole_read}
use Rattle.script_text.proofs.Stepped.{views_none}
use Rattle.script_text.proofs.reading.read_script.Goals as goal

pub read_lines-requires-clause-sessions : goal.read_lines-requires-clause-sessions
read_lines-requires-clause-sessions c = c.of_table.ensures.sessions c.args.text.now

pub read_lines-requires-clause-views : goal.read_lines-requires-clause-views
read_lines-requires-clause-views c =
    views_none c.of_table.result.views c.in-Ok.schema c.of_table.ensures.table c.of_table.ensures.views c.in-Ok.ensures.few c.in-Ok.ensures.legal

pub returns-in-Ok-clause-script : goal.returns-in-Ok-clause-script
returns-in-Ok-clause-script c =
    whole_read c.args.text.now c.of_table.result (schema_of c.in-Ok.schema) c.line_1-behind.result.0.now c.line_1-behind.result.1 c.read_lines.result
    (c.of_table.ensures.none c.args.text.now) c.line_1-behind.ensures.line c.line_1-behind.ensures.lines c.in-Ok.ensures.judged c.read_lines.ensures

pub returns-in-Err-clause-script : goal.returns-in-Err-clause-script
returns-in-Err-clause-script c =
    subst (λ (fault : RequestFault). IsScriptAnswer c.args.text.now (Err fault)) (sym c.on_line.ensures)
    (table_refused c.args.text.now c.line_1-behind.result.0.now c.in-Err.refusal c.line_1-behind.ensures.line c.in-Err.ensures.judged)
