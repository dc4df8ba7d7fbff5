use Rattle.std.proofs.Common.{ap, subst, ◌∙◌, Ok, IfErr, IfOk}
use Rattle.line_reader.specs.Ahead.{Ahead}
use Rattle.request_text.specs.Queries.{IsQueryAnswer}
use Rattle.query_run.specs.proving.Heads.{IsTableLine, RefusesQuery, RefusesTable}
use Rattle.query_run.proofs.Requests.{heads-to, none-second, none-table}
use Rattle.query_run.proofs.head.read_head.Goals as goal

pub returns-in-Err-check_table-clause-head : goal.returns-in-Err-check_table-clause-head
returns-in-Err-check_table-clause-head g c =
    none-table g.S.Source.left c.args.source.now c.args.ahead.now c.requires c.head_line.new.source c.head_line.new.ahead c.in-Ok.table c.in-Ok.ensures.line c.in-Err-check_table.status
    (subst (λ l. RefusesTable l c.in-Err-check_table.status) c.as_slice.ensures c.in-Err-check_table.ensures.refused)

pub returns-in-Ok-head_line-clause-head : goal.returns-in-Ok-head_line-clause-head
returns-in-Ok-head_line-clause-head g c =
    let result = c.query_of.result in
    heads-to g.S.Source.left c.args.source.now c.args.ahead.now c.requires c.head_line.new.source c.head_line.new.ahead c.in-Ok.table c.in-Ok.ensures.line
    (subst IsTableLine c.as_slice.ensures c.in-Ok-check_table.ensures.table) (c.in-Ok.ensures.same ∙ ap (λ (a : Ahead). a.most_line) c.requires)
    c.head_line-2.new.source c.head_line-2.new.ahead c.in-Ok-head_line.request c.in-Ok-head_line.ensures.line result
    (subst (λ l. IfOk result (λ query. IsQueryAnswer l c.in-Ok-head_line.request (Ok query))) c.as_slice-in-Ok-head_line.ensures
    (subst (λ l. IfOk result (λ query. IsQueryAnswer c.as_slice-in-Ok-head_line.result.now l (Ok query))) c.as_slice-in-Ok-head_line-2.ensures c.query_of.ensures.query))
    (subst (λ l. IfErr result (RefusesQuery l c.in-Ok-head_line.request)) c.as_slice-in-Ok-head_line.ensures
    (subst (λ l. IfErr result (RefusesQuery c.as_slice-in-Ok-head_line.result.now l)) c.as_slice-in-Ok-head_line-2.ensures c.query_of.ensures.refused))

pub returns-clause-head : goal.returns-clause-head
returns-clause-head g c =
    none-second g.S.Source.left c.args.source.now c.args.ahead.now c.requires c.head_line.new.source c.head_line.new.ahead c.in-Ok.table c.in-Ok.ensures.line
    (subst IsTableLine c.as_slice.ensures c.in-Ok-check_table.ensures.table) (c.in-Ok.ensures.same ∙ ap (λ (a : Ahead). a.most_line) c.requires)
    c.head_line-2.new.source c.in-Err-head_line.status c.in-Err-head_line.ensures.line
