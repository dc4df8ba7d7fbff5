use Rattle.std.proofs.Common.{subst, sym}
use Rattle.line_forms.specs.Views.{column_of}
use Rattle.line_forms.specs.declared.table.WrittenColumn.{WrittenColumn}
use Rattle.request_rules.specs.Tables.{IsCountableShape}
use Rattle.request_rules.proofs.Places.{countable_at}
use Rattle.request_rules.proofs.tables.judge_columns.Goals as goal

pub judge_column-requires-clause-countable : goal.judge_column-requires-clause-countable
judge_column-requires-clause-countable c =
    subst (λ (column : WrittenColumn). IsCountableShape (column_of column).shape) (sym c.written-item.is)
    (countable_at c.args.columns.now c.loop-written.written-index c.written-item.result c.loop-written-test.true c.requires.countable)
