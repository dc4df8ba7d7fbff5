use Rattle.std.proofs.Common.{◌≡◌, [], length, map}
use Rattle.line_forms.specs.Views as forms
use Rattle.request_rules.specs.Tables.{judged_column}
use Rattle.request_rules.specs.Turns.{in_turn}
use Rattle.request_rules.specs.Views.{column_of}
use Rattle.request_rules.proofs.InTurn.{AtPart}
use Rattle.request_rules.proofs.tables.judge_columns.Given as goal

abbrev pub invariant-loop-written : goal.invariant-loop-written
invariant-loop-written l =
    AtPart judged_column column_of forms.column_of (in_turn judged_column [] (map forms.column_of l.columns)) l.columns l.written-index l.judged
    × (length l.judged ≡ l.written-index)
