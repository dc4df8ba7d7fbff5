use Rattle.std.proofs.Common.{◌≡◌, length, map}
use Rattle.line_forms.specs.Views as forms
use Rattle.request_rules.specs.Selects.{judged_call, judged_calls}
use Rattle.request_rules.specs.Views.{column_of, call_of}
use Rattle.request_rules.proofs.InTurn.{AtPart}
use Rattle.request_rules.proofs.calls.judge_calls.Given as goal

abbrev pub invariant-loop-written : goal.invariant-loop-written
invariant-loop-written l =
    AtPart (judged_call (map column_of l.columns)) call_of forms.call_of (judged_calls (map column_of l.columns) (map forms.call_of l.calls)) l.calls l.written-index l.judged
    × (length l.judged ≡ l.written-index)
