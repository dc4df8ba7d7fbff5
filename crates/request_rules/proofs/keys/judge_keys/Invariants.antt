use Rattle.std.proofs.Common.{◌≡◌, drop, map}
use Rattle.line_forms.specs.Views.{name_of}
use Rattle.request_rules.specs.Selects.{judged_key, judged_keys}
use Rattle.request_rules.specs.Turns.{in_turn}
use Rattle.request_rules.specs.Views.{column_of}
use Rattle.request_rules.proofs.keys.judge_keys.Given as goal

abbrev pub invariant-loop-key : goal.invariant-loop-key
invariant-loop-key l =
    in_turn (judged_key (map column_of l.columns)) l.judged (map name_of (drop l.key-index l.keys)) ≡ judged_keys (map column_of l.columns) (map name_of l.keys)
