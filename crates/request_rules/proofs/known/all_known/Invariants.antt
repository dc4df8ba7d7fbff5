use Rattle.std.proofs.Common.{◌≡◌, List, length, map}
use Rattle.line_forms.specs.Views.{name_of}
use Rattle.request_rules.specs.Selects.{Named, known, all_known}
use Rattle.request_rules.specs.Views.{column_of, named_of}
use Rattle.request_rules.proofs.InTurn.{AtPart}
use Rattle.request_rules.proofs.known.all_known.Given as goal

abbrev pub invariant-loop-name : goal.invariant-loop-name
invariant-loop-name l =
    AtPart (λ (_ : List Named). known (map column_of l.columns)) named_of name_of (all_known (map column_of l.columns) (map name_of l.names)) l.names l.name-index l.found.items
    × (length l.found.items ≡ l.name-index)
