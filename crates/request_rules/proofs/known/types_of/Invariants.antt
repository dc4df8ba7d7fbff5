use Rattle.std.proofs.Common.{◌≡◌, take, map}
use Rattle.value_types.specs.Folds.{ty_of}
use Rattle.request_rules.specs.Selects.{named_types}
use Rattle.request_rules.specs.Views.{named_of}
use Rattle.request_rules.proofs.known.types_of.Given as goal

abbrev pub invariant-loop-column : goal.invariant-loop-column
invariant-loop-column l = map ty_of l.types ≡ named_types (map named_of (take l.column-index l.found))
