use Rattle.std.proofs.Common.{◌≡◌, take, map}
use Rattle.request_rules.specs.Selects.{places_of}
use Rattle.request_rules.specs.Views.{named_of}
use Rattle.request_rules.proofs.known.places_of.Given as goal

abbrev pub invariant-loop-column : goal.invariant-loop-column
invariant-loop-column l = l.places ≡ places_of (map named_of (take l.column-index l.found))
