use Rattle.std.proofs.Common.{◌≡◌, drop, map}
use Rattle.request_rules.specs.Selects.{named_from}
use Rattle.request_rules.specs.Views.{column_of}
use Rattle.request_rules.proofs.known.find.Given as goal

abbrev pub invariant-loop-place : goal.invariant-loop-place
invariant-loop-place l = named_from l.place (map column_of (drop l.place l.columns)) l.name ≡ named_from 0 (map column_of l.columns) l.name
