use Rattle.std.proofs.Common.{◌≡◌, map, take}
use Rattle.needed_columns.specs.Columns.{place_in}
use Rattle.needed_columns.proofs.places.places_of.Given as goal

-- the places of the columns so far
abbrev pub invariant-loop-column : goal.invariant-loop-column
invariant-loop-column l = l.places ≡ map (place_in l.marks) (take l.column-index l.columns)
