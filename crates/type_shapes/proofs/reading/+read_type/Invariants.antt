use Rattle.std.proofs.Common.{◌+◌, ◌*◌, ◌≤◌, length, map}
use Rattle.type_shapes.specs.Folds.{shape_of}
use Rattle.type_shapes.proofs.ListsRead.{AtTypes}
use Rattle.type_shapes.proofs.reading.+read_type.Given as goal

-- a type's name takes a level; a list of types, or a type in brackets, takes none

abbrev pub decreases-read_type : goal.decreases-read_type
decreases-read_type l = 4 * l.most

abbrev pub decreases-read_inside : goal.decreases-read_inside
decreases-read_inside l = 4 * l.most + 1

abbrev pub decreases-read_array : goal.decreases-read_array
decreases-read_array l = 4 * l.most + 2

abbrev pub decreases-read_nullable : goal.decreases-read_nullable
decreases-read_nullable l = 4 * l.most + 2

abbrev pub decreases-read_map : goal.decreases-read_map
decreases-read_map l = 4 * l.most + 2

abbrev pub decreases-read_state : goal.decreases-read_state
decreases-read_state l = 4 * l.most + 2

abbrev pub decreases-read_types : goal.decreases-read_types
decreases-read_types l = 4 * l.most + 1

abbrev pub invariant-read_types-loop-after : goal.invariant-read_types-loop-after
invariant-read_types-loop-after l = AtTypes l.most l.text l.rest (map shape_of l.types) × (length l.rest ≤ length l.text)

abbrev pub decreases-read_types-loop-after : goal.decreases-read_types-loop-after
decreases-read_types-loop-after l = length l.rest
