use Rattle.std.proofs.Common.{◌≤◌, length, map}
use Rattle.chain_params.specs.Literals.{literal_of}
use Rattle.type_shapes.proofs.ListsRead.{AtLiterals}
use Rattle.type_shapes.proofs.reading.read_literals.Given as goal

abbrev pub invariant-loop-first : goal.invariant-loop-first
invariant-loop-first l = AtLiterals l.text l.rest (map literal_of l.literals) × (length l.rest ≤ length l.text)

abbrev pub decreases-loop-first : goal.decreases-loop-first
decreases-loop-first l = length l.rest
