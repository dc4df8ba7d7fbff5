use Rattle.std.proofs.Common.{◌≡◌, ◌++◌, length}
use Rattle.tsv_text.specs.Escapes.{escaped}
use Rattle.tsv_text.proofs.escaping.escape.Given as goal

abbrev pub invariant-loop-plain : goal.invariant-loop-plain
invariant-loop-plain l = escaped l.text ≡ l.field.items ++ escaped l.rest

abbrev pub decreases-loop-plain : goal.decreases-loop-plain
decreases-loop-plain l = length l.rest
