use Rattle.std.proofs.Common.{◌≡◌, ◌<◌, ◌^◌, length}
use Rattle.std.specs.Str.Parse.{digits_value_after}
use Rattle.type_shapes.proofs.literal.with_digits.Given as goal

abbrev pub invariant-loop-left : goal.invariant-loop-left
invariant-loop-left l = (digits_value_after 10 l.number l.left ≡ digits_value_after 10 l.initial.number l.digits) × (digits_value_after 10 l.number l.left < 2 ^ 127)

abbrev pub decreases-loop-left : goal.decreases-loop-left
decreases-loop-left l = length l.left
