use Rattle.std.proofs.Common.{◌≡◌, get_or, map, take}
use Rattle.value_types.specs.declared.ty.Ty.TheVariants as rust
use Rattle.group_tables.proofs.grouping.types_at.Given as goal

abbrev pub invariant-loop-i : goal.invariant-loop-i
invariant-loop-i l = l.at ≡ map (λ k. get_or l.types k rust.Str) (take l.i l.keys)
