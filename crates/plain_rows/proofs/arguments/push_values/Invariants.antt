use Rattle.std.proofs.Common.{◌≡◌, ◌++◌, take}
use Rattle.plain_rows.proofs.arguments.push_values.Given as goal

abbrev pub invariant-loop-value : goal.invariant-loop-value
invariant-loop-value l = l.into ≡ l.initial.into ++ take l.value-index l.values
