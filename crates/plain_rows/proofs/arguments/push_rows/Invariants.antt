use Rattle.std.proofs.Common.{◌≡◌, ◌++◌, take}
use Rattle.plain_rows.proofs.arguments.push_rows.Given as goal

abbrev pub invariant-loop-row : goal.invariant-loop-row
invariant-loop-row l = l.into ≡ l.initial.into ++ take l.row-index l.rows
