use Rattle.std.proofs.Common.{◌≡◌, map, take}
use Rattle.plain_rows.specs.Rows.{row_of, rows_of}
use Rattle.std.specs.Prelude.{[], ◌∷◌}
use Rattle.plain_meaning.proofs.passed.single_rows.Given as goal

abbrev pub invariant-loop-value : goal.invariant-loop-value
invariant-loop-value l = rows_of l.rows ≡ map (λ x. x ∷ []) (row_of (take l.value-index l.values))
