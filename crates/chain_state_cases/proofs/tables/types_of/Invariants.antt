use Rattle.std.proofs.Common.{◌≡◌, map, take}
use Rattle.agg_defs.specs.declared.schema.Column.{Column}
use Rattle.chain_state_cases.proofs.tables.types_of.Given as goal

abbrev pub invariant-loop-column : goal.invariant-loop-column
invariant-loop-column l = l.types ≡ map (λ (c : Column). c.ty) (take l.column-index l.columns)
