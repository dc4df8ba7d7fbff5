use Rattle.std.proofs.Common.{◌≡◌, ◌++◌, map}
use Rattle.value_types.specs.Folds.{value_of}
use Rattle.state_codec.specs.proving.Views.{kept_rows}
use Rattle.state_codec.proofs.distinct.rows_of.Given as goal

-- the tuples so far, and those that are left
abbrev pub invariant-loop-tuple : goal.invariant-loop-tuple
invariant-loop-tuple l = map (map value_of) l.rows ++ kept_rows l.tuple-iterator ≡ kept_rows l.fn.seen.keys
