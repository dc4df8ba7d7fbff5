use Rattle.std.proofs.Common.{◌≡◌, ◌-◌, map}
use Rattle.value_types.specs.Folds.{ty_of}
use Rattle.key_methods.specs.Figures.{worth}
use Rattle.key_methods.specs.KeyBytes.{values_bytes}
use Rattle.key_columns.specs.Words.{key_tuples}
use Rattle.key_columns.proofs.packed.packed_words.Given as goal

abbrev pub invariant-loop-row : goal.invariant-loop-row
invariant-loop-row l = l.words.items ≡ map (λ vs. worth (values_bytes (map ty_of l.types) vs)) (key_tuples l.columns l.keys l.from (l.row - l.from))
