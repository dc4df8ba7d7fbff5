use Rattle.std.proofs.Common.{map}
use Rattle.value_types.specs.Folds.{ty_of}
use Rattle.key_methods.specs.Figures.{worth}
use Rattle.key_methods.specs.KeyBytes.{values_bytes}
use Rattle.key_columns.proofs.KeyRows.{code_on}
use Rattle.key_columns.proofs.packed.packed_words.Goals as goal

pub loop-row-preserved : goal.loop-row-preserved
loop-row-preserved c =
    code_on (λ vs. worth (values_bytes (map ty_of c.args.types.now) vs)) c.args.columns.now c.args.keys.now c.args.from c.loop-row.row c.loop-row.words.items c.push.new.self.items
    c.packed_row.result c.loop-row.auto.row c.loop-row.invariant c.packed_row.ensures c.in_ok-push.ensures.items
