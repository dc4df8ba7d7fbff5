use Rattle.std.proofs.Common.{◌<◌, subst}
use Rattle.key_columns.proofs.KeyRows.{key_count}
use Rattle.key_columns.proofs.rows.write_row.Goals as goal

pub key_item-item-requires-clause-i : goal.key_item-item-requires-clause-i
key_item-item-requires-clause-i c =
    subst (λ n. c.loop-i.i < n) (key_count c.args.types.now c.args.columns.now c.args.keys.now c.args.row c.requires.values) c.loop-i-test.true
