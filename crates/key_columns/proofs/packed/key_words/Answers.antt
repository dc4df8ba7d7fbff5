use Rattle.key_methods.proofs.Undone.{ok_as}
use Rattle.key_columns.proofs.KeyRows.{key_words_are}
use Rattle.key_columns.proofs.packed.key_words.Goals as goal

pub returns : goal.returns
returns c =
    ok_as c.column_words.result _ _
    (λ words is. key_words_are c.args.types.now c.args.columns.now c.args.keys.now c.args.from c.args.to c.index-columns-key.result words.items
    c.requires.one c.requires.plain c.requires.types c.requires.order c.requires.within c.requires.keys c.requires.columns c.index-columns-key.is is)
    c.column_words.ensures
