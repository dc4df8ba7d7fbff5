use Rattle.column_parts.proofs.Cuts.{cut_back, cut_take, cuts_take}
use Rattle.column_parts.proofs.texts.truncate_texts.Goals as goal

pub returns-clause-cut : goal.returns-clause-cut
returns-clause-cut c =
    rw (c.truncate-2.ensures.items, c.truncate.ensures.items) (cut_take _ _ _ c.index.result.now _ c.requires.cut c.requires.within c.index.ensures
    (cut_back c.args.starts.now.items _ _ _ c.requires.cut c.requires.within c.index.ensures))

pub returns-clause-after : goal.returns-clause-after
returns-clause-after c =
    rw (c.truncate-2.ensures.items, c.truncate.ensures.items) (cuts_take _ _ _ _ _ c.requires.cut c.requires.within c.index.ensures)
