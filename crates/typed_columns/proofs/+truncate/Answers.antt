use Rattle.std.proofs.Common.{take, ◌+◌, arith, ap, ◌∙◌}
use Rattle.column_parts.specs.Cuts.{cuts}
use Rattle.column_parts.proofs.Cuts.{cut_back, cut_take, cuts_take, cut_top}
use Rattle.typed_columns.proofs.Masks.{masked_take}
use Rattle.typed_columns.proofs.Growing.{zip-take}
use Rattle.typed_columns.proofs.+truncate.Goals as goal

pub growth_truncate::truncate_lists-truncate-requires : goal.growth_truncate::truncate_lists-truncate-requires
growth_truncate::truncate_lists-truncate-requires t c =
    (omega (arith, c.decreases), omega (arith, c.index.ensures, cut_top c.args.starts.now.items _ _ c.index.result.now c.requires.cut c.requires.within))

pub growth_truncate::truncate_lists-returns-clause-cut : goal.growth_truncate::truncate_lists-returns-clause-cut
growth_truncate::truncate_lists-returns-clause-cut t c =
    rw (c.truncate-2.ensures.items, ap (λ v. v.values) c.truncate.ensures) (cut_take _ _ _ c.index.result.now _ c.requires.cut c.requires.within c.index.ensures
    (cut_back c.args.starts.now.items _ _ _ c.requires.cut c.requires.within c.index.ensures))

pub growth_truncate::truncate_lists-returns-clause-after : goal.growth_truncate::truncate_lists-returns-clause-after
growth_truncate::truncate_lists-returns-clause-after t c =
    rw (c.truncate-2.ensures.items, ap (λ v. v.values) c.truncate.ensures) (cuts_take _ _ _ _ _ c.requires.cut c.requires.within c.index.ensures)

pub growth_truncate::truncate_maps-truncate-requires : goal.growth_truncate::truncate_maps-truncate-requires
growth_truncate::truncate_maps-truncate-requires t c =
    (omega (arith, c.decreases), omega (arith, c.index-end.ensures, cut_top c.args.starts.now.items _ _ c.index-end.result.now c.requires.cut c.requires.within))

pub growth_truncate::truncate_maps-truncate-requires-2 : goal.growth_truncate::truncate_maps-truncate-requires-2
growth_truncate::truncate_maps-truncate-requires-2 t c =
    (omega (arith, c.decreases), omega (arith, c.index-end.ensures, c.requires.alike, cut_top c.args.starts.now.items _ _ c.index-end.result.now c.requires.cut c.requires.within))

pub growth_truncate::truncate_maps-returns-clause-cut : goal.growth_truncate::truncate_maps-returns-clause-cut
growth_truncate::truncate_maps-returns-clause-cut t c =
    rw (c.truncate-3.ensures.items, ap (λ v. v.values) c.truncate.ensures) (cut_take _ _ _ c.index-end.result.now _ c.requires.cut c.requires.within c.index-end.ensures
    (cut_back c.args.starts.now.items _ _ _ c.requires.cut c.requires.within c.index-end.ensures))

pub growth_truncate::truncate_maps-returns-clause-after : goal.growth_truncate::truncate_maps-returns-clause-after
growth_truncate::truncate_maps-returns-clause-after t c =
    rw (c.truncate-3.ensures.items, ap (λ v. v.values) c.truncate.ensures, ap (λ v. v.values) c.truncate-2.ensures)
    (ap (cuts (take (c.args.count + 1) c.args.starts.now.items)) (zip-take c.index-end.result.now c.args.keys.now.values c.args.values.now.values)
    ∙ cuts_take _ _ _ _ _ c.requires.cut c.requires.within c.index-end.ensures)

pub growth_truncate::truncate_nullable-returns-clause-after : goal.growth_truncate::truncate_nullable-returns-clause-after
growth_truncate::truncate_nullable-returns-clause-after t c =
    rw (c.truncate-2.ensures.items, ap (λ v. v.values) c.truncate.ensures) (masked_take c.args.count c.args.mask.now.items c.args.values.now.values)
