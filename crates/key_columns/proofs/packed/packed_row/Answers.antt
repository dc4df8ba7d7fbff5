use Rattle.std.proofs.Common.{◌<◌, ◌^◌, map, sym, subst}
use Rattle.value_types.specs.Folds.{ty_of, value_of}
use Rattle.key_methods.specs.KeyBytes.{values_bytes}
use Rattle.key_methods.specs.Kinds.{total_width, width_of}
use Rattle.key_methods.proofs.SideBySide.{Packing, here, next, start, step_word}
use Rattle.key_columns.specs.Words.{key_values}
use Rattle.key_columns.proofs.packed.packed_row.Goals as goal

pub loop-i-init : goal.loop-i-init
loop-i-init c = start c.args.types.now (key_values c.args.columns.now c.args.keys.now c.args.row) c.requires.types c.requires.plain c.requires.values

pub behind-packed-requires-clause-below : goal.behind-packed-requires-clause-below
behind-packed-requires-clause-below c =
    let vs = key_values c.args.columns.now c.args.keys.now c.args.row in
    let all = values_bytes (map ty_of c.args.types.now) (map value_of vs) in
    let most = total_width (map ty_of c.args.types.now) in
    let word = c.loop-i.packed.word in
    let width = c.loop-i.packed.width in
    let p = here c.args.types.now vs c.loop-i.i c.index-types-i.result _ c.loop-i-test.true c.requires.values c.index-types-i.is c.key_item-item.ensures
    (λ us ws. Packing (map ty_of us) (map value_of ws) word width most all) c.loop-i.invariant in
    let below = step_word _ _ _ _ word width most all p in
    subst (λ n. c.word_in.result < 256 ^ n) (sym c.number_width.ensures.value) (subst (λ n. n < 256 ^ width_of (ty_of c.index-types-i.result)) (sym c.word_in.ensures) below)

pub loop-i-preserved : goal.loop-i-preserved
loop-i-preserved c =
    let vs = key_values c.args.columns.now c.args.keys.now c.args.row in
    let all = values_bytes (map ty_of c.args.types.now) (map value_of vs) in
    let most = total_width (map ty_of c.args.types.now) in
    let word = c.loop-i.packed.word in
    let width = c.loop-i.packed.width in
    let p = here c.args.types.now vs c.loop-i.i c.index-types-i.result _ c.loop-i-test.true c.requires.values c.index-types-i.is c.key_item-item.ensures
    (λ us ws. Packing (map ty_of us) (map value_of ws) word width most all) c.loop-i.invariant in
    next _ _ _ _ word width most all _ _ _ _ p c.behind-packed.ensures.word c.behind-packed.ensures.width c.word_in.ensures c.number_width.ensures.value
