use Rattle.std.proofs.Common.{◌<◌, ◌^◌, map, sym, subst}
use Rattle.value_types.specs.Folds.{ty_of, value_of}
use Rattle.key_methods.specs.KeyBytes.{values_bytes}
use Rattle.key_methods.specs.Kinds.{total_width, width_of}
use Rattle.key_methods.proofs.SideBySide.{Packing, here, next, start, step_word}
use Rattle.key_methods.proofs.packing.side_by_side.Goals as goal

pub loop-i-init : goal.loop-i-init
loop-i-init c = start c.args.types.now c.args.values.now c.requires.types c.requires.plain c.requires.values

pub behind-packed-requires-clause-below : goal.behind-packed-requires-clause-below
behind-packed-requires-clause-below c =
    let all = values_bytes (map ty_of c.args.types.now) (map value_of c.args.values.now) in
    let most = total_width (map ty_of c.args.types.now) in
    let word = c.loop-i.packed.word in
    let width = c.loop-i.packed.width in
    let p = here c.args.types.now c.args.values.now c.loop-i.i c.index-types-i.result c.index-values-i.result c.loop-i-test.true c.requires.values c.index-types-i.is c.index-values-i.is
    (λ us ws. Packing (map ty_of us) (map value_of ws) word width most all) c.loop-i.invariant in
    let below = step_word _ _ _ _ word width most all p in
    subst (λ n. c.word_of.result < 256 ^ n) (sym c.number_width.ensures.value) (subst (λ n. n < 256 ^ width_of (ty_of c.index-types-i.result)) (sym c.word_of.ensures.value) below)

pub loop-i-preserved : goal.loop-i-preserved
loop-i-preserved c =
    let all = values_bytes (map ty_of c.args.types.now) (map value_of c.args.values.now) in
    let most = total_width (map ty_of c.args.types.now) in
    let word = c.loop-i.packed.word in
    let width = c.loop-i.packed.width in
    let p = here c.args.types.now c.args.values.now c.loop-i.i c.index-types-i.result c.index-values-i.result c.loop-i-test.true c.requires.values c.index-types-i.is c.index-values-i.is
    (λ us ws. Packing (map ty_of us) (map value_of ws) word width most all) c.loop-i.invariant in
    next _ _ _ _ word width most all _ _ _ _ p c.behind-packed.ensures.word c.behind-packed.ensures.width c.word_of.ensures.value c.number_width.ensures.value
