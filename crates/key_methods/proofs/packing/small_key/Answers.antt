use Rattle.std.proofs.Common.{◌<◌, ◌^◌, map, rules}
use Rattle.value_types.specs.Folds.{ty_of}
use Rattle.key_methods.proofs.SideBySide.{in_64}
use Rattle.key_methods.proofs.packing.small_key.Goals as goal

pub overflow_cast-result : goal.overflow_cast-result
overflow_cast-result c =
    let packed = c.side_by_side-packed in
    let fits : packed.result.word < 2 ^ 64 = in_64 (map ty_of c.args.types.now) packed.result.word packed.result.width c.requires.plain packed.ensures.below packed.ensures.most in
    search rules
