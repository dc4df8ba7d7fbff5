use Rattle.std.proofs.Common.{pos, ap, ap₂, nat_lt, sym, unsigned_abs, ◌∙◌}
use Rattle.std.specs.Prelude.{int_le}
use Rattle.std.proofs.lemmas.Int.{to_z-of_z}
use mir.Syntax.{w128}
use Rattle.agg_values.proofs.Bits.{bits_of}
use Rattle.agg_values.proofs.leaf_trees.has_bits.Goals as goal

pub returns-then-word-ge0 : goal.returns-then-word-ge0
returns-then-word-ge0 c =
    let same = to_z-of_z w128 c.args.word c.ranges.word in
    ap₂ nat_lt (c.unsigned_abs.ensures.value ∙ ap unsigned_abs same) c.power_of_two.ensures
    ∙ bits_of c.args.word c.args.bits c.ranges.word (ap (int_le (pos 0)) (sym same) ∙ c.if-word-ge0.true)
