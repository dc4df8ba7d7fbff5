use Rattle.set_leaves.proofs.Hashing.{pairs_end, pairs_step, values_end, values_step}
use Rattle.std.proofs.Common.{◌∙◌}
use Rattle.set_leaves.proofs.hash.+hash.Goals as goal

pub hash_pairs-loop-pair-preserved : goal.hash_pairs-loop-pair-preserved
hash_pairs-loop-pair-preserved g t c =
    pairs_step g.H.Hasher.write c.args.pairs.now c.loop-pair.pair-index c.pair-item.result c.loop-pair.state c.hash_value.new.state c.hash_value-in-loop-pair.new.state
    c.loop-pair-test.true c.pair-item.is c.hash_value.ensures c.hash_value-in-loop-pair.ensures
    ∙ c.loop-pair.invariant

pub hash_pairs-returns : goal.hash_pairs-returns
hash_pairs-returns g t c =
    pairs_end g.H.Hasher.write c.args.pairs.now c.loop-pair.pair-index c.loop-pair.state _ c.loop-pair-test.false c.loop-pair.invariant

pub hash_values-loop-value-preserved : goal.hash_values-loop-value-preserved
hash_values-loop-value-preserved g t c =
    values_step g.H.Hasher.write c.args.values.now c.loop-value.value-index c.value-item.result c.loop-value.state c.hash_value.new.state
    c.loop-value-test.true c.value-item.is c.hash_value.ensures
    ∙ c.loop-value.invariant

pub hash_values-returns : goal.hash_values-returns
hash_values-returns g t c =
    values_end g.H.Hasher.write c.args.values.now c.loop-value.value-index c.loop-value.state _ c.loop-value-test.false c.loop-value.invariant
