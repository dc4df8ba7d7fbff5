use Rattle.std.proofs.Common.{◌≡◌, map, fold, drop}
use Rattle.agg_terms.specs.Values as family
use Rattle.value_types.specs.Folds.{value_of}
use Rattle.set_leaves.specs.proving.Hashes.{all_writes, entry_writes}
use Rattle.set_leaves.specs.Tuples.{pair_of}
use Rattle.set_leaves.proofs.hash.+hash.Given as goal

-- what is left, fed too, is all of it fed
abbrev pub invariant-hash_pairs-loop-pair : goal.invariant-hash_pairs-loop-pair
invariant-hash_pairs-loop-pair g l =
    fold g.H.Hasher.write l.state (entry_writes (family.entries (map pair_of (drop l.pair-index l.pairs))))
    ≡ fold g.H.Hasher.write l.initial.state (entry_writes (family.entries (map pair_of l.pairs)))

abbrev pub invariant-hash_values-loop-value : goal.invariant-hash_values-loop-value
invariant-hash_values-loop-value g l =
    fold g.H.Hasher.write l.state (all_writes (family.values (map value_of (drop l.value-index l.values))))
    ≡ fold g.H.Hasher.write l.initial.state (all_writes (family.values (map value_of l.values)))
