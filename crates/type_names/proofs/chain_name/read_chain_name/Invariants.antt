use Rattle.std.proofs.Common.{◌≡◌, ◌++◌, length}
use Rattle.agg_typing.specs.Names.{spelled}
use Rattle.type_names.proofs.chain_name.read_chain_name.Given as goal

abbrev pub invariant-loop-rest : goal.invariant-loop-rest
invariant-loop-rest l = l.name ≡ spelled l.leaf l.suffixes ++ l.rest

abbrev pub decreases-loop-rest : goal.decreases-loop-rest
decreases-loop-rest l = length l.rest
