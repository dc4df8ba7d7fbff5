use Rattle.std.proofs.Common.{◌≡◌, map, take}
use Rattle.agg_typing.specs.Kinds as rules
use Rattle.chain_types.specs.proving.Args.{arg_of, part_of}
use Rattle.chain_types.proofs.arg_types.within.Given as goal

abbrev pub invariant-loop-arg : goal.invariant-loop-arg
invariant-loop-arg l = map arg_of l.all.items ≡ rules.with_parts (part_of l.part) (map arg_of (take l.arg-index l.args))
