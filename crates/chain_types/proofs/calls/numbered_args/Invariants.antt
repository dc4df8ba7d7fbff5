use Rattle.std.proofs.Common.{◌≡◌, map, take}
use Rattle.agg_terms.specs.Lists.{numbered}
use Rattle.chain_types.specs.proving.Args.{arg_of}
use Rattle.value_types.specs.Folds.{ty_of}
use Rattle.chain_types.proofs.calls.numbered_args.Given as goal

abbrev pub invariant-loop-i : goal.invariant-loop-i
invariant-loop-i l = map arg_of l.all.items ≡ numbered 1 (map ty_of (take l.i l.args))
