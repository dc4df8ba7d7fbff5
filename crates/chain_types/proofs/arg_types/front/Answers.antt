use Rattle.std.proofs.Common.{length, ◌-◌, refl}
use Rattle.agg_defs.proofs.Front.{front-take}
use Rattle.chain_types.specs.proving.Args.{arg_of}
use Rattle.chain_types.proofs.arg_types.front.Goals as goal

pub returns-in-len1-up : goal.returns-in-len1-up
returns-in-len1-up c = front-take arg_of c.args.args.now (length c.args.args.now - 1) refl
