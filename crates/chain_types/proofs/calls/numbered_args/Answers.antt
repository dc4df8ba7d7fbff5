use Rattle.std.proofs.Common.{ap, ◌+◌}
use Rattle.chain_types.specs.proving.Args.{arg_of}
use Rattle.value_types.specs.Folds.{ty_of}
use Rattle.chain_types.proofs.Numbered.{number_more}
use Rattle.chain_types.proofs.calls.numbered_args.Goals as goal

pub loop-i-preserved : goal.loop-i-preserved
loop-i-preserved c =
    number_more arg_of ty_of c.loop-i.all.items c.push.new.self.items c.args.args.now c.loop-i.i _ c.index-args-i.result c.in_ok-push.ensures.items
    c.loop-i-test.true c.loop-i.invariant (ap (λ z. (c.loop-i.i + 1, ty_of z)) c.index-args-i.is)
