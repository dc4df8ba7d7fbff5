use Rattle.std.proofs.Common.{nat_lt, ◌^◌, ap, ap₂, ◌∙◌, arith}
use Rattle.agg_values.proofs.Bits.{power_fits}
use Rattle.state_codec.proofs.EventBits.{within_is}
use Rattle.state_codec.proofs.events.is_within.Goals as goal

pub pow-requires : goal.pow-requires
pow-requires c = power_fits c.min.result (omega (arith, c.min.ensures))

pub returns : goal.returns
returns c = ap₂ nat_lt c.from.ensures (c.pow.ensures ∙ ap (λ e. 2 ^ e) c.min.ensures) ∙ within_is c.args.mask c.args.conditions (omega arith)
