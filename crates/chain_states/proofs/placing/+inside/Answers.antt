-- Answers for chain_states::placing::inside.
use Rattle.value_types.specs.Folds.{chain_of}
use Rattle.chain_states.proofs.Inside.{at_or_default, at_or_null, at_state}
use Rattle.chain_states.proofs.placing.+inside.Goals as goal

pub returns-in-OrNull : goal.returns-in-OrNull
returns-in-OrNull t c = at_or_null c.args.chain.now c.in-OrNull.of c.get.result.now (chain_of c.inside.result.now) c.in-OrNull.is c.get.ensures c.inside.ensures

pub returns-in-OrDefault : goal.returns-in-OrDefault
returns-in-OrDefault t c = at_or_default c.args.chain.now c.in-OrDefault.of c.get-in-OrDefault.result.now (chain_of c.inside-in-OrDefault.result.now) c.in-OrDefault.is c.get-in-OrDefault.ensures c.inside-in-OrDefault.ensures

pub returns-in-State : goal.returns-in-State
returns-in-State t c = at_state c.args.chain.now c.in-State.of c.get-in-State.result.now (chain_of c.inside-in-State.result.now) c.in-State.is c.get-in-State.ensures c.inside-in-State.ensures
