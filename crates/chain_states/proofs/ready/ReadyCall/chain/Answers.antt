-- Answers for chain_states::ready::ReadyCall::chain.
use Rattle.std.proofs.Common.{rules, map}
use Rattle.value_types.specs.Folds.{chain_of, ty_of}
use Rattle.chain_values.proofs.ReadyLaws.{sound}
use Rattle.chain_states.proofs.ready.ReadyCall.chain.Goals as goal

pub returns-clause-sound : goal.returns-clause-sound
returns-clause-sound c = sound (chain_of c.args.self.now.legal.chain) (map ty_of c.args.self.now.legal.args) (search rules)
