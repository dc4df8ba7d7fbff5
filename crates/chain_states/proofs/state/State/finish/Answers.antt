-- Answers for chain_states::state::State::finish.
use Rattle.std.proofs.Common.{map, subst}
use Rattle.std.specs.Result.{IfOk}
use Rattle.agg_meaning.specs.States.{MeansChain}
use Rattle.value_types.specs.Folds.{chain_of, ty_of, value_of}
use Rattle.chain_states.specs.Calls.{tree_in, types_in}
use Rattle.chain_states.proofs.state.State.finish.Goals as goal

pub returns : goal.returns
returns c =
    subst (λ k. IfOk c.value_over.result (λ v. MeansChain (chain_of k) (types_in c.args.call.now) (tree_in c.args.self.now) (value_of v))) c.chain-chain.ensures.lent
    (subst (λ z. IfOk c.value_over.result (λ v. MeansChain (chain_of c.chain-chain.result.now) (map ty_of z) (tree_in c.args.self.now) (value_of v))) c.args-2.ensures c.value_over.ensures)
