use Rattle.chain_states.specs.Calls.{IsStateOf}
use Rattle.chain_state_cases.proofs.trial.Trial.feed.Given as goal

abbrev pub invariant-loop-number : goal.invariant-loop-number
invariant-loop-number l = IsStateOf l.self.call.now l.state
