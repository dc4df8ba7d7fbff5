use Rattle.std.proofs.Common.{◌≡◌, ◌<◌, All, length}
use Rattle.chain_state_cases.proofs.ways.places.Given as goal

abbrev pub invariant-loop-number : goal.invariant-loop-number
invariant-loop-number l = (length l.places.items ≡ l.number) × All (λ p. p < 3) l.places.items
