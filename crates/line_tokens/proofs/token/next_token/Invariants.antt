use Rattle.std.proofs.Common.{◌≡◌, ◌≤◌, length}
use Rattle.line_tokens.specs.Tokens.{tokens_of}
use Rattle.line_tokens.proofs.token.next_token.Given as goal

abbrev pub invariant-loop-rest : goal.invariant-loop-rest
invariant-loop-rest l = (tokens_of l.text ≡ tokens_of l.rest) × (length l.rest ≤ length l.text)

abbrev pub decreases-loop-rest : goal.decreases-loop-rest
decreases-loop-rest l = length l.rest
