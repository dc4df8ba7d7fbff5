-- What a job of squares gives, and its fault.
use Rattle.std.specs.Prelude.{◌≡◌, ℕ, ◌*◌, Option, Some, None}
use Rattle.claim_trials.specs.declared.square.Square.{Square}
use Rattle.claim_trials.specs.declared.square.Square.TheVariants.{Of, Refused}

abbrev pub squares : Square → ℕ → Type 0
squares (Of n) output = output ≡ n * n
squares (Refused why) output = Unit {0}

abbrev pub refusal : Square → Option ℕ
refusal (Of n) = None
refusal (Refused why) = Some why
