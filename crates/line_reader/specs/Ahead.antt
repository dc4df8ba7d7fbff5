-- What a reader of lines is seen as.
use Rattle.std.specs.Prelude.{◌≡◌, ℕ, ◌-◌, List, [], ◌++◌, drop, Option, IfSome}

-- the bytes that were taken and not handed out, the most bytes of a line, and how many bytes the input may have from here on
pub record Ahead : Type 0 where
  pub held : List ℕ
  pub most_line : ℕ
  pub room : ℕ

abbrev pub new_ahead : ℕ → ℕ → Ahead
new_ahead most_line most_input = record { held = []; most_line = most_line; room = most_input }

-- behind so many bytes of what is held
abbrev pub behind_line : ℕ → Ahead → Ahead
behind_line used ahead = record { held = drop used ahead.held; most_line = ahead.most_line; room = ahead.room - used }

-- The input from here on: the bytes that are held, and then those that the source has left, where it tells them.
abbrev pub IsInput : Option (List ℕ) → Ahead → List ℕ → Type 0
IsInput left ahead input = (rest : List ℕ) × (input ≡ ahead.held ++ rest) × IfSome left (λ told. rest ≡ told)
