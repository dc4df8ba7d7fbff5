-- Judging by a machine: one step a letter, and a fault where no step is.
use Rattle.std.specs.Prelude.{ℕ, suc, ◌+◌, List, [], ◌∷◌, Option, Some, None, Result, Ok, Err}

-- A fault one letter further on.
abbrev pub later : {V : Type 0} → Result V ℕ → Result V ℕ
later (Ok v) = Ok v
later (Err at) = Err (suc at)

-- What the end of a text says: a value, or a fault there.
abbrev pub at_end : {V : Type 0} → Option V → Result V ℕ
at_end (Some v) = Ok v
at_end None = Err 0

-- What a letter says, where the rest is read from the state behind it.
abbrev pub at_letter : {S V : Type 0} → (S → Result V ℕ) → Option S → Result V ℕ
at_letter read (Some s) = later (read s)
at_letter read None = Err 0

-- From a state, over a text.
abbrev pub run : {A S V : Type 0} → (S → A → Option S) → (S → Option V) → S → List A → Result V ℕ
run step done s [] = at_end (done s)
run step done s (a ∷ text) = at_letter (λ t. run step done t text) (step s a)

-- A fault so many letters further on.
abbrev pub shifted : {V : Type 0} → ℕ → Result V ℕ → Result V ℕ
shifted n (Ok v) = Ok v
shifted n (Err at) = Err (n + at)
