-- What the answer to a text is: the value that it spells, or the place of its first fault.
-- A grammar is given by spells: which text has which value. The letters are of any type, as bytes or tokens.
use Rattle.std.specs.Prelude.{◌≡◌, ℕ, ◌≤◌, List, ◌++◌, length, take, Result, Ok, Err, Option, Some, None}

-- The front begins some text of the grammar: letters can be put behind it so that the whole spells a value.
abbrev pub Begins : {A V : Type 0} → (List A → V → Type 0) → List A → Type 0
Begins {A} {V} spells front = (rest : List A) × (v : V) × spells (front ++ rest) v

-- The place is the length of the longest front of the text that begins some text of the grammar.
pub record IsLongestFront {A V : Type 0} (spells : List A → V → Type 0) (text : List A) (at : ℕ) : Type 0 where
  pub within : at ≤ length text
  pub begins : Begins spells (take at text)
  pub longest : (n : ℕ) → n ≤ length text → Begins spells (take n text) → n ≤ at

-- The answer to a text: a value that it spells, or, where it spells none, the length of that front.
abbrev pub IsReading : {A V : Type 0} → (List A → V → Type 0) → List A → Result V ℕ → Type 0
IsReading spells text (Ok v) = spells text v
IsReading {A} {V} spells text (Err at) = ((v : V) → spells text v → ⊥) × IsLongestFront spells text at

-- The text is one of the grammar, whatever it spells.
abbrev pub IsSpelled : {A V : Type 0} → (List A → V → Type 0) → List A → Unit {0} → Type 0
IsSpelled {A} {V} spells text _ = (v : V) × spells text v

-- What a reader found, and, where it found nothing, the place that a judge tells.
abbrev pub with_place : {V : Type 0} → Option V → Result (Unit {0}) ℕ → Result V ℕ
with_place (Some v) judged = Ok v
with_place None (Err at) = Err at
with_place None (Ok u) = Err 0
