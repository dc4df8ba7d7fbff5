-- What one turn comes to. A turn is one step of a history: a commit of an entry of the pass's number, or a look.
use Rattle.std.specs.Prelude.{◌≡◌, ℕ, ◌-◌, List, [], ◌∷◌, ◌++◌, length, Some}
use mathlib.Core.List.{IsPrefix}
use Rattle.history_core.specs.declared.entry.Entry.{Entry}
use Rattle.history_core.specs.declared.entry.CoreEvent.TheVariants as event
use Rattle.history_core.specs.History.{after}
use Rattle.turnstile.specs.declared.turn.Did.{Did}
use Rattle.turnstile.specs.declared.turn.Did.TheVariants.{Commit, Look}
use Rattle.turnstile.specs.Known.{Known}

-- the history before and after a turn of the pass with this number
abbrev pub Adds : ℕ → List Entry → Did → List Entry → Type 0
Adds number found Commit left = (e : Entry) × (e.session ≡ number) × (left ≡ after found (event.Commit e))
Adds number found Look left = left ≡ after found (event.Look number)

-- the same, and the pass's own entries before and after it
abbrev pub Learns : ℕ → Did → List Entry → List Entry → List Entry → List Entry → Type 0
Learns number Commit found left mine own = (e : Entry) × (e.session ≡ number) × (left ≡ after found (event.Commit e)) × (own ≡ mine ++ e ∷ [])
Learns number Look found left mine own = (left ≡ after found (event.Look number)) × (own ≡ mine)

-- the turn serves the basis of the value, which the pass has
abbrev pub Serves : {J G : Type 0} → (J → G → Type 0) → J → Known G → Type 0
Serves {J} {G} serves turn pass = (basis : G) → pass.basis ≡ Some basis → serves turn basis

-- A turn was taken: what it found and left, and what the pass that took it knows before and after
pub record TookTurn {T J O G : Type 0} (history : T → List Entry) (basis : T → G) (acts : J → T → Did → J → T → Type 0) (gives : J → ℕ → O → Type 0) (turn : J) (before : Known G) (out : O) (now : Known G) : Type 0 where
  pub found : T
  pub left : T
  pub did : Did
  pub done : J
  -- it acted once, on a value with the pass's basis, whose history begins with what the pass had seen
  pub fits : before.basis ≡ Some (basis found)
  pub later : IsPrefix before.seen (history found)
  pub acted : acts turn found did done left
  -- a commit is one entry more of the pass, at the end of the history; a look changes neither
  pub learned : Learns before.number did (history found) (history left) before.mine now.mine
  -- the pass has seen the history that the turn left, and of the rest only its quota is another
  pub sees : now.seen ≡ history left
  pub same : now ≡ record before { quota = before.quota - 1; mine = now.mine; seen = now.seen }
  -- the answer is that of the turn as it was left, with the length of that history as its note
  pub answers : gives done (length (history left)) out
