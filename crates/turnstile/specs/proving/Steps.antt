-- What each step tells the pass that makes it: of the step, what it knows and holds before, the number found, and what it knows and holds after.
use Rattle.std.specs.Prelude.{◌≡◌, ◌≢◌, ℕ, ◌+◌, ◌-◌, ◌^◌, ◌<◌, List, [], ◌∷◌, ◌++◌, length, Option, Some}
use mathlib.Core.List.{IsPrefix}
use Rattle.atomic_table.specs.Table.{Me, Step}
use Rattle.history_core.specs.declared.entry.Entry.{Entry}
use Rattle.turnstile.specs.declared.view.View.{View}
use Rattle.turnstile.specs.declared.view.Stage.{Stage}
use Rattle.turnstile.specs.declared.view.Stage.TheVariants.{Spent, Idle, Waits, InTurn, Acted}
use Rattle.turnstile.specs.declared.turn.Did.{Did}
use Rattle.turnstile.specs.Known.{Known, Settled}
use Rattle.turnstile.specs.Turns.{Adds, Learns}

-- what contracts see of a view
abbrev pub shown : {G : Type 0} → View G → Known G
shown v = record { number = v.number; quota = v.quota; mine = v.mine; seen = v.seen; basis = v.basis; made = v.made; unjoined = v.unjoined; kept = v.kept }

abbrev pub ticket_or : Stage → ℕ
ticket_or Spent = 0
ticket_or Idle = 0
ticket_or (Waits t) = t
ticket_or (InTurn t found) = t
ticket_or (Acted t) = t

abbrev pub found_or : Stage → List Entry
found_or Spent = []
found_or Idle = []
found_or (Waits t) = []
found_or (InTurn t found) = found
found_or (Acted t) = []

module _ {T G : Type 0} where
  -- nothing comes of a step at the door
  abbrev pub Knocks : Step (Option T) → Me (Option T) (View G) → ℕ → Me (Option T) (View G) → Type 0
  Knocks st m found m' = m' ≡ m

  abbrev pub Draws : Step (Option T) → Me (Option T) (View G) → ℕ → Me (Option T) (View G) → Type 0
  Draws st m found m' = m' ≡ (record m.0 { stage = Waits found; quota = m.0.quota - 1 }, m.1)

  -- in turn with this ticket, with the value in hand
  abbrev pub HasTurn : (T → List Entry) → (T → G) → ℕ → View G → Me (Option T) (View G) → Type 0
  HasTurn history basis t v m = (x : T) × (m ≡ (record v { stage = InTurn t (history x) }, (0, Some x) ∷ [])) × (v.basis ≡ Some (basis x)) × IsPrefix v.seen (history x)

  -- at its ticket it takes the value
  abbrev pub Polls : (T → List Entry) → (T → G) → Step (Option T) → Me (Option T) (View G) → ℕ → Me (Option T) (View G) → Type 0
  Polls history basis st m found m' = (t : ℕ) → m.0.stage ≡ Waits t → (found ≡ t → HasTurn history basis t m.0 m') × (found ≢ t → m' ≡ m)

  -- the value in hand has one entry more than was found
  abbrev pub Commits : (T → List Entry) → Step (Option T) → Me (Option T) (View G) → ℕ → Me (Option T) (View G) → Type 0
  Commits history st m found m' = (x : T) × (e : Entry) × (m.1 ≡ (0, Some x) ∷ []) × (history x ≡ found_or m.0.stage ++ e ∷ []) × (e.session ≡ m.0.number) × (found + 1 ≡ length (history x)) × (found < 2 ^ 62)
      × (m' ≡ (record m.0 { stage = Acted (ticket_or m.0.stage); mine = m.0.mine ++ e ∷ []; seen = history x }, m.1))

  -- or the same entries
  abbrev pub Looks : (T → List Entry) → Step (Option T) → Me (Option T) (View G) → ℕ → Me (Option T) (View G) → Type 0
  Looks history st m found m' = (x : T) × (m.1 ≡ (0, Some x) ∷ []) × (history x ≡ found_or m.0.stage) × (found ≡ length (history x))
      × (m' ≡ (record m.0 { stage = Acted (ticket_or m.0.stage); seen = history x }, m.1))

  abbrev pub PassesOn : Step (Option T) → Me (Option T) (View G) → ℕ → Me (Option T) (View G) → Type 0
  PassesOn st m found m' = m' ≡ (record m.0 { stage = Idle }, [])

  -- in turn, with the value that the turn left in hand
  abbrev pub HasActed : (T → List Entry) → Did → Me (Option T) (View G) → Type 0
  HasActed history did m = (t : ℕ) × (h : List Entry) × (x : T) × (m.0.stage ≡ InTurn t h) × (m.1 ≡ (0, Some x) ∷ []) × Adds m.0.number h did (history x)

  -- a commit or a look, with its note
  abbrev pub Settles : (T → List Entry) → Did → Me (Option T) (View G) → ℕ → Me (Option T) (View G) → Type 0
  Settles history did m note m' = (x : T) × (m.1 ≡ (0, Some x) ∷ []) × (note ≡ length (history x)) × Learns m.0.number did (found_or m.0.stage) (history x) m.0.mine m'.0.mine × (m'.0.seen ≡ history x)
      × (m' ≡ (record m.0 { stage = Acted (ticket_or m.0.stage); mine = m'.0.mine; seen = m'.0.seen }, m.1))

  -- what the root knows once a pass has joined
  abbrev pub Checks : Step (Option T) → Me (Option T) (View G) → ℕ → Me (Option T) (View G) → Type 0
  Checks st m found m' = (m' ≡ m) × (m.0.stage ≡ Idle → IsPrefix m.0.shorter m.0.seen × (m.0.number ≡ 0 → m.0.unjoined ≡ 0 → Settled (shown m.0)))
