-- When notes and a history fit each other, and the law that those of every list of steps do.
use Rattle.std.specs.Prelude.{◌≡◌, ℕ, ◌-◌, ◌<◌, ◌≤◌, ◌↔◌, List, [], ◌∷◌, map, length, Some, slice_get}
use Rattle.agg_terms.specs.Lists.{Each, Among, Apart}
use Rattle.history_core.specs.declared.entry.Entry.{Entry}
use Rattle.history_core.specs.declared.entry.CoreEvent.{CoreEvent}
use Rattle.history_core.specs.declared.entry.CoreEvent.TheVariants.{Commit, Look}
use Rattle.history_core.specs.History.{entries_of, after_all, Noted, noted, told_to, added_by}

-- R holds of each element and each later one
abbrev pub Pairwise : {X : Type 0} → (X → X → Type 0) → List X → Type 0
Pairwise R [] = Unit {0}
Pairwise R (x ∷ xs) = Each (R x) xs × Pairwise R xs

-- entries of one session are different, and stand in the session's order
abbrev pub InOrder : List Entry → Type 0
InOrder es = Pairwise (λ e later. e.seq < later.seq) es

-- the entry has this place in the history, counted from 1
abbrev pub StandsAt : List Entry → ℕ → Entry → Type 0
StandsAt history place e = (1 ≤ place) × (slice_get history (place - 1) ≡ Some e)

-- the note of a commit is above an earlier note, and that of a look isn't below it
abbrev pub Follows : ℕ → CoreEvent → ℕ → Type 0
Follows earlier (Commit e) note = earlier < note
Follows earlier (Look session) note = earlier ≤ note

-- What each session was told, in its order, and a history are legal.
-- A commit that was told a note was accepted; one that was told none stands in no such list
pub record IsLegal (told : ℕ → List Noted) (history : List Entry) : Type 0 where
  -- the entries are different, and are exactly those of the accepted commits
  pub different : Apart history
  pub accepted : (e : Entry) → Among e history ↔ Among e (added_by (map (λ (r : Noted). r.event) (told e.session)))
  -- those of one session stand in the session's order
  pub in_order : (session : ℕ) → InOrder (entries_of session history)
  -- the note of an accepted commit is its entry's place
  pub placed : (session : ℕ) (e : Entry) (note : ℕ) → Among (record { event = Commit e; note = note }) (told session) → StandsAt history note e
  -- in each session the notes never fall, that of a commit is above every earlier one, and none is above the history's length
  pub rising : (session : ℕ) → Pairwise (λ (r later : Noted). Follows r.note later.event later.note) (told session)
  pub within : (session : ℕ) → Each (λ (r : Noted). r.note ≤ length history) (told session)

-- each session's commits are different entries in the session's order
abbrev pub CommitsInOrder : List CoreEvent → Type 0
CommitsInOrder events = (session : ℕ) → InOrder (entries_of session (added_by events))

-- the notes of such steps, and the history that they leave, are legal
abbrev pub EveryRunIsLegal : Type 0
EveryRunIsLegal = (events : List CoreEvent) → CommitsInOrder events → IsLegal (λ session. told_to session (noted [] events)) (after_all [] events)
