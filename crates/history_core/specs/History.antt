-- Histories of entries, what a step does to one, and what it is told.
use Rattle.std.specs.Prelude.{ℕ, List, [], ◌∷◌, ◌++◌, length, eqb, if◌then◌else◌}
use Rattle.history_core.specs.declared.entry.Entry.{Entry}
use Rattle.history_core.specs.declared.entry.CoreEvent.{CoreEvent}
use Rattle.history_core.specs.declared.entry.CoreEvent.TheVariants.{Commit, Look}

-- the entries of one session, in the history's order
abbrev pub entries_of : ℕ → List Entry → List Entry
entries_of session [] = []
entries_of session (e ∷ es) = if eqb e.session session then e ∷ entries_of session es else entries_of session es

-- a commit adds its entry at the end, a look changes nothing
abbrev pub after : List Entry → CoreEvent → List Entry
after history (Commit e) = history ++ e ∷ []
after history (Look session) = history

-- the note of a step: the length of the history that it leaves
abbrev pub note_of : List Entry → CoreEvent → ℕ
note_of history event = length (after history event)

-- the history after all steps of a list
abbrev pub after_all : List Entry → List CoreEvent → List Entry
after_all history [] = history
after_all history (event ∷ events) = after_all (after history event) events

-- a step, and the note that it was told
pub record Noted : Type 0 where
  pub event : CoreEvent
  pub note : ℕ

-- the steps of a list, each with its note
abbrev pub noted : List Entry → List CoreEvent → List Noted
noted history [] = []
noted history (event ∷ events) = record { event = event; note = note_of history event } ∷ noted (after history event) events

-- the session that makes a step
abbrev pub session_of : CoreEvent → ℕ
session_of (Commit e) = e.session
session_of (Look session) = session

-- what one session was told, in its order
abbrev pub told_to : ℕ → List Noted → List Noted
told_to session [] = []
told_to session (r ∷ rs) = if eqb (session_of r.event) session then r ∷ told_to session rs else told_to session rs

-- the entry that a step adds, and those that a list of steps adds
abbrev pub with_entry : CoreEvent → List Entry → List Entry
with_entry (Commit e) es = e ∷ es
with_entry (Look session) es = es

abbrev pub added_by : List CoreEvent → List Entry
added_by [] = []
added_by (event ∷ events) = with_entry event (added_by events)

-- the room that a step takes
abbrev pub takes_of : CoreEvent → ℕ
takes_of (Commit e) = 1
takes_of (Look session) = 0

-- a history, and for how many entries there is room
pub record Standing : Type 0 where
  pub history : List Entry
  pub spare : ℕ
