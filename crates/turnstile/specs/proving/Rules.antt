-- The rule of the table: what holds between any two steps of any threads, of the words, the value at home and all that the passes know.
use Rattle.std.specs.Prelude.{◌≡◌, ◌≢◌, ◌⊎◌, ℕ, ◌+◌, ◌-◌, ◌^◌, ◌<◌, ◌≤◌, List, [], ◌∷◌, ◌++◌, length, Option, Some, None}
use mathlib.Core.Option.{some, none}
use mathlib.Core.Option as maybe
use mathlib.Core.List.{IsPrefix}
use lib.ListN.{get_elem?}
use Rattle.atomic_table.specs.Table.{State}
use Rattle.agg_terms.specs.Lists.{Among, Apart}
use Rattle.history_core.specs.declared.entry.Entry.{Entry}
use Rattle.history_core.specs.History.{entries_of}
use Rattle.turnstile.specs.declared.view.View.{View}
use Rattle.turnstile.specs.declared.view.Stage.{Stage}
use Rattle.turnstile.specs.declared.view.Stage.TheVariants.{Spent, Idle, Waits, InTurn, Acted}
use Rattle.turnstile.specs.Known.{longer, shorter, numbers}

-- # how views begin, part and meet

abbrev pub root : {G : Type 0} → G → View G
root g = record { stage = Idle; number = 0; quota = 2 ^ 62 - 1; mine = []; seen = []; shorter = []; basis = Some g; made = 0; unjoined = 0; kept = [] }

-- the root gives a part of its quota to a new pass
abbrev pub parted : {G : Type 0} → ℕ → View G → View G
parted quota v = record v { quota = v.quota - quota; made = v.made + 1; unjoined = v.unjoined + 1 }

abbrev pub newcomer : {G : Type 0} → ℕ → View G → View G
newcomer quota v = record { stage = Idle; number = v.made + 1; quota = quota; mine = []; seen = v.seen; shorter = []; basis = v.basis; made = 0; unjoined = 0; kept = [] }

-- the root takes a pass in, which is spent
abbrev pub joined : {G : Type 0} → View G → View G → View G
joined v w = record v { seen = longer v.seen w.seen; shorter = shorter v.seen w.seen; unjoined = v.unjoined - 1; kept = v.kept ++ (w.number, w.mine) ∷ [] }

abbrev pub nobody : {G : Type 0} → View G
nobody = record { stage = Spent; number = 0; quota = 0; mine = []; seen = []; shorter = []; basis = None; made = 0; unjoined = 0; kept = [] }

-- # tickets and turns

-- the ticket that a view has
abbrev pub ticket_of : Stage → maybe.Option ℕ
ticket_of Spent = none
ticket_of Idle = none
ticket_of (Waits t) = some t
ticket_of (InTurn t found) = some t
ticket_of (Acted t) = some t

-- The ticket of the view at place j is one from serving up to ticket, and owner tells which view has it, so no two have the same.
-- The one in turn has the ticket that is served. What it found is the whole history, and once it has acted it has seen the whole history
abbrev pub Stands : List Entry → ℕ → ℕ → (ℕ → ℕ) → ℕ → List Entry → Stage → Type 0
Stands front ticket serving owner j seen Spent = Unit {0}
Stands front ticket serving owner j seen Idle = Unit {0}
Stands front ticket serving owner j seen (Waits t) = (serving ≤ t) × (t < ticket) × (owner t ≡ j)
Stands front ticket serving owner j seen (InTurn t found) = (t ≡ serving) × (t < ticket) × (owner t ≡ j) × (found ≡ front)
Stands front ticket serving owner j seen (Acted t) = (t ≡ serving) × (t < ticket) × (owner t ≡ j) × (seen ≡ front)

-- some view has this ticket
abbrev pub IsHeld : {G : Type 0} → (ℕ → ℕ) → List (View G) → ℕ → Type 0
IsHeld {G} owner views t = (v : View G) × (get_elem? views (owner t) ≡ some v) × (ticket_of v.stage ≡ some t)

-- a view in turn: each ticket served made the history at most one entry longer
abbrev pub Midway : ℕ → ℕ → Stage → Type 0
Midway count serving Spent = ⊥
Midway count serving Idle = ⊥
Midway count serving (Waits t) = ⊥
Midway count serving (InTurn t found) = count ≤ serving
Midway count serving (Acted t) = count ≤ serving + 1

-- the value is out with the pass in turn, whose view is at this place
abbrev pub IsOut : {G : Type 0} → List Entry → ℕ → ℕ → List (View G) → Type 0
IsOut {G} front serving by views = (v : View G) × (get_elem? views by ≡ some v) × Midway (length front) serving v.stage

-- # passes, their numbers and the history

-- f of each, added up
abbrev pub total : {A : Type 0} → (A → ℕ) → List A → ℕ
total f [] = 0
total f (x ∷ xs) = f x + total f xs

abbrev pub quota_of : {G : Type 0} → View G → ℕ
quota_of v = v.quota

-- 1 for a pass that isn't spent
abbrev pub live_of : Stage → ℕ
live_of Spent = 0
live_of Idle = 1
live_of (Waits t) = 1
live_of (InTurn t found) = 1
live_of (Acted t) = 1

abbrev pub is_live : {G : Type 0} → View G → ℕ
is_live v = live_of v.stage

-- what holds of a pass that isn't spent, whose view is at place j
pub record Lives {G : Type 0} (g : G) (front : List Entry) (made unjoined : ℕ) (kept : List (ℕ × List Entry)) (holder : ℕ → ℕ) (j : ℕ) (v : View G) : Type 0 where
  -- what it has seen begins the history, and its own entries are those of its number
  pub sees : IsPrefix v.seen front
  pub compared : IsPrefix v.shorter v.seen
  pub owns : v.mine ≡ entries_of v.number front
  -- it has the one basis, and a number that was made; holder tells which view has it, so no two have the same
  pub based : v.basis ≡ Some g
  pub numbered : (v.number ≤ made) × (holder v.number ≡ j)
  -- the one with number 0 is the root
  pub roots : v.number ≡ 0 → (v.made ≡ made) × (v.unjoined ≡ unjoined) × (v.kept ≡ kept)

-- a pass that isn't spent has this number
abbrev pub HasPass : {G : Type 0} → (ℕ → ℕ) → List (View G) → ℕ → Type 0
HasPass {G} holder views n = (v : View G) × (get_elem? views (holder n) ≡ some v) × (v.stage ≢ Spent) × (v.number ≡ n)

pub record People {G : Type 0} (g : G) (front : List Entry) (made unjoined : ℕ) (kept : List (ℕ × List Entry)) (holder : ℕ → ℕ) (views : List (View G)) : Type 0 where
  pub lives : (j : ℕ) (v : View G) → get_elem? views j ≡ some v → v.stage ≢ Spent → Lives g front made unjoined kept holder j v
  -- no number has entries before it is made, and what the root keeps are the entries of that number
  pub fresh : (n : ℕ) → made < n → entries_of n front ≡ []
  pub keeps : (p : ℕ × List Entry) → Among p kept → (p.1 ≡ entries_of p.0 front) × (p.0 ≤ made)
  -- each number that was made is that of a pass, or is kept, not both, and not twice
  pub placed : (n : ℕ) → n ≤ made → HasPass holder views n ⊎ Among n (numbers kept)
  pub gone : (n j : ℕ) (v : View G) → Among n (numbers kept) → get_elem? views j ≡ some v → v.stage ≢ Spent → v.number ≢ n
  pub once : Apart (numbers kept)
  -- the passes out are those that aren't spent, but for the root
  pub counted : total is_live views ≡ unjoined + 1
  -- some pass has seen the whole history
  pub lead : ℕ
  pub leads : (v : View G) × (get_elem? views lead ≡ some v) × (v.stage ≢ Spent) × (v.seen ≡ front)

-- # the rule

module _ {T G : Type 0} (history : T → List Entry) (basis : T → G) (g : G) where
  -- the value is at home, with the whole history and the one basis
  abbrev pub IsHome : List Entry → ℕ → List (maybe.Option (Option T)) → Type 0
  IsHome front serving homes = (x : T) × (get_elem? homes 0 ≡ some (some (Some x))) × (history x ≡ front) × (basis x ≡ g) × (length front ≤ serving)

  pub record Turning (s : State (Option T) (View G)) : Type 0 where
    -- the history, which is as long as the longest that a pass has seen
    pub front : List Entry
    pub ticket : ℕ
    pub serving : ℕ
    pub door : ℕ
    pub made : ℕ
    pub unjoined : ℕ
    pub kept : List (ℕ × List Entry)
    pub owner : ℕ → ℕ
    pub holder : ℕ → ℕ
    -- the words are its length, the next ticket and the one that is served; nothing is asked of the door
    pub words_are : s.words ≡ length front ∷ ticket ∷ serving ∷ door ∷ []
    pub one_slot : length s.homes ≡ 1
    -- the value is at home, or out with the pass whose ticket is served
    pub slot : IsHome front serving s.homes ⊎ IsOut front serving (owner serving) s.views
    -- the tickets of the views are the numbers from serving up to ticket, each once
    pub stands : (j : ℕ) (v : View G) → get_elem? s.views j ≡ some v → Stands front ticket serving owner j v.seen v.stage
    pub held : (t : ℕ) → serving ≤ t → t < ticket → IsHeld owner s.views t
    pub people : People g front made unjoined kept holder s.views
    -- no number wraps
    pub within : ticket + total quota_of s.views ≤ 2 ^ 62
    pub in_order : serving ≤ ticket
