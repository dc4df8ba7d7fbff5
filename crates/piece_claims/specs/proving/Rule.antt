-- The rule of the board: at every moment, whatever the order of the threads, each job waits, is with one worker, or is done and counted.
use Rattle.std.specs.Prelude.{◌≡◌, ◌≢◌, ℕ, ◌+◌, ◌-◌, ◌*◌, ◌^◌, ◌<◌, ◌≤◌, ◌==◌, min, List, [], ◌∷◌, ◌++◌, ◌||◌, length, sum_by, cond, Bool, true, false}
use mathlib.Core.Option.{none, some}
use mathlib.Core.Option as maybe
use lib.ListN.{get_elem?}
use Rattle.atomic_table.specs.Seated.{TableId}
use Rattle.atomic_table.specs.Table.{State, Me, Step}
use Rattle.piece_claims.specs.declared.board.Slot.{Slot}
use Rattle.piece_claims.specs.declared.board.Slot.TheVariants.{Ready, Taken, Done}
use Rattle.piece_claims.specs.declared.board.Stage.{Stage}
use Rattle.piece_claims.specs.declared.board.Stage.TheVariants.{Spent, Free, Holds}
use Rattle.piece_claims.specs.declared.board.Worker.{Worker}

-- 1 where the numbers are the same, and else 0
abbrev pub one_at : ℕ → ℕ → ℕ
one_at i k = cond (i == k) 1 0

-- how often k stands in the list
abbrev pub lists : ℕ → List ℕ → ℕ
lists k numbers = sum_by (λ i. one_at i k) numbers

module _ {J : Type 0} where
  -- 1 where the worker isn't spent
  abbrev pub unspent : Stage J → ℕ
  unspent Spent = 0
  unspent Free = 1
  unspent (Holds i job) = 1

  -- 1 where the worker holds a job
  abbrev pub busy : Stage J → ℕ
  busy Spent = 0
  busy Free = 0
  busy (Holds i job) = 1

  -- 1 where the worker holds job k
  abbrev pub holding : ℕ → Stage J → ℕ
  holding k Spent = 0
  holding k Free = 0
  holding k (Holds i job) = one_at i k

  -- how often job k is held by the worker or stands in its list
  abbrev pub times : ℕ → Worker J → ℕ
  times k v = holding k v.stage + lists k v.listed

  abbrev pub unspent_of : Worker J → ℕ
  unspent_of v = unspent v.stage

  abbrev pub busy_of : Worker J → ℕ
  busy_of v = busy v.stage

  abbrev pub quota_of : Worker J → ℕ
  quota_of v = v.quota

  -- how many jobs the worker has counted as done
  abbrev pub done_of : Worker J → ℕ
  done_of v = length v.listed

  -- the root before any step
  abbrev pub opener : Worker J
  opener = record { stage = Free; quota = 2 ^ 62; listed = []; ended = false; root = true; unjoined = 0 }

  -- what a split leaves the root, and what the new worker has
  abbrev pub parted : ℕ → Worker J → Worker J
  parted quota v = record v { quota = v.quota - quota; unjoined = v.unjoined + 1 }

  abbrev pub newcomer : ℕ → Worker J → Worker J
  newcomer quota v = record { stage = Free; quota = quota; listed = []; ended = false; root = false; unjoined = 0 }

  -- what a join makes of the root, and of the other
  abbrev pub joined : Worker J → Worker J → Worker J
  joined v w = record v { listed = v.listed ++ w.listed; ended = v.ended || w.ended; unjoined = v.unjoined - 1 }

  abbrev pub nobody : Worker J
  nobody = record { stage = Spent; quota = 0; listed = []; ended = false; root = false; unjoined = 0 }

module _ {J X : Type 0} (meets : J → X → Type 0) (jobs : List J) where
  -- the outcome of job k is at home
  abbrev pub IsDone : List (maybe.Option (Slot J X)) → ℕ → Type 0
  IsDone homes k = (job : J) × (x : X) × (get_elem? jobs k ≡ some job) × (get_elem? homes k ≡ some (some (Done x))) × meets job x

  -- what holds of the worker v in seat j, where `next` is the next job, and so many workers aren't spent
  pub record Knows (homes : List (maybe.Option (Slot J X))) (next unspents j : ℕ) (v : Worker J) : Type 0 where
    pub spent : v.stage ≡ Spent → v.listed ≡ []
    pub held : (k : ℕ) (job : J) → v.stage ≡ Holds k job → (get_elem? jobs k ≡ some job) × (get_elem? homes k ≡ some none)
    pub done : (k : ℕ) → 0 < lists k v.listed → IsDone homes k
    pub ended : v.ended ≡ true → length jobs ≤ next
    -- it can claim all jobs that are left, and see that none is
    pub enough : v.stage ≢ Spent → length jobs < v.quota + next
    -- the root sits in the first seat, and counts the others that aren't spent
    pub root : v.root ≡ true → (j ≡ 0) × (v.unjoined + 1 ≡ unspents)

  pub record Claimed (s : State (Slot J X) (Worker J)) : Type 0 where
    pub next : ℕ
    -- word 0 is exactly the number of jobs that stand in the lists, and word 1 the next job
    pub words : s.words ≡ sum_by done_of s.views ∷ next ∷ []
    pub wide : length s.homes ≡ length jobs
    -- a job that isn't claimed yet lies in its slot
    pub waiting : (k : ℕ) (job : J) → next ≤ k → get_elem? jobs k ≡ some job → get_elem? s.homes k ≡ some (some (Ready job))
    -- each claimed job is held by one worker or stands once in the list of one; no other number is held or listed
    pub once : (k : ℕ) → k < next → k < length jobs → sum_by (times k) s.views ≡ 1
    pub no_other : (k : ℕ) → min next (length jobs) ≤ k → sum_by (times k) s.views ≡ 0
    -- the claimed jobs are those done and those held
    pub claimed : sum_by done_of s.views + sum_by busy_of s.views ≡ min next (length jobs)
    pub within : next + sum_by quota_of s.views ≤ 2 ^ 62
    pub knows : (j : ℕ) (v : Worker J) → get_elem? s.views j ≡ some v → Knows s.homes next (sum_by unspent_of s.views) j v

module _ {J X : Type 0} where
  -- a claim: the job of the number found, out of its slot, or the end; and one less to claim
  abbrev pub Claims : Step (Slot J X) → Me (Slot J X) (Worker J) → ℕ → Me (Slot J X) (Worker J) → Type 0
  Claims st m found m' =
      (found < st.slots → (job : J) × (1 < m.0.quota) × (m' ≡ (record m.0 { stage = Holds found job; quota = m.0.quota - 1 }, (found, Ready job) ∷ [])))
      × (st.slots ≤ found → m' ≡ (record m.0 { quota = m.0.quota - 1; ended = true }, []))

  -- a count: the outcome is home, and the number of the job that was held is listed
  abbrev pub Counts : Step (Slot J X) → Me (Slot J X) (Worker J) → ℕ → Me (Slot J X) (Worker J) → Type 0
  Counts st m found m' = (k : ℕ) (job : J) → m.0.stage ≡ Holds k job → m' ≡ (record m.0 { stage = Free; listed = m.0.listed ++ k ∷ [] }, [])

-- a seat at the board of these jobs
abbrev pub IsAt : {J : Type 0} → List J → TableId → TableId → Type 0
IsAt jobs board seat = (seat ≡ board) × (board.words ≡ 2) × (board.slots ≡ length jobs)

module _ {J X : Type 0} where
  -- a worker with no job that may claim one
  abbrev pub IsReady : Me (Slot J X) (Worker J) → Type 0
  IsReady m = (m.1 ≡ []) × (m.0.stage ≡ Free) × (0 < m.0.quota)

  -- the root with quota for so many workers
  abbrev pub IsRoot : ℕ → ℕ → Me (Slot J X) (Worker J) → Type 0
  IsRoot count workers m = IsReady m × (m.0.root ≡ true) × (workers * (count + 1) ≤ m.0.quota)

  -- as the root it is what it was
  abbrev pub IsAsRooted : Me (Slot J X) (Worker J) → Me (Slot J X) (Worker J) → Type 0
  IsAsRooted old m = (m.0.root ≡ old.0.root) × (m.0.unjoined ≡ old.0.unjoined)

  -- it has taken job k out of its slot, and may claim once more
  abbrev pub HasTaken : Me (Slot J X) (Worker J) → ℕ → J → Me (Slot J X) (Worker J) → Type 0
  HasTaken old k job m = (m.1 ≡ (k, Taken) ∷ []) × (m.0.stage ≡ Holds k job) × (m.0.quota + 1 ≡ old.0.quota) × (0 < m.0.quota) × IsAsRooted old m

  -- it has brought an outcome home, and holds no job
  abbrev pub HasReturned : Me (Slot J X) (Worker J) → Me (Slot J X) (Worker J) → Type 0
  HasReturned old m = (m.1 ≡ []) × (m.0.stage ≡ Free) × (m.0.quota ≡ old.0.quota) × IsAsRooted old m

  -- it holds no job, and has found none left
  abbrev pub HasEnded : Me (Slot J X) (Worker J) → Me (Slot J X) (Worker J) → Type 0
  HasEnded old m = (m.1 ≡ []) × (m.0.stage ≡ Free) × (m.0.ended ≡ true) × IsAsRooted old m

-- the root where all others are joined, and no job is left
abbrev pub IsOver : {J : Type 0} → Worker J → Type 0
IsOver v = (v.stage ≡ Free) × (v.root ≡ true) × (v.ended ≡ true) × (v.unjoined ≡ 0)
