-- What a worker has in hand, from what its steps told.
use Rattle.std.proofs.Common.{◌≡◌, ℕ, ◌+◌, ◌-◌, ◌<◌, List, [], ◌∷◌, ◌++◌, refl, sym, ap, ◌∙◌, arith}
use Rattle.atomic_table.specs.Table.{Me, rest}
use Rattle.piece_claims.specs.declared.board.Slot.{Slot}
use Rattle.piece_claims.specs.declared.board.Slot.TheVariants.{Ready, Taken, Done}
use Rattle.piece_claims.specs.declared.board.Stage.TheVariants.{Free, Holds}
use Rattle.piece_claims.specs.declared.board.Worker.{Worker}
use Rattle.piece_claims.specs.proving.Rule.{HasTaken, HasReturned}

abbrev job_of : {J X : Type 0} → J → Slot J X → J
job_of d (Ready job) = job
job_of d Taken = d
job_of d (Done x) = d

abbrev second_or : {A : Type 0} → A → List (ℕ × A) → A
second_or d [] = d
second_or d (p ∷ ps) = p.1

module _ {J X : Type 0} where
  abbrev claimer : Me (Slot J X) (Worker J) → ℕ → J → Worker J
  claimer m found job = record m.0 { stage = Holds found job; quota = m.0.quota - 1 }

  -- the job that was taken
  pub has_taken : (m m1 m2 : Me (Slot J X) (Worker J)) (found : ℕ) (got : Slot J X) (job job' : J) → 1 < m.0.quota
      → m1 ≡ (record m.0 { stage = Holds found job; quota = m.0.quota - 1 }, (found, Ready job) ∷ []) → m1.1 ≡ (found, got) ∷ rest m1.1 → got ≡ Ready job'
      → m2 ≡ (m1.0, (found, Taken) ∷ rest m1.1) → HasTaken m found job' m2
  has_taken m m1 m2 found got job job' more e1 e2 e3 e4 =
      let hand : m1.1 ≡ (found, Ready job) ∷ [] = ap (λ (k : Me (Slot J X) (Worker J)). k.1) e1 in
      let same : (found, Ready job) ∷ [] ≡ (found, got) ∷ rest m1.1 = sym hand ∙ e2 in
      let is : job ≡ job' = ap (λ l. job_of job (second_or (Ready job) l)) same ∙ ap (job_of job) e3 in
      let view : m2.0 ≡ claimer m found job = ap (λ (k : Me (Slot J X) (Worker J)). k.0) e4 ∙ ap (λ (k : Me (Slot J X) (Worker J)). k.0) e1 in
      let left : m2.0.quota ≡ m.0.quota - 1 = ap (λ (v : Worker J). v.quota) view in (
        ap (λ (k : Me (Slot J X) (Worker J)). k.1) e4 ∙ ap (λ l. (found, Taken) ∷ rest l) hand,
        ap (λ (v : Worker J). v.stage) view ∙ ap (λ j. Holds found j) is,
        omega arith,
        omega arith,
        (ap (λ (v : Worker J). v.root) view, ap (λ (v : Worker J). v.unjoined) view),
      )

  -- the worker that counts has the outcome in hand
  pub in_hand : (m m1 : Me (Slot J X) (Worker J)) (k : ℕ) (x : X) → m.1 ≡ (k, Taken) ∷ [] → m1 ≡ (m.0, (k, Done x) ∷ rest m.1) → m1 ≡ (m.0, (k, Done x) ∷ [])
  in_hand m m1 k x e1 e2 = e2 ∙ ap (λ l. (m.0, (k, Done x) ∷ rest l)) e1

  pub has_returned : (m m1 m2 : Me (Slot J X) (Worker J)) (k : ℕ) (hand : List (ℕ × Slot J X)) → m1 ≡ (m.0, hand) → m2 ≡ (record m1.0 { stage = Free; listed = m1.0.listed ++ k ∷ [] }, []) → HasReturned m m2
  has_returned m m1 m2 k hand e1 e2 =
      let same : m1.0 ≡ m.0 = ap (λ (n : Me (Slot J X) (Worker J)). n.0) e1 in (
        ap (λ (n : Me (Slot J X) (Worker J)). n.1) e2,
        ap (λ (n : Me (Slot J X) (Worker J)). n.0.stage) e2,
        ap (λ (n : Me (Slot J X) (Worker J)). n.0.quota) e2 ∙ ap (λ (v : Worker J). v.quota) same,
        (
          ap (λ (n : Me (Slot J X) (Worker J)). n.0.root) e2 ∙ ap (λ (v : Worker J). v.root) same,
          ap (λ (n : Me (Slot J X) (Worker J)). n.0.unjoined) e2 ∙ ap (λ (v : Worker J). v.unjoined) same,
        ),
      )
