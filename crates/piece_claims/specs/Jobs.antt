-- What a job answers, and what all jobs come to.
use Rattle.std.specs.Prelude.{◌≡◌, ℕ, List, ◌∷◌, ◌++◌, map, replicate, length, Option, Some, None, Result}
use Rattle.std.specs.declared.result.Result.TheVariants.{Ok, Err}
use Rattle.piece_claims.specs.declared.job.JobFault.{JobFault}
use Rattle.piece_claims.specs.declared.job.JobFault.TheVariants.{Own, OutOfMemory}
use Rattle.piece_claims.specs.declared.job.ClaimFault.{ClaimFault}
use Rattle.piece_claims.specs.declared.job.ClaimFault.TheVariants as claim

module _ {J O F : Type 0} where
  -- the job gives the output, and has no fault of its own
  abbrev pub Gives : (J → O → Type 0) → (J → Option F) → J → O → Type 0
  Gives gives fault job output = gives job output × (fault job ≡ None)

  -- what doing a job may come to: an output that it gives, its own fault, or want of memory
  abbrev pub Answers : (J → O → Type 0) → (J → Option F) → J → Result O (JobFault F) → Type 0
  Answers gives fault job (Ok output) = Gives gives fault job output
  Answers gives fault job (Err (Own f)) = fault job ≡ Some f
  Answers gives fault job (Err OutOfMemory) = Unit {0}

module _ {J F : Type 0} where
  -- the first `k` jobs have no fault of their own, and the next one has `f`
  abbrev pub FirstFault : (J → Option F) → List J → ℕ → F → Type 0
  FirstFault fault jobs k f = (rest : List (Option F)) × (map fault jobs ≡ replicate k None ++ Some f ∷ rest)

  -- what is said of the jobs where they have no outputs
  abbrev pub Refuses : (J → Option F) → List J → ClaimFault F → Type 0
  Refuses fault jobs (claim.Own k f) = FirstFault fault jobs k f
  Refuses fault jobs claim.OutOfMemory = Unit {0}

-- the same of outcomes that stand in the order of the jobs
abbrev pub Stops : {O F : Type 0} → List (Result O (JobFault F)) → ClaimFault F → Type 0
Stops {O} {F} outcomes (claim.Own k f) = (outputs : List O) × (rest : List (Result O (JobFault F))) × (length outputs ≡ k) × (outcomes ≡ map Ok outputs ++ Err (Own f) ∷ rest)
Stops outcomes claim.OutOfMemory = Unit {0}
