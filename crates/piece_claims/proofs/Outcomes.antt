-- From what came of each job to what all jobs come to.
use Rattle.std.proofs.Common.{◌≡◌, ℕ, zero, suc, ◌+◌, ◌*◌, ◌^◌, ◌<◌, ◌≤◌, Bool, false, get_or, set, List, [], ◌∷◌, ◌++◌, map, length, replicate, refl, sym, ap, ◌∙◌, subst, arith, ◌⊎◌, inl, inr, ⊎_elim, Option, Some, None, Err, mul-le-mul_right}
use mathlib.Core.Option.{some, some-injective, some-ne-none}
use lib.ListN.{get_elem?}
use Rattle.std.specs.declared.result.Result.TheVariants.{Ok}
use Rattle.std.specs.Prelude.{Result, IfOk, IfErr}
use Rattle.std.specs.List.{AllZip}
use Rattle.piece_claims.specs.declared.job.JobFault.{JobFault}
use Rattle.piece_claims.specs.declared.job.JobFault.TheVariants.{Own, OutOfMemory}
use Rattle.piece_claims.specs.declared.job.ClaimFault.{ClaimFault}
use Rattle.piece_claims.specs.declared.job.ClaimFault.TheVariants as claim
use Rattle.piece_claims.specs.declared.board.Slot.{Slot}
use Rattle.piece_claims.specs.declared.board.Slot.TheVariants.{Ready, Taken, Done}
use Rattle.piece_claims.specs.Jobs.{Gives, Answers, FirstFault, Refuses, Stops}

abbrev pub outcome_or : {J X : Type 0} → X → Slot J X → X
outcome_or d (Ready job) = d
outcome_or d Taken = d
outcome_or d (Done x) = x

pub at_end : {A : Type 0} (l : List A) (a b : A) (j : ℕ) → get_elem? (l ++ a ∷ []) j ≡ some b → (get_elem? l j ≡ some b) ⊎ ((j ≡ length l) × (a ≡ b))
at_end [] a b zero e = inr (refl, some-injective a b e)
at_end [] a b (suc j) e = absurd (some-ne-none b (sym e))
at_end (x ∷ xs) a b zero e = inl e
at_end (x ∷ xs) a b (suc j) e = ⊎_elim (λ h. inl h) (λ h. inr (ap suc h.0, h.1)) (at_end xs a b j e)

pub cleared : (l : List Bool) (i : ℕ) → get_or (set l i false) i false ≡ false
cleared [] i = refl
cleared (x ∷ xs) zero = refl
cleared (x ∷ xs) (suc i) = cleared xs i

-- what holds at each place holds of the lists side by side
pub zipped : {A B : Type 0} (R : A → B → Type 0) (xs : List A) (ys : List B) → length ys ≡ length xs
    → ((k : ℕ) (x : A) (y : B) → get_elem? xs k ≡ some x → get_elem? ys k ≡ some y → R x y) → AllZip R xs ys
zipped R [] [] long each = tt
zipped R [] (y ∷ ys) long each = absurd (omega arith)
zipped R (x ∷ xs) [] long each = absurd (omega arith)
zipped R (x ∷ xs) (y ∷ ys) long each = (each zero x y refl refl, zipped R xs ys (omega arith) (λ k. each (suc k)))

module _ {J O F : Type 0} (gives : J → O → Type 0) (fault : J → Option F) where
  given : (jobs : List J) (outputs : List O) → AllZip (Answers gives fault) jobs (map Ok outputs) → AllZip (Gives gives fault) jobs outputs
  given [] [] all = tt
  given [] (o ∷ os) all = absurd all
  given (job ∷ jobs) [] all = absurd all
  given (job ∷ jobs) (o ∷ os) all = (all.0, given jobs os all.1)

  stopped : (jobs : List J) (outputs : List O) (f : F) (rest : List (Result O (JobFault F))) → AllZip (Answers gives fault) jobs (map Ok outputs ++ Err (Own f) ∷ rest) → FirstFault fault jobs (length outputs) f
  stopped [] [] f rest all = absurd all
  stopped [] (o ∷ os) f rest all = absurd all
  stopped (job ∷ jobs) [] f rest all = (map fault jobs, ap (λ x. x ∷ map fault jobs) all.0)
  stopped (job ∷ jobs) (o ∷ os) f rest all =
      let later = stopped jobs os f rest all.1 in
      (later.0, λ i. all.0.1 i ∷ later.1 i)

  pub all_given : (jobs : List J) (outcomes : List (Result O (JobFault F))) (outputs : List O) → AllZip (Answers gives fault) jobs outcomes → outcomes ≡ map Ok outputs → AllZip (Gives gives fault) jobs outputs
  all_given jobs outcomes outputs all is = given jobs outputs (subst (AllZip (Answers gives fault) jobs) is all)

  pub refuses : (jobs : List J) (outcomes : List (Result O (JobFault F))) (why : ClaimFault F) → AllZip (Answers gives fault) jobs outcomes → Stops outcomes why → Refuses fault jobs why
  refuses jobs outcomes (claim.Own k f) all stop =
      subst (λ n. FirstFault fault jobs n f) stop.2 (stopped jobs stop.0 f stop.1 (subst (AllZip (Answers gives fault) jobs) stop.3 all))
  refuses jobs outcomes claim.OutOfMemory all stop = tt

pub few_claims : (workers count : ℕ) → workers ≤ 1024 → count < 2 ^ 32 → workers * (count + 1) ≤ 2 ^ 62
few_claims workers count few small =
    let n : ℕ = count + 1 in
    let a : workers * n ≤ 1024 * n = mul-le-mul_right n few in omega arith

pub IfOk-then : {T E : Type 0} (r : Result T E) (P Q : T → Type 0) → IfOk r P → ((x : T) → P x → Q x) → IfOk r Q
IfOk-then (Ok x) P Q h f = f x h
IfOk-then (Err e) P Q h f = tt

pub IfErr-then : {T E : Type 0} (r : Result T E) (P Q : E → Type 0) → IfErr r P → ((x : E) → P x → Q x) → IfErr r Q
IfErr-then (Ok x) P Q h f = tt
IfErr-then (Err e) P Q h f = f e h
