-- What is known of one worker, as another takes a step.
use Rattle.std.proofs.Common.{◌≡◌, ◌≢◌, ℕ, zero, suc, ◌+◌, ◌<◌, ◌≤◌, List, [], ◌∷◌, ◌++◌, length, set, refl, sym, ap, ◌∙◌, subst, arith, inl, inr, ◌⊎◌}
use Rattle.std.specs.Prelude.{sum_by, min}
use mathlib.Core.Logic.{dite}
use mathlib.Core.Option.{some, none}
use mathlib.Core.Option as maybe
use native.Mathlib.Decide.{ℕ_discrete, dec_le}
use lib.ListN.{get_elem?}
use Rattle.atomic_table.specs.Table.{State}
use Rattle.atomic_table.proofs.Lists.{set_else}
use Rattle.piece_claims.specs.declared.board.Slot.{Slot}
use Rattle.piece_claims.specs.declared.board.Stage.{Stage}
use Rattle.piece_claims.specs.declared.board.Stage.TheVariants.{Spent, Free, Holds}
use Rattle.piece_claims.specs.declared.board.Worker.{Worker}
use Rattle.piece_claims.specs.proving.Rule.{lists, holding, times, unspent, busy, IsDone, Knows, Claimed}
use Rattle.piece_claims.proofs.Sums.{sum_at, sum_two, one_same}

pub free_live : {J : Type 0} → (let f : Stage J = Free in f) ≡ Spent → ⊥
free_live e = absurd (cc (e))

pub holds_live : {J : Type 0} (k : ℕ) (job : J) → Holds k job ≡ Spent → ⊥
holds_live k job e = absurd (cc (e))

pub free_holds : {J : Type 0} (k : ℕ) (job : J) → Free ≡ Holds k job → ⊥
free_holds k job e = absurd (cc (e))

pub unspent_one : {J : Type 0} (stage : Stage J) → stage ≢ Spent → unspent stage ≡ 1
unspent_one Spent live = absurd (live refl)
unspent_one Free live = refl
unspent_one (Holds k job) live = refl

abbrev pub number_or : {J : Type 0} → Stage J → ℕ
number_or Spent = 0
number_or Free = 0
number_or (Holds k job) = k

abbrev pub job_or : {J : Type 0} → J → Stage J → J
job_or d Spent = d
job_or d Free = d
job_or d (Holds k job) = job

pub holding_one : {J : Type 0} (stage : Stage J) (k : ℕ) (job : J) → stage ≡ Holds k job → holding k stage ≡ 1
holding_one stage k job e = ap (holding k) e ∙ one_same k k refl

module _ {J X : Type 0} (meets : J → X → Type 0) (jobs : List J) where
  -- a job that is held or listed somewhere isn't job k, which is nowhere
  pub nowhere : (views : List (Worker J)) (j : ℕ) (u : Worker J) (i k : ℕ) → get_elem? views j ≡ some u → sum_by (times i) views ≡ 0 → 0 < times k u → k ≢ i
  nowhere views j u i k at gone here same =
      let le : times i u ≤ sum_by (times i) views = sum_at (times i) views j u at in
      let here' : 0 < times i u = subst (λ n. 0 < times n u) same here in absurd (omega arith)

  -- a job that some worker has was claimed
  pub below_next : (s : State (Slot J X) (Worker J)) (r : Claimed meets jobs s) (k : ℕ) → 0 < sum_by (times k) s.views → k < r.next
  below_next s r k here = dite (dec_le (min r.next (length jobs)) k)
      (λ out. let gone : sum_by (times k) s.views ≡ 0 = r.no_other k out in absurd (omega arith))
      (λ inside. omega arith)

  -- a job that another worker has isn't the one that this worker has
  pub elsewhere : (s : State (Slot J X) (Worker J)) → Claimed meets jobs s → (id j : ℕ) (v u : Worker J) (i k : ℕ) → j ≢ id → get_elem? s.views id ≡ some v → get_elem? s.views j ≡ some u → 0 < times i v → 0 < times k u → k ≢ i
  elsewhere s r id j v u i k apart at up mine here same =
      let two : times i v + times i u ≤ sum_by (times i) s.views = sum_two (times i) s.views id j v u (λ e. apart (sym e)) at up in
      let here' : 0 < times i u = subst (λ n. 0 < times n u) same here in
      let most : sum_by (times i) s.views ≤ 1 = dite (dec_le (min r.next (length jobs)) i)
      (λ out. let gone : sum_by (times i) s.views ≡ 0 = r.no_other i out in omega arith)
      (λ inside. let one : sum_by (times i) s.views ≡ 1 = r.once i (omega arith) (omega arith) in omega arith) in
      absurd (omega arith)

  done_else : (homes : List (maybe.Option (Slot J X))) (i k : ℕ) (h : maybe.Option (Slot J X)) → k ≢ i → IsDone meets jobs homes k → IsDone meets jobs (set homes i h) k
  done_else homes i k h apart d = (d.0, d.1, d.2, set_else homes i k h apart ∙ d.3, d.4)

  -- another slot changes
  pub slot_else : (homes : List (maybe.Option (Slot J X))) (next unspents j : ℕ) (u : Worker J) (i : ℕ) (h : maybe.Option (Slot J X)) → ((k : ℕ) → 0 < times k u → k ≢ i)
      → Knows meets jobs homes next unspents j u → Knows meets jobs (set homes i h) next unspents j u
  slot_else homes next unspents j u i h far o = record {
    spent = o.spent;
    held = λ k job is. let e = o.held k job is in let one = holding_one u.stage k job is in (e.0, set_else homes i k h (far k (omega arith)) ∙ e.1);
    done = λ k l. done_else homes i k h (far k (omega arith)) (o.done k l);
    ended = o.ended;
    enough = o.enough;
    root = o.root;
  }

  -- one more job is claimed
  pub one_later : (homes : List (maybe.Option (Slot J X))) (next unspents j : ℕ) (u : Worker J) → Knows meets jobs homes next unspents j u → Knows meets jobs homes (next + 1) unspents j u
  one_later homes next unspents j u o = record {
    spent = o.spent;
    held = o.held;
    done = o.done;
    ended = λ e. let d = o.ended e in omega arith;
    enough = λ live. let d = o.enough live in omega arith;
    root = o.root;
  }
