-- A claim keeps the rule.
use Rattle.std.proofs.Common.{◌≡◌, ◌≢◌, ℕ, zero, suc, ◌+◌, ◌-◌, ◌%◌, ◌^◌, ◌<◌, ◌≤◌, true, List, [], ◌∷◌, map, length, set, refl, sym, ap, ◌∙◌, subst, arith, length-set}
use Rattle.std.specs.Prelude.{sum_by, min, slice_index, slice_set}
use Rattle.std.proofs.Math.Nat.{mod-eq_of_lt}
use mathlib.Core.Logic.{dite}
use mathlib.Core.Option.{some, none}
use mathlib.Core.Option as maybe
use native.Mathlib.Decide.{ℕ_discrete, dec_le}
use lib.ListN.{get_elem?}
use Rattle.atomic_table.specs.Table.{State, Me, step, keeps, takes, Allows}
use Rattle.atomic_table.proofs.Lists.{set_here, set_else}
use Rattle.piece_claims.specs.declared.board.Slot.{Slot}
use Rattle.piece_claims.specs.declared.board.Slot.TheVariants.{Ready}
use Rattle.piece_claims.specs.declared.board.Stage.TheVariants.{Spent, Free, Holds}
use Rattle.piece_claims.specs.declared.board.Worker.{Worker}
use Rattle.piece_claims.specs.proving.Rule.{one_at, lists, holding, times, unspent_of, busy, busy_of, quota_of, done_of, Knows, Claimed, Claims}
use Rattle.piece_claims.proofs.Sums.{there, each_set, sum_set, sum_same, sum_at, one_same, one_other}
use Rattle.piece_claims.proofs.Seats.{free_live, holds_live, free_holds, number_or, job_or, nowhere, slot_else, one_later}

module _ {J X : Type 0} (meets : J → X → Type 0) (jobs : List J) where
  -- no job is left
  claims_none : (slots id : ℕ) (v : Worker J) → v.stage ≡ Free → (s : State (Slot J X) (Worker J)) (r : Claimed meets jobs s) → get_elem? s.views id ≡ some v → 1 ≤ v.quota → length jobs ≤ r.next
      → Claimed meets jobs (record { words = slice_set s.words 1 ((slice_index s.words 1 + 1) % 2 ^ 64); homes = s.homes; views = set s.views id (record v { quota = v.quota - 1; ended = true }) })
  claims_none slots id v free s r at some_left over =
      let w : Worker J = record v { quota = v.quota - 1; ended = true } in
      let views : List (Worker J) = set s.views id w in
      let mine = r.knows id v at in
      let own : v.quota ≤ sum_by quota_of s.views = sum_at quota_of s.views id v at in
      let quotas : sum_by quota_of views + v.quota ≡ sum_by quota_of s.views + (v.quota - 1) = sum_set quota_of s.views id v w at in
      let within : r.next + sum_by quota_of s.views ≤ 2 ^ 62 = r.within in
      let same_unspent : sum_by unspent_of views ≡ sum_by unspent_of s.views = sum_same unspent_of s.views id v w at refl in
      let same_busy : sum_by busy_of views ≡ sum_by busy_of s.views = sum_same busy_of s.views id v w at refl in
      let same_done : sum_by done_of views ≡ sum_by done_of s.views = sum_same done_of s.views id v w at refl in
      let same_times = λ (k : ℕ). sum_same (times k) s.views id v w at refl in
      let claimed : sum_by done_of s.views + sum_by busy_of s.views ≡ min r.next (length jobs) = r.claimed in
      let K : ℕ → Worker J → Type 0 = λ j u. Knows meets jobs s.homes (r.next + 1) (sum_by unspent_of s.views) j u in record {
        next = r.next + 1;
        words = ap (λ ws. slice_set ws 1 ((slice_index ws 1 + 1) % 2 ^ 64)) r.words ∙ (ap (λ n. sum_by done_of s.views ∷ n ∷ []) (mod-eq_of_lt (omega arith)) ∙ ap (λ n. n ∷ (r.next + 1) ∷ []) (sym same_done));
        wide = r.wide;
        waiting = λ k job le. r.waiting k job (omega arith);
        once = λ k lt inside. same_times k ∙ r.once k (omega arith) inside;
        no_other = λ k le. same_times k ∙ r.no_other k (omega arith);
        claimed = omega arith;
        within = omega arith;
        knows = subst (λ n. (j : ℕ) (u : Worker J) → get_elem? views j ≡ some u → Knows meets jobs s.homes (r.next + 1) n j u) (sym same_unspent) (each_set K s.views id w
            (record {
              spent = mine.spent;
              held = mine.held;
              done = mine.done;
              ended = λ _. omega arith;
              enough = λ live. let d = mine.enough live in omega arith;
              root = mine.root;
            })
            (λ j u other was. one_later meets jobs s.homes r.next (sum_by unspent_of s.views) j u (r.knows j u was)));
      }

  -- the next job
  claims_one : (id : ℕ) (v : Worker J) → v.stage ≡ Free → (s : State (Slot J X) (Worker J)) (r : Claimed meets jobs s) → get_elem? s.views id ≡ some v → 1 ≤ v.quota
      → (job : J) → r.next < length jobs → get_elem? jobs r.next ≡ some job
      → Claimed meets jobs (record { words = slice_set s.words 1 ((slice_index s.words 1 + 1) % 2 ^ 64); homes = set s.homes r.next none; views = set s.views id (record v { stage = Holds r.next job; quota = v.quota - 1 }) })
  claims_one id v free s r at some_left job lt is_job =
      let next : ℕ = r.next in
      let w : Worker J = record v { stage = Holds next job; quota = v.quota - 1 } in
      let views : List (Worker J) = set s.views id w in
      let homes : List (maybe.Option (Slot J X)) = set s.homes next none in
      let mine = r.knows id v at in
      let wide : length s.homes ≡ length jobs = r.wide in
      let own : v.quota ≤ sum_by quota_of s.views = sum_at quota_of s.views id v at in
      let quotas : sum_by quota_of views + v.quota ≡ sum_by quota_of s.views + (v.quota - 1) = sum_set quota_of s.views id v w at in
      let within : next + sum_by quota_of s.views ≤ 2 ^ 62 = r.within in
      let same_unspent : sum_by unspent_of views ≡ sum_by unspent_of s.views = sum_same unspent_of s.views id v w at (sym (ap (λ st. unspent_of (record v { stage = st })) free)) in
      let was_free : busy v.stage ≡ 0 = ap busy free in
      let more_busy : sum_by busy_of views + busy v.stage ≡ sum_by busy_of s.views + 1 = sum_set busy_of s.views id v w at in
      let same_done : sum_by done_of views ≡ sum_by done_of s.views = sum_same done_of s.views id v w at refl in
      let claimed : sum_by done_of s.views + sum_by busy_of s.views ≡ min next (length jobs) = r.claimed in
      let none_here : sum_by (times next) s.views ≡ 0 = r.no_other next (omega arith) in
      let held_none = λ (k : ℕ). ap (holding k) free in
      let moved = λ (k : ℕ). sum_set (times k) s.views id v w at in
      let K : ℕ → Worker J → Type 0 = λ j u. Knows meets jobs homes (next + 1) (sum_by unspent_of s.views) j u in record {
        next = next + 1;
        words = ap (λ ws. slice_set ws 1 ((slice_index ws 1 + 1) % 2 ^ 64)) r.words ∙ (ap (λ n. sum_by done_of s.views ∷ n ∷ []) (mod-eq_of_lt (omega arith)) ∙ ap (λ n. n ∷ (next + 1) ∷ []) (sym same_done));
        wide = length-set s.homes next none ∙ wide;
        waiting = λ k j le e. set_else s.homes next k none (λ same. absurd (omega arith)) ∙ r.waiting k j (omega arith) e;
        once = λ k below inside. dite (ℕ_discrete next k)
            (λ e. let h : holding k v.stage ≡ 0 = held_none k in
            let one : one_at next k ≡ 1 = one_same next k e in
            let m : sum_by (times k) views + times k v ≡ sum_by (times k) s.views + times k w = moved k in
            let n : sum_by (times k) s.views ≡ 0 = subst (λ i. sum_by (times i) s.views ≡ 0) e none_here in omega arith)
            (λ ne. let h : holding k v.stage ≡ 0 = held_none k in
            let zero' : one_at next k ≡ 0 = one_other next k ne in
            let m : sum_by (times k) views + times k v ≡ sum_by (times k) s.views + times k w = moved k in
            let n : sum_by (times k) s.views ≡ 1 = r.once k (omega arith) inside in omega arith);
        no_other = λ k le.
            let h : holding k v.stage ≡ 0 = held_none k in
            let zero' : one_at next k ≡ 0 = one_other next k (λ e. absurd (omega arith)) in
            let m : sum_by (times k) views + times k v ≡ sum_by (times k) s.views + times k w = moved k in
            let n : sum_by (times k) s.views ≡ 0 = r.no_other k (omega arith) in omega arith;
        claimed = omega arith;
        within = omega arith;
        knows = subst (λ n. (j : ℕ) (u : Worker J) → get_elem? views j ≡ some u → Knows meets jobs homes (next + 1) n j u) (sym same_unspent) (each_set K s.views id w
            (let old = slot_else meets jobs s.homes next (sum_by unspent_of s.views) id v next none (λ k. nowhere meets jobs s.views id v next k at none_here) mine in record {
              spent = λ e. absurd (holds_live next job e);
              held = λ k job' is. let e : next ≡ k = ap number_or is in (
                ap (get_elem? jobs) (sym e) ∙ (is_job ∙ ap some (ap (job_or job) is)),
                ap (get_elem? homes) (sym e) ∙ set_here s.homes next none (omega arith),
              );
              done = old.done;
              ended = λ e. let d = old.ended e in omega arith;
              enough = λ _. let d = old.enough (λ e. free_live (sym free ∙ e)) in omega arith;
              root = old.root;
            })
            (λ j u other was. one_later meets jobs homes next (sum_by unspent_of s.views) j u
            (slot_else meets jobs s.homes next (sum_by unspent_of s.views) j u next none (λ k. nowhere meets jobs s.views j u next k was none_here) (r.knows j u was))));
      }

  pub claims : (slots id : ℕ) (v : Worker J) → v.stage ≡ Free → 1 ≤ v.quota → Allows (Claimed meets jobs) slots id (v, []) 1 (λ n. (n + 1) % 2 ^ 64) (Claims (step slots 1 1 0 none) (v, []))
  claims slots id v free some_left s r sized at small =
      let found : slice_index s.words 1 ≡ r.next = ap (λ ws. slice_index ws 1) r.words in
      let wide : length s.homes ≡ length jobs = r.wide in
      dite (dec_le (length jobs) r.next)
      (λ over. (
        record v { quota = v.quota - 1; ended = true },
        keeps,
        tt,
        claims_none slots id v free s r at some_left over,
        ((λ few. absurd (omega arith)), (λ _. refl)),
      ))
      (λ under.
      let lt : r.next < length jobs = omega arith in
      let it = there jobs r.next lt in
      let job = it.0 in
      let more = (r.knows id v at).enough (λ e. free_live (sym free ∙ e)) in (
        record v { stage = Holds r.next job; quota = v.quota - 1 },
        takes r.next (Ready job),
        r.waiting r.next job (omega arith) it.1,
        claims_one id v free s r at some_left job lt it.1,
        (
          (λ _. (job, omega arith, λ i. (record v { stage = Holds (sym found i) job; quota = v.quota - 1 }, (sym found i, Ready job) ∷ []))),
          (λ few. absurd (omega arith)),
        ),
      ))

  -- the same of what is known of a seat
  pub claims_as : (slots id : ℕ) (m : Me (Slot J X) (Worker J)) → m.1 ≡ [] → m.0.stage ≡ Free → 0 < m.0.quota → Allows (Claimed meets jobs) slots id m 1 (λ n. (n + 1) % 2 ^ 64) (Claims (step slots 1 1 0 none) m)
  claims_as slots id m bare free some_left =
      let P : List (ℕ × Slot J X) → Type 0 = λ c. Allows (Claimed meets jobs) slots id (m.0, c) 1 (λ n. (n + 1) % 2 ^ 64) (Claims (step slots 1 1 0 none) (m.0, c)) in
      subst P (sym bare) (claims slots id m.0 free (omega arith))
