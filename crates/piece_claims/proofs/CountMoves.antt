-- A count keeps the rule.
use Rattle.std.proofs.Common.{◌≡◌, ◌≢◌, ℕ, zero, suc, ◌+◌, ◌-◌, ◌%◌, ◌^◌, ◌<◌, ◌≤◌, List, [], ◌∷◌, ◌++◌, length, set, refl, sym, ap, ◌∙◌, subst, arith, length-set, length-append}
use Rattle.std.specs.Prelude.{sum_by, min, slice_index, slice_set}
use Rattle.std.proofs.Math.Nat.{mod-eq_of_lt}
use Rattle.std.proofs.lemmas.List.Sums.{sum_by_push}
use mathlib.Core.Logic.{dite}
use mathlib.Core.Option.{some, none}
use mathlib.Core.Option as maybe
use native.Mathlib.Decide.{ℕ_discrete}
use lib.ListN.{get_elem?}
use Rattle.atomic_table.specs.Table.{State, Me, step, gives, Allows}
use Rattle.atomic_table.proofs.Lists.{set_here, set_else}
use Rattle.piece_claims.specs.declared.board.Slot.{Slot}
use Rattle.piece_claims.specs.declared.board.Slot.TheVariants.{Ready, Done}
use Rattle.piece_claims.specs.declared.board.Stage.TheVariants.{Spent, Free, Holds}
use Rattle.piece_claims.specs.declared.board.Worker.{Worker}
use Rattle.piece_claims.specs.proving.Rule.{one_at, lists, holding, times, unspent, unspent_of, busy, busy_of, quota_of, done_of, IsDone, Knows, Claimed, Counts}
use Rattle.piece_claims.proofs.Sums.{below_length, each_set, sum_set, sum_same, sum_at, one_same, one_other}
use Rattle.piece_claims.proofs.Seats.{free_live, holds_live, free_holds, number_or, holding_one, below_next, elsewhere, slot_else}

module _ {J X : Type 0} (meets : J → X → Type 0) (jobs : List J) where
  -- the number moves from the hand into the list
  times_moved : (v : Worker J) (k : ℕ) (job : J) → v.stage ≡ Holds k job → (i : ℕ) → times i (record v { stage = Free; listed = v.listed ++ k ∷ [] }) ≡ times i v
  times_moved v k job holding_it i =
      let held : holding i v.stage ≡ one_at k i = ap (holding i) holding_it in
      let more : lists i (v.listed ++ k ∷ []) ≡ lists i v.listed + one_at k i = sum_by_push (λ n. one_at n i) v.listed k in omega arith

  counted : (id : ℕ) (v : Worker J) (k : ℕ) (job : J) (x : X) → v.stage ≡ Holds k job → meets job x → (s : State (Slot J X) (Worker J)) → Claimed meets jobs s → get_elem? s.views id ≡ some v
      → Claimed meets jobs (record { words = slice_set s.words 0 ((slice_index s.words 0 + 1) % 2 ^ 64); homes = set s.homes k (some (Done x)); views = set s.views id (record v { stage = Free; listed = v.listed ++ k ∷ [] }) })
  counted id v k job x holding_it ok s r at =
      let w : Worker J = record v { stage = Free; listed = v.listed ++ k ∷ [] } in
      let views : List (Worker J) = set s.views id w in
      let homes : List (maybe.Option (Slot J X)) = set s.homes k (some (Done x)) in
      let mine = r.knows id v at in
      let own = mine.held k job holding_it in
      let wide : length s.homes ≡ length jobs = r.wide in
      let inside : k < length jobs = below_length jobs k job own.0 in
      let here : IsDone meets jobs homes k = (job, x, own.0, set_here s.homes k (some (Done x)) (omega arith), ok) in
      let one_here = holding_one v.stage k job holding_it in
      let mine_times : times k v ≤ sum_by (times k) s.views = sum_at (times k) s.views id v at in
      let below : k < r.next = below_next meets jobs s r k (omega arith) in
      let same_unspent : sum_by unspent_of views ≡ sum_by unspent_of s.views = sum_same unspent_of s.views id v w at (sym (ap unspent holding_it)) in
      let same_times = λ (i : ℕ). sum_same (times i) s.views id v w at (times_moved v k job holding_it i) in
      let same_quota : sum_by quota_of views ≡ sum_by quota_of s.views = sum_same quota_of s.views id v w at refl in
      let was_busy : busy v.stage ≡ 1 = ap busy holding_it in
      let less_busy : sum_by busy_of views + busy v.stage ≡ sum_by busy_of s.views + 0 = sum_set busy_of s.views id v w at in
      let longer : length (v.listed ++ k ∷ []) ≡ length v.listed + 1 = length-append v.listed (k ∷ []) in
      let more_done : sum_by done_of views + done_of v ≡ sum_by done_of s.views + done_of w = sum_set done_of s.views id v w at in
      let one_more : sum_by done_of views ≡ sum_by done_of s.views + 1 = omega arith in
      let claimed : sum_by done_of s.views + sum_by busy_of s.views ≡ min r.next (length jobs) = r.claimed in
      let within : r.next + sum_by quota_of s.views ≤ 2 ^ 62 = r.within in
      let K : ℕ → Worker J → Type 0 = λ j u. Knows meets jobs homes r.next (sum_by unspent_of s.views) j u in record {
        next = r.next;
        words = ap (λ ws. slice_set ws 0 ((slice_index ws 0 + 1) % 2 ^ 64)) r.words ∙ (ap (λ n. n ∷ r.next ∷ []) (mod-eq_of_lt (omega arith)) ∙ ap (λ n. n ∷ r.next ∷ []) (sym one_more));
        wide = length-set s.homes k (some (Done x)) ∙ wide;
        waiting = λ i j le e. set_else s.homes k i (some (Done x)) (λ same. absurd (omega arith)) ∙ r.waiting i j le e;
        once = λ i lt in_jobs. same_times i ∙ r.once i lt in_jobs;
        no_other = λ i le. same_times i ∙ r.no_other i le;
        claimed = omega arith;
        within = omega arith;
        knows = subst (λ n. (j : ℕ) (u : Worker J) → get_elem? views j ≡ some u → Knows meets jobs homes r.next n j u) (sym same_unspent) (each_set K s.views id w
            (record {
              spent = λ e. absurd (free_live e);
              held = λ i job' is. absurd (free_holds i job' is);
              done = λ i l. dite (ℕ_discrete k i)
                  (λ e. subst (IsDone meets jobs homes) e here)
                  (λ ne. let more : lists i (v.listed ++ k ∷ []) ≡ lists i v.listed + one_at k i = sum_by_push (λ n. one_at n i) v.listed k in
                  let not_it : one_at k i ≡ 0 = one_other k i ne in
                  let d = mine.done i (omega arith) in (d.0, d.1, d.2, set_else s.homes k i (some (Done x)) (λ e. ne (sym e)) ∙ d.3, d.4));
              ended = mine.ended;
              enough = λ _. mine.enough (λ e. holds_live k job (sym holding_it ∙ e));
              root = mine.root;
            })
            (λ j u other was. slot_else meets jobs s.homes r.next (sum_by unspent_of s.views) j u k (some (Done x))
            (λ i. elsewhere meets jobs s r id j v u k i other at was (omega arith)) (r.knows j u was)));
      }

  pub counts : (slots id : ℕ) (v : Worker J) (k : ℕ) (job : J) (x : X) → v.stage ≡ Holds k job → meets job x
      → Allows (Claimed meets jobs) slots id (v, (k, Done x) ∷ []) 0 (λ n. (n + 1) % 2 ^ 64) (Counts (step slots 0 1 0 none) (v, (k, Done x) ∷ []))
  counts slots id v k job x holding_it ok s r sized at small = (
    record v { stage = Free; listed = v.listed ++ k ∷ [] },
    gives,
    tt,
    counted id v k job x holding_it ok s r at,
    λ k' job' is. let same : k ≡ k' = ap number_or (sym holding_it ∙ is) in λ i. (record v { stage = Free; listed = v.listed ++ same i ∷ [] }, []),
  )

  -- the same of what is known of a seat
  pub counts_as : (slots id : ℕ) (m : Me (Slot J X) (Worker J)) (k : ℕ) (job : J) (x : X) → m.1 ≡ (k, Done x) ∷ [] → m.0.stage ≡ Holds k job → meets job x
      → Allows (Claimed meets jobs) slots id m 0 (λ n. (n + 1) % 2 ^ 64) (Counts (step slots 0 1 0 none) m)
  counts_as slots id m k job x hand holding_it ok =
      let P : List (ℕ × Slot J X) → Type 0 = λ c. Allows (Claimed meets jobs) slots id (m.0, c) 0 (λ n. (n + 1) % 2 ^ 64) (Counts (step slots 0 1 0 none) (m.0, c)) in
      subst P (sym hand) (counts slots id m.0 k job x holding_it ok)
