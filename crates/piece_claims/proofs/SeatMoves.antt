-- A split and a join keep the rule.
use Rattle.std.proofs.Common.{◌≡◌, ◌≢◌, ◌⊎◌, ℕ, zero, suc, ◌+◌, ◌-◌, ◌^◌, ◌<◌, ◌≤◌, List, [], ◌∷◌, ◌++◌, length, set, refl, sym, ap, ◌∙◌, subst, inl, inr, ⊎_elim, arith, Bool, true, false, ◌||◌, true≢false, length-append}
use Rattle.std.specs.Prelude.{sum_by, min}
use Rattle.std.proofs.lemmas.List.Sums.{sum_by_push, sum_by-append}
use mathlib.Core.Logic.{dite}
use mathlib.Core.Option.{some, none}
use mathlib.Core.Option as maybe
use native.Mathlib.Decide.{dec_le}
use lib.ListN.{get_elem?}
use Rattle.atomic_table.specs.Table.{State, Splits, Joins}
use Rattle.atomic_table.proofs.Lists.{set_else, at_snoc}
use Rattle.piece_claims.specs.declared.board.Slot.{Slot}
use Rattle.piece_claims.specs.declared.board.Stage.TheVariants.{Spent, Free, Holds}
use Rattle.piece_claims.specs.declared.board.Worker.{Worker}
use Rattle.piece_claims.specs.proving.Rule.{one_at, lists, holding, times, unspent, unspent_of, busy, busy_of, quota_of, done_of, Knows, Claimed, parted, newcomer, joined, nobody}
use Rattle.piece_claims.proofs.Sums.{each_set, sum_set, sum_same, sum_at, sum_two}
use Rattle.piece_claims.proofs.Seats.{free_live, free_holds}

either_true : (a b : Bool) → (a || b) ≡ true → (a ≡ true) ⊎ (b ≡ true)
either_true true b e = inl refl
either_true false b e = inr e

module _ {J X : Type 0} (meets : J → X → Type 0) (jobs : List J) where
  -- a worker that isn't the root knows nothing of how many there are
  others : (homes : List (maybe.Option (Slot J X))) (next unspents unspents' j : ℕ) (u : Worker J) → j ≢ 0 → Knows meets jobs homes next unspents j u → Knows meets jobs homes next unspents' j u
  others homes next unspents unspents' j u apart o = record {
    spent = o.spent;
    held = o.held;
    done = o.done;
    ended = o.ended;
    enough = o.enough;
    root = λ t. absurd (apart (o.root t).0);
  }

  pub splits : (id : ℕ) (v : Worker J) (quota : ℕ) → v.stage ≡ Free → v.root ≡ true → length jobs < quota → length jobs + quota < v.quota → Splits (Claimed meets jobs) id v (parted quota v) (newcomer quota v)
  splits id v quota free is_root some_new some_left s r at =
      let w : Worker J = parted quota v in
      let new : Worker J = newcomer quota v in
      let mid : List (Worker J) = set s.views id w in
      let views : List (Worker J) = mid ++ new ∷ [] in
      let mine = r.knows id v at in
      let root = mine.root is_root in
      let unspents : ℕ = sum_by unspent_of s.views in
      let more_unspent : sum_by unspent_of views ≡ unspents + 1 = sum_by_push unspent_of mid new ∙ ap (λ n. n + 1) (sum_same unspent_of s.views id v w at refl) in
      let same_busy : sum_by busy_of views ≡ sum_by busy_of s.views + 0 = sum_by_push busy_of mid new ∙ ap (λ n. n + 0) (sum_same busy_of s.views id v w at refl) in
      let same_done : sum_by done_of views ≡ sum_by done_of s.views + 0 = sum_by_push done_of mid new ∙ ap (λ n. n + 0) (sum_same done_of s.views id v w at refl) in
      let same_done' : sum_by done_of views ≡ sum_by done_of s.views = omega arith in
      let same_times = λ (k : ℕ). sum_by_push (times k) mid new ∙ ap (λ n. n + 0) (sum_same (times k) s.views id v w at refl) in
      let quotas : sum_by quota_of mid + v.quota ≡ sum_by quota_of s.views + (v.quota - quota) = sum_set quota_of s.views id v w at in
      let quotas' : sum_by quota_of views ≡ sum_by quota_of mid + quota = sum_by_push quota_of mid new in
      let within : r.next + sum_by quota_of s.views ≤ 2 ^ 62 = r.within in
      let claimed : sum_by done_of s.views + sum_by busy_of s.views ≡ min r.next (length jobs) = r.claimed in
      let K : ℕ → Worker J → Type 0 = λ j u. Knows meets jobs s.homes r.next (unspents + 1) j u in record {
        next = r.next;
        words = r.words ∙ ap (λ n. n ∷ r.next ∷ []) (sym same_done');
        wide = r.wide;
        waiting = r.waiting;
        once = λ k lt inside. let t : sum_by (times k) views ≡ sum_by (times k) s.views + 0 = same_times k in let o : sum_by (times k) s.views ≡ 1 = r.once k lt inside in omega arith;
        no_other = λ k le. let t : sum_by (times k) views ≡ sum_by (times k) s.views + 0 = same_times k in let o : sum_by (times k) s.views ≡ 0 = r.no_other k le in omega arith;
        claimed = omega arith;
        within = omega arith;
        knows = subst (λ n. (j : ℕ) (u : Worker J) → get_elem? views j ≡ some u → Knows meets jobs s.homes r.next n j u) (sym more_unspent) (λ j u e. ⊎_elim
            (λ h. each_set K s.views id w
            (record {
              spent = mine.spent;
              held = mine.held;
              done = mine.done;
              ended = mine.ended;
              enough = λ _. omega arith;
              root = λ _. (root.0, ap (λ n. n + 1) root.1);
            })
            (λ i x other was. others s.homes r.next unspents (unspents + 1) i x (λ z. other (z ∙ sym root.0)) (r.knows i x was)) j u h)
            (λ h. subst (λ (x : Worker J). K j x) h (record {
              spent = λ _. refl;
              held = λ k job is. absurd (free_holds k job is);
              done = λ k l. absurd (omega arith);
              ended = λ t. absurd (true≢false (sym t));
              enough = λ _. omega arith;
              root = λ t. absurd (true≢false (sym t));
            }))
            (at_snoc mid new u j e));
      }

  pub joins : (id : ℕ) (v : Worker J) (other : ℕ) (w : Worker J) → v.stage ≡ Free → v.root ≡ true → w.stage ≡ Free → Joins (Claimed meets jobs) id v other w (joined v w) nobody
  joins id v other w free is_root free' s r at apart there =
      let both : Worker J = joined v w in
      let mid : List (Worker J) = set s.views id both in
      let views : List (Worker J) = set mid other nobody in
      let was : get_elem? s.views other ≡ some w = sym (set_else s.views id other both apart) ∙ there in
      let mine = r.knows id v at in
      let theirs = r.knows other w was in
      let root = mine.root is_root in
      let unspents : ℕ = sum_by unspent_of s.views in
      let a : unspent v.stage ≡ 1 = ap unspent free in
      let b : unspent w.stage ≡ 1 = ap unspent free' in
      let two : unspent v.stage + unspent w.stage ≤ unspents = sum_two unspent_of s.views id other v w (λ e. apart (sym e)) at was in
      let u1 : sum_by unspent_of mid ≡ unspents = sum_same unspent_of s.views id v both at refl in
      let u2 : sum_by unspent_of views + unspent w.stage ≡ sum_by unspent_of mid + 0 = sum_set unspent_of mid other w nobody there in
      let fewer : sum_by unspent_of views ≡ unspents - 1 = omega arith in
      let c : busy w.stage ≡ 0 = ap busy free' in
      let b1 : sum_by busy_of mid ≡ sum_by busy_of s.views = sum_same busy_of s.views id v both at refl in
      let b2 : sum_by busy_of views + busy w.stage ≡ sum_by busy_of mid + 0 = sum_set busy_of mid other w nobody there in
      let long : done_of both ≡ done_of v + done_of w = length-append v.listed w.listed in
      let d1 : sum_by done_of mid + done_of v ≡ sum_by done_of s.views + done_of both = sum_set done_of s.views id v both at in
      let d2 : sum_by done_of views + done_of w ≡ sum_by done_of mid + 0 = sum_set done_of mid other w nobody there in
      let same_done : sum_by done_of views ≡ sum_by done_of s.views = omega arith in
      let q1 : sum_by quota_of mid ≡ sum_by quota_of s.views = sum_same quota_of s.views id v both at refl in
      let q2 : sum_by quota_of views + w.quota ≡ sum_by quota_of mid + 0 = sum_set quota_of mid other w nobody there in
      let listed = λ (k : ℕ). sum_by-append (λ i. one_at i k) v.listed w.listed in
      let t0 = λ (k : ℕ). ap (holding k) free' in
      let t1 = λ (k : ℕ). sum_set (times k) s.views id v both at in
      let t2 = λ (k : ℕ). sum_set (times k) mid other w nobody there in
      let within : r.next + sum_by quota_of s.views ≤ 2 ^ 62 = r.within in
      let claimed : sum_by done_of s.views + sum_by busy_of s.views ≡ min r.next (length jobs) = r.claimed in
      let same_times : (k : ℕ) → sum_by (times k) views ≡ sum_by (times k) s.views = λ k.
      let l : lists k (v.listed ++ w.listed) ≡ lists k v.listed + lists k w.listed = listed k in
      let h : holding k w.stage ≡ 0 = t0 k in
      let s1 : sum_by (times k) mid + times k v ≡ sum_by (times k) s.views + times k both = t1 k in
      let s2 : sum_by (times k) views + times k w ≡ sum_by (times k) mid + 0 = t2 k in omega arith in
      let K : ℕ → Worker J → Type 0 = λ j u. Knows meets jobs s.homes r.next (unspents - 1) j u in record {
        next = r.next;
        words = r.words ∙ ap (λ n. n ∷ r.next ∷ []) (sym same_done);
        wide = r.wide;
        waiting = r.waiting;
        once = λ k lt inside. same_times k ∙ r.once k lt inside;
        no_other = λ k le. same_times k ∙ r.no_other k le;
        claimed = omega arith;
        within = omega arith;
        knows = subst (λ n. (j : ℕ) (u : Worker J) → get_elem? views j ≡ some u → Knows meets jobs s.homes r.next n j u) (sym fewer) (each_set K mid other nobody
            (record {
              spent = λ _. refl;
              held = λ k job is. absurd (cc (is));
              done = λ k l. absurd (omega arith);
              ended = λ t. absurd (true≢false (sym t));
              enough = λ live. absurd (live refl);
              root = λ t. absurd (true≢false (sym t));
            })
            (λ j u far e. each_set (λ i x. K i x) s.views id both
            (record {
              spent = λ e. absurd (free_live (sym free ∙ e));
              held = mine.held;
              done = λ k l. dite (dec_le (lists k v.listed) 0)
                  (λ none_here. let both_lists : lists k (v.listed ++ w.listed) ≡ lists k v.listed + lists k w.listed = listed k in theirs.done k (omega arith))
                  (λ some_here. mine.done k (omega arith));
              ended = λ t. ⊎_elim mine.ended theirs.ended (either_true v.ended w.ended t);
              enough = mine.enough;
              root = λ _. (root.0, (let n : v.unjoined + 1 ≡ unspents = root.1 in omega arith));
            })
            (λ i x elsewhere was'. others s.homes r.next unspents (unspents - 1) i x (λ z. elsewhere (z ∙ sym root.0)) (r.knows i x was')) j u e));
      }
