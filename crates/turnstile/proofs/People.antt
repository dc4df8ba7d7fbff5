-- What each step keeps of the passes, their numbers and the history.
use Rattle.std.proofs.Common.{◌≡◌, ◌≢◌, ℕ, zero, suc, ◌+◌, ◌-◌, ◌≤◌, List, [], ◌∷◌, ◌++◌, length, set, refl, sym, ap, ◌∙◌, subst, inl, inr, ⊎_elim, arith, length-set}
use mathlib.Core.Logic.{dite}
use mathlib.Core.Option.{some, some-ne-none, some-injective}
use mathlib.Core.List.{IsPrefix}
use native.Mathlib.Decide.{ℕ_discrete, dec_le}
use lib.ListN.{get_elem?}
use Rattle.atomic_table.proofs.Lists.{set_else, at_longer, at_last}
use Rattle.agg_terms.specs.Lists.{Among, Apart}
use Rattle.history_core.specs.declared.entry.Entry.{Entry}
use Rattle.history_core.specs.History.{entries_of}
use Rattle.turnstile.specs.declared.view.View.{View}
use Rattle.turnstile.specs.declared.view.Stage.{Stage}
use Rattle.turnstile.specs.declared.view.Stage.TheVariants.{Spent, Idle, Waits, InTurn, Acted}
use Rattle.turnstile.specs.Known.{numbers, Settled}
use Rattle.turnstile.specs.proving.Rules.{total, root, live_of, is_live, Lives, HasPass, People, parted, newcomer, joined, nobody}
use Rattle.turnstile.specs.proving.Steps.{shown}
use Rattle.turnstile.proofs.Lists.{put, put_here, put_else, total_set, total_two, total_snoc, set_at, each_set, at_end, prefix_self, prefix_more, prefix_trans, entries_of-own, entries_of-other, longer_is, among_end, among_last, among_longer, apart_end, numbers_end, kept_with, among_number}

pub live_one : (st : Stage) → st ≢ Spent → live_of st ≡ 1
live_one Spent live = absurd (live refl)
live_one Idle live = refl
live_one (Waits t) live = refl
live_one (InTurn t found) live = refl
live_one (Acted t) live = refl

module _ {G : Type 0} (g : G) where
  pub first_people : People g [] 0 0 [] (λ _. 0) (root g ∷ [])
  first_people = record {
    lives = one;
    fresh = λ n le. refl;
    keeps = λ p none. absurd none;
    gone = λ n j v none at live. absurd none;
    once = tt;
    placed = λ n le. inl (root g, refl, (λ e. absurd (cc (e))), omega arith);
    counted = refl;
    lead = 0;
    leads = (root g, refl, (λ e. absurd (cc (e))), refl);
  }
    where
      one : (j : ℕ) (v : View G) → get_elem? (root g ∷ []) j ≡ some v → v.stage ≢ Spent → Lives g [] 0 0 [] (λ _. 0) j v
      one zero v at live = subst (Lives g [] 0 0 [] (λ _. 0) zero) (some-injective (root g) v at)
          (record { sees = ([], refl); compared = ([], refl); owns = refl; based = refl; numbered = (omega arith, refl); roots = λ _. (refl, refl, refl) })
      one (suc j) v at live = absurd (some-ne-none v (sym at))

  -- a pass of the same number comes in the place of one
  has_set : (holder : ℕ → ℕ) (views : List (View G)) (n id : ℕ) (v w : View G) → get_elem? views id ≡ some v → w.stage ≢ Spent → w.number ≡ v.number → HasPass holder views n → HasPass holder (set views id w) n
  has_set holder views n id v w at alive same h = dite (ℕ_discrete (holder n) id)
      (λ e. let is : h.0 ≡ v = some-injective h.0 v (sym h.1 ∙ (ap (get_elem? views) e ∙ at)) in
      (w, subst (λ k. get_elem? (set views id w) k ≡ some w) (sym e) (set_at views id v w at), alive, same ∙ (sym (ap (λ (u : View G). u.number) is) ∙ h.3)))
      (λ ne. (h.0, set_else views id (holder n) w ne ∙ h.1, h.2, h.3))

  count_set : (views : List (View G)) (id : ℕ) (v w : View G) → get_elem? views id ≡ some v → v.stage ≢ Spent → w.stage ≢ Spent → total is_live (set views id w) ≡ total is_live views
  count_set views id v w at live alive =
      let s = total_set is_live views id v w at in
      let a : live_of v.stage ≡ 1 = live_one v.stage live in
      let b : live_of w.stage ≡ 1 = live_one w.stage alive in
      let x : ℕ = total is_live (set views id w) in let y : ℕ = total is_live views in
      let s' : x + live_of v.stage ≡ y + live_of w.stage = s in omega arith

  -- a step that only moves a pass's stage and quota
  pub people_move : (front : List Entry) (made unjoined : ℕ) (kept : List (ℕ × List Entry)) (holder : ℕ → ℕ) (views : List (View G)) (id : ℕ) (v : View G) (stage : Stage) (quota : ℕ)
      → get_elem? views id ≡ some v → v.stage ≢ Spent → stage ≢ Spent → People g front made unjoined kept holder views
      → People g front made unjoined kept holder (set views id (record v { stage = stage; quota = quota }))
  people_move front made unjoined kept holder views id v stage quota at live alive p =
      let w : View G = record v { stage = stage; quota = quota } in
      let mine = p.lives id v at live in record {
        lives = each_set (λ j u. u.stage ≢ Spent → Lives g front made unjoined kept holder j u) views id w
            (λ _. record { sees = mine.sees; compared = mine.compared; owns = mine.owns; based = mine.based; numbered = mine.numbered; roots = mine.roots })
            (λ j u other was. p.lives j u was);
        fresh = p.fresh;
        keeps = p.keeps;
        gone = λ n j u kept_too. each_set (λ (_ : ℕ) (u' : View G). u'.stage ≢ Spent → u'.number ≢ n) views id w (λ _. p.gone n id v kept_too at live) (λ i u' other was. p.gone n i u' kept_too was) j u;
        once = p.once;
        placed = λ n lt. ⊎_elim (λ h. inl (has_set holder views n id v w at alive refl h)) (λ h. inr h) (p.placed n lt);
        counted = count_set views id v w at live alive ∙ p.counted;
        lead = p.lead;
        leads = dite (ℕ_discrete p.lead id)
            (λ e. let is : p.leads.0 ≡ v = some-injective p.leads.0 v (sym p.leads.1 ∙ (ap (get_elem? views) e ∙ at)) in
            (w, subst (λ k. get_elem? (set views id w) k ≡ some w) (sym e) (set_at views id v w at), alive, sym (ap (λ (u : View G). u.seen) is) ∙ p.leads.3))
            (λ ne. (p.leads.0, set_else views id p.lead w ne ∙ p.leads.1, p.leads.2, p.leads.3));
      }

  -- a pass looks
  pub people_look : (front : List Entry) (made unjoined : ℕ) (kept : List (ℕ × List Entry)) (holder : ℕ → ℕ) (views : List (View G)) (id : ℕ) (v : View G) (stage : Stage) (seen : List Entry)
      → get_elem? views id ≡ some v → v.stage ≢ Spent → stage ≢ Spent → seen ≡ front → People g front made unjoined kept holder views
      → People g front made unjoined kept holder (set views id (record v { stage = stage; seen = seen }))
  people_look front made unjoined kept holder views id v stage seen at live alive whole p =
      let w : View G = record v { stage = stage; seen = seen } in
      let mine = p.lives id v at live in record {
        lives = each_set (λ j u. u.stage ≢ Spent → Lives g front made unjoined kept holder j u) views id w
            (λ _. record {
              sees = subst (λ l. IsPrefix l front) (sym whole) (prefix_self front);
              compared = subst (IsPrefix v.shorter) (sym whole) (prefix_trans v.shorter v.seen front mine.compared mine.sees);
              owns = mine.owns;
              based = mine.based;
              numbered = mine.numbered;
              roots = mine.roots;
            })
            (λ j u other was. p.lives j u was);
        fresh = p.fresh;
        keeps = p.keeps;
        gone = λ n j u kept_too. each_set (λ (_ : ℕ) (u' : View G). u'.stage ≢ Spent → u'.number ≢ n) views id w (λ _. p.gone n id v kept_too at live) (λ i u' other was. p.gone n i u' kept_too was) j u;
        once = p.once;
        placed = λ n lt. ⊎_elim (λ h. inl (has_set holder views n id v w at alive refl h)) (λ h. inr h) (p.placed n lt);
        counted = count_set views id v w at live alive ∙ p.counted;
        lead = id;
        leads = (w, set_at views id v w at, alive, whole);
      }

  -- a pass adds an entry
  pub people_commit : (front : List Entry) (made unjoined : ℕ) (kept : List (ℕ × List Entry)) (holder : ℕ → ℕ) (views : List (View G)) (id : ℕ) (v : View G) (stage : Stage) (seen : List Entry) (e : Entry)
      → get_elem? views id ≡ some v → v.stage ≢ Spent → stage ≢ Spent → seen ≡ front ++ e ∷ [] → e.session ≡ v.number → People g front made unjoined kept holder views
      → People g (front ++ e ∷ []) made unjoined kept holder (set views id (record v { stage = stage; mine = v.mine ++ e ∷ []; seen = seen }))
  people_commit front made unjoined kept holder views id v stage seen e at live alive whole by p =
      let w : View G = record v { stage = stage; mine = v.mine ++ e ∷ []; seen = seen } in
      let now : List Entry = front ++ e ∷ [] in
      let mine = p.lives id v at live in record {
        lives = each_set (λ j u. u.stage ≢ Spent → Lives g now made unjoined kept holder j u) views id w
            (λ _. record {
              sees = subst (λ l. IsPrefix l now) (sym whole) (prefix_self now);
              compared = subst (IsPrefix v.shorter) (sym whole) (prefix_more v.shorter front (e ∷ []) (prefix_trans v.shorter v.seen front mine.compared mine.sees));
              owns = ap (λ l. l ++ e ∷ []) mine.owns ∙ sym (entries_of-own v.number front e by);
              based = mine.based;
              numbered = mine.numbered;
              roots = mine.roots;
            })
            (λ j u other was alive. let l = p.lives j u was alive in record {
              sees = prefix_more u.seen front (e ∷ []) l.sees;
              compared = l.compared;
              owns = l.owns ∙ sym (entries_of-other u.number front e (λ same. other (sym l.numbered.1 ∙ (ap holder (sym same ∙ by) ∙ mine.numbered.1))));
              based = l.based;
              numbered = l.numbered;
              roots = l.roots;
            });
        fresh = λ n new. let le = mine.numbered.0 in entries_of-other n front e (λ same. let is : v.number ≡ n = sym by ∙ same in absurd (omega arith)) ∙ p.fresh n new;
        keeps = λ q there. ((p.keeps q there).0 ∙ sym (entries_of-other q.0 front e (λ same. p.gone q.0 id v (among_number q kept there) at live (sym by ∙ same))), (p.keeps q there).1);
        gone = λ n j u kept_too. each_set (λ (_ : ℕ) (u' : View G). u'.stage ≢ Spent → u'.number ≢ n) views id w (λ _. p.gone n id v kept_too at live) (λ i u' other was. p.gone n i u' kept_too was) j u;
        once = p.once;
        placed = λ n lt. ⊎_elim (λ h. inl (has_set holder views n id v w at alive refl h)) (λ h. inr h) (p.placed n lt);
        counted = count_set views id v w at live alive ∙ p.counted;
        lead = id;
        leads = (w, set_at views id v w at, alive, whole);
      }

  -- the root gives a pass the next number
  pub people_split : (front : List Entry) (made unjoined : ℕ) (kept : List (ℕ × List Entry)) (holder : ℕ → ℕ) (views : List (View G)) (id : ℕ) (v : View G) (quota : ℕ)
      → get_elem? views id ≡ some v → v.stage ≢ Spent → v.number ≡ 0 → People g front made unjoined kept holder views
      → People g front (made + 1) (unjoined + 1) kept (put holder (made + 1) (length views)) (set views id (parted quota v) ++ newcomer quota v ∷ [])
  people_split front made unjoined kept holder views id v quota at live zeroth p =
      let w : View G = parted quota v in
      let new : View G = newcomer quota v in
      let holder' : ℕ → ℕ = put holder (made + 1) (length views) in
      let mine = p.lives id v at live in
      let root = mine.roots zeroth in
      let next : new.number ≡ made + 1 = ap (λ n. n + 1) root.0 in
      let same_holder = λ (n : ℕ) (le : n ≤ made). put_else holder (made + 1) (length views) n (λ e. absurd (omega arith)) in
      let K : ℕ → View G → Type 0 = λ j u. u.stage ≢ Spent → Lives g front (made + 1) (unjoined + 1) kept holder' j u in
      let wide = length-set views id w in
      let last : get_elem? (set views id w ++ new ∷ []) (length views) ≡ some new = at_last (set views id w) new (length views) wide in record {
        lives = λ j u e. ⊎_elim
            (λ h. each_set K views id w
            (λ _. record {
              sees = mine.sees;
              compared = mine.compared;
              owns = mine.owns;
              based = mine.based;
              numbered = (let le = mine.numbered.0 in omega arith, same_holder v.number mine.numbered.0 ∙ mine.numbered.1);
              roots = λ _. (ap (λ n. n + 1) root.0, ap (λ n. n + 1) root.1, root.2);
            })
            (λ i x other was alive. let l = p.lives i x was alive in record {
              sees = l.sees;
              compared = l.compared;
              owns = l.owns;
              based = l.based;
              numbered = (let le = l.numbered.0 in omega arith, same_holder x.number l.numbered.0 ∙ l.numbered.1);
              roots = λ none. absurd (other (sym l.numbered.1 ∙ (ap holder (none ∙ sym zeroth) ∙ mine.numbered.1)));
            }) j u h)
            (λ h. subst (λ (x : ℕ × View G). K x.0 x.1) (λ i. (sym (h.0 ∙ wide) i, h.1 i))
            (λ _. record {
              sees = mine.sees;
              compared = (v.seen, refl);
              owns = sym (p.fresh (v.made + 1) (let e = root.0 in omega arith));
              based = mine.based;
              numbered = (let e = root.0 in omega arith, ap holder' next ∙ put_here holder (made + 1) (length views));
              roots = λ none. absurd (omega arith);
            }))
            (at_end (set views id w) new u j e);
        fresh = λ n later. p.fresh n (omega arith);
        keeps = λ q there. let old = p.keeps q there in let le = old.1 in (old.0, omega arith);
        gone = λ n j u kept_too e. ⊎_elim
            (λ h. each_set (λ (_ : ℕ) (u' : View G). u'.stage ≢ Spent → u'.number ≢ n) views id w (λ _. p.gone n id v kept_too at live) (λ i u' other was. p.gone n i u' kept_too was) j u h)
            (λ h. subst (λ (x : View G). x.stage ≢ Spent → x.number ≢ n) h.1
            (λ _ same. let q = kept_with n kept kept_too in let le = (p.keeps q.0 q.1).1 in let is = q.2 in absurd (omega arith)))
            (at_end (set views id w) new u j e);
        once = p.once;
        placed = λ n le. dite (ℕ_discrete n (made + 1))
            (λ e. inl (new, ap (get_elem? (set views id w ++ new ∷ [])) (ap holder' e ∙ put_here holder (made + 1) (length views)) ∙ last, (λ sp. absurd (cc (sp))), next ∙ sym e))
            (λ ne. let below : n ≤ made = omega arith in ⊎_elim
            (λ h. let h' = has_set holder views n id v w at live refl h in
            inl (h'.0, ap (get_elem? (set views id w ++ new ∷ [])) (same_holder n below) ∙ at_longer (set views id w) (new ∷ []) (holder n) h'.0 h'.1, h'.2, h'.3))
            (λ h. inr h)
            (p.placed n below));
        counted = total_snoc is_live (set views id w) new ∙ ap (λ k. k + 1) (count_set views id v w at live live ∙ p.counted);
        lead = p.lead;
        leads = dite (ℕ_discrete p.lead id)
            (λ e. let is : p.leads.0 ≡ v = some-injective p.leads.0 v (sym p.leads.1 ∙ (ap (get_elem? views) e ∙ at)) in
            (w, at_longer (set views id w) (new ∷ []) p.lead w (subst (λ k. get_elem? (set views id w) k ≡ some w) (sym e) (set_at views id v w at)), live, sym (ap (λ (u : View G). u.seen) is) ∙ p.leads.3))
            (λ ne. (p.leads.0, at_longer (set views id w) (new ∷ []) p.lead p.leads.0 (set_else views id p.lead w ne ∙ p.leads.1), p.leads.2, p.leads.3));
      }

  -- the root takes a pass in
  pub people_join : (front : List Entry) (made unjoined : ℕ) (kept : List (ℕ × List Entry)) (holder : ℕ → ℕ) (views : List (View G)) (id other : ℕ) (v w : View G)
      → get_elem? views id ≡ some v → v.stage ≢ Spent → v.number ≡ 0 → other ≢ id → get_elem? views other ≡ some w → w.stage ≢ Spent → People g front made unjoined kept holder views
      → People g front made (unjoined - 1) (kept ++ (w.number, w.mine) ∷ []) holder (set (set views id (joined v w)) other nobody)
  people_join front made unjoined kept holder views id other v w at live zeroth apart there alive p =
      let both : View G = joined v w in
      let kept' : List (ℕ × List Entry) = kept ++ (w.number, w.mine) ∷ [] in
      let mid : List (View G) = set views id both in
      let mine = p.lives id v at live in
      let theirs = p.lives other w there alive in
      let root = mine.roots zeroth in
      let l = longer_is v.seen w.seen front mine.sees theirs.sees in
      let there' : get_elem? mid other ≡ some w = set_else views id other both apart ∙ there in
      let numbers_differ : v.number ≢ w.number = λ e. apart (sym theirs.numbered.1 ∙ (ap holder (sym e) ∙ mine.numbered.1)) in
      let split_kept = λ (n : ℕ) (kept_too : Among n (numbers kept')). among_end n w.number (numbers kept) (subst (Among n) (numbers_end kept (w.number, w.mine)) kept_too) in
      let K : ℕ → View G → Type 0 = λ j u. u.stage ≢ Spent → Lives g front made (unjoined - 1) kept' holder j u in
      let a : live_of v.stage ≡ 1 = live_one v.stage live in
      let b : live_of w.stage ≡ 1 = live_one w.stage alive in
      let two : live_of v.stage + live_of w.stage ≤ total is_live views = total_two is_live views id other v w (λ e. apart (sym e)) at there in
      let all : total is_live views ≡ unjoined + 1 = p.counted in
      let same : total is_live mid ≡ total is_live views = count_set views id v both at live live in
      let less : total is_live (set mid other nobody) + live_of w.stage ≡ total is_live mid + 0 = total_set is_live mid other w nobody there' in
      let both_at : get_elem? (set mid other nobody) id ≡ some both = set_else mid other id nobody (λ e. apart (sym e)) ∙ set_at views id v both at in
      let Ahead : Type 0 = (k : ℕ) × ((x : View G) × (get_elem? (set mid other nobody) k ≡ some x) × (x.stage ≢ Spent) × (x.seen ≡ front)) in
      let leading = λ (k : ℕ) (u : View G) (is : get_elem? views k ≡ some u) (e : p.lead ≡ k). ap (λ (x : View G). x.seen) (some-injective u p.leads.0 (sym is ∙ (ap (get_elem? views) (sym e) ∙ p.leads.1))) ∙ p.leads.3 in
      let ahead : Ahead = dite (ℕ_discrete p.lead id)
      (λ e. (id, (both, both_at, live, l.2 (inl (leading id v at e)))))
      (λ ne. dite (ℕ_discrete p.lead other)
      (λ e. (id, (both, both_at, live, l.2 (inr (leading other w there e)))))
      (λ ne'. (p.lead, (p.leads.0, set_else mid other p.lead nobody ne' ∙ (set_else views id p.lead both ne ∙ p.leads.1), p.leads.2, p.leads.3)))) in record {
        lives = each_set K mid other nobody (λ none. absurd (none refl))
            (λ j u apart' was. each_set (λ i x. i ≢ other → K i x) views id both
            (λ _ _. record {
              sees = l.0;
              compared = l.1;
              owns = mine.owns;
              based = mine.based;
              numbered = mine.numbered;
              roots = λ _. (root.0, ap (λ n. n - 1) root.1, ap (λ k. k ++ (w.number, w.mine) ∷ []) root.2);
            })
            (λ i x elsewhere was' _ up. let q = p.lives i x was' up in record {
              sees = q.sees;
              compared = q.compared;
              owns = q.owns;
              based = q.based;
              numbered = q.numbered;
              roots = λ none. absurd (elsewhere (sym q.numbered.1 ∙ (ap holder (none ∙ sym zeroth) ∙ mine.numbered.1)));
            }) j u was apart');
        fresh = p.fresh;
        keeps = λ q there. ⊎_elim (λ h. p.keeps q h)
            (λ same. subst (λ (x : ℕ × List Entry). (x.1 ≡ entries_of x.0 front) × (x.0 ≤ made)) (sym same) (theirs.owns, theirs.numbered.0))
            (among_end q (w.number, w.mine) kept there);
        gone = λ n j u kept_too. each_set (λ (_ : ℕ) (x : View G). x.stage ≢ Spent → x.number ≢ n) mid other nobody (λ none. absurd (none refl))
            (λ i x apart' was. each_set (λ i' x'. i' ≢ other → x'.stage ≢ Spent → x'.number ≢ n) views id both
            (λ _ _. ⊎_elim (λ h. p.gone n id v h at live) (λ is same. numbers_differ (same ∙ is)) (split_kept n kept_too))
            (λ i' x' elsewhere was' far up. ⊎_elim (λ h. p.gone n i' x' h was' up)
            (λ is same. far (sym (p.lives i' x' was' up).numbered.1 ∙ (ap holder (same ∙ is) ∙ theirs.numbered.1)))
            (split_kept n kept_too)) i x was apart') j u;
        once = subst Apart (sym (numbers_end kept (w.number, w.mine))) (apart_end (numbers kept) w.number p.once (λ kept_too. p.gone w.number other w kept_too there alive refl));
        placed = λ n le. dite (ℕ_discrete n w.number)
            (λ e. inr (subst (Among n) (sym (numbers_end kept (w.number, w.mine))) (subst (λ m. Among n (numbers kept ++ m ∷ [])) e (among_last n (numbers kept)))))
            (λ ne. ⊎_elim
            (λ h. let h' = has_set holder views n id v both at live refl h in
            inl (h'.0, set_else mid other (holder n) nobody (λ e. ne (sym h'.3 ∙ ap (λ (u : View G). u.number) (some-injective h'.0 w (sym h'.1 ∙ (ap (get_elem? mid) e ∙ there'))))) ∙ h'.1, h'.2, h'.3))
            (λ h. inr (subst (Among n) (sym (numbers_end kept (w.number, w.mine))) (among_longer n (numbers kept) (w.number ∷ []) h)))
            (p.placed n le));
        counted = omega arith;
        lead = ahead.0;
        leads = ahead.1;
      }

  -- once each pass has joined, the root is alone
  pub people_alone : (front : List Entry) (made unjoined : ℕ) (kept : List (ℕ × List Entry)) (holder : ℕ → ℕ) (views : List (View G)) (id j : ℕ) (v u : View G)
      → get_elem? views id ≡ some v → v.stage ≢ Spent → v.number ≡ 0 → v.unjoined ≡ 0 → get_elem? views j ≡ some u → u.stage ≢ Spent → j ≢ id → People g front made unjoined kept holder views → ⊥
  people_alone front made unjoined kept holder views id j v u at live zeroth none_out there up apart p =
      let root = (p.lives id v at live).roots zeroth in
      let all : total is_live views ≡ unjoined + 1 = p.counted in
      let zero_out : unjoined ≡ 0 = sym root.1 ∙ none_out in
      let a : live_of v.stage ≡ 1 = live_one v.stage live in
      let b : live_of u.stage ≡ 1 = live_one u.stage up in
      let two : live_of v.stage + live_of u.stage ≤ total is_live views = total_two is_live views id j v u (λ e. apart (sym e)) at there in
      absurd (omega arith)

  -- what the root knows once each pass has joined
  pub people_settled : (front : List Entry) (made unjoined : ℕ) (kept : List (ℕ × List Entry)) (holder : ℕ → ℕ) (views : List (View G)) (id : ℕ) (v : View G)
      → get_elem? views id ≡ some v → v.stage ≢ Spent → v.number ≡ 0 → v.unjoined ≡ 0 → People g front made unjoined kept holder views → (v.seen ≡ front) × Settled (shown v)
  people_settled front made unjoined kept holder views id v at live zeroth none_out p =
      let mine = p.lives id v at live in
      let root = mine.roots zeroth in
      let alone = λ (j : ℕ) (u : View G) (there : get_elem? views j ≡ some u) (up : u.stage ≢ Spent) (apart : j ≢ id). people_alone front made unjoined kept holder views id j v u at live zeroth none_out there up apart p in
      let whole : v.seen ≡ front = dite (ℕ_discrete p.lead id)
      (λ e. ap (λ (x : View G). x.seen) (some-injective v p.leads.0 (sym at ∙ (ap (get_elem? views) (sym e) ∙ p.leads.1))) ∙ p.leads.3)
      (λ ne. absurd (alone p.lead p.leads.0 p.leads.1 p.leads.2 ne)) in
      let only = λ (n : ℕ) (h : HasPass holder views n). dite (ℕ_discrete (holder n) id)
      (λ e. sym h.3 ∙ ap (λ (x : View G). x.number) (some-injective h.0 v (sym h.1 ∙ (ap (get_elem? views) e ∙ at))))
      (λ ne. absurd (alone (holder n) h.0 h.1 h.2 ne)) in
      let its : numbers v.kept ≡ numbers kept = ap numbers root.2 in (
        whole,
        record {
          own = mine.owns ∙ ap (entries_of v.number) (sym whole);
          joined = λ q there. (p.keeps q (subst (Among q) root.2 there)).0 ∙ ap (entries_of q.0) (sym whole);
          others = λ n other not_kept. ap (entries_of n) whole ∙ dite (dec_le n made)
              (λ le. ⊎_elim (λ h. absurd (other (only n h))) (λ h. absurd (not_kept (subst (Among n) (sym its) h))) (p.placed n le))
              (λ no. p.fresh n (omega arith));
          once = subst Apart (sym its) p.once;
          all = λ n pos le.
              let same : v.made ≡ made = root.0 in
              ⊎_elim (λ h. let is : n ≡ v.number = only n h in absurd (omega arith)) (λ h. subst (Among n) (sym its) h) (p.placed n (omega arith));
        },
      )
