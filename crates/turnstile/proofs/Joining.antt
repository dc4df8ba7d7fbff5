-- Splitting a pass off and taking one in keep the rule, and what the root knows once each has joined.
use Rattle.std.proofs.Common.{◌≡◌, ℕ, ◌+◌, ◌-◌, ◌^◌, ◌≤◌, List, [], ◌∷◌, ◌++◌, length, set, refl, sym, ap, ◌∙◌, subst, inl, inr, ⊎_elim, arith, Option, Some}
use Rattle.std.specs.Prelude.{slice_index, slice_set}
use mathlib.Core.Option.{some, none, some-injective}
use lib.ListN.{get_elem?}
use Rattle.atomic_table.specs.Table.{State, Me, step, keeps, Allows, Splits, Joins}
use Rattle.atomic_table.proofs.Lists.{set_else, set_again, at_longer}
use Rattle.history_core.specs.declared.entry.Entry.{Entry}
use Rattle.turnstile.specs.declared.view.View.{View}
use Rattle.turnstile.specs.declared.view.Stage.TheVariants.{Spent, Idle}
use Rattle.turnstile.specs.Known.{Settled}
use Rattle.turnstile.specs.proving.Rules.{total, quota_of, Stands, Midway, Turning, parted, newcomer, joined, nobody}
use Rattle.turnstile.specs.proving.Steps.{shown, Checks}
use Rattle.turnstile.proofs.People.{people_split, people_join, people_settled, people_alone}
use Rattle.turnstile.proofs.Lists.{put, total_set, each_set, at_end, total_snoc}
use Rattle.turnstile.proofs.Stands.{off, midway_live, idle_live, no_ticket, held_else, held_longer, out_stays}

module _ {T G : Type 0} (history : T → List Entry) (basis : T → G) (g : G) where
  abbrev Rule : State (Option T) (View G) → Type 0
  Rule = Turning history basis g

  abbrev M : Type 0
  M = Me (Option T) (View G)

  pub splits : (id : ℕ) (v : View G) (quota : ℕ) → v.stage ≡ Idle → v.number ≡ 0 → quota ≤ v.quota → Splits Rule id v (parted quota v) (newcomer quota v)
  splits id v quota idle zeroth few s r at =
      let w : View G = parted quota v in
      let new : View G = newcomer quota v in
      let live = λ (e : v.stage ≡ Spent). idle_live (sym idle ∙ e) in
      let before : ℕ = total quota_of s.views in
      let after : ℕ = total quota_of (set s.views id w) in
      let q : ℕ = v.quota in
      let sum : after + q ≡ before + (q - quota) = total_set quota_of s.views id v w at in
      let ended : total quota_of (set s.views id w ++ new ∷ []) ≡ after + quota = total_snoc quota_of (set s.views id w) new in
      let within : r.ticket + before ≤ 2 ^ 62 = r.within in record {
        front = r.front;
        ticket = r.ticket;
        serving = r.serving;
        door = r.door;
        made = r.made + 1;
        unjoined = r.unjoined + 1;
        kept = r.kept;
        owner = r.owner;
        holder = put r.holder (r.made + 1) (length s.views);
        words_are = r.words_are;
        one_slot = r.one_slot;
        slot = ⊎_elim (λ h. inl h)
            (λ o. let o' = out_stays s.views r.front r.serving (r.owner r.serving) id v w at (off v.stage idle (length r.front) r.serving) o in
            inr (o'.0, at_longer (set s.views id w) (new ∷ []) (r.owner r.serving) o'.0 o'.1, o'.2))
            r.slot;
        stands = λ j u e. ⊎_elim
            (λ h. each_set (λ i x. Stands r.front r.ticket r.serving r.owner i x.seen x.stage) s.views id w
            (subst (Stands r.front r.ticket r.serving r.owner id v.seen) (sym idle) tt) (λ i x other was. r.stands i x was) j u h)
            (λ h. subst (λ (x : View G). Stands r.front r.ticket r.serving r.owner j x.seen x.stage) h.1 tt)
            (at_end (set s.views id w) new u j e);
        held = λ t from below. held_longer r.owner (set s.views id w) (new ∷ []) t (held_else r.owner s.views id v w t at (no_ticket v.stage t idle) (r.held t from below));
        people = people_split g r.front r.made r.unjoined r.kept r.holder s.views id v quota at live zeroth r.people;
        within = omega arith;
        in_order = r.in_order;
      }

  pub joins : (id : ℕ) (v : View G) (other : ℕ) (w : View G) → v.stage ≡ Idle → v.number ≡ 0 → w.stage ≡ Idle → Joins Rule id v other w (joined v w) nobody
  joins id v other w idle zeroth idle' s r at apart there =
      let both : View G = joined v w in
      let mid : List (View G) = set s.views id both in
      let was : get_elem? s.views other ≡ some w = sym (set_else s.views id other both apart) ∙ there in
      let live = λ (e : v.stage ≡ Spent). idle_live (sym idle ∙ e) in
      let alive = λ (e : w.stage ≡ Spent). idle_live (sym idle' ∙ e) in
      let before : ℕ = total quota_of s.views in
      let middle : ℕ = total quota_of mid in
      let q : ℕ = v.quota in
      let sum : middle + q ≡ before + q = total_set quota_of s.views id v both at in
      let less : total quota_of (set mid other nobody) + w.quota ≡ middle + 0 = total_set quota_of mid other w nobody there in
      let within : r.ticket + before ≤ 2 ^ 62 = r.within in record {
        front = r.front;
        ticket = r.ticket;
        serving = r.serving;
        door = r.door;
        made = r.made;
        unjoined = r.unjoined - 1;
        kept = r.kept ++ (w.number, w.mine) ∷ [];
        owner = r.owner;
        holder = r.holder;
        words_are = r.words_are;
        one_slot = r.one_slot;
        slot = ⊎_elim (λ h. inl h)
            (λ o. inr (out_stays mid r.front r.serving (r.owner r.serving) other w nobody there (off w.stage idle' (length r.front) r.serving)
            (out_stays s.views r.front r.serving (r.owner r.serving) id v both at (off v.stage idle (length r.front) r.serving) o)))
            r.slot;
        stands = each_set (λ i x. Stands r.front r.ticket r.serving r.owner i x.seen x.stage) mid other nobody tt
            (λ j u _ e. each_set (λ i x. Stands r.front r.ticket r.serving r.owner i x.seen x.stage) s.views id both
            (subst (Stands r.front r.ticket r.serving r.owner id both.seen) (sym idle) tt) (λ i x _ was'. r.stands i x was') j u e);
        held = λ t from below. held_else r.owner mid other w nobody t there (no_ticket w.stage t idle') (held_else r.owner s.views id v both t at (no_ticket v.stage t idle) (r.held t from below));
        people = people_join g r.front r.made r.unjoined r.kept r.holder s.views id other v w at live zeroth apart was alive r.people;
        within = omega arith;
        in_order = r.in_order;
      }

  pub checks : (slots id : ℕ) (m : M) → Allows Rule slots id m 0 (λ n. n) (Checks (step slots 0 0 0 none) m)
  checks slots id m s r deep at small =
      let same_words = ap (λ ws. slice_set ws 0 (slice_index ws 0)) r.words_are in (
        m.0,
        keeps,
        tt,
        subst (λ (p : List ℕ × List (View G)). Rule (record { words = p.0; homes = s.homes; views = p.1 })) (λ i. (sym (same_words ∙ sym r.words_are) i, sym (set_again s.views id m.0 at) i)) r,
        (
          refl,
          λ idle.
              let live = λ (e : m.0.stage ≡ Spent). idle_live (sym idle ∙ e) in
              ((r.people.lives id m.0 at live).compared, λ zeroth none_out. (people_settled g r.front r.made r.unjoined r.kept r.holder s.views id m.0 at live zeroth none_out r.people).1),
        ),
      )

  -- the value at the end
  pub closes : (s : State (Option T) (View G)) (id : ℕ) (v : View G) → Rule s → get_elem? s.views id ≡ some v → v.stage ≡ Idle → v.number ≡ 0 → v.unjoined ≡ 0
      → (x : T) × (get_elem? s.homes 0 ≡ some (some (Some x))) × (history x ≡ v.seen) × (v.basis ≡ Some (basis x)) × Settled (shown v)
  closes s id v r at idle zeroth none_out =
      let live = λ (e : v.stage ≡ Spent). idle_live (sym idle ∙ e) in
      let settled = people_settled g r.front r.made r.unjoined r.kept r.holder s.views id v at live zeroth none_out r.people in
      let mine = r.people.lives id v at live in
      ⊎_elim (λ h. (h.0, h.1, h.2 ∙ sym settled.0, mine.based ∙ ap Some (sym h.3), settled.1))
      (λ o. absurd (people_alone g r.front r.made r.unjoined r.kept r.holder s.views id (r.owner r.serving) v o.0 at live zeroth none_out o.1 (midway_live o.0.stage (length r.front) r.serving o.2)
      (λ e. off v.stage idle (length r.front) r.serving (subst (λ u. Midway (length r.front) r.serving u.stage) (some-injective o.0 v (sym o.1 ∙ (ap (get_elem? s.views) e ∙ at))) o.2)) r.people))
      r.slot
