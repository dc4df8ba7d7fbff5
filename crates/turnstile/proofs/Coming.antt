-- The rule at the start, and that a draw, a step at the door and a poll keep it.
use Rattle.std.proofs.Common.{◌≡◌, ℕ, zero, suc, ◌+◌, ◌-◌, ◌%◌, ◌^◌, ◌<◌, ◌≤◌, List, [], ◌∷◌, length, set, refl, sym, ap, ◌∙◌, subst, inl, inr, ⊎_elim, arith, Option, Some, length-set}
use Rattle.std.specs.Prelude.{slice_index, slice_set}
use mathlib.Core.Logic.{dite}
use mathlib.Core.Option.{some, none, some-ne-none, some-injective}
use mathlib.Core.List.{IsPrefix}
use native.Mathlib.Decide.{ℕ_discrete}
use lib.ListN.{get_elem?}
use Rattle.atomic_table.specs.Table.{State, Me, step, keeps, takes, Allows, opening}
use Rattle.atomic_table.proofs.Lists.{set_again}
use Rattle.history_core.specs.declared.entry.Entry.{Entry}
use Rattle.turnstile.specs.declared.view.View.{View}
use Rattle.turnstile.specs.declared.view.Stage.TheVariants.{Idle, Waits, InTurn}
use Rattle.turnstile.specs.proving.Rules.{total, root, quota_of, ticket_of, Stands, IsOut, Turning}
use Rattle.turnstile.specs.proving.Steps.{Draws, Polls, ticket_or}
use Rattle.turnstile.proofs.People.{first_people, people_move}
use Rattle.turnstile.proofs.Lists.{put, put_here, put_else, total_set, total_at, set_at, each_set}
use Rattle.turnstile.proofs.Stands.{wraps, off, waits_live, in_turn_live, idle_live, held_same, held_draw, has_ticket, stands_draw, out_stays, its_own}

module _ {T G : Type 0} (history : T → List Entry) (basis : T → G) (g : G) where
  abbrev Rule : State (Option T) (View G) → Type 0
  Rule = Turning history basis g

  abbrev M : Type 0
  M = Me (Option T) (View G)

  opens_stands : (j : ℕ) (v : View G) → get_elem? (root g ∷ []) j ≡ some v → Stands [] 0 0 (λ _. 0) j v.seen v.stage
  opens_stands zero v at = subst (λ (u : View G). Stands [] 0 0 (λ _. 0) zero u.seen u.stage) (some-injective (root g) v at) tt
  opens_stands (suc j) v at = absurd (some-ne-none v (sym at))

  pub opens : (x : T) → history x ≡ [] → basis x ≡ g → Rule (opening (0 ∷ 0 ∷ 0 ∷ 0 ∷ []) (Some x ∷ []) (root g))
  opens x new same = record {
    front = [];
    ticket = 0;
    serving = 0;
    door = 0;
    made = 0;
    unjoined = 0;
    kept = [];
    owner = λ _. 0;
    holder = λ _. 0;
    words_are = refl;
    one_slot = refl;
    slot = inl (x, refl, new, same, omega arith);
    stands = opens_stands;
    held = λ t from below. absurd (omega arith);
    people = first_people g;
    within = omega arith;
    in_order = omega arith;
  }

  pub draws : (slots id : ℕ) (m : M) → m.0.stage ≡ Idle → 1 ≤ m.0.quota → Allows Rule slots id m 1 (λ n. (n + 1) % 2 ^ 64) (Draws (step slots 1 1 0 none) m)
  draws slots id m idle some_left s r deep at small =
      let n : slice_index s.words 1 ≡ r.ticket = ap (λ ws. slice_index ws 1) r.words_are in
      let w : View G = record m.0 { stage = Waits r.ticket; quota = m.0.quota - 1 } in
      let before : ℕ = total quota_of s.views in
      let after : ℕ = total quota_of (set s.views id w) in
      let q : ℕ = m.0.quota in
      let sum : after + q ≡ before + (q - 1) = total_set quota_of s.views id m.0 w at in
      let own : q ≤ before = total_at quota_of s.views id m.0 at in
      let within : r.ticket + before ≤ 2 ^ 62 = r.within in
      let fits : r.ticket + 1 < 2 ^ 64 = omega arith in
      let le = r.in_order in (
        w,
        keeps,
        tt,
        record {
          front = r.front;
          ticket = r.ticket + 1;
          serving = r.serving;
          door = r.door;
          made = r.made;
          unjoined = r.unjoined;
          kept = r.kept;
          owner = put r.owner r.ticket id;
          holder = r.holder;
          words_are = ap (λ ws. slice_set ws 1 ((slice_index ws 1 + 1) % 2 ^ 64)) r.words_are ∙ ap (λ k. length r.front ∷ k ∷ r.serving ∷ r.door ∷ []) (wraps r.ticket fits);
          one_slot = r.one_slot;
          slot = ⊎_elim (λ h. inl h)
              (λ o. let tick = has_ticket r.front r.ticket r.serving (length r.front) r.serving r.owner (r.owner r.serving) o.0.seen o.0.stage o.2 (r.stands (r.owner r.serving) o.0 o.1) in
              inr (subst (λ by. IsOut r.front r.serving by (set s.views id w)) (sym (put_else r.owner r.ticket id r.serving (λ e. let l = tick.0 in absurd (omega arith))))
              (out_stays s.views r.front r.serving (r.owner r.serving) id m.0 w at (off m.0.stage idle (length r.front) r.serving) o)))
              r.slot;
          stands = each_set (λ j v. Stands r.front (r.ticket + 1) r.serving (put r.owner r.ticket id) j v.seen v.stage) s.views id w (le, omega arith, put_here r.owner r.ticket id)
              (λ j v other was. stands_draw r.front r.ticket r.serving id r.owner j v.seen v.stage le (r.stands j v was));
          held = held_draw r.owner s.views id r.ticket r.serving m.0 w at idle refl r.held;
          people = people_move g r.front r.made r.unjoined r.kept r.holder s.views id m.0 (Waits r.ticket) (m.0.quota - 1) at (λ e. idle_live (sym idle ∙ e)) (waits_live r.ticket) r.people;
          within = omega arith;
          in_order = omega arith;
        },
        λ i. (record m.0 { stage = Waits (sym n i); quota = m.0.quota - 1 }, m.1),
      )

  pub polls : (slots id : ℕ) (m : M) (t : ℕ) → m.0.stage ≡ Waits t → m.1 ≡ [] → Allows Rule slots id m 2 (λ n. n) (Polls history basis (step slots 2 0 0 none) m)
  polls slots id m t waits bare s r deep at small =
      let n : slice_index s.words 2 ≡ r.serving = ap (λ ws. slice_index ws 2) r.words_are in
      let same_words = ap (λ ws. slice_set ws 2 (slice_index ws 2)) r.words_are in
      dite (ℕ_discrete (slice_index s.words 2) t)
      (λ e.
      let here : t ≡ r.serving = sym e ∙ n in
      let mine = subst (Stands r.front r.ticket r.serving r.owner id m.0.seen) waits (r.stands id m.0 at) in
      let own : r.owner r.serving ≡ id = ap r.owner (sym here) ∙ mine.2 in
      let home = ⊎_elim (λ h. h) (λ o. absurd (its_own s.views r.front r.serving r.owner id m.0 (Waits t) at waits own o)) r.slot in
      let x = home.0 in
      let live = r.people.lives id m.0 at (λ sp. waits_live t (sym waits ∙ sp)) in
      let w : View G = record m.0 { stage = InTurn t (history x) } in
      let before : ℕ = total quota_of s.views in
      let after : ℕ = total quota_of (set s.views id w) in
      let q : ℕ = m.0.quota in
      let sum : after + q ≡ before + q = total_set quota_of s.views id m.0 w at in
      let within : r.ticket + before ≤ 2 ^ 62 = r.within in (
        w,
        takes 0 (Some x),
        home.1,
        record {
          front = r.front;
          ticket = r.ticket;
          serving = r.serving;
          door = r.door;
          made = r.made;
          unjoined = r.unjoined;
          kept = r.kept;
          owner = r.owner;
          holder = r.holder;
          words_are = same_words;
          one_slot = length-set s.homes 0 none ∙ r.one_slot;
          slot = inr (w, subst (λ by. get_elem? (set s.views id w) by ≡ some w) (sym own) (set_at s.views id m.0 w at), home.4);
          stands = each_set (λ j v. Stands r.front r.ticket r.serving r.owner j v.seen v.stage) s.views id w (here, mine.1, mine.2, home.2) (λ j v other was. r.stands j v was);
          held = λ t' from below. held_same r.owner s.views id m.0 w at (sym (ap ticket_of waits)) t' (r.held t' from below);
          people = people_move g r.front r.made r.unjoined r.kept r.holder s.views id m.0 (InTurn t (history x)) m.0.quota at (λ sp. waits_live t (sym waits ∙ sp)) (in_turn_live t (history x)) r.people;
          within = omega arith;
          in_order = r.in_order;
        },
        λ t' waits'.
            let tt' : t ≡ t' = ap ticket_or (sym waits ∙ waits') in (
              (λ _. (x, (λ i. (record m.0 { stage = InTurn (tt' i) (history x) }, (0, Some x) ∷ bare i)), live.based ∙ ap Some (sym home.3), subst (IsPrefix m.0.seen) (sym home.2) live.sees)),
              (λ ne. absurd (ne (e ∙ tt'))),
            ),
      ))
      (λ ne. (
        m.0,
        keeps,
        tt,
        subst (λ (p : List ℕ × List (View G)). Rule (record { words = p.0; homes = s.homes; views = p.1 })) (λ i. (sym (same_words ∙ sym r.words_are) i, sym (set_again s.views id m.0 at) i)) r,
        λ t' waits'. ((λ e. absurd (ne (e ∙ ap ticket_or (sym waits' ∙ waits)))), (λ _. refl)),
      ))

  -- nothing is asked of the door
  pub knocks : (slots id : ℕ) (m : M) (f : ℕ → ℕ) → Allows Rule slots id m 3 f (λ n m'. m' ≡ m)
  knocks slots id m f s r deep at small =
      let door : ℕ = f (slice_index s.words 3) in
      let words : List ℕ = slice_set s.words 3 door in
      let same : Rule (record { words = words; homes = s.homes; views = s.views }) = record {
        front = r.front;
        ticket = r.ticket;
        serving = r.serving;
        door = door;
        made = r.made;
        unjoined = r.unjoined;
        kept = r.kept;
        owner = r.owner;
        holder = r.holder;
        words_are = ap (λ ws. slice_set ws 3 door) r.words_are;
        one_slot = r.one_slot;
        slot = r.slot;
        stands = r.stands;
        held = r.held;
        people = r.people;
        within = r.within;
        in_order = r.in_order;
      } in
      (m.0, keeps, tt, subst (λ (views : List (View G)). Rule (record { words = words; homes = s.homes; views = views })) (sym (set_again s.views id m.0 at)) same, refl)
