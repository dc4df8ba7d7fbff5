-- A commit, a look and passing on keep the rule.
use Rattle.std.proofs.Common.{◌≡◌, ℕ, ◌+◌, ◌-◌, ◌%◌, ◌^◌, ◌<◌, ◌≤◌, List, [], ◌∷◌, ◌++◌, length, set, refl, sym, ap, ◌∙◌, subst, inl, inr, ⊎_elim, arith, Option, Some, None, length-append, length-set}
use Rattle.std.specs.Prelude.{slice_index, slice_set}
use mathlib.Core.Option.{some, none}
use lib.ListN.{get_elem?}
use Rattle.atomic_table.specs.Table.{State, Me, step, keeps, gives, Allows, rest}
use Rattle.atomic_table.proofs.Lists.{set_here}
use Rattle.history_core.specs.declared.entry.Entry.{Entry}
use Rattle.turnstile.specs.declared.view.View.{View}
use Rattle.turnstile.specs.declared.view.Stage.TheVariants.{Idle, Waits, InTurn, Acted}
use Rattle.turnstile.specs.proving.Rules.{total, quota_of, ticket_of, Stands, Turning}
use Rattle.turnstile.specs.proving.Steps.{Commits, Looks, PassesOn, ticket_or, found_or}
use Rattle.turnstile.proofs.People.{people_move, people_look, people_commit}
use Rattle.turnstile.proofs.Lists.{total_set, set_at, each_set}
use Rattle.turnstile.proofs.Stands.{wraps, some_of, one_hand, in_turn_live, acted_live, idle_live, held_same, held_pass, its_own, stands_on, stands_after}

module _ {T G : Type 0} (history : T → List Entry) (basis : T → G) (g : G) where
  abbrev Rule : State (Option T) (View G) → Type 0
  Rule = Turning history basis g

  abbrev M : Type 0
  M = Me (Option T) (View G)

  pub commits_at : (slots id : ℕ) (v : View G) (t : ℕ) (h : List Entry) (x : T) (e : Entry) (more : List (ℕ × Option T)) → v.stage ≡ InTurn t h → history x ≡ h ++ e ∷ [] → e.session ≡ v.number
      → Allows Rule slots id (v, (0, Some x) ∷ more) 0 (λ n. (n + 1) % 2 ^ 64) (λ n m'. (n + 1 ≡ length (history x)) × (n < 2 ^ 62) × (m' ≡ (record v { stage = Acted t; mine = v.mine ++ e ∷ []; seen = history x }, (0, Some x) ∷ more)))
  commits_at slots id v t h x e more turn adds by s r deep at small =
      let mine = subst (Stands r.front r.ticket r.serving r.owner id v.seen) turn (r.stands id v at) in
      let own : r.owner r.serving ≡ id = ap r.owner (sym mine.0) ∙ mine.2 in
      let live = r.people.lives id v at (λ sp. in_turn_live t h (sym turn ∙ sp)) in
      let w : View G = record v { stage = Acted t; mine = v.mine ++ e ∷ []; seen = history x } in
      let front' : List Entry = r.front ++ e ∷ [] in
      let longer : history x ≡ front' = adds ∙ ap (λ l. l ++ e ∷ []) mine.3 in
      let len : length front' ≡ length r.front + 1 = length-append r.front (e ∷ []) in
      let count : length r.front ≤ r.serving = ⊎_elim (λ h. h.4) (λ o. its_own s.views r.front r.serving r.owner id v (InTurn t h) at turn own o) r.slot in
      let before : ℕ = total quota_of s.views in
      let after : ℕ = total quota_of (set s.views id w) in
      let q : ℕ = v.quota in
      let sum : after + q ≡ before + q = total_set quota_of s.views id v w at in
      let within : r.ticket + before ≤ 2 ^ 62 = r.within in
      let le = r.in_order in
      let fits : length r.front + 1 < 2 ^ 64 = omega arith in
      let n : ℕ = slice_index s.words 0 in
      let found : n ≡ length r.front = ap (λ ws. slice_index ws 0) r.words_are in
      let lt : t < r.ticket = mine.1 in
      let here : t ≡ r.serving = mine.0 in
      let few : n < 2 ^ 62 = omega arith in (
        w,
        keeps,
        tt,
        record {
          front = front';
          ticket = r.ticket;
          serving = r.serving;
          door = r.door;
          made = r.made;
          unjoined = r.unjoined;
          kept = r.kept;
          owner = r.owner;
          holder = r.holder;
          words_are = ap (λ ws. slice_set ws 0 ((slice_index ws 0 + 1) % 2 ^ 64)) r.words_are ∙ ap (λ k. k ∷ r.ticket ∷ r.serving ∷ r.door ∷ []) (wraps (length r.front) fits ∙ sym len);
          one_slot = r.one_slot;
          slot = inr (w, subst (λ by. get_elem? (set s.views id w) by ≡ some w) (sym own) (set_at s.views id v w at), omega arith);
          stands = each_set (λ j u. Stands front' r.ticket r.serving r.owner j u.seen u.stage) s.views id w (mine.0, mine.1, mine.2, longer)
              (λ j u other was. stands_on r.front front' r.ticket r.serving id r.owner j u.seen u.stage own other (r.stands j u was));
          held = λ t' from below. held_same r.owner s.views id v w at (sym (ap ticket_of turn)) t' (r.held t' from below);
          people = people_commit g r.front r.made r.unjoined r.kept r.holder s.views id v (Acted t) (history x) e at (λ sp. in_turn_live t h (sym turn ∙ sp)) (acted_live t) longer by r.people;
          within = omega arith;
          in_order = r.in_order;
        },
        (ap (λ k. k + 1) found ∙ sym len ∙ sym (ap length longer), few, refl),
      )

  pub looks_at : (slots id : ℕ) (v : View G) (t : ℕ) (h : List Entry) (x : T) (more : List (ℕ × Option T)) → v.stage ≡ InTurn t h → history x ≡ h
      → Allows Rule slots id (v, (0, Some x) ∷ more) 0 (λ n. n) (λ n m'. (n ≡ length (history x)) × (m' ≡ (record v { stage = Acted t; seen = history x }, (0, Some x) ∷ more)))
  looks_at slots id v t h x more turn same s r deep at small =
      let mine = subst (Stands r.front r.ticket r.serving r.owner id v.seen) turn (r.stands id v at) in
      let own : r.owner r.serving ≡ id = ap r.owner (sym mine.0) ∙ mine.2 in
      let live = r.people.lives id v at (λ sp. in_turn_live t h (sym turn ∙ sp)) in
      let w : View G = record v { stage = Acted t; seen = history x } in
      let whole : history x ≡ r.front = same ∙ mine.3 in
      let count : length r.front ≤ r.serving = ⊎_elim (λ h. h.4) (λ o. its_own s.views r.front r.serving r.owner id v (InTurn t h) at turn own o) r.slot in
      let before : ℕ = total quota_of s.views in
      let after : ℕ = total quota_of (set s.views id w) in
      let q : ℕ = v.quota in
      let sum : after + q ≡ before + q = total_set quota_of s.views id v w at in
      let within : r.ticket + before ≤ 2 ^ 62 = r.within in
      let found : slice_index s.words 0 ≡ length r.front = ap (λ ws. slice_index ws 0) r.words_are in (
        w,
        keeps,
        tt,
        record {
          front = r.front;
          ticket = r.ticket;
          serving = r.serving;
          door = r.door;
          made = r.made;
          unjoined = r.unjoined;
          kept = r.kept;
          owner = r.owner;
          holder = r.holder;
          words_are = ap (λ ws. slice_set ws 0 (slice_index ws 0)) r.words_are;
          one_slot = r.one_slot;
          slot = inr (w, subst (λ by. get_elem? (set s.views id w) by ≡ some w) (sym own) (set_at s.views id v w at), omega arith);
          stands = each_set (λ j u. Stands r.front r.ticket r.serving r.owner j u.seen u.stage) s.views id w (mine.0, mine.1, mine.2, whole) (λ j u other was. r.stands j u was);
          held = λ t' from below. held_same r.owner s.views id v w at (sym (ap ticket_of turn)) t' (r.held t' from below);
          people = people_look g r.front r.made r.unjoined r.kept r.holder s.views id v (Acted t) (history x) at (λ sp. in_turn_live t h (sym turn ∙ sp)) (acted_live t) whole r.people;
          within = omega arith;
          in_order = r.in_order;
        },
        (found ∙ sym (ap length whole), refl),
      )

  pub passes_at : (slots id : ℕ) (v : View G) (t : ℕ) (x : T) → v.stage ≡ Acted t → history x ≡ v.seen → v.basis ≡ Some (basis x)
      → Allows Rule slots id (v, (0, Some x) ∷ []) 2 (λ n. (n + 1) % 2 ^ 64) (λ n m'. m' ≡ (record v { stage = Idle }, []))
  passes_at slots id v t x acted same grd s r deep at small =
      let mine = subst (Stands r.front r.ticket r.serving r.owner id v.seen) acted (r.stands id v at) in
      let own : r.owner r.serving ≡ id = ap r.owner (sym mine.0) ∙ mine.2 in
      let live = r.people.lives id v at (λ sp. acted_live t (sym acted ∙ sp)) in
      let w : View G = record v { stage = Idle } in
      let count : length r.front ≤ r.serving + 1 = ⊎_elim (λ h. let k = h.4 in omega arith) (λ o. its_own s.views r.front r.serving r.owner id v (Acted t) at acted own o) r.slot in
      let before : ℕ = total quota_of s.views in
      let after : ℕ = total quota_of (set s.views id w) in
      let q : ℕ = v.quota in
      let sum : after + q ≡ before + q = total_set quota_of s.views id v w at in
      let within : r.ticket + before ≤ 2 ^ 62 = r.within in
      let here : t ≡ r.serving = mine.0 in
      let lt : t < r.ticket = mine.1 in
      let fits : r.serving + 1 < 2 ^ 64 = omega arith in (
        w,
        gives,
        tt,
        record {
          front = r.front;
          ticket = r.ticket;
          serving = r.serving + 1;
          door = r.door;
          made = r.made;
          unjoined = r.unjoined;
          kept = r.kept;
          owner = r.owner;
          holder = r.holder;
          words_are = ap (λ ws. slice_set ws 2 ((slice_index ws 2 + 1) % 2 ^ 64)) r.words_are ∙ ap (λ k. length r.front ∷ r.ticket ∷ k ∷ r.door ∷ []) (wraps r.serving fits);
          one_slot = length-set s.homes 0 (some (Some x)) ∙ r.one_slot;
          slot = inl (x, set_here s.homes 0 (some (Some x)) (let one = r.one_slot in omega arith), same ∙ mine.3, some_of (basis x) g (sym grd ∙ live.based), count);
          stands = each_set (λ j u. Stands r.front r.ticket (r.serving + 1) r.owner j u.seen u.stage) s.views id w tt
              (λ j u other was. stands_after r.front r.ticket r.serving id r.owner j u.seen u.stage own other (r.stands j u was));
          held = held_pass r.owner s.views id r.ticket r.serving v w at (acted ∙ ap Acted here) r.held;
          people = people_move g r.front r.made r.unjoined r.kept r.holder s.views id v Idle v.quota at (λ sp. acted_live t (sym acted ∙ sp)) idle_live r.people;
          within = omega arith;
          in_order = omega arith;
        },
        refl,
      )

  pub commits : (slots id : ℕ) (m : M) (t : ℕ) (h : List Entry) (x : T) (e : Entry) → m.0.stage ≡ InTurn t h → m.1 ≡ (0, Some x) ∷ [] → history x ≡ h ++ e ∷ [] → e.session ≡ m.0.number
      → Allows Rule slots id m 0 (λ n. (n + 1) % 2 ^ 64) (Commits history (step slots 0 1 0 none) m)
  commits slots id m t h x e turn hand adds by =
      let P : List (ℕ × Option T) → Type 0 = λ c. Allows Rule slots id (m.0, c) 0 (λ n. (n + 1) % 2 ^ 64) (Commits history (step slots 0 1 0 none) (m.0, c)) in
      subst P (sym hand) (λ s r deep at small.
      let go = commits_at slots id m.0 t h x e [] turn adds by s r deep at small in
      (go.0, go.1, go.2, go.3, (x, e, refl, adds ∙ ap (λ st. found_or st ++ e ∷ []) (sym turn), by, go.4.0, go.4.1, go.4.2 ∙ ap (λ st. (record m.0 { stage = Acted (ticket_or st); mine = m.0.mine ++ e ∷ []; seen = history x }, (0, Some x) ∷ [])) (sym turn))))

  pub looks : (slots id : ℕ) (m : M) (t : ℕ) (h : List Entry) (x : T) → m.0.stage ≡ InTurn t h → m.1 ≡ (0, Some x) ∷ [] → history x ≡ h
      → Allows Rule slots id m 0 (λ n. n) (Looks history (step slots 0 0 0 none) m)
  looks slots id m t h x turn hand same =
      let P : List (ℕ × Option T) → Type 0 = λ c. Allows Rule slots id (m.0, c) 0 (λ n. n) (Looks history (step slots 0 0 0 none) (m.0, c)) in
      subst P (sym hand) (λ s r deep at small.
      let go = looks_at slots id m.0 t h x [] turn same s r deep at small in
      (go.0, go.1, go.2, go.3, (x, refl, same ∙ ap found_or (sym turn), go.4.0, go.4.1 ∙ ap (λ st. (record m.0 { stage = Acted (ticket_or st); seen = history x }, (0, Some x) ∷ [])) (sym turn))))

  pub passes : (slots id : ℕ) (m : M) (t : ℕ) (x : T) → m.0.stage ≡ Acted t → m.1 ≡ (0, Some x) ∷ [] → history x ≡ m.0.seen → m.0.basis ≡ Some (basis x)
      → Allows Rule slots id m 2 (λ n. (n + 1) % 2 ^ 64) (PassesOn (step slots 2 1 0 none) m)
  passes slots id m t x acted hand same grd =
      let P : List (ℕ × Option T) → Type 0 = λ c. Allows Rule slots id (m.0, c) 2 (λ n. (n + 1) % 2 ^ 64) (PassesOn (step slots 2 1 0 none) (m.0, c)) in
      subst P (sym hand) (passes_at slots id m.0 t x acted same grd)

  -- with the turn, and with the value that the turn left in hand
  pub in_hand : (m m1 m2 m3 m4 : M) (found : ℕ) (got : Option T) (x value y : T) → m1 ≡ (record m.0 { stage = Waits found; quota = m.0.quota - 1 }, m.1)
      → m2 ≡ (record m1.0 { stage = InTurn found (history x) }, (0, Some x) ∷ []) → m2.1 ≡ (0, got) ∷ rest m2.1 → got ≡ Some value → m3 ≡ (m2.0, (0, None) ∷ rest m2.1) → m4 ≡ (m3.0, (0, Some y) ∷ rest m3.1)
      → (x ≡ value) × (m4 ≡ (record m.0 { stage = InTurn found (history x); quota = m.0.quota - 1 }, (0, Some y) ∷ []))
  in_hand m m1 m2 m3 m4 found got x value y e1 e2 e3 e4 e5 e6 =
      let hand : m2.1 ≡ (0, Some x) ∷ [] = ap (λ (k : M). k.1) e2 in
      let same : (0, Some x) ∷ [] ≡ (0, got) ∷ rest m2.1 = sym hand ∙ e3 in
      let view : m4.0 ≡ record m.0 { stage = InTurn found (history x); quota = m.0.quota - 1 } =
      ap (λ (k : M). k.0) e6 ∙ (ap (λ (k : M). k.0) e5 ∙ (ap (λ (k : M). k.0) e2 ∙ ap (λ (k : M). let u : View G = record k.0 { stage = InTurn found (history x) } in u) e1)) in
      let holds : m4.1 ≡ (0, Some y) ∷ [] = ap (λ (k : M). k.1) e6 ∙ (ap (λ (k : M). (0, Some y) ∷ rest k.1) e5 ∙ ap (λ l. (0, Some y) ∷ rest l) hand) in
      (one_hand x value [] (rest m2.1) (same ∙ ap (λ o. (0, o) ∷ rest m2.1) e4), λ i. (view i, holds i))
