-- Where passes stand: stages, tickets and who has them, as steps move them.
use Rattle.std.proofs.Common.{◌≡◌, ◌≢◌, ℕ, ◌+◌, ◌%◌, ◌^◌, ◌<◌, ◌≤◌, List, [], ◌∷◌, ◌++◌, length, set, sym, ap, ◌∙◌, subst, arith, Option, Some}
use mathlib.Core.Logic.{dite}
use mathlib.Core.Option.{some, some-ne-none, some-injective}
use native.Mathlib.Decide.{ℕ_discrete}
use lib.ListN.{get_elem?}
use Rattle.atomic_table.proofs.Lists.{set_else, at_longer}
use Rattle.history_core.specs.declared.entry.Entry.{Entry}
use Rattle.turnstile.specs.declared.view.View.{View}
use Rattle.turnstile.specs.declared.view.Stage.{Stage}
use Rattle.turnstile.specs.declared.view.Stage.TheVariants.{Spent, Idle, Waits, InTurn, Acted}
use Rattle.turnstile.specs.proving.Rules.{ticket_of, Stands, IsHeld, Midway, IsOut}
use Rattle.turnstile.proofs.Lists.{put, put_here, put_else, set_at}
use Rattle.std.proofs.Math.Nat.{mod-eq_of_lt}

pub wraps : (n : ℕ) → n + 1 < 2 ^ 64 → (n + 1) % 2 ^ 64 ≡ n + 1
wraps n small = mod-eq_of_lt small

pub off : (st : Stage) → st ≡ Idle → (c sv : ℕ) → Midway c sv st → ⊥
off st e c sv m = subst (Midway c sv) e m

pub midway_live : (st : Stage) (c sv : ℕ) → Midway c sv st → st ≡ Spent → ⊥
midway_live st c sv mid e = subst (Midway c sv) e mid

pub waits_live : (t : ℕ) → Waits t ≡ Spent → ⊥
waits_live t e = absurd (cc (e))

pub in_turn_live : (t : ℕ) (h : List Entry) → InTurn t h ≡ Spent → ⊥
in_turn_live t h e = absurd (cc (e))

pub acted_live : (t : ℕ) → Acted t ≡ Spent → ⊥
acted_live t e = absurd (cc (e))

pub some_of : {A : Type 0} (x y : A) → Some x ≡ Some y → x ≡ y
some_of x y e = cc (e)

abbrev second_or : {A : Type 0} → A → List (ℕ × A) → A
second_or d [] = d
second_or d (p ∷ ps) = p.1

pub one_hand : {A : Type 0} (x y : A) (xs ys : List (ℕ × Option A)) → (0, Some x) ∷ xs ≡ (0, Some y) ∷ ys → x ≡ y
one_hand x y xs ys e = some_of x y (ap (second_or (Some x)) e)

pub idle_live : Idle ≡ Spent → ⊥
idle_live e = absurd (cc (e))

pub ticket_is : (st : Stage) (t : ℕ) → st ≡ Waits t → ticket_of st ≡ some t
ticket_is st t e = ap ticket_of e

-- one without a ticket has none
pub no_ticket : (st : Stage) (t : ℕ) → st ≡ Idle → ticket_of st ≡ some t → ⊥
no_ticket st t idle has = some-ne-none t (sym has ∙ ap ticket_of idle)

module _ {G : Type 0} where
  -- a step that leaves a view its ticket
  pub held_same : (owner : ℕ → ℕ) (views : List (View G)) (id : ℕ) (v w : View G) → get_elem? views id ≡ some v → ticket_of w.stage ≡ ticket_of v.stage → (t : ℕ) → IsHeld owner views t → IsHeld owner (set views id w) t
  held_same owner views id v w at same t h = dite (ℕ_discrete (owner t) id)
      (λ e. let is : h.0 ≡ v = some-injective h.0 v (sym h.1 ∙ (ap (get_elem? views) e ∙ at)) in
      (w, subst (λ k. get_elem? (set views id w) k ≡ some w) (sym e) (set_at views id v w at), same ∙ (sym (ap (λ (u : View G). ticket_of u.stage) is) ∙ h.2)))
      (λ ne. (h.0, set_else views id (owner t) w ne ∙ h.1, h.2))

  -- a step of a view that hasn't this ticket
  pub held_else : (owner : ℕ → ℕ) (views : List (View G)) (id : ℕ) (v w : View G) (t : ℕ) → get_elem? views id ≡ some v → (ticket_of v.stage ≡ some t → ⊥) → IsHeld owner views t → IsHeld owner (set views id w) t
  held_else owner views id v w t at another h = dite (ℕ_discrete (owner t) id)
      (λ e. let is : h.0 ≡ v = some-injective h.0 v (sym h.1 ∙ (ap (get_elem? views) e ∙ at)) in
      absurd (another (sym (ap (λ (u : View G). ticket_of u.stage) is) ∙ h.2)))
      (λ ne. (h.0, set_else views id (owner t) w ne ∙ h.1, h.2))

  pub held_longer : (owner : ℕ → ℕ) (views more : List (View G)) (t : ℕ) → IsHeld owner views t → IsHeld owner (views ++ more) t
  held_longer owner views more t h = (h.0, at_longer views more (owner t) h.0 h.1, h.2)

  -- a view draws the next ticket
  pub held_draw : (owner : ℕ → ℕ) (views : List (View G)) (id ticket serving : ℕ) (v w : View G) → get_elem? views id ≡ some v → v.stage ≡ Idle → w.stage ≡ Waits ticket
      → ((t : ℕ) → serving ≤ t → t < ticket → IsHeld owner views t) → (t : ℕ) → serving ≤ t → t < ticket + 1 → IsHeld (put owner ticket id) (set views id w) t
  held_draw owner views id ticket serving v w at idle waits held t from below = dite (ℕ_discrete t ticket)
      (λ e. (w, ap (get_elem? (set views id w)) (ap (put owner ticket id) e ∙ put_here owner ticket id) ∙ set_at views id v w at, ap ticket_of waits ∙ ap some (sym e)))
      (λ ne. let h = held_else owner views id v w t at (no_ticket v.stage t idle) (held t from (omega arith)) in
      (h.0, ap (get_elem? (set views id w)) (put_else owner ticket id t ne) ∙ h.1, h.2))

  -- the view in turn gives its ticket back
  pub held_pass : (owner : ℕ → ℕ) (views : List (View G)) (id ticket serving : ℕ) (v w : View G) → get_elem? views id ≡ some v → v.stage ≡ Acted serving
      → ((t : ℕ) → serving ≤ t → t < ticket → IsHeld owner views t) → (t : ℕ) → serving + 1 ≤ t → t < ticket → IsHeld owner (set views id w) t
  held_pass owner views id ticket serving v w at acted held t from below =
      held_else owner views id v w t at (λ has. let same : serving ≡ t = some-injective serving t (sym (ap ticket_of acted) ∙ has) in absurd (omega arith)) (held t (omega arith) below)

pub stands_draw : (front : List Entry) (ticket serving id : ℕ) (owner : ℕ → ℕ) (j : ℕ) (seen : List Entry) (st : Stage) → serving ≤ ticket
    → Stands front ticket serving owner j seen st → Stands front (ticket + 1) serving (put owner ticket id) j seen st
stands_draw front ticket serving id owner j seen Spent le h = tt
stands_draw front ticket serving id owner j seen Idle le h = tt
stands_draw front ticket serving id owner j seen (Waits t) le h = (h.0, (let l = h.1 in omega arith), put_else owner ticket id t (λ e. let l = h.1 in absurd (omega arith)) ∙ h.2)
stands_draw front ticket serving id owner j seen (InTurn t found) le h = (h.0, (let l = h.1 in omega arith), put_else owner ticket id t (λ e. let l = h.1 in absurd (omega arith)) ∙ h.2, h.3)
stands_draw front ticket serving id owner j seen (Acted t) le h = (h.0, (let l = h.1 in omega arith), put_else owner ticket id t (λ e. let l = h.1 in absurd (omega arith)) ∙ h.2, h.3)

-- a pass midway has a ticket
pub has_ticket : (front : List Entry) (ticket serving c sv : ℕ) (owner : ℕ → ℕ) (j : ℕ) (seen : List Entry) (st : Stage) → Midway c sv st
    → Stands front ticket serving owner j seen st → (serving < ticket) × (owner serving ≡ j)
has_ticket front ticket serving c sv owner j seen Spent mid h = absurd mid
has_ticket front ticket serving c sv owner j seen Idle mid h = absurd mid
has_ticket front ticket serving c sv owner j seen (Waits t) mid h = absurd mid
has_ticket front ticket serving c sv owner j seen (InTurn t found) mid h = (let e = h.0 in let l = h.1 in omega arith, ap owner (sym h.0) ∙ h.2)
has_ticket front ticket serving c sv owner j seen (Acted t) mid h = (let e = h.0 in let l = h.1 in omega arith, ap owner (sym h.0) ∙ h.2)

-- a pass midway is no pass that is not
pub out_stays : {G : Type 0} (views : List (View G)) (front : List Entry) (sv by id : ℕ) (v w : View G) → get_elem? views id ≡ some v → (Midway (length front) sv v.stage → ⊥)
    → IsOut front sv by views → IsOut front sv by (set views id w)
out_stays views front sv by id v w at not o =
    (o.0, set_else views id by w (λ e. not (subst (λ u. Midway (length front) sv u.stage) (some-injective o.0 v (sym o.1 ∙ (ap (get_elem? views) e ∙ at))) o.2)) ∙ o.1, o.2)

-- what is out is with the pass that has its turn
pub its_own : {G : Type 0} (views : List (View G)) (front : List Entry) (serving : ℕ) (owner : ℕ → ℕ) (id : ℕ) (v : View G) (st : Stage) → get_elem? views id ≡ some v → v.stage ≡ st → owner serving ≡ id
    → IsOut front serving (owner serving) views → Midway (length front) serving st
its_own views front serving owner id v st at is own o = subst (Midway (length front) serving) is
    (subst (λ u. Midway (length front) serving u.stage) (some-injective o.0 v (sym o.1 ∙ (ap (get_elem? views) own ∙ at))) o.2)

-- another pass, once the one that is served goes on
pub stands_on : (front front' : List Entry) (ticket serving id : ℕ) (owner : ℕ → ℕ) (j : ℕ) (seen : List Entry) (st : Stage) → owner serving ≡ id → j ≢ id
    → Stands front ticket serving owner j seen st → Stands front' ticket serving owner j seen st
stands_on front front' ticket serving id owner j seen Spent own other h = tt
stands_on front front' ticket serving id owner j seen Idle own other h = tt
stands_on front front' ticket serving id owner j seen (Waits t) own other h = h
stands_on front front' ticket serving id owner j seen (InTurn t found) own other h = absurd (other (sym h.2 ∙ (ap owner h.0 ∙ own)))
stands_on front front' ticket serving id owner j seen (Acted t) own other h = absurd (other (sym h.2 ∙ (ap owner h.0 ∙ own)))

pub stands_after : (front : List Entry) (ticket serving id : ℕ) (owner : ℕ → ℕ) (j : ℕ) (seen : List Entry) (st : Stage) → owner serving ≡ id → j ≢ id
    → Stands front ticket serving owner j seen st → Stands front ticket (serving + 1) owner j seen st
stands_after front ticket serving id owner j seen Spent own other h = tt
stands_after front ticket serving id owner j seen Idle own other h = tt
stands_after front ticket serving id owner j seen (Waits t) own other h =
    let apart : t ≢ serving = λ e. other (sym h.2 ∙ (ap owner e ∙ own)) in let le = h.0 in (omega arith, h.1, h.2)
stands_after front ticket serving id owner j seen (InTurn t found) own other h = absurd (other (sym h.2 ∙ (ap owner h.0 ∙ own)))
stands_after front ticket serving id owner j seen (Acted t) own other h = absurd (other (sym h.2 ∙ (ap owner h.0 ∙ own)))
