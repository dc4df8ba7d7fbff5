-- Trees place by place, and -ForEach and -Resample over them.
use Rattle.std.proofs.Common.{◌≡◌, ◌≢◌, ℕ, zero, suc, ◌+◌, ◌<◌, ◌≤◌, max, List, [], ◌∷◌, map, length, get_or, Some, ◌⊎◌, inl, inr, refl, sym, ap, ◌∙◌, subst, arith}
use Rattle.std.proofs.Math.ListN.{set}
use Rattle.std.proofs.lemmas.List.{length-map, length-set, get_or-set_same, get_or-set_other}
use Rattle.std.proofs.lemmas.Bool.{cases_lt, cases_eq}
use Rattle.agg_terms.specs.Chains.{Chain, ForEach, Ty}
use Rattle.agg_terms.specs.Types.{inward}
use Rattle.agg_terms.specs.Values.{Tree, Value, slots_tree}
use Rattle.agg_meaning.specs.Feeds.{opened, tuples}
use Rattle.agg_meaning.specs.Picks.{at_place}
use Rattle.agg_meaning.specs.Results.{blank}
use Rattle.agg_meaning.specs.States.{Joins, Takes, TakesFeeds}
use Rattle.agg_meaning.specs.Suffixes.{normal}
use Rattle.agg_meaning.proofs.Blank.{of_none}
use Rattle.agg_meaning.proofs.ChainLaws.{joins}
use Rattle.agg_meaning.proofs.Places.{get_or-past}
use Rattle.agg_meaning.proofs.Slots.{for_each_joins, for_each_takes}
use Rattle.agg_meaning.proofs.Suffixed.{takes_none}
use Rattle.std.proofs.Common.{◌++◌, append-nil}
use Rattle.chain_links.specs.proving.Words.{IsWalked}

-- no step yet, and one step more at a place that there is
pub walk_none : (R : ℕ → Tree → Tree → Type 0) (b : Tree) (tt : List Tree) → IsWalked R b tt 0 tt
walk_none R b tt = record { long = omega arith; done = λ j l. absurd (omega arith); left = λ j l. refl }

pub walk_more : (R : ℕ → Tree → Tree → Type 0) (b : Tree) (tt uu rr : List Tree) (i : ℕ) (w : Tree) →
    IsWalked R b tt i uu → length rr ≡ max (length uu) (suc i) → ((j : ℕ) → get_or rr j b ≡ get_or uu j b) → R i (get_or rr i b) w → IsWalked R b tt (suc i) (set rr i w)
walk_more R b tt uu rr i w a long same r = record {
  long = length-set rr i w ∙ omega (arith, long, a.long);
  done = λ j l. done j l (cases_eq j i);
  left = λ j l. get_or-set_other rr i j w b (λ e. absurd (omega (arith, l, e))) ∙ same j ∙ a.left j (omega arith);
}
  where
    done : (j : ℕ) → j < suc i → (j ≡ i) ⊎ (j ≡ i → ⊥) → R j (get_or tt j b) (get_or (set rr i w) j b)
    done j l (inl e) =
        subst (λ n. R n (get_or tt n b) (get_or (set rr i w) n b)) (sym e)
        (subst (R i (get_or tt i b)) (sym (get_or-set_same rr i w b (omega (arith, long)))) (subst (λ t. R i t w) (same i ∙ a.left i (omega arith)) r))
    done j l (inr n) =
        subst (R j (get_or tt j b)) (sym (get_or-set_other rr i j w b n ∙ same j)) (a.done j (let k : j ≢ i = n in omega (arith, k)))

-- the rows of -ForEach at their places
placed : (c : Chain) (rs : List (List Value)) (i : ℕ) → i < length rs → at_place i (map (λ t. Some (opened c t)) rs) ≡ opened c (get_or rs i []) ∷ []
placed c [] i l = absurd (omega arith)
placed c (r ∷ rs) zero l = refl
placed c (r ∷ rs) (suc i) l = placed c rs i (omega arith)

beyond : (c : Chain) (rs : List (List Value)) (i : ℕ) → length rs ≤ i → at_place i (map (λ t. Some (opened c t)) rs) ≡ []
beyond c [] i l = refl
beyond c (r ∷ rs) zero l = absurd (omega arith)
beyond c (r ∷ rs) (suc i) l = beyond c rs i (omega arith)

module _ (c : Chain) (ts : List Ty) where
  abbrev each_ts : List Ty
  each_ts = inward (ForEach c) ts

  pub walked_takes : (r : List Value) (slots after : List Tree) → IsWalked (λ j t v. Takes c each_ts (get_or (tuples r) j []) t v) (blank c) slots (length (tuples r)) after → Takes (ForEach c) ts r (slots_tree slots) (slots_tree after)
  walked_takes r slots after a =
      for_each_takes c ts (map (λ t. Some (opened c t)) (tuples r)) slots after (a.long ∙ ap (max (length slots)) (sym (length-map (tuples r) (λ t. Some (opened c t)))))
      (λ i. here i (cases_lt i (length (tuples r))))
    where
      here : (i : ℕ) → (i < length (tuples r)) ⊎ (length (tuples r) ≤ i) → TakesFeeds c each_ts (at_place i (map (λ t. Some (opened c t)) (tuples r))) (get_or slots i (blank c)) (get_or after i (blank c))
      here i (inl l) = subst (λ fs. TakesFeeds c each_ts fs (get_or slots i (blank c)) (get_or after i (blank c))) (sym (placed c (tuples r) i l)) (a.done i l)
      here i (inr l) =
          subst (λ fs. TakesFeeds c each_ts fs (get_or slots i (blank c)) (get_or after i (blank c))) (sym (beyond c (tuples r) i l))
          (subst (λ t. TakesFeeds c each_ts [] (get_or slots i (blank c)) t) (sym (a.left i l)) (takes_none c each_ts (get_or slots i (blank c))))

-- a state joined by one of no rows
pub joins_blank : (c : Chain) (ts : List Ty) (t : Tree) → Joins c ts t (blank c) t
joins_blank c ts t = λ A B h k.
    h ∙ ap (normal c ts) (sym (append-nil A)) ∙ joins c ts A A [] B refl (of_none c ts ∙ k)

pub blank_joins : (c : Chain) (ts : List Ty) (t : Tree) → Joins c ts (blank c) t t
blank_joins c ts t = λ A B h k. k ∙ joins c ts [] A B B (of_none c ts ∙ h) refl

module _ (c : Chain) (ts : List Ty) where
  pub walked_joins : (ss us after : List Tree) → IsWalked (λ j t v. Joins c (inward (ForEach c) ts) t (get_or us j (blank c)) v) (blank c) ss (length us) after → Joins (ForEach c) ts (slots_tree ss) (slots_tree us) (slots_tree after)
  walked_joins ss us after a = for_each_joins c ts ss us after a.long (λ i. here i (cases_lt i (length us)))
    where
      here : (i : ℕ) → (i < length us) ⊎ (length us ≤ i) → Joins c (inward (ForEach c) ts) (get_or ss i (blank c)) (get_or us i (blank c)) (get_or after i (blank c))
      here i (inl l) = a.done i l
      here i (inr l) =
          subst (λ t. Joins c (inward (ForEach c) ts) (get_or ss i (blank c)) t (get_or after i (blank c))) (sym (get_or-past us (blank c) i l))
          (subst (Joins c (inward (ForEach c) ts) (get_or ss i (blank c)) (blank c)) (sym (a.left i l)) (joins_blank c (inward (ForEach c) ts) (get_or ss i (blank c))))
