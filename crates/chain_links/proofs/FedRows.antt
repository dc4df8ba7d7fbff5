-- -If, -Array and -Merge: what each hands inward of a row, from what the state inside does of it.
use Rattle.std.proofs.Common.{◌≡◌, ℕ, zero, suc, ◌+◌, ◌<◌, ◌≤◌, nat_eq, not, Bool, true, false, List, [], ◌∷◌, ◌++◌, map, take, length, get_or, Option, Some, None, refl, sym, ap, ◌∙◌, subst, arith, Result}
use Rattle.std.specs.Result.{OnOk}
use Rattle.std.proofs.lemmas.List.{map-append, take_all}
use Rattle.agg_terms.specs.Chains.{Array, Chain, If, Merge, Ty}
use Rattle.agg_terms.specs.Lists.{front}
use Rattle.agg_terms.specs.Trees.{IsTree}
use Rattle.agg_terms.specs.Types.{inward}
use Rattle.agg_terms.specs.Values.{Nil, Tree, Value}
use Rattle.agg_meaning.specs.Feeds.{as_condition, as_tree, last, opened, tuples}
use Rattle.agg_meaning.specs.Picks.{when_met}
use Rattle.agg_meaning.specs.States.{Joins, Takes, TakesFeeds}
use Rattle.agg_meaning.proofs.Suffixed.{array_takes, if_leaves, if_takes, merge_takes, takes_none, takes_then, when_above}
use Rattle.running_states.specs.declared.running.Running.{Running}
use Rattle.row_parts.specs.Rows.{is_met}
use Rattle.running_states.specs.Trees.{tree_in}
use Rattle.running_states.specs.Words.{Feeds, HasTree, JoinsAll}
use Rattle.chain_links.specs.proving.Words.{FeedsAll, FeedsTree}
use Rattle.running_states.proofs.Outcomes.{on_ok}

met : {X : Type 0} (x : X) (o : Option ℕ) → is_met o ≡ true → when_met (x, o) ≡ x ∷ []
met x None e = cc
met x (Some n) e = when_above x n (unmet (nat_eq n 0) e)
  where
    unmet : (b : Bool) → not b ≡ true → b ≡ false
    unmet true h = cc
    unmet false h = refl

left : {X : Type 0} (x : X) (o : Option ℕ) → is_met o ≡ false → when_met (x, o) ≡ []
left x None e = refl
left x (Some n) e = go (nat_eq n 0) refl e
  where
    go : (b : Bool) → nat_eq n 0 ≡ b → not b ≡ false → when_met (x, Some n) ≡ []
    go true h e = rw h
    go false h e = cc

-- -If
module _ (c : Chain) (us : List Ty) (r : List Value) (s : Running) where
  pub if_fed : {A E : Type 0} (x : Result A E) (q : List Value) (v : Running) → is_met (as_condition (last Nil r)) ≡ true → q ≡ front r → OnOk x (Feeds c us q s v) → OnOk x (Feeds (If c) us r s v)
  if_fed x q v e g h = on_ok x (λ a. record {
    over = λ ts n.
        if_takes c ts r (tree_in s) (tree_in v) (met (opened c (front r)) (as_condition (last Nil r)) e)
        (subst (λ y. Takes c (inward (If c) ts) y (tree_in s) (tree_in v)) g (a.over (inward (If c) ts) n));
  }) h

  pub if_left : is_met (as_condition (last Nil r)) ≡ false → Feeds (If c) us r s s
  if_left e = record { over = λ ts n. if_leaves c ts r (tree_in s) (left (opened c (front r)) (as_condition (last Nil r)) e) }

pub ruleset if_laws = (if_fed, if_left)

-- -Array
module _ (c : Chain) (us : List Ty) where
  pub array_fed : {A E : Type 0} (x : Result A E) (r : List Value) (rs : List (List Value)) (s v : Running) → tuples r ≡ rs → OnOk x (FeedsAll c us rs s v) → OnOk x (Feeds (Array c) us r s v)
  array_fed x r rs s v e h = on_ok x (λ a. record {
    over = λ ts n.
        array_takes c ts r (tree_in s) (tree_in v) (subst (λ qs. TakesFeeds c (inward (Array c) ts) (map (opened c) qs) (tree_in s) (tree_in v)) (sym e) (a.over (inward (Array c) ts) n));
  }) h

  pub array_all : {A E : Type 0} (x : Result A E) (r : List Value) (s v : Running) → OnOk x (FeedsAll c us (tuples r) s v) → OnOk x (Feeds (Array c) us r s v)
  array_all x r s v h = array_fed x r (tuples r) s v refl h

  -- the rows one after another
  pub fed_nothing : (s : Running) → FeedsAll c us [] s s
  fed_nothing s = record { over = λ ts n. takes_none c ts (tree_in s) }

  pub fed_more : (rs : List (List Value)) (i : ℕ) (r : List Value) (s u v : Running) → i < length rs → get_or rs i [] ≡ r → FeedsAll c us (take i rs) s u → Feeds c us r u v → FeedsAll c us (take (i + 1) rs) s v
  fed_more rs i r s u v l e a b = subst (λ qs. FeedsAll c us qs s v) (sym (next rs i l ∙ ap (λ q. take i rs ++ q ∷ []) e))
      (record {
        over = λ ts n.
            subst (λ fs. TakesFeeds c ts fs (tree_in s) (tree_in v)) (sym (map-append (opened c) (take i rs) (r ∷ [])))
            (takes_then c ts (map (opened c) (take i rs)) (opened c r ∷ []) (tree_in s) (tree_in u) (tree_in v) (a.over ts n) (b.over ts n));
      })
    where
      go : (qs : List (List Value)) (i : ℕ) → i < length qs → take (suc i) qs ≡ take i qs ++ get_or qs i [] ∷ []
      go [] i l = absurd (omega arith)
      go (q ∷ qs) zero l = refl
      go (q ∷ qs) (suc i) l = ap (◌∷◌ q) (go qs i (omega arith))

      next : (qs : List (List Value)) (i : ℕ) → i < length qs → take (i + 1) qs ≡ take i qs ++ get_or qs i [] ∷ []
      next qs i l = let n : i + 1 ≡ suc i = omega arith in ap (λ k. take k qs) n ∙ go qs i l

  pub fed_whole : (rs : List (List Value)) (i : ℕ) (s v : Running) → length rs ≤ i → FeedsAll c us (take i rs) s v → FeedsAll c us rs s v
  fed_whole rs i s v l a = subst (λ qs. FeedsAll c us qs s v) (take_all i rs l) a

pub ruleset array_laws = (array_fed, array_all)

-- -Merge
module _ (c : Chain) (us : List Ty) where
  pub tree_joined : {A E : Type 0} (x : Result A E) (t : Tree) (s u v : Running) → HasTree c us t u → OnOk x (JoinsAll c us s u v) → OnOk x (FeedsTree c us t s v)
  tree_joined x t s u v h j = on_ok x (λ a. record { over = λ ts n k. subst (λ y. Joins c ts (tree_in s) y (tree_in v)) (h.over ts n k) (a.over ts n) }) j

  pub merge_fed : {A E : Type 0} (x : Result A E) (r : List Value) (t : Tree) (s v : Running) → as_tree (last Nil r) ≡ t → OnOk x (FeedsTree c us t s v) → OnOk x (Feeds (Merge c) us r s v)
  merge_fed x r t s v e j = on_ok x (λ a. record {
    over = λ ts n. λ L l k m.
        merge_takes c ts r (tree_in s) (tree_in v)
        (subst (λ y. Joins c (inward (Merge c) ts) (tree_in s) y (tree_in v)) (sym e) (a.over (inward (Merge c) ts) n (subst (IsTree c (inward (Merge c) ts)) e k.0))) L l k m;
  }) j

pub ruleset merge_laws = (merge_fed, tree_joined)
