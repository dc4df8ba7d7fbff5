-- Rows fed by place, one after another.
use Rattle.std.proofs.Common.{◌≡◌, ◌≢◌, ℕ, zero, suc, ◌+◌, ◌<◌, ◌≤◌, nat_eq, Bool, true, false, true≢false, cond, List, [], ◌∷◌, ◌++◌, map, take, length, get_or, ◌⊎◌, inl, inr, Option, None, Some, pos, refl, sym, ap, ◌∙◌, subst, arith}
use Rattle.std.proofs.Math.ListN.{set}
use Rattle.std.proofs.lemmas.Bool.{cases_eq}
use Rattle.std.proofs.lemmas.List.{get_or-set_same, get_or-set_other, take_all, length-set, length-append, length-take-le, map-append}
use Rattle.agg_terms.specs.Chains.{Chain, If, Ty}
use Rattle.agg_terms.specs.Lists.{Each, front}
use Rattle.agg_terms.specs.Types.{inward}
use Rattle.agg_terms.specs.Values as family
use Rattle.agg_terms.specs.Values.{Value}
use Rattle.agg_meaning.specs.Feeds.{as_condition, last, opened}
use Rattle.agg_meaning.specs.Picks.{when_met}
use Rattle.agg_meaning.specs.States.{Takes, TakesFeeds}
use Rattle.agg_meaning.proofs.Suffixed.{if_leaves, if_takes, takes_none, takes_then, when_above}
use Rattle.value_types.specs.Folds.{chain_of}
use Rattle.value_types.proofs.FoldLaws.{chain_of-If}
use Rattle.value_types.specs.declared.chain.Chain.{Chain as Chained}
use Rattle.value_types.specs.declared.chain.Chain.TheVariants as chained
use Rattle.running_states.specs.declared.running.Running.{Running}
use Rattle.running_states.specs.Trees as links
use Rattle.running_states.specs.Words.{Feeds}
use Rattle.chain_links.specs.proving.Words.{FeedsAll}
use Rattle.chain_states.specs.declared.state.State.{State}
use Rattle.chain_states.specs.Calls.{reaching}
use Rattle.chain_states.specs.proving.Places.{AreStates, FeedsAt, is_left, rows_from, with_condition, with_if}

pub each_set : {X : Type 0} (P : X → Type 0) (xs : List X) (i : ℕ) (x : X) → Each P xs → P x → Each P (set xs i x)
each_set P [] i x k p = tt
each_set P (y ∷ xs) zero x k p = (p, k.1)
each_set P (y ∷ xs) (suc i) x k p = (k.0, each_set P xs i x k.1 p)

pub each_push : {X : Type 0} (P : X → Type 0) (xs : List X) (x : X) → Each P xs → P x → Each P (xs ++ x ∷ [])
each_push P [] x k p = (p, tt)
each_push P (y ∷ xs) x k p = (k.0, each_push P xs x k.1 p)

-- rows behind rows
fed_then : (c : Chain) (us : List Ty) (rs qs : List (List Value)) (s u v : Running) → FeedsAll c us rs s u → FeedsAll c us qs u v → FeedsAll c us (rs ++ qs) s v
fed_then c us rs qs s u v a b = record {
  over = λ ts n.
      subst (λ fs. TakesFeeds c ts fs (links.tree_in s) (links.tree_in v)) (sym (map-append (opened c) rs qs))
      (takes_then c ts (map (opened c) rs) (map (opened c) qs) (links.tree_in s) (links.tree_in u) (links.tree_in v) (a.over ts n) (b.over ts n));
}

fed_one : (c : Chain) (us : List Ty) (r : List Value) (s v : Running) → Feeds c us r s v → FeedsAll c us (r ∷ []) s v
fed_one c us r s v a = record { over = a.over }

-- what reaches a place of two lists, one behind the other
pub reaching-append : {X : Type 0} (g : ℕ) (ps qs : List ℕ) (xs ys : List X) → length ps ≡ length xs → reaching g (ps ++ qs) (xs ++ ys) ≡ reaching g ps xs ++ reaching g qs ys
reaching-append g [] qs [] ys e = refl
reaching-append g [] qs (x ∷ xs) ys e = absurd (omega arith)
reaching-append g (p ∷ ps) qs [] ys e = absurd (omega arith)
reaching-append g (p ∷ ps) qs (x ∷ xs) ys e = go (nat_eq p g) (reaching-append g ps qs xs ys (omega arith))
  where
    go : (b : Bool) → reaching g (ps ++ qs) (xs ++ ys) ≡ reaching g ps xs ++ reaching g qs ys →
        cond b (x ∷ reaching g (ps ++ qs) (xs ++ ys)) (reaching g (ps ++ qs) (xs ++ ys)) ≡ cond b (x ∷ reaching g ps xs) (reaching g ps xs) ++ reaching g qs ys
    go true h = ap (◌∷◌ x) h
    go false h = h

nat_eq-same : (n : ℕ) → nat_eq n n ≡ true
nat_eq-same n = grind arith

nat_eq-other : (m n : ℕ) → m ≢ n → nat_eq m n ≡ false
nat_eq-other m n h = grind (arith, h)

-- no row yet, one row more, and a batch behind a batch
pub at_none : (c : Chain) (us : List Ty) (ss : List State) → FeedsAt c us [] [] ss ss
at_none c us ss = record { long = refl; at = λ g d l. record { over = λ ts n. takes_none c ts (links.tree_in (get_or ss g d).running) } }

pub at_then : (c : Chain) (us : List Ty) (ps qs : List ℕ) (rs ys : List (List Value)) (ss uu vv : List State) → length ps ≡ length rs → FeedsAt c us ps rs ss uu → FeedsAt c us qs ys uu vv → FeedsAt c us (ps ++ qs) (rs ++ ys) ss vv
at_then c us ps qs rs ys ss uu vv e a b = record {
  long = b.long ∙ a.long;
  at = λ g d l. subst (λ zs. FeedsAll c us zs (get_or ss g d).running (get_or vv g d).running) (sym (reaching-append g ps qs rs ys e))
      (fed_then c us (reaching g ps rs) (reaching g qs ys) (get_or ss g d).running (get_or uu g d).running (get_or vv g d).running (a.at g d l) (b.at g d (let k : length uu ≡ length ss = a.long in omega (arith, k, l))));
}

at_one : (c : Chain) (us : List Ty) (p : ℕ) (r : List Value) (ss : List State) (x w : State) → p < length ss → x ≡ get_or ss p x → Feeds c us r x.running w.running → FeedsAt c us (p ∷ []) (r ∷ []) ss (set ss p w)
at_one c us p r ss x w l e a = record { long = length-set ss p w; at = λ g d k. here g d (cases_eq g p) }
  where
    same_default : (ss : List State) (p : ℕ) (x d : State) → p < length ss → get_or ss p d ≡ get_or ss p x
    same_default [] p x d l = absurd (omega arith)
    same_default (s ∷ ss) zero x d l = refl
    same_default (s ∷ ss) (suc p) x d l = same_default ss p x d (omega arith)

    here : (g : ℕ) (d : State) → (g ≡ p) ⊎ (g ≡ p → ⊥) → FeedsAll c us (reaching g (p ∷ []) (r ∷ [])) (get_or ss g d).running (get_or (set ss p w) g d).running
    here g d (inl h) = subst (λ n. FeedsAll c us (reaching n (p ∷ []) (r ∷ [])) (get_or ss n d).running (get_or (set ss p w) n d).running) (sym h)
        (subst (λ b. FeedsAll c us (cond b (r ∷ []) []) (get_or ss p d).running (get_or (set ss p w) p d).running) (sym (nat_eq-same p))
        (subst (λ y. FeedsAll c us (r ∷ []) y.running (get_or (set ss p w) p d).running) (e ∙ sym (same_default ss p x d l))
        (subst (λ y. FeedsAll c us (r ∷ []) x.running y.running) (sym (get_or-set_same ss p w d l)) (fed_one c us r x.running w.running a))))
    here g d (inr h) =
        subst (λ b. FeedsAll c us (cond b (r ∷ []) []) (get_or ss g d).running (get_or (set ss p w) g d).running) (sym (nat_eq-other p g (λ i. h (sym i))))
        (subst (λ y. FeedsAll c us [] (get_or ss g d).running y.running) (sym (get_or-set_other ss p g w d h)) (record { over = λ ts n. takes_none c ts (links.tree_in (get_or ss g d).running) }))

rows_long : (row : ℕ → List Value) (from n : ℕ) → length (rows_from row from n) ≡ n
rows_long row from zero = refl
rows_long row from (suc n) = omega (arith, length-append (rows_from row from n) (row (from + n) ∷ []), rows_long row from n)

next : {X : Type 0} (xs : List X) (i : ℕ) (d : X) → i < length xs → take (suc i) xs ≡ take i xs ++ get_or xs i d ∷ []
next [] i d l = absurd (omega arith)
next (y ∷ xs) zero d l = refl
next (y ∷ xs) (suc i) d l = ap (◌∷◌ y) (next xs i d (omega arith))

at_next : (c : Chain) (us : List Ty) (ps : List ℕ) (row : ℕ → List Value) (from i : ℕ) (ss vv ww : List State) → i < length ps →
    FeedsAt c us (take i ps) (rows_from row from i) ss vv → FeedsAt c us (get_or ps i 0 ∷ []) (row (from + i) ∷ []) vv ww → FeedsAt c us (take (i + 1) ps) (rows_from row from (i + 1)) ss ww
at_next c us ps row from i ss vv ww l a b =
    let n : suc i ≡ i + 1 = omega arith in
    subst (λ j. FeedsAt c us (take j ps) (rows_from row from j) ss ww) n
    (subst (λ q. FeedsAt c us q (rows_from row from (suc i)) ss ww) (sym (next ps i 0 l))
    (at_then c us (take i ps) (get_or ps i 0 ∷ []) (rows_from row from i) (row (from + i) ∷ []) ss vv ww
    (length-take-le i ps (omega (arith, l)) ∙ sym (rows_long row from i)) a b))

pub at_all : (c : Chain) (us : List Ty) (ps : List ℕ) (row : ℕ → List Value) (from i n : ℕ) (ss vv : List State) → length ps ≤ i → i ≤ length ps → length ps ≡ n → FeedsAt c us (take i ps) (rows_from row from i) ss vv → FeedsAt c us ps (rows_from row from n) ss vv
at_all c us ps row from i n ss vv l m f a =
    let e : i ≡ n = omega (arith, l, m, f) in
    subst (λ k. FeedsAt c us ps (rows_from row from k) ss vv) e (subst (λ q. FeedsAt c us q (rows_from row from i) ss vv) (take_all i ps l) a)

-- a row that no state takes
at_pass : (c : Chain) (us : List Ty) (p : ℕ) (r : List Value) (ss : List State) → ((s : Running) → Feeds c us r s s) → FeedsAt c us (p ∷ []) (r ∷ []) ss ss
at_pass c us p r ss a = record { long = refl; at = λ g d k. here (nat_eq p g) (get_or ss g d).running }
  where
    here : (b : Bool) (s : Running) → FeedsAll c us (cond b (r ∷ []) []) s s
    here true s = fed_one c us r s s (a s)
    here false s = record { over = λ ts n. takes_none c ts (links.tree_in s) }

-- a row with a condition at its end
front_last : {X : Type 0} (xs : List X) (x : X) → front (xs ++ x ∷ []) ≡ xs
front_last [] x = refl
front_last (y ∷ []) x = refl
front_last (y ∷ z ∷ zs) x = ap (◌∷◌ y) (front_last (z ∷ zs) x)

last_last : (d : Value) (xs : List Value) (x : Value) → last d (xs ++ x ∷ []) ≡ x
last_last d [] x = refl
last_last d (y ∷ xs) x = last_last y xs x

-- a row with its condition behind, where that is met, and where it isn't
module _ (c : Chain) (us : List Ty) (r : List Value) (n : ℕ) where
  front_is : front (r ++ family.Num (pos n) ∷ []) ≡ r
  front_is = front_last r (family.Num (pos n))

  last_is : as_condition (last family.Nil (r ++ family.Num (pos n) ∷ [])) ≡ Some n
  last_is = ap as_condition (last_last family.Nil r (family.Num (pos n)))

  where_met : (x w : Running) → nat_eq n 0 ≡ false → Feeds c us r x w → Feeds (If c) us (r ++ family.Num (pos n) ∷ []) x w
  where_met x w t b = record {
    over = λ ts k.
        if_takes c ts (r ++ family.Num (pos n) ∷ []) (links.tree_in x) (links.tree_in w)
        (ap (λ o. when_met (opened c (front (r ++ family.Num (pos n) ∷ [])), o)) last_is ∙ when_above (opened c (front (r ++ family.Num (pos n) ∷ []))) n t)
        (subst (λ q. Takes c (inward (If c) ts) q (links.tree_in x) (links.tree_in w)) (sym front_is) (b.over (inward (If c) ts) k));
  }

  where_left : nat_eq n 0 ≡ true → (x : Running) → Feeds (If c) us (r ++ family.Num (pos n) ∷ []) x x
  where_left t x = record {
    over = λ ts k. if_leaves c ts (r ++ family.Num (pos n) ∷ []) (links.tree_in x)
        (ap (λ o. when_met (opened c (front (r ++ family.Num (pos n) ∷ [])), o)) last_is ∙ ap (λ b. cond b [] (opened c (front (r ++ family.Num (pos n) ∷ [])) ∷ [])) t);
  }

module _ {X : Type 0} (of : X → List ℕ) (c : Chain) (us : List Ty) (row : ℕ → List Value) (n : ℕ) where
  row_taken : (o : Option X) (x w : Running) → is_left of o n ≡ false → Feeds c us (row n) x w → Feeds (with_if o c) us (with_condition of o row n) x w
  row_taken None x w e b = b
  row_taken (Some y) x w e b = where_met c us (row n) (get_or (of y) n 0) x w e b

  row_left : (o : Option X) (x : Running) → is_left of o n ≡ true → Feeds (with_if o c) us (with_condition of o row n) x x
  row_left None x e = absurd (true≢false (sym e))
  row_left (Some y) x e = where_left c us (row n) (get_or (of y) n 0) e x

-- one row more at its place, and one that is left out
module _ {X : Type 0} (of : X → List ℕ) (o : Option X) (c : Chain) (us : List Ty) (ps : List ℕ) (row : ℕ → List Value) (from i : ℕ) (ss vv : List State) (l : i < length ps)
    (h : FeedsAt (with_if o c) us (take i ps) (rows_from (with_condition of o row) from i) ss vv) where
  pub one_more : (x w : State) → is_left of o (from + i) ≡ false → get_or ps i 0 < length vv → x ≡ get_or vv (get_or ps i 0) x → Feeds c us (row (from + i)) x.running w.running →
      FeedsAt (with_if o c) us (take (i + 1) ps) (rows_from (with_condition of o row) from (i + 1)) ss (set vv (get_or ps i 0) w)
  one_more x w e m g b =
      at_next (with_if o c) us ps (with_condition of o row) from i ss vv (set vv (get_or ps i 0) w) l h
      (at_one (with_if o c) us (get_or ps i 0) (with_condition of o row (from + i)) vv x w m g (row_taken of c us row (from + i) o x.running w.running e b))

  pub left_out : is_left of o (from + i) ≡ true → FeedsAt (with_if o c) us (take (i + 1) ps) (rows_from (with_condition of o row) from (i + 1)) ss vv
  left_out e =
      at_next (with_if o c) us ps (with_condition of o row) from i ss vv vv l h
      (at_pass (with_if o c) us (get_or ps i 0) (with_condition of o row (from + i)) vv (λ s. row_left of c us row (from + i) o s e))

-- states of a chain with a condition are those of the chain inside
pub inner_states : (chain of inner : Chained) (us : List Ty) (ss : List State) → chain ≡ chained.If of → inner ≡ of → AreStates (chain_of chain) us ss → AreStates (chain_of inner) us ss
inner_states chain of inner us ss e g k = subst (λ c. AreStates (chain_of c) us ss) (sym g) (subst (λ c. AreStates c us ss) (ap chain_of e ∙ chain_of-If of) k)

pub outer_states : (chain of inner : Chained) (us : List Ty) (ss : List State) → chain ≡ chained.If of → inner ≡ of → AreStates (chain_of inner) us ss → AreStates (chain_of chain) us ss
outer_states chain of inner us ss e g k = subst (λ c. AreStates c us ss) (sym (ap chain_of e ∙ chain_of-If of)) (subst (λ c. AreStates (chain_of c) us ss) g k)
