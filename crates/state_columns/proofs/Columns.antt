-- Lists of states as lists of their trees.
use Rattle.std.proofs.Common.{◌≡◌, ◌⊎◌, ℕ, zero, suc, ◌+◌, ◌-◌, ◌<◌, ◌≤◌, Bool, true, false, cond, nat_eq, List, [], ◌∷◌, ◌++◌, length, map, take, get_or, set, replicate, refl, sym, ap, ap₂, subst, ◌∙◌, arith, inl, inr}
use Rattle.std.specs.List.{All}
use Rattle.std.specs.Prelude.{OnOk, Result, Ok, Err}
use Rattle.std.proofs.lemmas.Bool.{cases_eq, cases_lt, eqb-true, eq-eqb, false_from_ne_true}
use Rattle.std.proofs.lemmas.List.{length-take-le, map_push, take_more, get_or-set_same, get_or-set_other, length-set, length-map, length-append, length-replicate, get_or_append_left, get_or-append_right, get_or-replicate}
use Rattle.agg_terms.specs.Lists.{Each}
use Rattle.agg_terms.specs.Values.{Empty, Tree, Value}
use Rattle.agg_meaning.specs.Feeds.{opened}
use Rattle.agg_meaning.specs.States.{Joins, TakesFeeds}
use Rattle.chain_states.specs.Calls.{AddsFresh, IsStateOf, StateTakes, TakeByPlace, chain_in, tree_in, types_in}
use Rattle.chain_states.specs.Calls as calls
use Rattle.table_words.specs.KeyLists.{reaching}
use Rattle.table_words.specs.Laws.{JoinsAll}
use Rattle.chain_states.specs.Ready.{Call}
use Rattle.chain_states.specs.declared.state.State.{State}
use Rattle.state_columns.specs.Trees.{JoinAt, TakeAt, blank_in}

-- ---- a place of the list
at_map : (ss : List State) (g : ℕ) (d : State) → g < length ss → get_or (map tree_in ss) g Empty ≡ tree_in (get_or ss g d)
at_map [] g d h = absurd (omega (arith, h))
at_map (s ∷ ss) zero d h = refl
at_map (s ∷ ss) (suc g) d h = at_map ss g d (omega (arith, h))

-- a list with a place has an element
some_state : (ss : List State) (g : ℕ) → g < length ss → State
some_state [] g h = absurd (omega (arith, h))
some_state (s ∷ ss) g h = s

pub each-set : (P : State → Type 0) (ss : List State) (p : ℕ) (s : State) → Each P ss → P s → Each P (set ss p s)
each-set P [] p s all here = tt
each-set P (t ∷ ss) zero s all here = (here, all.1)
each-set P (t ∷ ss) (suc p) s all here = (all.0, each-set P ss p s all.1 here)

pub each-at : (P : State → Type 0) (ss : List State) (p : ℕ) (d : State) → p < length ss → Each P ss → P (get_or ss p d)
each-at P [] p d h all = absurd (omega (arith, h))
each-at P (t ∷ ss) zero d h all = all.0
each-at P (t ∷ ss) (suc p) d h all = each-at P ss p d (omega (arith, h)) all.1

-- ---- rows by their places
same-reaching : {X : Type 0} (g : ℕ) (ps : List ℕ) (xs : List X) → calls.reaching g ps xs ≡ reaching g ps xs
same-reaching g [] xs = refl
same-reaching g (p ∷ ps) [] = refl
same-reaching g (p ∷ ps) (x ∷ xs) = ap (λ l. cond (nat_eq p g) (x ∷ l) l) (same-reaching g ps xs)

pub takes-at : (k : Call) (ps : List ℕ) (rs : List (List Value)) (ss vv : List State) → TakeByPlace k ps rs ss vv → TakeAt k ps rs (map tree_in ss) (map tree_in vv)
takes-at k ps rs ss vv t = record {
  long = length-map vv tree_in ∙ t.long ∙ sym (length-map ss tree_in);
  at = λ g h.
      let here : g < length ss = subst (λ n. g < n) (length-map ss tree_in) h in
      let d = some_state ss g here in
      let there : g < length vv = subst (λ n. g < n) (sym t.long) here in
      λ L legal feeds stands.
      at_map vv g d there
      ∙ subst (λ xs. TakesFeeds (chain_in k) (types_in k) (map (opened (chain_in k)) xs) (tree_in (get_or ss g d)) (tree_in (get_or vv g d))) (same-reaching g ps rs) (t.at g d here)
      L legal feeds (sym (at_map ss g d here) ∙ stands);
}

-- ---- blank states behind
same_lists : (xs ys : List Tree) → length xs ≡ length ys → ((i : ℕ) → i < length xs → get_or xs i Empty ≡ get_or ys i Empty) → xs ≡ ys
same_lists [] [] e f = refl
same_lists [] (y ∷ ys) e f = absurd (omega (arith, e))
same_lists (x ∷ xs) [] e f = absurd (omega (arith, e))
same_lists (x ∷ xs) (y ∷ ys) e f = ap₂ ◌∷◌ (f 0 (omega arith)) (same_lists xs ys (omega (arith, e)) (λ i h. f (suc i) (omega (arith, h))))

pub fresh-behind : (k : Call) (n : ℕ) (ss vv : List State) → AddsFresh k n ss vv → map tree_in vv ≡ map tree_in ss ++ replicate n (blank_in k)
fresh-behind k n ss vv f =
    same_lists (map tree_in vv) (map tree_in ss ++ replicate n (blank_in k))
    (omega (arith, length-map vv tree_in, f.long, length-map ss tree_in, length-append (map tree_in ss) (replicate n (blank_in k)), length-replicate n (blank_in k)))
    (λ i h. by i (subst (λ m. i < m) (length-map vv tree_in) h) (cases_lt i (length ss)))
  where
    by : (i : ℕ) → i < length vv → (i < length ss) ⊎ (length ss ≤ i) → get_or (map tree_in vv) i Empty ≡ get_or (map tree_in ss ++ replicate n (blank_in k)) i Empty
    by i h (inl below) =
        let d = some_state vv i h in
        at_map vv i d h ∙ ap tree_in (f.same i d below) ∙ sym (at_map ss i d below)
        ∙ sym (get_or_append_left (map tree_in ss) (replicate n (blank_in k)) Empty i (subst (λ m. i < m) (sym (length-map ss tree_in)) below))
    by i h (inr above) =
        let d = some_state vv i h in
        at_map vv i d h ∙ f.fresh i d above h
        ∙ sym (get_or-append_right (map tree_in ss) (replicate n (blank_in k)) (length ss) i Empty (length-map ss tree_in) above
        ∙ get_or-replicate n (i - length ss) (blank_in k) Empty (omega (arith, h, f.long, above)))

-- ---- states joined by their places
pub joined-none : (k : Call) (ss : List Tree) → JoinAt k [] [] ss ss
joined-none k ss = record { long = refl; at = λ g h. refl }

reaching-more : {X : Type 0} (g : ℕ) (ps : List ℕ) (us : List X) (p : ℕ) (u : X) → length ps ≡ length us
    → reaching g (ps ++ p ∷ []) (us ++ u ∷ []) ≡ reaching g ps us ++ cond (nat_eq p g) (u ∷ []) []
reaching-more g [] [] p u e = refl
reaching-more g [] (v ∷ us) p u e = absurd (omega (arith, e))
reaching-more g (q ∷ ps) [] p u e = absurd (omega (arith, e))
reaching-more g (q ∷ ps) (v ∷ us) p u e = by (nat_eq q g) (reaching-more g ps us p u (omega (arith, e)))
  where
    by : (b : Bool) → reaching g (ps ++ p ∷ []) (us ++ u ∷ []) ≡ reaching g ps us ++ cond (nat_eq p g) (u ∷ []) []
        → cond b (v ∷ reaching g (ps ++ p ∷ []) (us ++ u ∷ [])) (reaching g (ps ++ p ∷ []) (us ++ u ∷ [])) ≡ cond b (v ∷ reaching g ps us) (reaching g ps us) ++ cond (nat_eq p g) (u ∷ []) []
    by true r = ap (λ l. v ∷ l) r
    by false r = r

joins-more : (k : Call) (us : List Tree) (u t v w : Tree) → JoinsAll (chain_in k) (types_in k) us t v → Joins (chain_in k) (types_in k) v u w → JoinsAll (chain_in k) (types_in k) (us ++ u ∷ []) t w
joins-more k [] u t v w same last = (w, subst (λ x. Joins (chain_in k) (types_in k) x u w) (sym same) last, refl)
joins-more k (x ∷ us) u t v w all last = (all.0, all.1, joins-more k us u all.0 v w all.2 last)

append_none : (xs : List Tree) → xs ≡ xs ++ []
append_none [] = refl
append_none (x ∷ xs) = ap (λ l. x ∷ l) (append_none xs)

pub joined-more : (k : Call) (ps : List ℕ) (us ss vv : List Tree) (p : ℕ) (u w : Tree) → length ps ≡ length us → JoinAt k ps us ss vv → p < length ss
    → Joins (chain_in k) (types_in k) (get_or vv p Empty) u w → JoinAt k (ps ++ p ∷ []) (us ++ u ∷ []) ss (set vv p w)
joined-more k ps us ss vv p u w e j h last = record {
  long = length-set vv p w ∙ j.long;
  at = λ g hg. subst (λ l. JoinsAll (chain_in k) (types_in k) l (get_or ss g Empty) (get_or (set vv p w) g Empty)) (sym (reaching-more g ps us p u e)) (by g hg (cases_eq p g));
}
  where
    by : (g : ℕ) → g < length ss → (p ≡ g) ⊎ (p ≡ g → ⊥) → JoinsAll (chain_in k) (types_in k) (reaching g ps us ++ cond (nat_eq p g) (u ∷ []) []) (get_or ss g Empty) (get_or (set vv p w) g Empty)
    by g hg (inl same) =
        subst (λ b. JoinsAll (chain_in k) (types_in k) (reaching g ps us ++ cond b (u ∷ []) []) (get_or ss g Empty) (get_or (set vv p w) g Empty)) (sym (eq-eqb p g same))
        (subst (λ x. JoinsAll (chain_in k) (types_in k) (reaching g ps us ++ u ∷ []) (get_or ss g Empty) x)
        (sym (ap (λ i. get_or (set vv p w) i Empty) (sym same) ∙ get_or-set_same vv p w Empty (subst (λ n. p < n) (sym j.long) h)))
        (joins-more k (reaching g ps us) u (get_or ss g Empty) (get_or vv g Empty) w (j.at g hg) (subst (λ i. Joins (chain_in k) (types_in k) (get_or vv i Empty) u w) same last)))
    by g hg (inr other) =
        subst (λ b. JoinsAll (chain_in k) (types_in k) (reaching g ps us ++ cond b (u ∷ []) []) (get_or ss g Empty) (get_or (set vv p w) g Empty)) (sym (false_from_ne_true (nat_eq p g) (λ t. other (eqb-true p g t))))
        (subst (λ l. JoinsAll (chain_in k) (types_in k) l (get_or ss g Empty) (get_or (set vv p w) g Empty)) (append_none (reaching g ps us))
        (subst (λ x. JoinsAll (chain_in k) (types_in k) (reaching g ps us) (get_or ss g Empty) x) (sym (get_or-set_other vv p g w Empty (λ q. other (sym q)))) (j.at g hg)))

pub ok_then : {X E : Type 0} (r : Result X E) {P Q : Type 0} → OnOk r P → (P → Q) → OnOk r Q
ok_then (Ok x) p f = f p
ok_then (Err e) p f = tt

map-set : (ss : List State) (p : ℕ) (v : State) → map tree_in (set ss p v) ≡ set (map tree_in ss) p (tree_in v)
map-set [] p v = refl
map-set (s ∷ ss) zero v = refl
map-set (s ∷ ss) (suc p) v = ap (λ l. tree_in s ∷ l) (map-set ss p v)

-- the next of the later states
pub joined-next : (k : Call) (later : List State) (places : List ℕ) (start states : List State) (i : ℕ) (s l v : State) → length places ≡ length later → i < length places →
    All (λ p. p < length start) places → l ≡ get_or later i l → s ≡ get_or states (get_or places i 0) s →
    JoinAt k (take i places) (take i (map tree_in later)) (map tree_in start) (map tree_in states) → Joins (chain_in k) (types_in k) (tree_in s) (tree_in l) (tree_in v) →
    JoinAt k (take (i + 1) places) (take (i + 1) (map tree_in later)) (map tree_in start) (map tree_in (set states (get_or places i 0) v))
joined-next k later places start states i s l v count lt below l-is s-is j joins =
    let p = get_or places i 0 in
    let there : i < length later = subst (λ n. i < n) count lt in
    let mapped : i < length (map tree_in later) = subst (λ n. i < n) (sym (length-map later tree_in)) there in
    let here : p < length (map tree_in start) = subst (λ n. p < n) (sym (length-map start tree_in)) (below i 0 lt) in
    let within : p < length states = subst (λ n. p < n) (sym j.long ∙ length-map states tree_in) here in
    let ps : take (i + 1) places ≡ take i places ++ p ∷ [] = take_more places i 0 lt in
    let us : take (i + 1) (map tree_in later) ≡ take i (map tree_in later) ++ tree_in l ∷ [] =
    take_more (map tree_in later) i Empty mapped ∙ ap (λ t. take i (map tree_in later) ++ t ∷ []) (at_map later i l there ∙ ap tree_in (sym l-is)) in
    let fronts : length (take i places) ≡ length (take i (map tree_in later)) =
    omega (arith, length-take-le i places (omega (arith, lt)), length-take-le i (map tree_in later) (omega (arith, mapped))) in
    subst (λ vv. JoinAt k (take (i + 1) places) (take (i + 1) (map tree_in later)) (map tree_in start) vv) (sym (map-set states p v))
    (subst (λ qs. JoinAt k qs (take (i + 1) (map tree_in later)) (map tree_in start) (set (map tree_in states) p (tree_in v))) (sym ps)
    (subst (λ ws. JoinAt k (take i places ++ p ∷ []) ws (map tree_in start) (set (map tree_in states) p (tree_in v))) (sym us)
    (joined-more k (take i places) (take i (map tree_in later)) (map tree_in start) (map tree_in states) p (tree_in l) (tree_in v) fronts j here
    (subst (λ t. Joins (chain_in k) (types_in k) t (tree_in l) (tree_in v)) (ap tree_in s-is ∙ sym (at_map states p s within)) joins))))

-- one tree
pub joined-one : (k : Call) (ss : List State) (p : ℕ) (s v : State) (u : Tree) → p < length ss → s ≡ get_or ss p s → Joins (chain_in k) (types_in k) (tree_in s) u (tree_in v) →
    JoinAt k (p ∷ []) (u ∷ []) (map tree_in ss) (map tree_in (set ss p v))
joined-one k ss p s v u h is joins =
    subst (λ vv. JoinAt k (p ∷ []) (u ∷ []) (map tree_in ss) vv) (sym (map-set ss p v))
    (joined-more k [] [] (map tree_in ss) (map tree_in ss) p u (tree_in v) refl (joined-none k (map tree_in ss)) (subst (λ n. p < n) (sym (length-map ss tree_in)) h)
    (subst (λ t. Joins (chain_in k) (types_in k) t u (tree_in v)) (ap tree_in is ∙ sym (at_map ss p s h)) joins))

-- one state more that has the tree of another
pub copied-next : (ss vv : List State) (i : ℕ) (s v : State) → i < length ss → s ≡ get_or ss i s → map tree_in vv ≡ take i (map tree_in ss) → tree_in v ≡ tree_in s →
    map tree_in (vv ++ v ∷ []) ≡ take (i + 1) (map tree_in ss)
copied-next ss vv i s v h is before same =
    map_push tree_in vv v ∙ ap₂ (λ l t. l ++ t ∷ []) before (same ∙ ap tree_in is ∙ sym (at_map ss i s h))
    ∙ sym (take_more (map tree_in ss) i Empty (subst (λ n. i < n) (sym (length-map ss tree_in)) h))

pub each-push : (P : State → Type 0) (ss : List State) (s : State) → Each P ss → P s → Each P (ss ++ s ∷ [])
each-push P [] s all here = (here, tt)
each-push P (t ∷ ss) s all here = (all.0, each-push P ss s all.1 here)
