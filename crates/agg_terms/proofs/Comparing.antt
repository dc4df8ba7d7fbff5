-- The order of values is total, and equal values are the same.
use Rattle.std.proofs.Common.{◌≡◌, ◌≢◌, ℕ, ◌<◌, ◌≤◌, ℤ, Bool, true, false, ◌⊎◌, inl, inr, List, [], ◌∷◌, refl, sym, ap, ap₂, ◌∙◌, ◌&&◌, eq-eqb, arith, true≢false, nat_eq, Ordering, Less, Equal, Greater}
use Rattle.std.specs.Ordering.{nat_cmp, int_cmp, is_eq, is_gt, ordering_then, ordering_reverse}
use Rattle.std.specs.Cmp.{IsTotalOrder}
use Rattle.std.specs.Cmp.Lexicographic.{slice_cmp}
use Rattle.std.proofs.lemmas.Cmp.{nat_cmp_total, int_cmp_total, nat_list_cmp_total, ranked, int_ranked}
use Rattle.std.proofs.lemmas.Bool.{cases_lt}
use Rattle.agg_terms.specs.Values.{Event, Value, Num, Bytes, Nil, Items, Pairs, Cell, Values, no_values, a_value, Entries, no_entries, an_entry, Table, no_rows, a_row, Tree, Empty, Word, Tuple, Listed, Rows, Events, Slots, Keyed, Trees, no_trees, a_tree, KeyedTrees, no_keys, a_key, entries, values, values_list}
use Rattle.agg_terms.specs.Order.{compare, compare_values, compare_entries, compare_table, compare_trees, compare_slots, compare_keyed, compare_rows, event_cmp, rank, tree_rank}
use Rattle.agg_terms.specs.Laws.{entry_cmp}
use Rattle.agg_terms.proofs.Sorting.{IsOrder}
use Rattle.agg_terms.proofs.Lists.{values_back}

not_equal : {A : Type 0} (o : Ordering) → is_eq o ≡ false → o ≡ Equal → A
not_equal o h e = absurd (true≢false (sym (ap is_eq e) ∙ h))

then_first : (o p : Ordering) → ordering_then o p ≡ Equal → o ≡ Equal
then_first Less p e = e
then_first Equal p e = refl
then_first Greater p e = e

then_second : (o p : Ordering) → ordering_then o p ≡ Equal → p ≡ Equal
then_second Less p e = not_equal Less refl e
then_second Equal p e = e
then_second Greater p e = not_equal Greater refl e

nat_same : (a b : ℕ) → nat_cmp a b ≡ Equal → a ≡ b
nat_same a b e = ranked a b Equal (sym e)

int_same : (a b : ℤ) → int_cmp a b ≡ Equal → a ≡ b
int_same a b e = int_ranked a b Equal (sym e)

event_same : (a b : Event) → event_cmp a b ≡ Equal → a ≡ b
event_same a b e =
    ap₂ (λ t m. record { time = t; mask = m })
    (nat_same a.time b.time (then_first (nat_cmp a.time b.time) (nat_cmp a.mask b.mask) e))
    (nat_same a.mask b.mask (then_second (nat_cmp a.time b.time) (nat_cmp a.mask b.mask) e))

slice_same : {X : Type 0} (R : X → X → Ordering) → ((a b : X) → R a b ≡ Equal → a ≡ b) → (xs ys : List X) → slice_cmp R xs ys ≡ Equal → xs ≡ ys
slice_same R s [] [] e = refl
slice_same R s [] (y ∷ ys) e = not_equal Less refl e
slice_same R s (x ∷ xs) [] e = not_equal Greater refl e
slice_same R s (x ∷ xs) (y ∷ ys) e =
    ap₂ ◌∷◌ (s x y (then_first (R x y) (slice_cmp R xs ys) e)) (slice_same R s xs ys (then_second (R x y) (slice_cmp R xs ys) e))

entry_same : {j k v w : Value} {vs ws : Entries} → j ≡ k → v ≡ w → vs ≡ ws → an_entry j v vs ≡ an_entry k w ws
entry_same {j = j} {k = k} {v = v} {w = w} {vs = vs} {ws = ws} e f g =
    ap (λ x. an_entry x v vs) e ∙ ap₂ (λ x y. an_entry k x y) f g

key_same : {j k : Value} {v w : Tree} {vs ws : KeyedTrees} → j ≡ k → v ≡ w → vs ≡ ws → a_key j v vs ≡ a_key k w ws
key_same {j = j} {k = k} {v = v} {w = w} {vs = vs} {ws = ws} e f g =
    ap (λ x. a_key x v vs) e ∙ ap₂ (λ x y. a_key k x y) f g

mutual
  unfolding compare

  same : (a b : Value) → compare a b ≡ Equal → a ≡ b
  same Nil Nil e = refl
  same (Num a) (Num b) e = ap Num (int_same a b e)
  same (Bytes a) (Bytes b) e = ap Bytes (slice_same nat_cmp nat_same a b e)
  same (Items a) (Items b) e = ap Items (same_values a b e)
  same (Pairs a) (Pairs b) e = ap Pairs (same_entries a b e)
  same (Cell a) (Cell b) e = ap Cell (same_tree a b e)
  same a b e = not_equal (compare a b) refl e

  same_values : (a b : Values) → compare_values a b ≡ Equal → a ≡ b
  same_values no_values no_values e = refl
  same_values no_values (a_value w ws) e = not_equal Less refl e
  same_values (a_value v vs) no_values e = not_equal Greater refl e
  same_values (a_value v vs) (a_value w ws) e =
      ap₂ a_value (same v w (then_first (compare v w) (compare_values vs ws) e)) (same_values vs ws (then_second (compare v w) (compare_values vs ws) e))

  same_entries : (a b : Entries) → compare_entries a b ≡ Equal → a ≡ b
  same_entries no_entries no_entries e = refl
  same_entries no_entries (an_entry k w ws) e = not_equal Less refl e
  same_entries (an_entry j v vs) no_entries e = not_equal Greater refl e
  same_entries (an_entry j v vs) (an_entry k w ws) e =
      let r : ordering_then (compare v w) (compare_entries vs ws) ≡ Equal = then_second (compare j k) (ordering_then (compare v w) (compare_entries vs ws)) e in
      entry_same
      (same j k (then_first (compare j k) (ordering_then (compare v w) (compare_entries vs ws)) e))
      (same v w (then_first (compare v w) (compare_entries vs ws) r))
      (same_entries vs ws (then_second (compare v w) (compare_entries vs ws) r))

  same_table : (a b : Table) → compare_table a b ≡ Equal → a ≡ b
  same_table no_rows no_rows e = refl
  same_table no_rows (a_row w ws) e = not_equal Less refl e
  same_table (a_row v vs) no_rows e = not_equal Greater refl e
  same_table (a_row v vs) (a_row w ws) e =
      ap₂ a_row (same_values v w (then_first (compare_values v w) (compare_table vs ws) e)) (same_table vs ws (then_second (compare_values v w) (compare_table vs ws) e))

  same_tree : (a b : Tree) → compare_trees a b ≡ Equal → a ≡ b
  same_tree Empty Empty e = refl
  same_tree (Word a) (Word b) e = ap Word (int_same a b e)
  same_tree (Tuple a) (Tuple b) e = ap Tuple (same_values a b e)
  same_tree (Listed a) (Listed b) e = ap Listed (same_values a b e)
  same_tree (Rows a) (Rows b) e = ap Rows (same_table a b e)
  same_tree (Events a) (Events b) e = ap Events (slice_same event_cmp event_same a b e)
  same_tree (Slots a) (Slots b) e = ap Slots (same_slots a b e)
  same_tree (Keyed a) (Keyed b) e = ap Keyed (same_keyed a b e)
  same_tree a b e = not_equal (compare_trees a b) refl e

  same_slots : (a b : Trees) → compare_slots a b ≡ Equal → a ≡ b
  same_slots no_trees no_trees e = refl
  same_slots no_trees (a_tree w ws) e = not_equal Less refl e
  same_slots (a_tree v vs) no_trees e = not_equal Greater refl e
  same_slots (a_tree v vs) (a_tree w ws) e =
      ap₂ a_tree (same_tree v w (then_first (compare_trees v w) (compare_slots vs ws) e)) (same_slots vs ws (then_second (compare_trees v w) (compare_slots vs ws) e))

  same_keyed : (a b : KeyedTrees) → compare_keyed a b ≡ Equal → a ≡ b
  same_keyed no_keys no_keys e = refl
  same_keyed no_keys (a_key k w ws) e = not_equal Less refl e
  same_keyed (a_key j v vs) no_keys e = not_equal Greater refl e
  same_keyed (a_key j v vs) (a_key k w ws) e =
      let r : ordering_then (compare_trees v w) (compare_keyed vs ws) ≡ Equal = then_second (compare j k) (ordering_then (compare_trees v w) (compare_keyed vs ws)) e in
      key_same
      (same j k (then_first (compare j k) (ordering_then (compare_trees v w) (compare_keyed vs ws)) e))
      (same_tree v w (then_first (compare_trees v w) (compare_keyed vs ws) r))
      (same_keyed vs ws (then_second (compare_trees v w) (compare_keyed vs ws) r))

-- one way round and the other
then_reverse : (o p : Ordering) → ordering_then (ordering_reverse o) (ordering_reverse p) ≡ ordering_reverse (ordering_then o p)
then_reverse Less p = refl
then_reverse Equal p = refl
then_reverse Greater p = refl

then_flip : (o p o' p' : Ordering) → o ≡ ordering_reverse o' → p ≡ ordering_reverse p' → ordering_then o p ≡ ordering_reverse (ordering_then o' p')
then_flip o p o' p' e f = ap₂ ordering_then e f ∙ then_reverse o' p'

event_flip : (a b : Event) → event_cmp a b ≡ ordering_reverse (event_cmp b a)
event_flip a b = then_flip _ _ _ _ (nat_cmp_total.antisymm a.time b.time) (nat_cmp_total.antisymm a.mask b.mask)

slice_flip : {X : Type 0} (R : X → X → Ordering) → ((a b : X) → R a b ≡ ordering_reverse (R b a)) → (xs ys : List X) → slice_cmp R xs ys ≡ ordering_reverse (slice_cmp R ys xs)
slice_flip R s [] [] = refl
slice_flip R s [] (y ∷ ys) = refl
slice_flip R s (x ∷ xs) [] = refl
slice_flip R s (x ∷ xs) (y ∷ ys) = then_flip (R x y) (slice_cmp R xs ys) (R y x) (slice_cmp R ys xs) (s x y) (slice_flip R s xs ys)

mutual
  unfolding compare

  flip : (a b : Value) → compare a b ≡ ordering_reverse (compare b a)
  flip Nil Nil = refl
  flip (Num a) (Num b) = int_cmp_total.antisymm a b
  flip (Bytes a) (Bytes b) = nat_list_cmp_total.antisymm a b
  flip (Items a) (Items b) = flip_values a b
  flip (Pairs a) (Pairs b) = flip_entries a b
  flip (Cell a) (Cell b) = flip_tree a b
  flip a b = refl

  flip_values : (a b : Values) → compare_values a b ≡ ordering_reverse (compare_values b a)
  flip_values no_values no_values = refl
  flip_values (a_value v vs) (a_value w ws) = then_flip (compare v w) (compare_values vs ws) (compare w v) (compare_values ws vs) (flip v w) (flip_values vs ws)
  flip_values a b = refl

  flip_entries : (a b : Entries) → compare_entries a b ≡ ordering_reverse (compare_entries b a)
  flip_entries no_entries no_entries = refl
  flip_entries (an_entry j v vs) (an_entry k w ws) =
      then_flip (compare j k) (ordering_then (compare v w) (compare_entries vs ws)) (compare k j) (ordering_then (compare w v) (compare_entries ws vs)) (flip j k)
      (then_flip (compare v w) (compare_entries vs ws) (compare w v) (compare_entries ws vs) (flip v w) (flip_entries vs ws))
  flip_entries a b = refl

  flip_table : (a b : Table) → compare_table a b ≡ ordering_reverse (compare_table b a)
  flip_table no_rows no_rows = refl
  flip_table (a_row v vs) (a_row w ws) = then_flip (compare_values v w) (compare_table vs ws) (compare_values w v) (compare_table ws vs) (flip_values v w) (flip_table vs ws)
  flip_table a b = refl

  flip_tree : (a b : Tree) → compare_trees a b ≡ ordering_reverse (compare_trees b a)
  flip_tree Empty Empty = refl
  flip_tree (Word a) (Word b) = int_cmp_total.antisymm a b
  flip_tree (Tuple a) (Tuple b) = flip_values a b
  flip_tree (Listed a) (Listed b) = flip_values a b
  flip_tree (Rows a) (Rows b) = flip_table a b
  flip_tree (Events a) (Events b) = slice_flip event_cmp event_flip a b
  flip_tree (Slots a) (Slots b) = flip_slots a b
  flip_tree (Keyed a) (Keyed b) = flip_keyed a b
  flip_tree a b = refl

  flip_slots : (a b : Trees) → compare_slots a b ≡ ordering_reverse (compare_slots b a)
  flip_slots no_trees no_trees = refl
  flip_slots (a_tree v vs) (a_tree w ws) = then_flip (compare_trees v w) (compare_slots vs ws) (compare_trees w v) (compare_slots ws vs) (flip_tree v w) (flip_slots vs ws)
  flip_slots a b = refl

  flip_keyed : (a b : KeyedTrees) → compare_keyed a b ≡ ordering_reverse (compare_keyed b a)
  flip_keyed no_keys no_keys = refl
  flip_keyed (a_key j v vs) (a_key k w ws) =
      then_flip (compare j k) (ordering_then (compare_trees v w) (compare_keyed vs ws)) (compare k j) (ordering_then (compare_trees w v) (compare_keyed ws vs)) (flip j k)
      (then_flip (compare_trees v w) (compare_keyed vs ws) (compare_trees w v) (compare_keyed ws vs) (flip_tree v w) (flip_keyed vs ws))
  flip_keyed a b = refl

-- one below another, and that below a third
lex_trans : (o1 o2 o3 p1 p2 p3 : Ordering) → (o1 ≡ Less → o2 ≡ Less → o3 ≡ Less) → (o1 ≡ Equal → o3 ≡ o2) → (o2 ≡ Equal → o3 ≡ o1) → (p1 ≡ Less → p2 ≡ Less → p3 ≡ Less) → ordering_then o1 p1 ≡ Less → ordering_then o2 p2 ≡ Less → ordering_then o3 p3 ≡ Less
lex_trans Less Less o3 p1 p2 p3 f g h t a b = ap (λ o. ordering_then o p3) (f refl refl)
lex_trans Less Equal o3 p1 p2 p3 f g h t a b = ap (λ o. ordering_then o p3) (h refl)
lex_trans Equal Less o3 p1 p2 p3 f g h t a b = ap (λ o. ordering_then o p3) (g refl)
lex_trans Equal Equal o3 p1 p2 p3 f g h t a b = ap (λ o. ordering_then o p3) (g refl) ∙ t a b
lex_trans Greater o2 o3 p1 p2 p3 f g h t a b = grind (arith, a)
lex_trans Less Greater o3 p1 p2 p3 f g h t a b = grind (arith, b)
lex_trans Equal Greater o3 p1 p2 p3 f g h t a b = grind (arith, b)

-- the heads of such a step, from what is known of the heads' order
head_left : {X : Type 0} (R : X → X → Ordering) → ((a b : X) → R a b ≡ Equal → a ≡ b) → (u v w : X) → R u v ≡ Equal → R u w ≡ R v w
head_left R s u v w e = ap (λ x. R x w) (s u v e)

head_right : {X : Type 0} (R : X → X → Ordering) → ((a b : X) → R a b ≡ Equal → a ≡ b) → (u v w : X) → R v w ≡ Equal → R u w ≡ R u v
head_right R s u v w e = ap (R u) (sym (s v w e))

event_trans : (a b c : Event) → event_cmp a b ≡ Less → event_cmp b c ≡ Less → event_cmp a c ≡ Less
event_trans a b c =
    lex_trans _ _ _ _ _ _ (nat_cmp_total.trans a.time b.time c.time)
    (head_left nat_cmp nat_same a.time b.time c.time) (head_right nat_cmp nat_same a.time b.time c.time)
    (nat_cmp_total.trans a.mask b.mask c.mask)

slice_trans : {X : Type 0} (R : X → X → Ordering) → ((a b : X) → R a b ≡ Equal → a ≡ b) → ((a b c : X) → R a b ≡ Less → R b c ≡ Less → R a c ≡ Less) → (xs ys zs : List X) → slice_cmp R xs ys ≡ Less → slice_cmp R ys zs ≡ Less → slice_cmp R xs zs ≡ Less
slice_trans R s t [] ys [] e f = grind (arith, s)
slice_trans R s t [] ys (z ∷ zs) e f = refl
slice_trans R s t (x ∷ xs) [] zs e f = grind (arith, e)
slice_trans R s t (x ∷ xs) (y ∷ ys) [] e f = grind (arith, f)
slice_trans R s t (x ∷ xs) (y ∷ ys) (z ∷ zs) e f =
    lex_trans (R x y) (R y z) (R x z) (slice_cmp R xs ys) (slice_cmp R ys zs) (slice_cmp R xs zs) (t x y z)
    (head_left R s x y z) (head_right R s x y z) (slice_trans R s t xs ys zs) e f

lt_cmp : (m n : ℕ) → m < n → nat_cmp m n ≡ Less
lt_cmp m n l = go (nat_cmp m n) refl
  where
    go : (o : Ordering) → nat_cmp m n ≡ o → nat_cmp m n ≡ Less
    go Less e = e
    go Equal e = let r : m ≡ n = ranked m n Equal (sym e) in absurd (omega arith)
    go Greater e = let r : n < m = ranked m n Greater (sym e) in absurd (omega arith)

cmp_le : (m n : ℕ) → nat_cmp m n ≡ Less → m ≤ n
cmp_le m n e = let r : m < n = ranked m n Less (sym e) in omega arith

abbrev alike : ℕ → ℕ → ℕ → Bool
alike a b c = nat_eq a b && nat_eq b c

alike_all : (a b c : ℕ) → a ≤ b → b ≤ c → c ≤ a → alike a b c ≡ true
alike_all a b c l m n =
    let e : a ≡ b = omega arith in
    let f : b ≡ c = omega arith in
    rw (eq-eqb a b e, eq-eqb b c f)

rank_lt : (a b : Value) → rank a < rank b → compare a b ≡ Less
unfolding compare
rank_lt Nil Nil l = absurd (omega arith)
rank_lt (Num a) (Num b) l = absurd (omega arith)
rank_lt (Bytes a) (Bytes b) l = absurd (omega arith)
rank_lt (Items a) (Items b) l = absurd (omega arith)
rank_lt (Pairs a) (Pairs b) l = absurd (omega arith)
rank_lt (Cell a) (Cell b) l = absurd (omega arith)
rank_lt a b l = lt_cmp (rank a) (rank b) l

rank_le : (a b : Value) → compare a b ≡ Less → rank a ≤ rank b
unfolding compare
rank_le Nil Nil e = omega arith
rank_le (Num a) (Num b) e = omega arith
rank_le (Bytes a) (Bytes b) e = omega arith
rank_le (Items a) (Items b) e = omega arith
rank_le (Pairs a) (Pairs b) e = omega arith
rank_le (Cell a) (Cell b) e = omega arith
rank_le a b e = cmp_le (rank a) (rank b) e

by_rank : (a b c : Value) → alike (rank a) (rank b) (rank c) ≡ false → compare a b ≡ Less → compare b c ≡ Less → compare a c ≡ Less
by_rank a b c h e f = go (cases_lt (rank a) (rank c))
  where
    go : (rank a < rank c) ⊎ (rank c ≤ rank a) → compare a c ≡ Less
    go (inl l) = rank_lt a c l
    go (inr l) = absurd (true≢false (sym (alike_all (rank a) (rank b) (rank c) (rank_le a b e) (rank_le b c f) l) ∙ h))

tree_lt : (a b : Tree) → tree_rank a < tree_rank b → compare_trees a b ≡ Less
unfolding compare
tree_lt Empty Empty l = absurd (omega arith)
tree_lt (Word a) (Word b) l = absurd (omega arith)
tree_lt (Tuple a) (Tuple b) l = absurd (omega arith)
tree_lt (Listed a) (Listed b) l = absurd (omega arith)
tree_lt (Rows a) (Rows b) l = absurd (omega arith)
tree_lt (Events a) (Events b) l = absurd (omega arith)
tree_lt (Slots a) (Slots b) l = absurd (omega arith)
tree_lt (Keyed a) (Keyed b) l = absurd (omega arith)
tree_lt a b l = lt_cmp (tree_rank a) (tree_rank b) l

tree_le : (a b : Tree) → compare_trees a b ≡ Less → tree_rank a ≤ tree_rank b
unfolding compare
tree_le Empty Empty e = omega arith
tree_le (Word a) (Word b) e = omega arith
tree_le (Tuple a) (Tuple b) e = omega arith
tree_le (Listed a) (Listed b) e = omega arith
tree_le (Rows a) (Rows b) e = omega arith
tree_le (Events a) (Events b) e = omega arith
tree_le (Slots a) (Slots b) e = omega arith
tree_le (Keyed a) (Keyed b) e = omega arith
tree_le a b e = cmp_le (tree_rank a) (tree_rank b) e

by_tree_rank : (a b c : Tree) → alike (tree_rank a) (tree_rank b) (tree_rank c) ≡ false → compare_trees a b ≡ Less → compare_trees b c ≡ Less → compare_trees a c ≡ Less
by_tree_rank a b c h e f = go (cases_lt (tree_rank a) (tree_rank c))
  where
    go : (tree_rank a < tree_rank c) ⊎ (tree_rank c ≤ tree_rank a) → compare_trees a c ≡ Less
    go (inl l) = tree_lt a c l
    go (inr l) = absurd (true≢false (sym (alike_all (tree_rank a) (tree_rank b) (tree_rank c) (tree_le a b e) (tree_le b c f) l) ∙ h))

less_equal : {A : Type 0} → Equal ≡ Less → A
less_equal e = absurd (true≢false (ap is_eq e))

greater_less : {A : Type 0} → Greater ≡ Less → A
greater_less e = absurd (true≢false (ap is_gt e))

mutual
  unfolding compare

  trans : (a b c : Value) → compare a b ≡ Less → compare b c ≡ Less → compare a c ≡ Less
  trans Nil Nil Nil e f = e
  trans (Num a) (Num b) (Num c) e f = int_cmp_total.trans a b c e f
  trans (Bytes a) (Bytes b) (Bytes c) e f = nat_list_cmp_total.trans a b c e f
  trans (Items a) (Items b) (Items c) e f = trans_values a b c e f
  trans (Pairs a) (Pairs b) (Pairs c) e f = trans_entries a b c e f
  trans (Cell a) (Cell b) (Cell c) e f = trans_tree a b c e f
  trans a b c e f = by_rank a b c refl e f

  trans_values : (a b c : Values) → compare_values a b ≡ Less → compare_values b c ≡ Less → compare_values a c ≡ Less
  trans_values no_values no_values c e f = less_equal e
  trans_values no_values (a_value v vs) no_values e f = greater_less f
  trans_values no_values (a_value v vs) (a_value w ws) e f = refl
  trans_values (a_value u us) no_values c e f = greater_less e
  trans_values (a_value u us) (a_value v vs) no_values e f = greater_less f
  trans_values (a_value u us) (a_value v vs) (a_value w ws) e f =
      lex_trans (compare u v) (compare v w) (compare u w) (compare_values us vs) (compare_values vs ws) (compare_values us ws) (trans u v w)
      (head_left compare same u v w) (head_right compare same u v w) (trans_values us vs ws) e f

  trans_entries : (a b c : Entries) → compare_entries a b ≡ Less → compare_entries b c ≡ Less → compare_entries a c ≡ Less
  trans_entries no_entries no_entries c e f = less_equal e
  trans_entries no_entries (an_entry k v vs) no_entries e f = greater_less f
  trans_entries no_entries (an_entry k v vs) (an_entry l w ws) e f = refl
  trans_entries (an_entry j u us) no_entries c e f = greater_less e
  trans_entries (an_entry j u us) (an_entry k v vs) no_entries e f = greater_less f
  trans_entries (an_entry j u us) (an_entry k v vs) (an_entry l w ws) e f =
      lex_trans (compare j k) (compare k l) (compare j l)
      (ordering_then (compare u v) (compare_entries us vs)) (ordering_then (compare v w) (compare_entries vs ws)) (ordering_then (compare u w) (compare_entries us ws))
      (trans j k l) (head_left compare same j k l) (head_right compare same j k l)
      (lex_trans (compare u v) (compare v w) (compare u w) (compare_entries us vs) (compare_entries vs ws) (compare_entries us ws) (trans u v w)
      (head_left compare same u v w) (head_right compare same u v w) (trans_entries us vs ws))
      e f

  trans_table : (a b c : Table) → compare_table a b ≡ Less → compare_table b c ≡ Less → compare_table a c ≡ Less
  trans_table no_rows no_rows c e f = less_equal e
  trans_table no_rows (a_row v vs) no_rows e f = greater_less f
  trans_table no_rows (a_row v vs) (a_row w ws) e f = refl
  trans_table (a_row u us) no_rows c e f = greater_less e
  trans_table (a_row u us) (a_row v vs) no_rows e f = greater_less f
  trans_table (a_row u us) (a_row v vs) (a_row w ws) e f =
      lex_trans (compare_values u v) (compare_values v w) (compare_values u w) (compare_table us vs) (compare_table vs ws) (compare_table us ws) (trans_values u v w)
      (head_left compare_values same_values u v w) (head_right compare_values same_values u v w) (trans_table us vs ws) e f

  trans_tree : (a b c : Tree) → compare_trees a b ≡ Less → compare_trees b c ≡ Less → compare_trees a c ≡ Less
  trans_tree Empty Empty Empty e f = e
  trans_tree (Word a) (Word b) (Word c) e f = int_cmp_total.trans a b c e f
  trans_tree (Tuple a) (Tuple b) (Tuple c) e f = trans_values a b c e f
  trans_tree (Listed a) (Listed b) (Listed c) e f = trans_values a b c e f
  trans_tree (Rows a) (Rows b) (Rows c) e f = trans_table a b c e f
  trans_tree (Events a) (Events b) (Events c) e f = slice_trans event_cmp event_same event_trans a b c e f
  trans_tree (Slots a) (Slots b) (Slots c) e f = trans_slots a b c e f
  trans_tree (Keyed a) (Keyed b) (Keyed c) e f = trans_keyed a b c e f
  trans_tree a b c e f = by_tree_rank a b c refl e f

  trans_slots : (a b c : Trees) → compare_slots a b ≡ Less → compare_slots b c ≡ Less → compare_slots a c ≡ Less
  trans_slots no_trees no_trees c e f = less_equal e
  trans_slots no_trees (a_tree v vs) no_trees e f = greater_less f
  trans_slots no_trees (a_tree v vs) (a_tree w ws) e f = refl
  trans_slots (a_tree u us) no_trees c e f = greater_less e
  trans_slots (a_tree u us) (a_tree v vs) no_trees e f = greater_less f
  trans_slots (a_tree u us) (a_tree v vs) (a_tree w ws) e f =
      lex_trans (compare_trees u v) (compare_trees v w) (compare_trees u w) (compare_slots us vs) (compare_slots vs ws) (compare_slots us ws) (trans_tree u v w)
      (head_left compare_trees same_tree u v w) (head_right compare_trees same_tree u v w) (trans_slots us vs ws) e f

  trans_keyed : (a b c : KeyedTrees) → compare_keyed a b ≡ Less → compare_keyed b c ≡ Less → compare_keyed a c ≡ Less
  trans_keyed no_keys no_keys c e f = less_equal e
  trans_keyed no_keys (a_key k v vs) no_keys e f = greater_less f
  trans_keyed no_keys (a_key k v vs) (a_key l w ws) e f = refl
  trans_keyed (a_key j u us) no_keys c e f = greater_less e
  trans_keyed (a_key j u us) (a_key k v vs) no_keys e f = greater_less f
  trans_keyed (a_key j u us) (a_key k v vs) (a_key l w ws) e f =
      lex_trans (compare j k) (compare k l) (compare j l)
      (ordering_then (compare_trees u v) (compare_keyed us vs)) (ordering_then (compare_trees v w) (compare_keyed vs ws)) (ordering_then (compare_trees u w) (compare_keyed us ws))
      (trans j k l) (head_left compare same j k l) (head_right compare same j k l)
      (lex_trans (compare_trees u v) (compare_trees v w) (compare_trees u w) (compare_keyed us vs) (compare_keyed vs ws) (compare_keyed us ws) (trans_tree u v w)
      (head_left compare_trees same_tree u v w) (head_right compare_trees same_tree u v w) (trans_keyed us vs ws))
      e f

pub compare_order : IsOrder compare
compare_order = record { flip = flip; trans = trans; same = same }

-- tuples
pub rows_order : IsOrder compare_rows
rows_order = record {
  flip = λ a b. flip_values (values a) (values b);
  trans = λ a b c e f. trans_values (values a) (values b) (values c) e f;
  same = λ a b e. sym (values_back a) ∙ ap values_list (same_values (values a) (values b) e) ∙ values_back b;
}

-- the order as its sentence has it
pub compare_total : IsTotalOrder compare
compare_total = record { antisymm = flip; trans = trans; congr = λ x y z e. ap (λ w. compare w z) (same x y e) }

pub compare_lists : (a b : List Value) → compare_values (values a) (values b) ≡ slice_cmp compare a b
unfolding compare
compare_lists [] [] = refl
compare_lists [] (w ∷ ws) = refl
compare_lists (v ∷ vs) [] = refl
compare_lists (v ∷ vs) (w ∷ ws) = ap (ordering_then (compare v w)) (compare_lists vs ws)

then_assoc : (o p q : Ordering) → ordering_then o (ordering_then p q) ≡ ordering_then (ordering_then o p) q
then_assoc Less p q = refl
then_assoc Equal p q = refl
then_assoc Greater p q = refl

pub compare_maps : (a b : List (Value × Value)) → compare_entries (entries a) (entries b) ≡ slice_cmp entry_cmp a b
unfolding compare
compare_maps [] [] = refl
compare_maps [] (w ∷ ws) = refl
compare_maps (v ∷ vs) [] = refl
compare_maps (v ∷ vs) (w ∷ ws) =
    then_assoc (compare v.0 w.0) (compare v.1 w.1) (compare_entries (entries vs) (entries ws))
    ∙ ap (ordering_then (entry_cmp v w)) (compare_maps vs ws)

pub null_before : (v : Value) → v ≢ Nil → compare Nil v ≡ Less
unfolding compare
null_before Nil n = absurd (n refl)
null_before (Num a) n = refl
null_before (Bytes a) n = refl
null_before (Items a) n = refl
null_before (Pairs a) n = refl
null_before (Cell a) n = refl
