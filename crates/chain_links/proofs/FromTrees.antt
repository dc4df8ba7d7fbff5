-- The loops that make states of stored trees: one tree more, and all of them.
use Rattle.std.proofs.Common.{◌≡◌, ◌≢◌, ℕ, zero, suc, ℤ, ◌+◌, ◌<◌, ◌≤◌, true, not, List, [], ◌∷◌, ◌++◌, map, take, length, get_or, refl, sym, ap, ◌∙◌, subst, arith, Result, Vec, Global}
use Rattle.std.specs.Ordering.{is_eq}
use Rattle.std.specs.Result.{IfOk}
use Rattle.std.specs.List.{insert}
use Rattle.std.proofs.lemmas.List.{length-map}
use Rattle.agg_terms.specs.Chains.{Chain, Distinct, ForEach, MapOf, Resample, Ty}
use Rattle.agg_terms.specs.Lists.{Apart}
use Rattle.agg_terms.specs.Order.{before_others, compare_rows, firsts}
use Rattle.agg_terms.specs.Types.{intervals}
use Rattle.agg_terms.specs.Values.{Tree, Value, keyed_of, rows_of, rows_tree, slots_of}
use Rattle.agg_terms.proofs.Comparing.{rows_order}
use Rattle.agg_terms.proofs.Lists.{table_back}
use Rattle.agg_meaning.proofs.LeafTrees.{each_weaker, filter_all}
use Rattle.agg_meaning.proofs.TreeLaws.{test_apart}
use Rattle.value_types.specs.declared.value.KeyedTree.{KeyedTree}
use Rattle.value_types.specs.declared.value.Tree.{Tree as Stored}
use Rattle.value_types.specs.declared.value.Value.{Value as Valued}
use Rattle.value_types.specs.declared.value.Tree.TheFolds.{fold-roll-KeyedTree}
use Rattle.value_types.specs.Folds.{entry_of, entry_step, tree_of, tree_step, value_of, value_step}
use Rattle.running_states.specs.declared.running.Running.{Running}
use Rattle.running_states.specs.declared.running.Running.TheVariants.{Keyed, Slots}
use Rattle.running_states.specs.Entries.{IsFoundAt, IsMissingAt, keys_in}
use Rattle.running_states.specs.Shapes.{AreEntries, IsState}
use Rattle.running_states.specs.Trees.{tree_in}
use Rattle.running_states.specs.Words.{HasTree}
use Rattle.running_states.proofs.Outcomes.{if_ok}
use Rattle.chain_links.specs.proving.Words.{HasTrees, StoresKeys}
use Rattle.chain_links.proofs.Stored.{keys_stored, parts_stored, slots_stored, trees_all, trees_more, trees_none}
use Rattle.chain_links.proofs.StoredKeys.{keys_all, keys_found, keys_missing, keys_none, put_shape}

-- an entry: its key and its tree
pub entry_parts : (x : KeyedTree) → entry_of x ≡ (value_of x.key, tree_of x.tree)
entry_parts x = fold-roll-KeyedTree Tree Value (Value × Tree) tree_step value_step entry_step (record { key = x.key; tree = x.tree })

pub entry_key : (x : KeyedTree) → (entry_of x).0 ≡ value_of x.key
entry_key x = ap (λ (z : Value × Tree). z.0) (entry_parts x)

pub entry_tree : (x : KeyedTree) → (entry_of x).1 ≡ tree_of x.tree
entry_tree x = ap (λ (z : Value × Tree). z.1) (entry_parts x)

-- what stands at a place, whatever stands in for none
pub same_there : {X : Type 0} (xs : List X) (i : ℕ) (x y : X) → i < length xs → x ≡ get_or xs i x → y ≡ get_or xs i y → x ≡ y
same_there [] i x y l e g = absurd (omega arith)
same_there (z ∷ xs) zero x y l e g = e ∙ sym g
same_there (z ∷ xs) (suc i) x y l e g = same_there xs i x y (omega arith) e g

-- -Distinct: rows that are apart are their own first ones
rows_apart : (xs : List (List Value)) → Apart xs → firsts compare_rows xs ≡ xs
rows_apart [] k = refl
rows_apart (x ∷ xs) k =
    ap (before_others compare_rows x) (rows_apart xs k.1)
    ∙ ap (◌∷◌ x) (filter_all (λ y. not (is_eq (compare_rows x y))) xs (each_weaker (λ y. x ≢ y) (λ y. not (is_eq (compare_rows x y)) ≡ true) (λ y h. ap not (test_apart compare_rows rows_order x y h)) xs k.0))

pub rows_stored : {E : Type 0} (r : Result Running E) (d c : Chain) (us : List Ty) (t : Tree) → d ≡ Distinct c → IfOk r (λ s. tree_in s ≡ rows_tree (firsts compare_rows (rows_of t))) → IfOk r (λ s. HasTree d us t s)
rows_stored r d c us t e h = if_ok r (λ s g. subst (λ x. HasTree x us t s) (sym e) (record {
  over = λ ts n k. g ∙ ap (λ z. rows_tree (firsts compare_rows z)) (ap rows_of k.1 ∙ table_back k.0) ∙ ap rows_tree (rows_apart k.0 k.3) ∙ sym k.1;
})) h

module _ (c : Chain) (us : List Ty) where
  -- -ForEach
  pub slots_done : (t : Tree) (xs : List Stored) (i : ℕ) (w : Vec Running Global) → map tree_of xs ≡ slots_of t → length xs ≤ i → HasTrees c us (map tree_of (take i xs)) w.items → HasTree (ForEach c) us t (Slots w)
  slots_done t xs i w e l h = slots_stored c us t (map tree_of xs) w e (trees_all c us xs i w.items l h)

  -- -Resample: where there are as many trees as intervals
  pub parts_more : (xs : List Stored) (i : ℕ) (x : Stored) (ss ws : List Running) (s : Running) → i < length xs → x ≡ get_or xs i x → ws ≡ ss ++ s ∷ [] →
      (i ≤ length xs → HasTrees c us (map tree_of (take i xs)) ss) → HasTree c us (tree_of x) s → (i + 1 ≤ length xs → HasTrees c us (map tree_of (take (i + 1) xs)) ws)
  parts_more xs i x ss ws s l e g h a m = trees_more c us xs i x ss ws s l e g (h (omega arith)) a

  pub parts_past : (xs : List Stored) (i : ℕ) (ws : List Running) → length xs ≤ i → (i + 1 ≤ length xs → HasTrees c us (map tree_of (take (i + 1) xs)) ws)
  parts_past xs i ws l m = absurd (omega arith)

  pub parts_done : (start end : ℤ) (step : ℕ) (t : Tree) (xs : List Stored) (i n : ℕ) (w : Vec Running Global) → map tree_of xs ≡ slots_of t → n ≡ intervals start end step → n ≤ i → i ≤ n →
      (i ≤ length xs → HasTrees c us (map tree_of (take i xs)) w.items) → HasTree (Resample start end step c) us t (Slots w)
  parts_done start end step t xs i n w e m l k h =
      parts_stored start end step c us t (map tree_of xs) w e
      (λ q. trees_all c us xs i w.items (omega (arith, q, m, l, length-map xs tree_of)) (h (omega (arith, q, m, k, length-map xs tree_of))))

  -- -Map
  pub keys_more : (xs : List KeyedTree) (i : ℕ) (x : KeyedTree) (es ws : List (Valued × Running)) (p : ℕ) (own : Valued) (s : Running) → i < length xs → x ≡ get_or xs i x → ws ≡ insert es p (own, s) → StoresKeys c us (map entry_of (take i xs)) es →
      value_of own ≡ (entry_of x).0 → IsMissingAt (entry_of x).0 (keys_in es) p → HasTree c us (entry_of x).1 s → StoresKeys c us (map entry_of (take (i + 1) xs)) ws
  keys_more xs i x es ws p own s l e g h v m t = subst (StoresKeys c us (map entry_of (take (i + 1) xs))) (sym g) (keys_missing c us xs i x es p l e h own s v m t)

  pub keys_put : (k : Value) (es ws : List (Valued × Running)) (p : ℕ) (own : Valued) (s : Running) → ws ≡ insert es p (own, s) → value_of own ≡ k → IsMissingAt k (keys_in es) p → AreEntries (IsState c us) es → IsState c us s → AreEntries (IsState c us) ws
  keys_put k es ws p own s g e m a h = subst (AreEntries (IsState c us)) (sym g) (put_shape (IsState c us) k es p own s e m a h)

  pub keys_done : (t : Tree) (xs : List KeyedTree) (i : ℕ) (w : Vec (Valued × Running) Global) → map entry_of xs ≡ keyed_of t → length xs ≤ i → StoresKeys c us (map entry_of (take i xs)) w.items → HasTree (MapOf c) us t (Keyed w)
  keys_done t xs i w e l h = keys_stored c us t (map entry_of xs) w e (keys_all c us xs i w.items l h)

pub ruleset slots_laws = (trees_none, trees_more, slots_done)

pub ruleset parts_laws = (trees_none, parts_more, parts_past, parts_done)

pub ruleset keys_laws = (keys_none, keys_found, keys_more, keys_done)
