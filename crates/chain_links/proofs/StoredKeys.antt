-- Entries with stored trees, one after another: where the stored keys rise, each is behind those before it.
use Rattle.std.proofs.Common.{◌≡◌, ℕ, zero, suc, ◌+◌, ◌<◌, ◌≤◌, List, [], ◌∷◌, ◌++◌, map, take, length, get_or, ◌⊎◌, inl, inr, refl, sym, ap, ap₂, ◌∙◌, subst, arith, Less, Greater}
use Rattle.std.specs.List.{insert}
use Rattle.std.proofs.lemmas.Bool.{cases_lt}
use Rattle.std.proofs.lemmas.List.{length-map, map-append, take_all}
use Rattle.agg_terms.specs.Chains.{Chain, Ty}
use Rattle.agg_terms.specs.Lists.{Each, Rising}
use Rattle.agg_terms.specs.Order.{compare, into_set}
use Rattle.agg_terms.specs.Trees.{IsTree}
use Rattle.agg_terms.specs.Values.{Nil, Tree, Value}
use Rattle.agg_terms.proofs.Comparing.{compare_order}
use Rattle.agg_terms.proofs.Sorting.{up}
use Rattle.agg_meaning.proofs.TreeLaws.{less_apart}
use Rattle.link_types.specs.Links.{inner_types}
use Rattle.value_types.specs.declared.value.KeyedTree.{KeyedTree}
use Rattle.value_types.specs.declared.value.Value.{Value as Valued}
use Rattle.value_types.specs.Folds.{entry_of, value_of}
use Rattle.running_states.specs.declared.running.Running.{Running}
use Rattle.running_states.specs.Entries.{IsFoundAt, IsMissingAt, entries_in, keys_in}
use Rattle.running_states.specs.Shapes.{AreEntries, key_in}
use Rattle.running_states.specs.Trees.{tree_in}
use Rattle.running_states.specs.Words.{HasTree}
use Rattle.running_states.proofs.KeyOrder.{set_missing, set_rises}
use Rattle.chain_links.specs.proving.Words.{StoresKeys}
use Rattle.chain_links.proofs.Entries.{each_insert, map_insert}
use Rattle.chain_links.proofs.Shaped.{keys_listed}
use Rattle.chain_links.proofs.Stored.{each_back, each_front, map_next}

-- keys that rise: those in front rise too, and the last is above them all
front_rises : (ks qs : List Value) → Rising compare (ks ++ qs) → Rising compare ks
front_rises [] qs k = tt
front_rises (x ∷ []) qs k = tt
front_rises (x ∷ y ∷ ks) qs k = (k.0, front_rises (y ∷ ks) qs k.1)

last_above : (ks : List Value) (k : Value) → Rising compare (ks ++ k ∷ []) → (j : ℕ) → j < length ks → compare (get_or ks j Nil) k ≡ Less
last_above [] k r j l = absurd (omega arith)
last_above (x ∷ []) k r zero l = r.0
last_above (x ∷ []) k r (suc j) l = absurd (omega arith)
last_above (x ∷ y ∷ ks) k r zero l = compare_order.trans x y k r.0 (last_above (y ∷ ks) k r.1 0 (omega arith))
last_above (x ∷ y ∷ ks) k r (suc j) l = last_above (y ∷ ks) k r.1 j (omega arith)

insert_end : {X : Type 0} (xs : List X) (x : X) → insert xs (length xs) x ≡ xs ++ x ∷ []
insert_end [] x = refl
insert_end (y ∷ xs) x = ap (◌∷◌ y) (insert_end xs x)

abbrev entry : Value → Tree → Value × Tree
entry v t = (v, t)

-- a key put in where it is missing
pub put_shape : (P : Running → Type 0) (k : Value) (es : List (Valued × Running)) (p : ℕ) (key : Valued) (s : Running) → value_of key ≡ k → IsMissingAt k (keys_in es) p → AreEntries P es → P s → AreEntries P (insert es p (key, s))
put_shape P k es p key s e m a h = (each_insert (λ z. P z.1) es p (key, s) a.0 h, subst (Rising compare) names (set_rises k (keys_in es) a.1))
  where
    names : into_set compare k (keys_in es) ≡ keys_in (insert es p (key, s))
    names = set_missing k (keys_in es) p m ∙ sym (map_insert key_in es p (key, s) ∙ ap (insert (keys_in es) p) e)

module _ (c : Chain) (us : List Ty) where
  pub keys_none : StoresKeys c us [] []
  keys_none = record { over = λ ts n k r. refl }

  pub keys_all : (xs : List KeyedTree) (i : ℕ) (es : List (Valued × Running)) → length xs ≤ i → StoresKeys c us (map entry_of (take i xs)) es → StoresKeys c us (map entry_of xs) es
  keys_all xs i es l h = subst (λ z. StoresKeys c us (map entry_of z) es) (take_all i xs l) h

  module _ (xs : List KeyedTree) (i : ℕ) (x : KeyedTree) (es : List (Valued × Running)) (p : ℕ) (l : i < length xs) (e : x ≡ get_or xs i x) (h : StoresKeys c us (map entry_of (take i xs)) es) where
    abbrev earlier : List (Value × Tree)
    earlier = map entry_of (take i xs)

    abbrev key : Value
    key = (entry_of x).0

    next : map entry_of (take (i + 1) xs) ≡ earlier ++ entry_of x ∷ []
    next = map_next entry_of xs i x l e

    names : map (λ (z : Value × Tree). z.0) (map entry_of (take (i + 1) xs)) ≡ map (λ z. z.0) earlier ++ key ∷ []
    names = ap (map (λ (z : Value × Tree). z.0)) next ∙ map-append (λ (z : Value × Tree). z.0) earlier (entry_of x ∷ [])

    module _ (ts : List Ty) (n : inner_types c ts ≡ us) (k : Each (λ z. IsTree c ts z.1) (map entry_of (take (i + 1) xs))) (r : Rising compare (map (λ z. z.0) (map entry_of (take (i + 1) xs)))) where
      trees : Each (λ z. IsTree c ts z.1) (earlier ++ entry_of x ∷ [])
      trees = subst (Each (λ z. IsTree c ts z.1)) next k

      rises : Rising compare (map (λ z. z.0) earlier ++ key ∷ [])
      rises = subst (Rising compare) names r

      before : entries_in es ≡ earlier
      before = h.over ts n (each_front (λ z. IsTree c ts z.1) earlier (entry_of x ∷ []) trees) (front_rises (map (λ z. z.0) earlier) (key ∷ []) rises)

      same_keys : keys_in es ≡ map (λ z. z.0) earlier
      same_keys = sym (keys_listed es) ∙ ap (map (λ (z : Value × Tree). z.0)) before

      above : (j : ℕ) → j < length (keys_in es) → compare (get_or (keys_in es) j Nil) key ≡ Less
      above j m = subst (λ ks. j < length ks → compare (get_or ks j Nil) key ≡ Less) (sym same_keys) (last_above (map (λ z. z.0) earlier) key rises j) m

      own_tree : IsTree c ts (entry_of x).1
      own_tree = (each_back (λ z. IsTree c ts z.1) earlier (entry_of x ∷ []) trees).0

      last_place : IsMissingAt key (keys_in es) p → p ≡ length es
      last_place m = go (cases_lt p (length (keys_in es)))
        where
          go : (p < length (keys_in es)) ⊎ (length (keys_in es) ≤ p) → p ≡ length es
          go (inl q) = absurd (both (sym (m.below p (omega arith) q) ∙ up compare compare_order (get_or (keys_in es) p Nil) key (above p q)))
            where
              both : Less ≡ Greater → ⊥
              both z = cc
          go (inr q) = let w = m.within in omega (arith, q, w, length-map es key_in)

    -- a key that is there: such keys don't rise
    pub keys_found : IsFoundAt key (keys_in es) p → StoresKeys c us (map entry_of (take (i + 1) xs)) es
    keys_found f = record { over = λ ts n k r. absurd (less_apart compare compare_order (get_or (keys_in es) p Nil) key (above ts n k r p f.within) f.here) }

    pub keys_missing : (own : Valued) (s : Running) → value_of own ≡ key → IsMissingAt key (keys_in es) p → HasTree c us (entry_of x).1 s → StoresKeys c us (map entry_of (take (i + 1) xs)) (insert es p (own, s))
    keys_missing own s v m t = record {
      over = λ ts n k r.
          map_insert (λ z. (value_of z.0, tree_in z.1)) es p (own, s)
          ∙ ap (λ q. insert (entries_in es) q (value_of own, tree_in s)) (last_place ts n k r m ∙ sym (length-map {B = Value × Tree} es (λ z. (value_of z.0, tree_in z.1))))
          ∙ insert_end (entries_in es) (value_of own, tree_in s)
          ∙ ap₂ (λ zs z. zs ++ z ∷ []) (before ts n k r) (ap₂ entry v (t.over ts n (own_tree ts n k r)))
          ∙ sym next;
    }
