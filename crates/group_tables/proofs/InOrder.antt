-- The keys of a table, read at their places in order, are the groups of the answer.
use Rattle.std.proofs.Common.{◌≡◌, ◌⊎◌, ℕ, suc, Bool, true, false, ◌||◌, List, [], ◌∷◌, ◌++◌, map, refl, ap, sym, ◌∙◌, subst, arith, inl, inr, true≢false, append_assoc}
use Rattle.std.specs.List.{All, IsDistinct, list_any}
use Rattle.std.proofs.lemmas.Bool.{cond_both}
use Rattle.std.proofs.lemmas.List.{append-nil}
use Rattle.indexmap.specs.IndexSet.{insert_key}
use Rattle.agg_terms.specs.Lists.{Among, Each}
use Rattle.agg_terms.specs.Order.{compare_rows, different}
use Rattle.agg_terms.specs.Values.{Value}
use Rattle.agg_meaning.specs.Views.{Contribution, View, first_groups, groups}
use Rattle.set_leaves.specs.proving.Orders.{rows_full}
use Rattle.set_leaves.proofs.SetLaws.{set_same}
use Rattle.table_words.specs.KeyLists.{keys_with}
use Rattle.table_words.specs.Tables.{keys_in, same_tuple}
use Rattle.table_words.proofs.Fed.{distinct-keys}
use Rattle.group_keys.specs.Orders as keys
use Rattle.group_keys.proofs.Codes.{same-is}
use Rattle.group_tables.specs.Groupings.{view_of}
use Rattle.group_tables.specs.Reading.{AreInOrder, IsPlaced, key_at}
use Rattle.group_tables.specs.Tables.{AreTables}
use Rattle.group_tables.specs.declared.grouping.Grouping.{Grouping}
use Rattle.group_tables.specs.declared.table.GroupTable.{GroupTable}

-- ---- elements of lists joined
module _ {X : Type 0} where
  among-left : (x : X) (xs ys : List X) → Among x xs → Among x (xs ++ ys)
  among-left x [] ys h = absurd h
  among-left x (y ∷ xs) ys (inl e) = inl e
  among-left x (y ∷ xs) ys (inr h) = inr (among-left x xs ys h)

  among-right : (x : X) (xs ys : List X) → Among x ys → Among x (xs ++ ys)
  among-right x [] ys h = h
  among-right x (y ∷ xs) ys h = inr (among-right x xs ys h)

  among-parts : (x : X) (xs ys : List X) → Among x (xs ++ ys) → Among x xs ⊎ Among x ys
  among-parts x [] ys h = inr h
  among-parts x (y ∷ xs) ys (inl e) = inl (inl e)
  among-parts x (y ∷ xs) ys (inr h) = by (among-parts x xs ys h)
    where
      by : Among x xs ⊎ Among x ys → Among x (y ∷ xs) ⊎ Among x ys
      by (inl k) = inl (inr k)
      by (inr k) = inr k

-- ---- the keys of contributions
-- a tuple that some key is equal to is among the keys
found : (k : List Value) (ks : List (List Value)) → list_any (same_tuple k) ks ≡ true → Among k ks
found k [] h = absurd (true≢false (sym h))
found k (x ∷ xs) h = by (same_tuple k x) refl (found k xs)
  where
    by : (b : Bool) → same_tuple k x ≡ b → (list_any (same_tuple k) xs ≡ true → Among k xs) → Among k (x ∷ xs)
    by true e rest = inl (same-is k x e)
    by false e rest = inr (rest (sym (ap (λ b. b || list_any (same_tuple k) xs) e) ∙ h))

into : (x k : List Value) (ks : List (List Value)) → Among x (ks ++ k ∷ []) → Among x (insert_key same_tuple ks k)
into x k ks h = cond_both (list_any (same_tuple k) ks) ks (ks ++ k ∷ []) (Among x) (λ there. by there (among-parts x ks (k ∷ []) h)) (λ _. h)
  where
    by : list_any (same_tuple k) ks ≡ true → Among x ks ⊎ Among x (k ∷ []) → Among x ks
    by there (inl l) = l
    by there (inr (inl e)) = subst (λ z. Among z ks) (sym e) (found k ks there)
    by there (inr (inr n)) = absurd n

out : (x k : List Value) (ks : List (List Value)) → Among x (insert_key same_tuple ks k) → Among x (ks ++ k ∷ [])
out x k ks h = cond_both (list_any (same_tuple k) ks) ks (ks ++ k ∷ []) (λ l. Among x l → Among x (ks ++ k ∷ [])) (λ _ l. among-left x ks (k ∷ []) l) (λ _ l. l) h

-- the keys have the tuples of the list, and no others
keys-have : (x : List Value) (ks more : List (List Value)) → Among x (ks ++ more) → Among x (keys_with same_tuple ks more)
keys-have x ks [] h = subst (Among x) (append-nil ks) h
keys-have x ks (k ∷ more) h = keys-have x (insert_key same_tuple ks k) more (by (among-parts x (ks ++ k ∷ []) more (subst (Among x) (sym (append_assoc ks (k ∷ []) more)) h)))
  where
    by : Among x (ks ++ k ∷ []) ⊎ Among x more → Among x (insert_key same_tuple ks k ++ more)
    by (inl l) = among-left x (insert_key same_tuple ks k) more (into x k ks l)
    by (inr l) = among-right x (insert_key same_tuple ks k) more l

keys-only : (x : List Value) (ks more : List (List Value)) → Among x (keys_with same_tuple ks more) → Among x (ks ++ more)
keys-only x ks [] h = subst (Among x) (sym (append-nil ks)) h
keys-only x ks (k ∷ more) h = subst (Among x) (append_assoc ks (k ∷ []) more) (by (among-parts x (insert_key same_tuple ks k) more (keys-only x (insert_key same_tuple ks k) more h)))
  where
    by : Among x (insert_key same_tuple ks k) ⊎ Among x more → Among x ((ks ++ k ∷ []) ++ more)
    by (inl l) = among-left x (ks ++ k ∷ []) more (out x k ks l)
    by (inr l) = among-right x (ks ++ k ∷ []) more l

pub groups-are : (v : View) (C : List (Contribution v)) → different compare_rows (keys_in v C) ≡ groups v C
groups-are v C =
    set_same compare_rows rows_full (keys_in v C) (first_groups v ++ map (λ c. c.0) C)
    (λ x h. keys-only x (first_groups v) (map (λ c. c.0) C) h)
    (λ x h. keys-have x (first_groups v) (map (λ c. c.0) C) h)

-- ---- the places of a table's keys in their order
all-each : {X : Type 0} (P : X → Type 0) (xs : List X) → All P xs → Each P xs
all-each P [] h = tt
all-each P (x ∷ xs) h = (h 0 x (omega arith), all-each P xs (λ j d k. h (suc j) d (omega (arith, k))))

module _ (g : Grouping) (t : GroupTable) (order : List ℕ) (put : keys.AreInOrder g.key_types t.keys order) where
  ordered-groups : (C : List (Contribution (view_of g))) (a : AreTables g t C) → map (key_at a.keys) order ≡ groups (view_of g) C
  ordered-groups C a =
      put.ascend a.keys a.held (subst (IsDistinct same_tuple) (sym a.table.keys) (distinct-keys (view_of g) C))
      ∙ ap (different compare_rows) a.table.keys
      ∙ groups-are (view_of g) C

  all-placed : All (IsPlaced g t) order
  all-placed i d h = record { within = λ C a. put.within a.keys a.held i d h }

  pub groups-in-order : AreInOrder g t order
  groups-in-order = record { groups_are = ordered-groups; placed = all-each (IsPlaced g t) order all-placed }
