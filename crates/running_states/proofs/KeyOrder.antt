-- How keys stand to one another, and the place of a key among keys that rise.
use Rattle.std.proofs.Common.{◌≡◌, ◌≢◌, ℕ, zero, suc, ◌+◌, ◌<◌, ◌≤◌, List, [], ◌∷◌, length, get_or, ◌⊎◌, inl, inr, refl, sym, ap, ◌∙◌, subst, arith, Ordering, Less, Equal, Greater}
use Rattle.std.specs.Cmp.Lexicographic.{slice_cmp}
use Rattle.std.specs.List.{insert}
use Rattle.std.proofs.lemmas.Bool.{cases_eq}
use Rattle.std.specs.Ordering.{nat_cmp}
use Rattle.agg_terms.specs.Lists.{Among, Each, Rising}
use Rattle.agg_terms.specs.Order.{compare, into_set}
use Rattle.agg_terms.specs.Values.{Bytes, Cell, Items, Nil, Num, Pairs, Value}
use Rattle.agg_terms.proofs.Comparing.{compare_order}
use Rattle.agg_terms.proofs.Sorting.{down, ranking, up}
use Rattle.agg_terms.specs.Laws.{IsFullOrder}
use Rattle.agg_meaning.proofs.Kept.{different_order}
use Rattle.agg_meaning.proofs.LeafTrees.{different_rising, rising_rest}
use Rattle.set_leaves.proofs.SetLaws.{set_there}
use Rattle.agg_meaning.proofs.TreeLaws.{rising_below}
use Rattle.std.proofs.lemmas.List.{length-map}
use Rattle.value_types.specs.Folds.{value_of}
use Rattle.value_types.specs.declared.value.Value.{Value as Valued}
use Rattle.running_states.specs.declared.running.Running.{Running}
use Rattle.running_states.specs.Entries.{IsFoundAt, IsMissingAt, keys_in}
use Rattle.running_states.specs.Shapes.{key_in}

-- a text beside a value of another kind
pub text_nil : (b : List ℕ) → compare (Bytes b) Nil ≡ Greater
unfolding compare
text_nil b = refl

pub text_number : (b : List ℕ) (n : _) → compare (Bytes b) (Num n) ≡ Greater
unfolding compare
text_number b n = refl

pub text_text : (b d : List ℕ) → compare (Bytes b) (Bytes d) ≡ slice_cmp nat_cmp b d
unfolding compare
text_text b d = refl

pub text_items : (b : List ℕ) (v : _) → compare (Bytes b) (Items v) ≡ Less
unfolding compare
text_items b v = refl

pub text_pairs : (b : List ℕ) (v : _) → compare (Bytes b) (Pairs v) ≡ Less
unfolding compare
text_pairs b v = refl

pub text_cell : (b : List ℕ) (t : _) → compare (Bytes b) (Cell t) ≡ Less
unfolding compare
text_cell b t = refl

pub ruleset text_laws = (text_nil, text_number, text_text, text_items, text_pairs, text_cell)

-- keys that rise, by their places
rising_get : (ks : List Value) (i j : ℕ) → Rising compare ks → i < j → j < length ks → compare (get_or ks i Nil) (get_or ks j Nil) ≡ Less
rising_get [] i j h l m = absurd (omega arith)
rising_get (k ∷ ks) zero zero h l m = absurd (omega arith)
rising_get (k ∷ []) zero (suc j) h l m = absurd (omega arith)
rising_get (k ∷ x ∷ ks) zero (suc j) h l m = each_get (x ∷ ks) j (rising_below compare compare_order k x ks h.0 h.1) (omega arith)
  where
    each_get : (qs : List Value) (j : ℕ) → Each (λ q. compare k q ≡ Less) qs → j < length qs → compare k (get_or qs j Nil) ≡ Less
    each_get [] j a l = absurd (omega arith)
    each_get (q ∷ qs) zero a l = a.0
    each_get (q ∷ qs) (suc j) a l = each_get qs j a.1 (omega arith)
rising_get (k ∷ ks) (suc i) zero h l m = absurd (omega arith)
rising_get (k ∷ ks) (suc i) (suc j) h l m = rising_get ks i j (rising_rest compare k ks h) (omega arith) (omega arith)

pub compare_full : IsFullOrder compare
compare_full = (record { antisymm = compare_order.flip; trans = compare_order.trans; congr = (ranking compare compare_order).level }, compare_order.same)

-- a key above the one at a place is above all before it, and one below it is below all behind it
under_all : (ks : List Value) (k : Value) (p : ℕ) → Rising compare ks → p < length ks → compare k (get_or ks p Nil) ≡ Greater → (j : ℕ) → j ≤ p → compare k (get_or ks j Nil) ≡ Greater
under_all ks k p h l g j m = go (cases_eq j p)
  where
    go : (j ≡ p) ⊎ (j ≡ p → ⊥) → compare k (get_or ks j Nil) ≡ Greater
    go (inl e) = subst (λ n. compare k (get_or ks n Nil) ≡ Greater) (sym e) g
    go (inr n) =
        let q : j ≢ p = n in
        up compare compare_order (get_or ks j Nil) k
        (compare_order.trans (get_or ks j Nil) (get_or ks p Nil) k (rising_get ks j p h (omega (arith, m, q)) l) (down compare compare_order k (get_or ks p Nil) g))

over_all : (ks : List Value) (k : Value) (p : ℕ) → Rising compare ks → p < length ks → compare k (get_or ks p Nil) ≡ Less → (j : ℕ) → p ≤ j → j < length ks → compare k (get_or ks j Nil) ≡ Less
over_all ks k p h l g j m i = go (cases_eq p j)
  where
    go : (p ≡ j) ⊎ (p ≡ j → ⊥) → compare k (get_or ks j Nil) ≡ Less
    go (inl e) = subst (λ n. compare k (get_or ks n Nil) ≡ Less) e g
    go (inr n) =
        let q : p ≢ j = n in
        compare_order.trans k (get_or ks p Nil) (get_or ks j Nil) g (rising_get ks p j h (omega (arith, m, q)) i)

-- where a key is looked for: not below the one place, nor from the other on
pub record IsNarrowed (k : Value) (ks : List Value) (low high : ℕ) : Type 0 where
  pub order : low ≤ high
  pub within : high ≤ length ks
  pub above : (j : ℕ) → j < low → compare k (get_or ks j Nil) ≡ Greater
  pub below : (j : ℕ) → high ≤ j → j < length ks → compare k (get_or ks j Nil) ≡ Less

pub anywhere : (k : Value) (ks : List Value) → IsNarrowed k ks 0 (length ks)
anywhere k ks = record { order = omega arith; within = omega arith; above = λ j l. absurd (omega arith); below = λ j l m. absurd (omega arith) }

module _ (k : Value) (ks : List Value) (low high p : ℕ) (rises : Rising compare ks) (n : IsNarrowed k ks low high) (l : low ≤ p) (h : p < high) where
  inside : p < length ks
  inside = omega (arith, h, n.within)

  pub narrowed_down : compare k (get_or ks p Nil) ≡ Less → IsNarrowed k ks low p
  narrowed_down e = record { order = l; within = omega (arith, inside); above = n.above; below = over_all ks k p rises inside e }

  pub narrowed_up : compare k (get_or ks p Nil) ≡ Greater → IsNarrowed k ks (p + 1) high
  narrowed_up e = record { order = omega (arith, h); within = n.within; above = λ j m. under_all ks k p rises inside e j (omega (arith, m)); below = n.below }

  pub narrowed_found : compare k (get_or ks p Nil) ≡ Equal → IsFoundAt k ks p
  narrowed_found e = record { within = inside; here = sym (compare_order.same k (get_or ks p Nil) e) }

pub narrowed_missing : (k : Value) (ks : List Value) (low high : ℕ) → high ≤ low → IsNarrowed k ks low high → IsMissingAt k ks low
narrowed_missing k ks low high l n = record {
  within = omega (arith, n.order, n.within);
  above = n.above;
  below = λ j m i. n.below j (omega (arith, l, m)) i;
}

-- the keys with one more
found_among : (k : Value) (ks : List Value) (p : ℕ) → p < length ks → get_or ks p Nil ≡ k → Among k ks
found_among k [] p l e = absurd (omega arith)
found_among k (x ∷ ks) zero l e = inl (sym e)
found_among k (x ∷ ks) (suc p) l e = inr (found_among k ks p (omega arith) e)

pub set_found : (k : Value) (ks : List Value) (p : ℕ) → Rising compare ks → IsFoundAt k ks p → into_set compare k ks ≡ ks
set_found k ks p h f =
    ap (into_set compare k) (sym (different_rising compare ks h)) ∙ set_there compare compare_full k ks (found_among k ks p f.within f.here) ∙ different_rising compare ks h

pub set_missing : (k : Value) (ks : List Value) (p : ℕ) → IsMissingAt k ks p → into_set compare k ks ≡ insert ks p k
set_missing k [] zero m = refl
set_missing k (x ∷ ks) zero m = rw (m.below 0 (omega arith) (omega arith)) refl
set_missing k [] (suc p) m = absurd (let l = m.within in omega (arith, l))
set_missing k (x ∷ ks) (suc p) m = rw (m.above 0 (omega arith)) (ap (◌∷◌ x) (set_missing k ks p (record {
  within = (let l = m.within in omega (arith, l));
  above = λ j l. m.above (suc j) (omega (arith, l));
  below = λ j l i. m.below (suc j) (omega (arith, l)) (omega (arith, i));
})))

pub set_rises : (k : Value) (ks : List Value) → Rising compare ks → Rising compare (into_set compare k ks)
set_rises k ks h = subst (λ z. Rising compare (into_set compare k z)) (different_rising compare ks h) (different_order compare compare_order (k ∷ ks))

-- the key of an entry by its place, and where the search goes on from it
key_at : (es : List (Valued × Running)) (p : ℕ) (x : Valued × Running) → p < length es → x ≡ get_or es p x → get_or (keys_in es) p Nil ≡ value_of x.0
key_at [] p x l e = absurd (omega arith)
key_at (y ∷ es) zero x l e = ap key_in (sym e)
key_at (y ∷ es) (suc p) x l e = key_at es p x (omega arith) e

module _ (k : Value) (es : List (Valued × Running)) where
  pub at_first : IsNarrowed k (keys_in es) 0 (length es)
  at_first = subst (IsNarrowed k (keys_in es) 0) (length-map es key_in) (anywhere k (keys_in es))

  module _ (low high p : ℕ) (x : Valued × Running) (o : Ordering) (rises : Rising compare (keys_in es)) (n : IsNarrowed k (keys_in es) low high) (l : low ≤ p) (h : p < high) (there : x ≡ get_or es p x) (stands : o ≡ compare k (value_of (get_or es p x).0)) where
    within : p < length es
    within = let w = n.within in omega (arith, h, w, length-map es key_in)

    here : compare k (get_or (keys_in es) p Nil) ≡ o
    here = ap (compare k) (key_at es p x within there ∙ ap key_in there) ∙ sym stands

    pub goes_down : o ≡ Less → IsNarrowed k (keys_in es) low p
    goes_down e = narrowed_down k (keys_in es) low high p rises n l h (here ∙ e)

    pub goes_up : o ≡ Greater → IsNarrowed k (keys_in es) (p + 1) high
    goes_up e = narrowed_up k (keys_in es) low high p rises n l h (here ∙ e)

    pub is_found : o ≡ Equal → IsFoundAt k (keys_in es) p
    is_found e = narrowed_found k (keys_in es) low high p rises n l h (here ∙ e)
