-- What values feed to a hash function, kind by kind.
use Rattle.std.proofs.Common.{◌≡◌, ℕ, suc, ℤ, ◌+◌, ◌<◌, ◌≤◌, List, [], ◌∷◌, ◌++◌, length, map, drop, get_or, refl, sym, ap, ◌∙◌, add-one, drop-cons}
use Rattle.std.proofs.lemmas.List.{drop_all}
use Rattle.std.specs.Prelude.{fold}
use Rattle.std.specs.Hash as fed
use Rattle.agg_terms.specs.Values as family
use Rattle.value_types.specs.declared.value.Value.{Value}
use Rattle.value_types.specs.declared.value.Value.TheVariants as value
use Rattle.value_types.specs.declared.value.Tree.{Tree}
use Rattle.value_types.specs.Folds.{value_of}
use Rattle.value_types.proofs.FoldLaws as folds
use Rattle.set_leaves.specs.proving.Hashes.{all_writes, entry_writes, value_writes}
use Rattle.set_leaves.specs.Tuples.{pair_of}

pub writes_Num : (v : Value) (n : ℤ) → v ≡ value.Num n → value_writes (value_of v) ≡ fed.i128 n
unfolding value_writes
writes_Num v n e = ap (λ w. value_writes (value_of w)) e ∙ ap value_writes (folds.value_of-Num n)

pub writes_Bytes : (v : Value) (b : List ℕ) → v ≡ value.Bytes b → value_writes (value_of v) ≡ b ∷ []
unfolding value_writes
writes_Bytes v b e = ap (λ w. value_writes (value_of w)) e ∙ ap value_writes (folds.value_of-Bytes b)

pub writes_Nil : (v : Value) → v ≡ value.Nil → value_writes (value_of v) ≡ []
unfolding value_writes
writes_Nil v e = ap (λ w. value_writes (value_of w)) e ∙ ap value_writes folds.value_of-Nil

pub writes_Cell : (v : Value) (t : Tree) → v ≡ value.Cell t → value_writes (value_of v) ≡ []
unfolding value_writes
writes_Cell v t e = ap (λ w. value_writes (value_of w)) e ∙ ap value_writes (folds.value_of-Cell t)

pub writes_List : (v : Value) (vs : List Value) → v ≡ value.List vs → value_writes (value_of v) ≡ all_writes (family.values (map value_of vs))
unfolding value_writes
writes_List v vs e = ap (λ w. value_writes (value_of w)) e ∙ ap value_writes (folds.value_of-List vs)

pub writes_Pairs : (v : Value) (es : List (Value × Value)) → v ≡ value.Pairs es → value_writes (value_of v) ≡ entry_writes (family.entries (map pair_of es))
unfolding value_writes
writes_Pairs v es e = ap (λ w. value_writes (value_of w)) e ∙ ap value_writes (folds.value_of-Pairs es)

pub ruleset value_kinds = (writes_Num, writes_Bytes, writes_Nil, writes_Cell, writes_List, writes_Pairs)

-- what is left of a list, and its first element
split : {X : Type 0} (xs : List X) (i : ℕ) (x : X) → i < length xs → x ≡ get_or xs i x → drop i xs ≡ x ∷ drop (i + 1) xs
split xs i x l e = rw (add-one, drop-cons xs i x) (ap (λ y. y ∷ drop (suc i) xs) (sym e))

-- one more value, and one more entry
module _ {S : Type 0} (write : S → List ℕ → S) where
  pub values_step : (vs : List Value) (i : ℕ) (v : Value) (s t : S) → i < length vs → v ≡ get_or vs i v → t ≡ fold write s (value_writes (value_of v)) →
      fold write t (all_writes (family.values (map value_of (drop (i + 1) vs)))) ≡ fold write s (all_writes (family.values (map value_of (drop i vs))))
  unfolding all_writes
  values_step vs i v s t l e h =
      let rest = all_writes (family.values (map value_of (drop (i + 1) vs))) in
      fed.fed_then write s t (fold write t rest) (value_writes (value_of v)) rest h refl
      ∙ ap (λ l. fold write s (all_writes (family.values (map value_of l)))) (sym (split vs i v l e))

  pub pairs_step : (es : List (Value × Value)) (i : ℕ) (p : Value × Value) (s t u : S) → i < length es → p ≡ get_or es i p → t ≡ fold write s (value_writes (value_of p.0)) →
      u ≡ fold write t (value_writes (value_of p.1)) →
      fold write u (entry_writes (family.entries (map pair_of (drop (i + 1) es)))) ≡ fold write s (entry_writes (family.entries (map pair_of (drop i es))))
  unfolding entry_writes
  pairs_step es i p s t u l e h k =
      let rest = entry_writes (family.entries (map pair_of (drop (i + 1) es))) in
      fed.fed_then write s t (fold write u rest) (value_writes (value_of p.0)) (value_writes (value_of p.1) ++ rest) h
      (fed.fed_then write t u (fold write u rest) (value_writes (value_of p.1)) rest k refl)
      ∙ ap (λ l. fold write s (entry_writes (family.entries (map pair_of l)))) (sym (split es i p l e))

  -- where nothing is left
  pub values_end : (vs : List Value) (i : ℕ) (s r : S) → length vs ≤ i → fold write s (all_writes (family.values (map value_of (drop i vs)))) ≡ r → s ≡ r
  unfolding all_writes
  values_end vs i s r l h = sym (ap (λ l. fold write s (all_writes (family.values (map value_of l)))) (drop_all i vs l)) ∙ h

  pub pairs_end : (es : List (Value × Value)) (i : ℕ) (s r : S) → length es ≤ i → fold write s (entry_writes (family.entries (map pair_of (drop i es)))) ≡ r → s ≡ r
  unfolding entry_writes
  pairs_end es i s r l h = sym (ap (λ l. fold write s (entry_writes (family.entries (map pair_of l)))) (drop_all i es l)) ∙ h
