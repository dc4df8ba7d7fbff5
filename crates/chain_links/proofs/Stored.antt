-- States with stored trees, one after another.
use Rattle.std.proofs.Common.{◌≡◌, ℕ, ℤ, zero, suc, ◌+◌, ◌<◌, ◌≤◌, List, [], ◌∷◌, ◌++◌, map, take, length, get_or, refl, sym, ap, ap₂, ◌∙◌, subst, arith, Vec, Global}
use Rattle.std.specs.List.{insert}
use Rattle.std.proofs.lemmas.List.{map-append, take_all}
use Rattle.agg_terms.specs.Chains.{Chain, ForEach, MapOf, Resample, Ty}
use Rattle.agg_terms.specs.Lists.{Each, Rising}
use Rattle.agg_terms.specs.Order.{compare}
use Rattle.agg_terms.specs.Trees.{IsPlain, IsTree}
use Rattle.agg_terms.specs.Types.{first_type, intervals, inward, key_type}
use Rattle.agg_terms.specs.Values.{Tree, Value, keyed_of, keyed_tree, slots_of, slots_tree}
use Rattle.agg_terms.proofs.Lists.{keyed_back, trees_back}
use Rattle.value_types.specs.declared.value.Tree.{Tree as Stored}
use Rattle.value_types.specs.declared.value.Value.{Value as Valued}
use Rattle.value_types.specs.Folds.{tree_of, value_of}
use Rattle.running_states.specs.declared.running.Running.{Running}
use Rattle.running_states.specs.declared.running.Running.TheVariants.{Keyed, Slots}
use Rattle.running_states.specs.Shapes.{IsState}
use Rattle.running_states.specs.Trees.{tree_in}
use Rattle.running_states.specs.Words.{HasTree}
use Rattle.running_states.specs.Entries.{entries_in}
use Rattle.chain_links.specs.proving.Words.{HasTrees, StoresKeys}
use Rattle.running_states.proofs.Layers.{tree_Keyed, tree_Slots}

-- one element more
next_map : {X Y : Type 0} (f : X → Y) (xs : List X) (i : ℕ) (x : X) → i < length xs → x ≡ get_or xs i x → map f (take (suc i) xs) ≡ map f (take i xs) ++ f x ∷ []
next_map f [] i x l e = absurd (omega arith)
next_map f (y ∷ xs) zero x l e = ap (λ z. f z ∷ []) (sym e)
next_map f (y ∷ xs) (suc i) x l e = ap (◌∷◌ (f y)) (next_map f xs i x (omega arith) e)

pub map_next : {X Y : Type 0} (f : X → Y) (xs : List X) (i : ℕ) (x : X) → i < length xs → x ≡ get_or xs i x → map f (take (i + 1) xs) ≡ map f (take i xs) ++ f x ∷ []
map_next f xs i x l e = let n : i + 1 ≡ suc i = omega arith in ap (λ k. map f (take k xs)) n ∙ next_map f xs i x l e

pub each_front : {X : Type 0} (P : X → Type 0) (xs ys : List X) → Each P (xs ++ ys) → Each P xs
each_front P [] ys k = tt
each_front P (x ∷ xs) ys k = (k.0, each_front P xs ys k.1)

pub each_back : {X : Type 0} (P : X → Type 0) (xs ys : List X) → Each P (xs ++ ys) → Each P ys
each_back P [] ys k = k
each_back P (x ∷ xs) ys k = each_back P xs ys k.1

pub trees_none : (c : Chain) (us : List Ty) → HasTrees c us [] []
trees_none c us = record { over = λ ts n k. refl }

pub trees_more : (c : Chain) (us : List Ty) (xs : List Stored) (i : ℕ) (x : Stored) (ss ws : List Running) (s : Running) → i < length xs → x ≡ get_or xs i x → ws ≡ ss ++ s ∷ [] →
    HasTrees c us (map tree_of (take i xs)) ss → HasTree c us (tree_of x) s → HasTrees c us (map tree_of (take (i + 1) xs)) ws
trees_more c us xs i x ss ws s l e g h a = record {
  over = λ ts n k.
      let m : Each (IsTree c ts) (map tree_of (take i xs) ++ tree_of x ∷ []) = subst (Each (IsTree c ts)) (map_next tree_of xs i x l e) k in
      ap (map tree_in) g ∙ map-append tree_in ss (s ∷ [])
      ∙ ap₂ (λ u t. u ++ t ∷ []) (h.over ts n (each_front (IsTree c ts) _ _ m)) (a.over ts n (each_back (IsTree c ts) (map tree_of (take i xs)) _ m).0)
      ∙ sym (map_next tree_of xs i x l e);
}

pub trees_all : (c : Chain) (us : List Ty) (xs : List Stored) (i : ℕ) (ss : List Running) → length xs ≤ i → HasTrees c us (map tree_of (take i xs)) ss → HasTrees c us (map tree_of xs) ss
trees_all c us xs i ss l h = subst (λ z. HasTrees c us (map tree_of z) ss) (take_all i xs l) h

-- -ForEach and -Resample
module _ (c : Chain) (us : List Ty) (t : Tree) (all : List Tree) (w : Vec Running Global) (same : all ≡ slots_of t) (h : HasTrees c us all w.items) where
  pub slots_stored : HasTree (ForEach c) us t (Slots w)
  slots_stored = record {
    over = λ ts n k.
        let slots : all ≡ k.0 = same ∙ ap slots_of k.1 ∙ trees_back k.0 in
        tree_Slots w ∙ ap slots_tree (h.over (inward (ForEach c) ts) n (subst (Each (IsTree c (inward (ForEach c) ts))) (sym slots) k.2) ∙ slots) ∙ sym k.1;
  }

pub parts_stored : (start end : ℤ) (step : ℕ) (c : Chain) (us : List Ty) (t : Tree) (all : List Tree) (w : Vec Running Global) → all ≡ slots_of t → (intervals start end step ≡ length all → HasTrees c us all w.items) → HasTree (Resample start end step c) us t (Slots w)
parts_stored start end step c us t all w same h = record {
  over = λ ts n k.
      let slots : all ≡ k.0 = same ∙ ap slots_of k.1 ∙ trees_back k.0 in
      let long : intervals start end step ≡ length all = sym k.3 ∙ ap length (sym slots) in
      tree_Slots w ∙ ap slots_tree ((h long).over (inward (Resample start end step c) ts) n (subst (Each (IsTree c (inward (Resample start end step c) ts))) (sym slots) k.2) ∙ slots) ∙ sym k.1;
}

-- -Map
pub keys_stored : (c : Chain) (us : List Ty) (t : Tree) (all : List (Value × Tree)) (w : Vec (Valued × Running) Global) → all ≡ keyed_of t → StoresKeys c us all w.items → HasTree (MapOf c) us t (Keyed w)
keys_stored c us t all w same h = record {
  over = λ ts n k.
      let entries : all ≡ k.0 = same ∙ ap keyed_of k.1 ∙ keyed_back k.0 in
      tree_Keyed w
      ∙ ap keyed_tree (h.over (inward (MapOf c) ts) n (subst (Each (λ e. IsTree c (inward (MapOf c) ts) e.1)) (sym entries) (trees (IsPlain (key_type (first_type ts))) (IsTree c (inward (MapOf c) ts)) k.0 k.2)) (subst (λ z. Rising compare (map (λ e. e.0) z)) (sym entries) k.3) ∙ entries)
      ∙ sym k.1;
}
  where
    trees : (P : Value → Type 0) (Q : Tree → Type 0) (es : List (Value × Tree)) → Each (λ e. P e.0 × Q e.1) es → Each (λ e. Q e.1) es
    trees P Q [] k = tt
    trees P Q (e ∷ es) k = (k.0.1, trees P Q es k.1)
