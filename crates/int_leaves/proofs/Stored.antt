-- A tree of a function is the tree of a word.
use Rattle.std.proofs.Common.{◌≡◌, ℕ, ◌<◌, ◌≤◌, ◌^◌, ℤ, pos, Bool, true, false, cond, inl, inr, List, [], ◌∷◌, length, Option, Some, refl, sym, ap, ◌∙◌, subst, arith, mod-eq_of_lt}
use mir.Syntax.{w64}
use Rattle.std.proofs.Math.Pow.{pow_mono}
use Rattle.agg_terms.specs.Chains.{Count, GroupBit, Leaf, Max, Min, Retention, Signed, Sum, Ty, Whole, And}
use Rattle.agg_terms.specs.Trees.{IsLeafTree, IsPlain, IsWord, one_tree}
use Rattle.agg_terms.specs.Types.{any_null, bare, first_type, is_signed}
use Rattle.agg_terms.specs.Values.{Empty, Num, Tree, Value, Word}
use Rattle.agg_meaning.specs.Functions.{bits_in, from_bits_in, residue}
use Rattle.agg_meaning.specs.Lawful.{IsNumber}
use Rattle.agg_meaning.specs.Results.{leaf_result, nullable_if}
use Rattle.agg_meaning.specs.States.{made_for}
use Rattle.agg_meaning.proofs.BitLists.{word_back}
use Rattle.int_leaves.specs.Parts.{function_leaf, function_result, held, made_of, number_ty}
use Rattle.int_leaves.specs.Served.{IsServed}
use Rattle.int_leaves.specs.Words.{tree_word, word_tree, word_type}
use Rattle.int_leaves.specs.declared.made.Made.{Made}
use Rattle.int_leaves.proofs.Parts.{bits_same}
use Rattle.int_leaves.proofs.Words.{bits_result, from_result}

word_of : (t : Ty) (z : ℤ) → from_bits_in t (residue (bits_in t) z) ≡ z → word_tree t (tree_word t (Word z)) ≡ Word z
word_of t z e = ap Word e

-- a number of the argument's type, in the result's
of_result : (ts : List Ty) (z : ℤ) → IsPlain (bare (first_type ts)) (Num z) → from_bits_in (leaf_result Min ts) (residue (bits_in (leaf_result Min ts)) z) ≡ z
of_result ts z k =
    from_result And ts (residue (bits_in (leaf_result Min ts)) z)
    ∙ ap (λ n. from_bits_in (first_type ts) (residue n z)) (bits_result And ts)
    ∙ word_back (first_type ts) z k

-- a word of a sum
of_sum : (b c : Bool) (z : ℤ) → IsWord c z → from_bits_in (nullable_if b (cond c (Signed w64) (Whole 64))) (residue (bits_in (nullable_if b (cond c (Signed w64) (Whole 64)))) z) ≡ z
of_sum true true z k = word_back (Signed w64) z (z, refl, k)
of_sum false true z k = word_back (Signed w64) z (z, refl, k)
of_sum true false z k = word_back (Whole 64) z (k.0, ap Num k.1, k.2)
of_sum false false z k = word_back (Whole 64) z (k.0, ap Num k.1, k.2)

-- a least or greatest value
of_one : (t : Ty) → IsNumber t → (v : Value) → IsPlain t v → (z : ℤ) × (v ≡ Num z)
of_one (Whole n) s v k = (pos k.0, k.1)
of_one (Signed w) s v k = (k.0, k.1)
of_one _ s v k = absurd s

of_best : (ts : List Ty) → IsNumber (bare (first_type ts)) → (v : Value) → IsPlain (bare (first_type ts)) v → word_tree (leaf_result Min ts) (tree_word (leaf_result Min ts) (one_tree (Some v))) ≡ one_tree (Some v)
of_best ts s v k =
    let h : (z : ℤ) × (v ≡ Num z) = of_one (bare (first_type ts)) s v k in
    subst (λ w. word_tree (leaf_result Min ts) (tree_word (leaf_result Min ts) (one_tree (Some w))) ≡ one_tree (Some w)) (sym h.1)
    (ap Word (of_result ts h.0 (subst (IsPlain (bare (first_type ts))) h.1 k)))

first_number : (ts : List Ty) → (t : Ty) × (ts ≡ t ∷ []) × IsNumber (bare t) → IsNumber (bare (first_type ts))
first_number ts k = subst (λ us. IsNumber (bare (first_type us))) (sym k.1) k.2

again : Leaf → List Ty → Tree → Tree
again f ts t = word_tree (word_type f (leaf_result f ts)) (tree_word (word_type f (leaf_result f ts)) t)

at_tree : (f : Leaf) (ts : List Ty) (t u : Tree) → t ≡ u → again f ts u ≡ u → again f ts t ≡ t
at_tree f ts t u e h = ap (again f ts) e ∙ h ∙ sym e

pub word_held : (f : Leaf) (ts : List Ty) (t : Tree) → IsServed f ts → IsLeafTree f ts t → word_tree (word_type f (leaf_result f ts)) (tree_word (word_type f (leaf_result f ts)) t) ≡ t
unfolding again
word_held Count ts t s (inl e) = at_tree Count ts t Empty e refl
word_held Count ts t s (inr k) = at_tree Count ts t (Word (pos k.0)) k.1 (ap (λ n. Word (pos n)) (mod-eq_of_lt k.2))
word_held Sum ts t s (inl e) = at_tree Sum ts t Empty e refl
word_held Sum ts t s (inr k) = at_tree Sum ts t (Word k.0) k.1 (ap Word (of_sum (any_null ts) (is_signed (first_type ts)) k.0 k.2))
word_held Min ts t s (inl e) = at_tree Min ts t Empty e refl
word_held Min ts t s (inr k) = at_tree Min ts t (one_tree (Some k.0)) k.1 (of_best ts (first_number ts s.2) k.0 k.2)
word_held Max ts t s (inl e) = at_tree Max ts t Empty e refl
word_held Max ts t s (inr k) = at_tree Max ts t (one_tree (Some k.0)) k.1 (of_best ts (first_number ts s.2) k.0 k.2)
word_held (GroupBit op) ts t s (inl e) = at_tree (GroupBit op) ts t Empty e refl
word_held (GroupBit op) ts t s (inr k) = at_tree (GroupBit op) ts t (Word k.0) k.1 (ap Word (of_result ts k.0 k.2))
word_held Retention ts t s (inl e) = at_tree Retention ts t Empty e refl
word_held Retention ts t s (inr k) = at_tree Retention ts t (Word (pos k.0)) k.1 (ap (λ n. Word (pos n)) (mod-eq_of_lt (below (length ts) k.0 s.1 k.2)))
  where
    below : (n m : ℕ) → n ≤ 32 → m < 2 ^ n → m < 2 ^ 64
    below n m l k = let h : 2 ^ n ≤ 2 ^ 32 = pow_mono l in omega (arith, h, k)
word_held _ ts t s k = absurd s.0

word_by_bits : (t u : Ty) → bits_in t ≡ bits_in u → (x : Tree) → tree_word t x ≡ tree_word u x
word_by_bits t u e (Word z) = ap (λ n. Some (residue n z)) e
word_by_bits t u e _ = refl

-- the word of a tree gives the state with that tree
pub stored : (m : Made) (f : Leaf) (ts : List Ty) (t : Tree) (x : Option ℕ) → IsServed f ts → made_of m ≡ made_for f ts →
    x ≡ tree_word (word_type (function_leaf m.function) (number_ty m.number)) t → IsLeafTree f ts t → (held (record { made = m; word = x })).tree ≡ t
stored m f ts t x s e h k =
    ap (word_tree (word_type (made_of m).leaf (made_of m).result)) (h ∙ sym (word_by_bits (word_type (function_leaf m.function) (function_result m.function m.number m.nullable)) (word_type (function_leaf m.function) (number_ty m.number)) (bits_same m.function m.number m.nullable) t))
    ∙ ap (λ d. word_tree (word_type d.leaf d.result) (tree_word (word_type d.leaf d.result) t)) e
    ∙ word_held f ts t s k
