-- The functions that keep one word: what it is of two lists joined, and of one row.
use Rattle.std.proofs.Common.{◌≡◌, ℕ, zero, suc, ◌+◌, ◌*◌, ◌/◌, ◌%◌, ◌^◌, ◌<◌, ℤ, pos, negsuc, ◌+ℤ◌, nat_abs, Bool, true, false, ◌||◌, cond, List, [], ◌∷◌, ◌++◌, map, length, Option, Some, None, refl, sym, ap, ap₂, ◌∙◌, subst, arith, append-nil}
use Rattle.std.specs.Prelude.{bit_or, filter, max}
use Rattle.std.specs.Ordering.{is_lt, is_gt, int_cmp}
use Rattle.std.specs.Int.{int_wrap, int_rem_euclid, bit_at}
use Rattle.std.proofs.lemmas.Int.{wrapping_add-bits}
use Rattle.std.proofs.lemmas.List.{map-append}
use Rattle.std.proofs.lemmas.List.Elements.{filter-append}
use Rattle.std.proofs.lemmas.Nat.Bits.{same_from_bits, bit_at_or, bit_at-suc, bit_at_lowest, bit_at-zero}
use lib.IntN.{+ℤ_idr}
use mir.Syntax.{w64}
use Rattle.agg_terms.specs.Values.{Value, Num, Word}
use Rattle.agg_terms.specs.Chains.{Leaf, Count, Sum, Min, Max, Retention, GroupBit, BitOp, Ty, Whole, Signed, Str, Arr, MapTy, Nullable, StateOf}
use Rattle.agg_terms.specs.Order.{best, of_two, compare}
use Rattle.agg_meaning.specs.Functions.{arg, number, unless_none, wrapped, leaf_normal, counted, total, lower, higher, the_arg, bits_in, from_bits_in, residue, bit_op, bit_tree, folded, bits_of_rows}
use Rattle.agg_terms.specs.Types.{is_signed, first_type, any_null, bare}
use Rattle.agg_meaning.specs.Results.{nullable_if, leaf_result}
use Rattle.agg_terms.specs.Trees.{one_tree}
use Rattle.agg_meaning.specs.Feeds.{no_null, IfHere}
use Rattle.agg_meaning.specs.Events.{mets, mask_of, either, met_set, bit, falses}
use Rattle.int_leaves.proofs.Folds.{both, one_same, counted-append, total-append, best-append, folded-append, falses_either}
use Rattle.agg_meaning.proofs.Better.{lower_beats, higher_beats}
use Rattle.agg_meaning.proofs.LeafLaws.{rows_bits_lt}
use Rattle.agg_terms.proofs.Sorting.{IsBeating, better}
use Rattle.agg_meaning.proofs.BitLists.{op_assoc, folded_lt, bits_back}
use Rattle.agg_meaning.proofs.EventLists.{met_set-append, length-mets}
use Rattle.agg_meaning.specs.States.{Held, Stands}
use Rattle.int_leaves.specs.Words.{word_tree, word_type, joined, both_words, row_word, KeepsWord, IfWord}

-- a row that a state of numbers can take: a least or greatest value is a number of the type
abbrev pub IsNumberRow : Leaf → Ty → List Value → Type 0
IsNumberRow Min t r = (arg 0 r ≡ Num (number (arg 0 r))) × (from_bits_in t (residue (bits_in t) (number (arg 0 r))) ≡ number (arg 0 r))
IsNumberRow Max t r = (arg 0 r ≡ Num (number (arg 0 r))) × (from_bits_in t (residue (bits_in t) (number (arg 0 r))) ≡ number (arg 0 r))
IsNumberRow _ t r = Unit {0}

pub word_same : (p q : ℤ) → Word p ≡ Word q → p ≡ q
word_same p q e = cc

-- a function whose tree is Empty, or a word of the list
of_words : {X : Type 0} (v : List X → ℤ) (t : Ty) (j : ℕ → ℕ → ℕ) (Ok : ℕ → Type 0) → ((A B : List X) (x y : ℕ) → Ok x → Ok y → v A ≡ from_bits_in t x → v B ≡ from_bits_in t y → v (A ++ B) ≡ from_bits_in t (j x y)) → (A B : List X) (x y : Option ℕ) → IfWord Ok x → IfWord Ok y → unless_none A (Word (v A)) ≡ word_tree t x → unless_none B (Word (v B)) ≡ word_tree t y → unless_none (A ++ B) (Word (v (A ++ B))) ≡ word_tree t (both_words j x y)
of_words v t j Ok h [] B None y k l a b = b
of_words v t j Ok h [] B (Some z) y k l a b = cc
of_words v t j Ok h (r ∷ A) B None y k l a b = cc
of_words v t j Ok h (r ∷ A) [] (Some z) None k l a b = ap (λ l. Word (v l)) (append-nil (r ∷ A)) ∙ a
of_words v t j Ok h (r ∷ A) [] (Some z) (Some w) k l a b = cc
of_words v t j Ok h (r ∷ A) (s ∷ B) (Some z) None k l a b = cc
of_words v t j Ok h (r ∷ A) (s ∷ B) (Some z) (Some w) k l a b =
    ap Word (h (r ∷ A) (s ∷ B) z w k l (word_same _ _ a) (word_same _ _ b))

-- count and sum
counts_join : (A B : List (List Value)) (x y : ℕ) → Unit {0} → Unit {0} → counted A ≡ pos x → counted B ≡ pos y → counted (A ++ B) ≡ pos ((x + y) % 2 ^ 64)
counts_join A B x y k l a b = counted-append A B ∙ ap₂ (λ m n. pos ((nat_abs m + nat_abs n) % 2 ^ 64)) a b

sum_words : (b c : Bool) (x y : ℕ) → x < 2 ^ 64 → y < 2 ^ 64 → wrapped c (from_bits_in (nullable_if b (cond c (Signed w64) (Whole 64))) x +ℤ from_bits_in (nullable_if b (cond c (Signed w64) (Whole 64))) y) ≡ from_bits_in (nullable_if b (cond c (Signed w64) (Whole 64))) ((x + y) % 2 ^ 64)
sum_words true true x y k l = sym (wrapping_add-bits w64 x y k l)
sum_words false true x y k l = sym (wrapping_add-bits w64 x y k l)
sum_words true false x y k l = refl
sum_words false false x y k l = refl

sum_bits : (b c : Bool) → bits_in (nullable_if b (cond c (Signed w64) (Whole 64))) ≡ 64
sum_bits true true = refl
sum_bits true false = refl
sum_bits false true = refl
sum_bits false false = refl

pub sum_result : (ts : List Ty) → bits_in (leaf_result Sum ts) ≡ 64
sum_result ts = sum_bits (any_null ts) (is_signed (first_type ts))

sums_join : (ts : List Ty) (A B : List (List Value)) (x y : ℕ) → x < 2 ^ bits_in (leaf_result Sum ts) → y < 2 ^ bits_in (leaf_result Sum ts) → total ts A ≡ from_bits_in (leaf_result Sum ts) x → total ts B ≡ from_bits_in (leaf_result Sum ts) y → total ts (A ++ B) ≡ from_bits_in (leaf_result Sum ts) ((x + y) % 2 ^ 64)
sums_join ts A B x y k l a b =
    total-append ts A B ∙ ap₂ (λ p q. wrapped (is_signed (first_type ts)) (p +ℤ q)) a b
    ∙ sum_words (any_null ts) (is_signed (first_type ts)) x y (subst (λ n. x < 2 ^ n) (sum_result ts) k) (subst (λ n. y < 2 ^ n) (sum_result ts) l)

-- one number
abbrev pub num_option : Ty → Option ℕ → Option Value
num_option t None = None
num_option t (Some b) = Some (Num (from_bits_in t b))

pub num_is : (t : Ty) (o : Option Value) (x : Option ℕ) → one_tree o ≡ word_tree t x → o ≡ num_option t x
num_is t o x e = one_same o (num_option t x) (e ∙ go x)
  where
    go : (x : Option ℕ) → word_tree t x ≡ one_tree (num_option t x)
    go None = refl
    go (Some z) = refl

of_best : (beats : Value → Value → Bool) → IsBeating beats → (t : Ty) (j : ℕ → ℕ → ℕ) → ((a b : ℕ) → of_two beats (Num (from_bits_in t a)) (Some (Num (from_bits_in t b))) ≡ Num (from_bits_in t (j a b))) → (A B : List (List Value)) (x y : Option ℕ) → one_tree (best beats (map the_arg A)) ≡ word_tree t x → one_tree (best beats (map the_arg B)) ≡ word_tree t y → one_tree (best beats (map the_arg (A ++ B))) ≡ word_tree t (both_words j x y)
of_best beats laws t j h A B x y a b =
    ap one_tree
    (ap (best beats) (map-append the_arg A B) ∙ best-append beats laws (map the_arg A) (map the_arg B) ∙ ap₂ (better beats) (num_is t _ x a) (num_is t _ y b))
    ∙ go x y
  where
    go : (x y : Option ℕ) → one_tree (better beats (num_option t x) (num_option t y)) ≡ word_tree t (both_words j x y)
    go None None = refl
    go None (Some w) = refl
    go (Some z) None = refl
    go (Some z) (Some w) = ap (λ v. one_tree (Some v)) (h z w)

cond_num : (t : Ty) (b : Bool) (x y : ℕ) → cond b (Num (from_bits_in t x)) (Num (from_bits_in t y)) ≡ Num (from_bits_in t (cond b x y))
cond_num t true x y = refl
cond_num t false x y = refl

lower_num : (t : Ty) (a b : ℕ) → of_two lower (Num (from_bits_in t a)) (Some (Num (from_bits_in t b))) ≡ Num (from_bits_in t (joined Min t a b))
unfolding compare
lower_num t a b = cond_num t (is_lt (int_cmp (from_bits_in t b) (from_bits_in t a))) b a

higher_num : (t : Ty) (a b : ℕ) → of_two higher (Num (from_bits_in t a)) (Some (Num (from_bits_in t b))) ≡ Num (from_bits_in t (joined Max t a b))
unfolding compare
higher_num t a b = cond_num t (is_gt (int_cmp (from_bits_in t b) (from_bits_in t a))) b a

-- what is asked of the argument's type is seen in the result's
signed_result : (ts : List Ty) → is_signed (leaf_result Sum ts) ≡ is_signed (first_type ts)
signed_result ts = go (any_null ts) (is_signed (first_type ts))
  where
    go : (b c : Bool) → is_signed (nullable_if b (cond c (Signed w64) (Whole 64))) ≡ c
    go true true = refl
    go true false = refl
    go false true = refl
    go false false = refl

bare_bits : (t : Ty) → bits_in (bare t) ≡ bits_in t
bare_bits (Whole n) = refl
bare_bits (Signed w) = refl
bare_bits Str = refl
bare_bits (Arr t) = refl
bare_bits (MapTy k t) = refl
bare_bits (Nullable t) = bare_bits t
bare_bits (StateOf c ts) = refl

bare_from : (t : Ty) (b : ℕ) → from_bits_in (bare t) b ≡ from_bits_in t b
bare_from (Whole n) b = refl
bare_from (Signed w) b = refl
bare_from Str b = refl
bare_from (Arr t) b = refl
bare_from (MapTy k t) b = refl
bare_from (Nullable t) b = bare_from t b
bare_from (StateOf c ts) b = refl

pub bits_result : (op : BitOp) (ts : List Ty) → bits_in (leaf_result (GroupBit op) ts) ≡ bits_in (first_type ts)
bits_result op ts = go (any_null ts) ∙ bare_bits (first_type ts)
  where
    go : (b : Bool) → bits_in (nullable_if b (bare (first_type ts))) ≡ bits_in (bare (first_type ts))
    go true = refl
    go false = refl

pub from_result : (op : BitOp) (ts : List Ty) (b : ℕ) → from_bits_in (leaf_result (GroupBit op) ts) b ≡ from_bits_in (first_type ts) b
from_result op ts b = go (any_null ts) ∙ bare_from (first_type ts) b
  where
    go : (c : Bool) → from_bits_in (nullable_if c (bare (first_type ts))) b ≡ from_bits_in (bare (first_type ts)) b
    go true = refl
    go false = refl

pub word_from : (op : BitOp) (ts : List Ty) (x : Option ℕ) → word_tree (leaf_result (GroupBit op) ts) x ≡ word_tree (first_type ts) x
word_from op ts None = refl
word_from op ts (Some b) = ap Word (from_result op ts b)

-- bits
of_bits : (op : BitOp) (t : Ty) (A B : List (List Value)) (x y : Option ℕ) → IfWord (λ n. n < 2 ^ bits_in t) x → IfWord (λ n. n < 2 ^ bits_in t) y → bit_tree t (folded (bit_op op) (bits_of_rows t A)) ≡ word_tree t x → bit_tree t (folded (bit_op op) (bits_of_rows t B)) ≡ word_tree t y → bit_tree t (folded (bit_op op) (bits_of_rows t (A ++ B))) ≡ word_tree t (both_words (bit_op op) x y)
of_bits op t A B x y k l a b =
    ap (λ l. bit_tree t (folded (bit_op op) l)) (map-append (λ r. residue (bits_in t) (number (arg 0 r))) A B)
    ∙ ap (bit_tree t) (folded-append (bit_op op) (op_assoc op) (bits_of_rows t A) (bits_of_rows t B))
    ∙ go (folded (bit_op op) (bits_of_rows t A)) (folded (bit_op op) (bits_of_rows t B)) x y k l a b (folded_lt op (bits_in t) (bits_of_rows t A) (rows_bits_lt t A)) (folded_lt op (bits_in t) (bits_of_rows t B) (rows_bits_lt t B))
  where
    same : (a x : ℕ) → a < 2 ^ bits_in t → x < 2 ^ bits_in t → Word (from_bits_in t a) ≡ Word (from_bits_in t x) → a ≡ x
    same a x k l e = sym (bits_back t a k) ∙ ap (residue (bits_in t)) (word_same _ _ e) ∙ bits_back t x l

    go : (o p x y : Option ℕ) → IfWord (λ n. n < 2 ^ bits_in t) x → IfWord (λ n. n < 2 ^ bits_in t) y → bit_tree t o ≡ word_tree t x → bit_tree t p ≡ word_tree t y → IfHere (λ n. n < 2 ^ bits_in t) o → IfHere (λ n. n < 2 ^ bits_in t) p → bit_tree t (both (bit_op op) o p) ≡ word_tree t (both_words (bit_op op) x y)
    go None p None y i j e f k l = f
    go None p (Some z) y i j e f k l = cc
    go (Some a) p None y i j e f k l = cc
    go (Some a) None (Some z) None i j e f k l = e
    go (Some a) None (Some z) (Some w) i j e f k l = cc
    go (Some a) (Some b) (Some z) None i j e f k l = cc
    go (Some a) (Some b) (Some z) (Some w) i j e f k l =
        ap (λ n. Word (from_bits_in t n)) (ap₂ (bit_op op) (same a z k i e) (same b w l j f))

-- masks
or_step : (b c : Bool) (m n : ℕ) → bit_or (bit b + 2 * m) (bit c + 2 * n) ≡ bit (b || c) + 2 * bit_or m n
or_step b c m n = same_from_bits _ _ (by b c)
  where
    by : (b c : Bool) (i : ℕ) → bit_at (bit_or (bit b + 2 * m) (bit c + 2 * n)) i ≡ bit_at (bit (b || c) + 2 * bit_or m n) i
    by b c zero = bit_at_or (bit b + 2 * m) (bit c + 2 * n) 0 ∙ ap₂ max (bit_at_lowest (bit b + 2 * m)) (bit_at_lowest (bit c + 2 * n)) ∙ low b c ∙ sym (bit_at_lowest (bit (b || c) + 2 * bit_or m n))
      where
        low : (b c : Bool) → max ((bit b + 2 * m) % 2) ((bit c + 2 * n) % 2) ≡ (bit (b || c) + 2 * bit_or m n) % 2
        low true true = omega arith
        low true false = omega arith
        low false true = omega arith
        low false false = omega arith
    by b c (suc i) =
        bit_at_or (bit b + 2 * m) (bit c + 2 * n) (suc i)
        ∙ ap₂ max (bit_at-suc (bit b + 2 * m) i ∙ ap (λ k. bit_at k i) (half b m)) (bit_at-suc (bit c + 2 * n) i ∙ ap (λ k. bit_at k i) (half c n))
        ∙ sym (bit_at-suc (bit (b || c) + 2 * bit_or m n) i ∙ ap (λ k. bit_at k i) (half (b || c) (bit_or m n)) ∙ bit_at_or m n i)
      where
        half : (b : Bool) (m : ℕ) → (bit b + 2 * m) / 2 ≡ m
        half true m = omega arith
        half false m = omega arith

zero_or : (n : ℕ) → bit_or 0 n ≡ n
zero_or n = same_from_bits _ _ (λ i. omega (arith, bit_at_or 0 n i, bit_at-zero i))

or_zero : (n : ℕ) → bit_or n 0 ≡ n
or_zero n = same_from_bits _ _ (λ i. omega (arith, bit_at_or n 0 i, bit_at-zero i))

mask_either : (cs bs : List Bool) → mask_of (either cs bs) ≡ bit_or (mask_of cs) (mask_of bs)
mask_either [] bs = sym (zero_or (mask_of bs))
mask_either (a ∷ cs) [] = sym (or_zero (mask_of (a ∷ cs)))
mask_either (a ∷ cs) (b ∷ bs) = ap (λ k. bit (a || b) + 2 * k) (mask_either cs bs) ∙ sym (or_step a b (mask_of cs) (mask_of bs))

masks_join : (n : ℕ) (A B : List (List Value)) (x y : ℕ) → Unit {0} → Unit {0} → pos (mask_of (met_set n A)) ≡ pos x → pos (mask_of (met_set n B)) ≡ pos y → pos (mask_of (met_set n (A ++ B))) ≡ pos (bit_or x y)
masks_join n A B x y k l a b = ap (λ s. pos (mask_of s)) (met_set-append n A B) ∙ ap pos (mask_either (met_set n A) (met_set n B)) ∙ ap₂ (λ p q. pos (bit_or (nat_abs p) (nat_abs q))) a b

-- the word of two lists joined
pub words_join : (f : Leaf) (ts : List Ty) → KeepsWord f (leaf_result f ts) → (A B : List (List Value)) (x y : Option ℕ) → IfWord (λ n. n < 2 ^ bits_in (word_type f (leaf_result f ts))) x → IfWord (λ n. n < 2 ^ bits_in (word_type f (leaf_result f ts))) y → leaf_normal f ts A ≡ word_tree (word_type f (leaf_result f ts)) x → leaf_normal f ts B ≡ word_tree (word_type f (leaf_result f ts)) y → leaf_normal f ts (A ++ B) ≡ word_tree (word_type f (leaf_result f ts)) (both_words (joined f (leaf_result f ts)) x y)
words_join Count ts g A B x y k l a b = of_words counted (Whole 64) (joined Count (Whole 64)) (λ n. Unit {0}) counts_join A B x y (trivial x) (trivial y) a b
  where
    trivial : (x : Option ℕ) → IfWord (λ n. Unit {0}) x
    trivial None = tt
    trivial (Some n) = tt
words_join Sum ts g A B x y k l a b =
    of_words (total ts) (leaf_result Sum ts) (joined Sum (leaf_result Sum ts)) (λ n. n < 2 ^ bits_in (leaf_result Sum ts))
    (sums_join ts) A B x y k l a b
words_join Min ts g A B x y k l a b = of_best lower lower_beats (leaf_result Min ts) (joined Min (leaf_result Min ts)) (lower_num (leaf_result Min ts)) A B x y a b
words_join Max ts g A B x y k l a b = of_best higher higher_beats (leaf_result Max ts) (joined Max (leaf_result Max ts)) (higher_num (leaf_result Max ts)) A B x y a b
words_join (GroupBit op) ts g A B x y k l a b =
    of_bits op (first_type ts) A B x y
    (subst (λ m. IfWord (λ n. n < 2 ^ m) x) (bits_result op ts) k) (subst (λ m. IfWord (λ n. n < 2 ^ m) y) (bits_result op ts) l)
    (a ∙ word_from op ts x) (b ∙ word_from op ts y)
    ∙ sym (word_from op ts (both_words (bit_op op) x y))
words_join Retention ts g A B x y k l a b = of_words (λ L. pos (mask_of (met_set (length ts) L))) (Whole 64) bit_or (λ n. Unit {0}) (masks_join (length ts)) A B x y (trivial x) (trivial y) a b
  where
    trivial : (x : Option ℕ) → IfWord (λ n. Unit {0}) x
    trivial None = tt
    trivial (Some n) = tt
words_join _ ts g A B x y k l a b = absurd g

-- the word of one row
num_word : (t : Ty) → (r : List Value) → arg 0 r ≡ Num (number (arg 0 r)) → from_bits_in t (residue (bits_in t) (number (arg 0 r))) ≡ number (arg 0 r) → one_tree (Some (the_arg r)) ≡ word_tree t (Some (residue (bits_in t) (number (arg 0 r))))
num_word t r e f = ap (λ v. one_tree (Some v)) e ∙ ap Word (sym f)

residue_is : (z : ℤ) → pos (residue 64 z) ≡ int_rem_euclid z (pos (2 ^ 64))
residue_is (pos n) = refl
residue_is (negsuc n) = refl

sum_one : (b c : Bool) (z : ℤ) → wrapped c (z +ℤ pos 0) ≡ from_bits_in (nullable_if b (cond c (Signed w64) (Whole 64))) (residue (bits_in (nullable_if b (cond c (Signed w64) (Whole 64)))) z)
unfolding int_wrap
sum_one true true z = ap (wrapped true) (+ℤ_idr z)
sum_one false true z = ap (wrapped true) (+ℤ_idr z)
sum_one true false z = ap (wrapped false) (+ℤ_idr z) ∙ sym (residue_is z)
sum_one false false z = ap (wrapped false) (+ℤ_idr z) ∙ sym (residue_is z)

either_none : (n : ℕ) (r : List Value) → either (mets n r) (met_set n []) ≡ mets n r
either_none n r = ap (λ k. either (mets n r) (falses k)) (sym (length-mets n r)) ∙ falses_either (mets n r)

pub words_one : (f : Leaf) (ts : List Ty) → KeepsWord f (leaf_result f ts) → (r : List Value) → IsNumberRow f (leaf_result f ts) r → leaf_normal f ts (r ∷ []) ≡ word_tree (word_type f (leaf_result f ts)) (Some (row_word f (leaf_result f ts) (length ts) r))
words_one Count ts g r k = refl
words_one Sum ts g r k = ap Word (sum_one (any_null ts) (is_signed (first_type ts)) (number (arg 0 r)))
words_one Min ts g r k = num_word (leaf_result Min ts) r k.0 k.1
words_one Max ts g r k = num_word (leaf_result Max ts) r k.0 k.1
words_one (GroupBit op) ts g r k =
    ap Word (sym (from_result op ts (residue (bits_in (first_type ts)) (number (arg 0 r)))) ∙ ap (λ n. from_bits_in (leaf_result (GroupBit op) ts) (residue n (number (arg 0 r)))) (sym (bits_result op ts)))
words_one Retention ts g r k = ap (λ s. Word (pos (mask_of s))) (either_none (length ts) r)
words_one _ ts g r k = absurd g

-- a state that stands for a list stands for one more row, or for another list behind it, by its words
pub stands_joined : (f : Leaf) (ts : List Ty) (A B : List (List Value)) (s u v : Held) (x y : Option ℕ) → KeepsWord s.made.leaf s.made.result →
    IfWord (λ n. n < 2 ^ bits_in (word_type s.made.leaf s.made.result)) x → IfWord (λ n. n < 2 ^ bits_in (word_type s.made.leaf s.made.result)) y →
    s.tree ≡ word_tree (word_type s.made.leaf s.made.result) x → u.tree ≡ word_tree (word_type s.made.leaf s.made.result) y →
    v ≡ record { made = s.made; tree = word_tree (word_type s.made.leaf s.made.result) (both_words (joined s.made.leaf s.made.result) x y) } →
    Stands f ts A s → Stands f ts B u → Stands f ts (A ++ B) v
stands_joined f ts A B s u v x y g k l p q e a b = (
  ap (λ w. w.made) e ∙ a.0,
  ap (λ w. w.tree) e
      ∙ ap (λ m. word_tree (word_type m.leaf m.result) (both_words (joined m.leaf m.result) x y)) a.0
      ∙ sym (ap (leaf_normal f ts) (filter-append no_null A B)
      ∙ words_join f ts (subst (λ m. KeepsWord m.leaf m.result) a.0 g) (filter no_null A) (filter no_null B) x y
      (subst (λ m. IfWord (λ n. n < 2 ^ bits_in (word_type m.leaf m.result)) x) a.0 k)
      (subst (λ m. IfWord (λ n. n < 2 ^ bits_in (word_type m.leaf m.result)) y) a.0 l)
      (sym a.1 ∙ p ∙ ap (λ m. word_tree (word_type m.leaf m.result) x) a.0)
      (sym b.1 ∙ q ∙ ap (λ m. word_tree (word_type m.leaf m.result) y) a.0)),
)

pub stands_fed : (f : Leaf) (ts : List Ty) (A : List (List Value)) (r : List Value) (s v : Held) (x : Option ℕ) → KeepsWord s.made.leaf s.made.result →
    IfWord (λ n. n < 2 ^ bits_in (word_type s.made.leaf s.made.result)) x → row_word s.made.leaf s.made.result s.made.arguments r < 2 ^ bits_in (word_type s.made.leaf s.made.result) →
    s.tree ≡ word_tree (word_type s.made.leaf s.made.result) x →
    v ≡ record { made = s.made; tree = word_tree (word_type s.made.leaf s.made.result) (both_words (joined s.made.leaf s.made.result) x (Some (row_word s.made.leaf s.made.result s.made.arguments r))) } →
    no_null r ≡ true → IsNumberRow s.made.leaf s.made.result r →
    Stands f ts A s → Stands f ts (A ++ r ∷ []) v
stands_fed f ts A r s v x g k l p e n o a =
    stands_joined f ts A (r ∷ []) s
    (record { made = s.made; tree = word_tree (word_type s.made.leaf s.made.result) (Some (row_word s.made.leaf s.made.result s.made.arguments r)) }) v
    x (Some (row_word s.made.leaf s.made.result s.made.arguments r)) g k l p refl e a (
      a.0,
      ap (λ m. word_tree (word_type m.leaf m.result) (Some (row_word m.leaf m.result m.arguments r))) a.0
          ∙ sym (words_one f ts (subst (λ m. KeepsWord m.leaf m.result) a.0 g) r (subst (λ m. IsNumberRow m.leaf m.result r) a.0 o))
          ∙ sym (ap (leaf_normal f ts) (one n)),
    )
  where
    one : no_null r ≡ true → filter no_null (r ∷ []) ≡ r ∷ []
    one n = rw n
