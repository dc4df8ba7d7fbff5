-- A state's parts: whether the result is Nullable changes no word.
use Rattle.std.proofs.Common.{◌≡◌, ℕ, zero, suc, ◌+◌, ◌-◌, ◌*◌, ◌<◌, ◌^◌, length, drop, pow-suc, ap₂, Bool, true, false, cond, List, [], ◌∷◌, ◌++◌, Option, Some, None, refl, sym, ap, ◌∙◌, subst, arith}
use mir.Syntax.{w64}
use Rattle.std.specs.Ordering.{is_lt, is_gt, int_cmp}
use Rattle.int_leaves.specs.declared.made.Made.{Made}
use Rattle.int_leaves.specs.declared.number.Number.{Number}
use Rattle.int_leaves.specs.declared.function.Function.{Function}
use Rattle.int_leaves.specs.declared.function.Function.TheVariants as function
use Rattle.agg_terms.specs.Values.{Value, Empty, Word}
use Rattle.agg_terms.specs.Chains.{Leaf, Count, Sum, Min, Max, Retention, GroupBit, Ty, And, Or, Xor, Whole, Signed, Str, Arr, MapTy, Nullable, StateOf}
use Rattle.agg_meaning.specs.Functions.{arg, bits_in, from_bits_in, leaf_normal, number, residue}
use Rattle.agg_meaning.specs.Results.{leaf_result, nullable_if}
use Rattle.agg_terms.specs.Types.{bare, any_null, is_signed, first_type}
use Rattle.agg_meaning.specs.Events.{bit, is_met, mets, mask_of}
use Rattle.int_leaves.proofs.Folds.{op_lt}
use Rattle.agg_meaning.specs.States.{made_for, Stands, TakesRow, TakesState}
use Rattle.int_leaves.proofs.Rows.{number_row}
use Rattle.int_leaves.specs.Words.{word_tree, word_type, joined, both_words, row_word, KeepsWord, IfWord}
use Rattle.int_leaves.specs.Served.{IsServedFunction, IsServed, IfOfNumbers}
use Rattle.int_leaves.specs.Parts.{Parts, number_ty, function_leaf, function_result, made_of, held, IsKept}
use Rattle.int_leaves.proofs.Words.{IsNumberRow, stands_joined, stands_fed}

nullable_bits : (b : Bool) (t : Ty) → bits_in (nullable_if b t) ≡ bits_in t
nullable_bits true t = refl
nullable_bits false t = refl

nullable_from : (b : Bool) (t : Ty) (x : ℕ) → from_bits_in (nullable_if b t) x ≡ from_bits_in t x
nullable_from true t x = refl
nullable_from false t x = refl

nullable_least : (b : Bool) (t : Ty) → joined Min (nullable_if b t) ≡ joined Min t
nullable_least true t = refl
nullable_least false t = refl

nullable_greatest : (b : Bool) (t : Ty) → joined Max (nullable_if b t) ≡ joined Max t
nullable_greatest true t = refl
nullable_greatest false t = refl

pub bits_same : (w : Function) (n : Number) (b : Bool) → bits_in (word_type (function_leaf w) (function_result w n b)) ≡ bits_in (word_type (function_leaf w) (number_ty n))
bits_same function.Count n b = refl
bits_same function.Sum n b = nullable_bits b (number_ty n)
bits_same function.Min n b = nullable_bits b (number_ty n)
bits_same function.Max n b = nullable_bits b (number_ty n)
bits_same function.BitAnd n b = nullable_bits b (number_ty n)
bits_same function.BitOr n b = nullable_bits b (number_ty n)
bits_same function.BitXor n b = nullable_bits b (number_ty n)
bits_same function.Retention n b = refl

joined_same : (w : Function) (n : Number) (b : Bool) → joined (function_leaf w) (function_result w n b) ≡ joined (function_leaf w) (number_ty n)
joined_same function.Count n b = refl
joined_same function.Sum n b = refl
joined_same function.Min n b = nullable_least b (number_ty n)
joined_same function.Max n b = nullable_greatest b (number_ty n)
joined_same function.BitAnd n b = refl
joined_same function.BitOr n b = refl
joined_same function.BitXor n b = refl
joined_same function.Retention n b = refl

word_same : (w : Function) (n : Number) (b : Bool) (a : ℕ) (r : List Value) → row_word (function_leaf w) (function_result w n b) a r ≡ row_word (function_leaf w) (number_ty n) a r
word_same function.Count n b a r = refl
word_same function.Sum n b a r = ap (λ k. residue k (number (arg 0 r))) (nullable_bits b (number_ty n))
word_same function.Min n b a r = ap (λ k. residue k (number (arg 0 r))) (nullable_bits b (number_ty n))
word_same function.Max n b a r = ap (λ k. residue k (number (arg 0 r))) (nullable_bits b (number_ty n))
word_same function.BitAnd n b a r = ap (λ k. residue k (number (arg 0 r))) (nullable_bits b (number_ty n))
word_same function.BitOr n b a r = ap (λ k. residue k (number (arg 0 r))) (nullable_bits b (number_ty n))
word_same function.BitXor n b a r = ap (λ k. residue k (number (arg 0 r))) (nullable_bits b (number_ty n))
word_same function.Retention n b a r = refl

pub keeps_same : (w : Function) (n : Number) (b : Bool) → KeepsWord (function_leaf w) (number_ty n) → KeepsWord (function_leaf w) (function_result w n b)
keeps_same function.Count n b g = g
keeps_same function.Sum n b g = nullable_bits b (number_ty n) ∙ g
keeps_same function.Min n b g = g
keeps_same function.Max n b g = g
keeps_same function.BitAnd n b g = g
keeps_same function.BitOr n b g = g
keeps_same function.BitXor n b g = g
keeps_same function.Retention n b g = g

-- a state's function, the type of its numbers, and its result type
abbrev pub leaf_at : Parts → Leaf
leaf_at p = function_leaf p.made.function

abbrev pub number_at : Parts → Ty
number_at p = number_ty p.made.number

abbrev pub result_at : Parts → Ty
result_at p = function_result p.made.function p.made.number p.made.nullable

-- the parts with another word
abbrev pub with_word : Parts → Option ℕ → Parts
with_word p y = record { made = p.made; word = y }

pub held_fed : (p : Parts) (r : List Value) → IsKept p → row_word (leaf_at p) (number_at p) p.made.arguments r < 2 ^ bits_in (word_type (leaf_at p) (number_at p)) →
    TakesRow (held p) r (held (with_word p (both_words (joined (leaf_at p) (number_at p)) p.word (Some (row_word (leaf_at p) (number_at p) p.made.arguments r)))))
held_fed p r k l = λ f ts L g m live s.
    subst (λ j. Stands f ts (L ++ r ∷ []) (held (with_word p (both_words j p.word (Some (row_word (leaf_at p) (number_at p) p.made.arguments r)))))) (joined_same p.made.function p.made.number p.made.nullable)
    (subst (λ y. Stands f ts (L ++ r ∷ []) (held (with_word p (both_words (joined (leaf_at p) (result_at p)) p.word (Some y))))) (word_same p.made.function p.made.number p.made.nullable p.made.arguments r)
    (stands_fed f ts L r (held p) (held (with_word p (both_words (joined (leaf_at p) (result_at p)) p.word (Some (row_word (leaf_at p) (result_at p) p.made.arguments r))))) p.word
    (keeps_same p.made.function p.made.number p.made.nullable k.0) (subst (λ m. IfWord (λ y. y < 2 ^ m) p.word) (sym (bits_same p.made.function p.made.number p.made.nullable)) k.2)
    (subst (λ m. row_word (leaf_at p) (result_at p) p.made.arguments r < 2 ^ m) (sym (bits_same p.made.function p.made.number p.made.nullable)) (subst (λ y. y < 2 ^ bits_in (word_type (leaf_at p) (number_at p))) (sym (word_same p.made.function p.made.number p.made.nullable p.made.arguments r)) l))
    refl refl live (subst (λ m. IsNumberRow m.leaf m.result r) (sym s.0) (number_row p f ts r s.0 g m live)) s))

-- a state that was made for the same has words of the same type
word_of_same : (p q : Parts) → (held p).made ≡ (held q).made → bits_in (word_type (leaf_at p) (number_at p)) ≡ bits_in (word_type (leaf_at q) (number_at q))
word_of_same p q e =
    sym (bits_same p.made.function p.made.number p.made.nullable) ∙ ap (λ m. bits_in (word_type m.leaf m.result)) e ∙ bits_same q.made.function q.made.number q.made.nullable

pub kept_of_same : (p q : Parts) → (held p).made ≡ (held q).made → IfWord (λ x. x < 2 ^ bits_in (word_type (leaf_at q) (number_at q))) q.word → IfWord (λ x. x < 2 ^ bits_in (word_type (leaf_at p) (number_at p))) q.word
kept_of_same p q e k = subst (λ m. IfWord (λ x. x < 2 ^ m) q.word) (sym (word_of_same p q e)) k

pub held_joined : (p q : Parts) → (held p).made ≡ (held q).made → IsKept p → IsKept q →
    TakesState (held p) (held q) (held (with_word p (both_words (joined (leaf_at p) (number_at p)) p.word q.word)))
held_joined p q e k l = λ f ts A B s u.
    subst (λ j. Stands f ts (A ++ B) (held (with_word p (both_words j p.word q.word)))) (joined_same p.made.function p.made.number p.made.nullable)
    (stands_joined f ts A B (held p) (held q) (held (with_word p (both_words (joined (leaf_at p) (result_at p)) p.word q.word))) p.word q.word
    (keeps_same p.made.function p.made.number p.made.nullable k.0) (subst (λ m. IfWord (λ y. y < 2 ^ m) p.word) (sym (bits_same p.made.function p.made.number p.made.nullable)) k.2)
    (subst (λ m. IfWord (λ y. y < 2 ^ m) q.word) (sym (bits_same p.made.function p.made.number p.made.nullable ∙ word_of_same p q e)) l.2)
    refl (sym (ap (λ m. word_tree (word_type m.leaf m.result) q.word) e)) refl s u)

-- what is kept is kept
pub joined_lt : (w : Function) (n : Number) (x y : ℕ) → x < 2 ^ bits_in (word_type (function_leaf w) (number_ty n)) → y < 2 ^ bits_in (word_type (function_leaf w) (number_ty n)) → KeepsWord (function_leaf w) (number_ty n) → joined (function_leaf w) (number_ty n) x y < 2 ^ bits_in (word_type (function_leaf w) (number_ty n))
joined_lt function.Count n x y k l g = omega arith
joined_lt function.Sum n x y k l g = rw g (omega arith)
joined_lt function.Min n x y k l g = go (is_lt (int_cmp (from_bits_in (number_ty n) y) (from_bits_in (number_ty n) x)))
  where
    go : (b : Bool) → cond b y x < 2 ^ bits_in (number_ty n)
    go true = l
    go false = k
joined_lt function.Max n x y k l g = go (is_gt (int_cmp (from_bits_in (number_ty n) y) (from_bits_in (number_ty n) x)))
  where
    go : (b : Bool) → cond b y x < 2 ^ bits_in (number_ty n)
    go true = l
    go false = k
joined_lt function.BitAnd n x y k l g = op_lt And (bits_in (number_ty n)) x y k l
joined_lt function.BitOr n x y k l g = op_lt Or (bits_in (number_ty n)) x y k l
joined_lt function.BitXor n x y k l g = op_lt Xor (bits_in (number_ty n)) x y k l
joined_lt function.Retention n x y k l g = op_lt Or 64 x y k l

-- the conditions met from a place on
mets_from : (k i : ℕ) (r : List Value) → mask_of (mets (suc k) (drop i r)) ≡ bit (is_met (arg i r)) + 2 * mask_of (mets k (drop (suc i) r))
mets_from k zero [] = refl
mets_from k zero (v ∷ r) = refl
mets_from k (suc i) [] = refl
mets_from k (suc i) (v ∷ r) = mets_from k i r

pub mets_next : (n k : ℕ) (r : List Value) → k < n → mask_of (mets (k + 1) (drop (n - (k + 1)) r)) ≡ 2 * mask_of (mets k (drop (n - k) r)) + bit (is_met (arg (n - 1 - k) r))
mets_next n k r l =
    let e : k + 1 ≡ suc k = omega arith in
    let a : n - (k + 1) ≡ n - 1 - k = omega arith in
    let b : suc (n - 1 - k) ≡ n - k = omega arith in
    ap₂ (λ m i. mask_of (mets m (drop i r))) e a
    ∙ mets_from k (n - 1 - k) r
    ∙ ap (λ i. bit (is_met (arg (n - 1 - k) r)) + 2 * mask_of (mets k (drop i r))) b
    ∙ omega arith

pub mask_next : (m k : ℕ) (b : Bool) → m < 2 ^ k → 2 * m + bit b < 2 ^ (k + 1)
mask_next m k b l = let e : k + 1 ≡ suc k = omega arith in subst (λ j. 2 * m + bit b < 2 ^ j) (sym e) (go b)
  where
    go : (b : Bool) → 2 * m + bit b < 2 ^ suc k
    go true = omega (arith, pow-suc 2 k)
    go false = omega (arith, pow-suc 2 k)

-- as the code has it: the parts are known by an equation, and so are the words
pub fed : (p q : Parts) (r : List Value) (w : ℕ) (y : Option ℕ) → p ≡ q → IsKept p →
    w ≡ row_word (leaf_at p) (number_at p) p.made.arguments r → w < 2 ^ bits_in (word_type (leaf_at p) (number_at p)) →
    y ≡ both_words (joined (leaf_at p) (number_at p)) p.word (Some w) → TakesRow (held q) r (held (with_word p y))
fed p q r w y e k f l g =
    subst (λ z. TakesRow (held z) r (held (with_word p y))) e
    (subst (λ z. TakesRow (held p) r (held (with_word p z))) (sym (g ∙ ap (λ x. both_words (joined (leaf_at p) (number_at p)) p.word (Some x)) f))
    (held_fed p r k (subst (λ x. x < 2 ^ bits_in (word_type (leaf_at p) (number_at p))) f l)))

pub merged_fits : (p s q u : Parts) → p ≡ s → q ≡ u → (held s).made ≡ (held u).made → IsKept q → IfWord (λ x. x < 2 ^ bits_in (word_type (leaf_at p) (number_at p))) q.word
merged_fits p s q u e f g l = kept_of_same p q (ap (λ z. (held z).made) e ∙ g ∙ sym (ap (λ z. (held z).made) f)) l.2

pub merged : (p s q u : Parts) (y : Option ℕ) → p ≡ s → q ≡ u → (held s).made ≡ (held u).made → IsKept p → IsKept q →
    y ≡ both_words (joined (leaf_at p) (number_at p)) p.word q.word → TakesState (held s) (held u) (held (with_word p y))
merged p s q u y e f g k l h =
    subst (λ z. TakesState (held z) (held u) (held (with_word p y))) e
    (subst (λ z. TakesState (held p) (held z) (held (with_word p y))) f
    (subst (λ z. TakesState (held p) (held q) (held (with_word p z))) (sym h)
    (held_joined p q (ap (λ z. (held z).made) e ∙ g ∙ sym (ap (λ z. (held z).made) f)) k l)))

-- a number of the word, whether or not the result is Nullable
pub from_same : (w : Function) (n : Number) (b : Bool) (x : ℕ) → from_bits_in (word_type (function_leaf w) (function_result w n b)) x ≡ from_bits_in (word_type (function_leaf w) (number_ty n)) x
from_same function.Count n b x = refl
from_same function.Sum n b x = nullable_from b (number_ty n) x
from_same function.Min n b x = nullable_from b (number_ty n) x
from_same function.Max n b x = nullable_from b (number_ty n) x
from_same function.BitAnd n b x = nullable_from b (number_ty n) x
from_same function.BitOr n b x = nullable_from b (number_ty n) x
from_same function.BitXor n b x = nullable_from b (number_ty n) x
from_same function.Retention n b x = refl

pub tree_known : (p s : Parts) → p ≡ s → (held s).tree ≡ word_tree (word_type (leaf_at p) (result_at p)) p.word
tree_known p s e = ap (λ z. (held z).tree) (sym e)

-- a tree made of parts is the state's
pub tree_none : (p s : Parts) → p ≡ s → None ≡ p.word → (held s).tree ≡ Empty
tree_none p s e n = tree_known p s e ∙ ap (word_tree (word_type (leaf_at p) (result_at p))) (sym n)

pub tree_some : (p s : Parts) (x : ℕ) → p ≡ s → Some x ≡ p.word → (held s).tree ≡ Word (from_bits_in (word_type (leaf_at p) (number_at p)) x)
tree_some p s x e n =
    tree_known p s e ∙ ap (word_tree (word_type (leaf_at p) (result_at p))) (sym n) ∙ ap Word (from_same p.made.function p.made.number p.made.nullable x)

pub word_fits : (p : Parts) (x : ℕ) → IsKept p → Some x ≡ p.word → x < 2 ^ bits_in (word_type (leaf_at p) (number_at p))
word_fits p x k e = subst (λ o. IfWord (λ y. y < 2 ^ bits_in (word_type (leaf_at p) (number_at p))) o) (sym e) k.2

-- a state of no rows
bare_bare : (t : Ty) → bare (bare t) ≡ bare t
bare_bare (Whole n) = refl
bare_bare (Signed w) = refl
bare_bare Str = refl
bare_bare (Arr t) = refl
bare_bare (MapTy k t) = refl
bare_bare (Nullable t) = bare_bare t
bare_bare (StateOf c ts) = refl

nullable_same : (b : Bool) (n t : Ty) → bare t ≡ t → bare (nullable_if b t) ≡ n → nullable_if b n ≡ nullable_if b t
nullable_same true n t e f = ap Nullable (sym f ∙ e)
nullable_same false n t e f = sym f ∙ e

sum_bare : (c : Bool) → bare (cond c (Signed w64) (Whole 64)) ≡ cond c (Signed w64) (Whole 64)
sum_bare true = refl
sum_bare false = refl

result_is : (w : Function) (n : Number) (ts : List Ty) → IfOfNumbers (function_leaf w) (bare (leaf_result (function_leaf w) ts) ≡ number_ty n) → function_result w n (any_null ts) ≡ leaf_result (function_leaf w) ts
result_is function.Count n ts e = refl
result_is function.Retention n ts e = refl
result_is function.Sum n ts e = nullable_same (any_null ts) (number_ty n) _ (sum_bare (is_signed (first_type ts))) e
result_is function.Min n ts e = nullable_same (any_null ts) (number_ty n) _ (bare_bare (first_type ts)) e
result_is function.Max n ts e = nullable_same (any_null ts) (number_ty n) _ (bare_bare (first_type ts)) e
result_is function.BitAnd n ts e = nullable_same (any_null ts) (number_ty n) _ (bare_bare (first_type ts)) e
result_is function.BitOr n ts e = nullable_same (any_null ts) (number_ty n) _ (bare_bare (first_type ts)) e
result_is function.BitXor n ts e = nullable_same (any_null ts) (number_ty n) _ (bare_bare (first_type ts)) e

sum_width : (b c : Bool) → bits_in (bare (nullable_if b (cond c (Signed w64) (Whole 64)))) ≡ 64
sum_width true true = refl
sum_width true false = refl
sum_width false true = refl
sum_width false false = refl

keeps : (w : Function) (n : Number) (ts : List Ty) → IfOfNumbers (function_leaf w) (bare (leaf_result (function_leaf w) ts) ≡ number_ty n) → KeepsWord (function_leaf w) (number_ty n)
keeps function.Count n ts e = tt
keeps function.Retention n ts e = tt
keeps function.Sum n ts e = ap bits_in (sym e) ∙ sum_width (any_null ts) (is_signed (first_type ts))
keeps function.Min n ts e = tt
keeps function.Max n ts e = tt
keeps function.BitAnd n ts e = tt
keeps function.BitOr n ts e = tt
keeps function.BitXor n ts e = tt

pub keeps_made : (w : Function) (n : Number) (f : Leaf) (ts : List Ty) → function_leaf w ≡ f → IfOfNumbers f (bare (leaf_result f ts) ≡ number_ty n) → KeepsWord (function_leaf w) (number_ty n)
keeps_made w n f ts e g = keeps w n ts (subst (λ m. IfOfNumbers m (bare (leaf_result m ts) ≡ number_ty n)) (sym e) g)

pub made_is : (w : Function) (n : Number) (b : Bool) (f : Leaf) (ts : List Ty) (a : ℕ) → function_leaf w ≡ f → a ≡ length ts → IfOfNumbers f (bare (leaf_result f ts) ≡ number_ty n) → b ≡ any_null ts →
    made_of (record { function = w; number = n; nullable = b; arguments = a }) ≡ made_for f ts
made_is w n b f ts a e l g h =
    subst (λ m. made_of (record { function = w; number = n; nullable = b; arguments = a }) ≡ made_for m ts) e
    (ap₂ (λ c m. made_of (record { function = w; number = n; nullable = c; arguments = m })) h l
    ∙ ap (λ t. record { leaf = function_leaf w; result = t; arguments = length ts }) (result_is w n ts (subst (λ m. IfOfNumbers m (bare (leaf_result m ts) ≡ number_ty n)) (sym e) g)))

-- a state of no rows
pub blank_is : (f : Leaf) (ts : List Ty) → IsServedFunction f → Empty ≡ leaf_normal f ts []
blank_is Count ts k = refl
blank_is Sum ts k = refl
blank_is Min ts k = refl
blank_is Max ts k = refl
blank_is (GroupBit op) ts k = refl
blank_is Retention ts k = refl
blank_is _ ts k = absurd k

pub fresh_stands : (m : Made) (f : Leaf) (ts : List Ty) → IsServed f ts → made_of m ≡ made_for f ts → Stands f ts [] (held (record { made = m; word = None }))
fresh_stands m f ts k e = (e, blank_is f ts k.0)
