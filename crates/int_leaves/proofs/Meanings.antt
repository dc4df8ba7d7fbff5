-- What a word means.
use Rattle.std.proofs.Common.{◌≡◌, ℕ, ◌^◌, ◌-◌, ℤ, pos, Bool, true, false, cond, not, is_some, List, [], ◌∷◌, map, length, nat_abs, Option, Some, None, refl, sym, ap, ◌∙◌, subst}
use Rattle.std.specs.Prelude.{filter}
use Rattle.int_leaves.specs.declared.number.Number.{Number}
use Rattle.int_leaves.specs.declared.number.Number.TheVariants as numbers
use Rattle.int_leaves.specs.declared.function.Function.{Function}
use Rattle.int_leaves.specs.declared.function.Function.TheVariants as function
use Rattle.agg_terms.specs.Values.{Value, Num, Nil, Bytes, Items, Pairs, Cell, Tree, Empty, Word, list_value}
use Rattle.agg_terms.specs.Chains.{Leaf, Count, Sum, Min, Max, Retention, GroupBit, BitOp, And, Ty, Whole, Signed, Str, Arr, MapTy, Nullable, StateOf}
use Rattle.agg_terms.specs.Order.{best, of_two}
use Rattle.agg_terms.specs.Lists.{is_empty}
use Rattle.agg_meaning.specs.Functions.{unless_none, counted, total, lower, higher, the_arg, or_nothing, bit_tree, bit_value, bit_op, folded, bits_of_rows, bits_of_none, bits_in, from_bits_in, leaf_normal, leaf_meaning}
use Rattle.agg_terms.specs.Trees.{one_tree}
use Rattle.agg_meaning.specs.Results.{leaf_result, nullable_if, default}
use Rattle.agg_terms.specs.Types.{bare, any_null, may_be_null, first_type}
use Rattle.agg_meaning.specs.Feeds.{no_null}
use Rattle.agg_meaning.specs.States.{Means, IsFedBy}
use Rattle.int_leaves.specs.Words.{word_tree, word_type, none_number, word_value, KeepsWord, IsNumberFunction}
use Rattle.int_leaves.specs.Parts.{Parts, number_ty, function_leaf, function_result, held}
use Rattle.int_leaves.proofs.Parts.{keeps_same, leaf_at, number_at, result_at}
use Rattle.agg_meaning.proofs.EventLists.{mask_falses, set_back}
use Rattle.agg_meaning.specs.Events.{bools, falses, retained}
use Rattle.int_leaves.proofs.Words.{num_is, word_same, from_result, bits_result, word_from}

-- the default of a number's type
IsNumeric : Ty → Type 0
IsNumeric t = default t ≡ cond (may_be_null t) Nil (Num (pos 0))

numeric : (b : Bool) (n : Number) → default (nullable_if b (number_ty n)) ≡ cond (may_be_null (nullable_if b (number_ty n))) Nil (Num (pos 0))
numeric true numbers.U8 = refl
numeric true numbers.U16 = refl
numeric true numbers.U32 = refl
numeric true numbers.U64 = refl
numeric true numbers.I8 = refl
numeric true numbers.I16 = refl
numeric true numbers.I32 = refl
numeric true numbers.I64 = refl
numeric false numbers.U8 = refl
numeric false numbers.U16 = refl
numeric false numbers.U32 = refl
numeric false numbers.U64 = refl
numeric false numbers.I8 = refl
numeric false numbers.I16 = refl
numeric false numbers.I32 = refl
numeric false numbers.I64 = refl

bare_null : (t : Ty) → may_be_null (bare t) ≡ false
bare_null (Whole n) = refl
bare_null (Signed w) = refl
bare_null Str = refl
bare_null (Arr t) = refl
bare_null (MapTy k t) = refl
bare_null (Nullable t) = bare_null t
bare_null (StateOf c ts) = refl

null_result : (b : Bool) (t : Ty) → may_be_null (nullable_if b (bare t)) ≡ b
null_result true t = refl
null_result false t = bare_null t

none_met : (n : ℕ) → bools n 0 ≡ falses n
none_met n = ap (bools n) (sym (mask_falses n)) ∙ set_back n []

-- what is asked of the functions whose value is a number or NULL
abbrev IfNumberFunction : Leaf → Type 0 → Type 0
IfNumberFunction Retention P = Unit {0}
IfNumberFunction _ P = P

means : (f : Leaf) (ts : List Ty) (d : Value) (A : List (List Value)) (x : Option ℕ) → KeepsWord f (leaf_result f ts) → IfNumberFunction f (d ≡ cond (may_be_null (leaf_result f ts)) Nil (Num (pos 0))) →
    leaf_normal f ts A ≡ word_tree (word_type f (leaf_result f ts)) x → leaf_meaning f ts d A ≡ word_value f (leaf_result f ts) (length ts) x
means Count ts d [] None g e h = refl
means Count ts d [] (Some x) g e h = cc
means Count ts d (r ∷ A) None g e h = cc
means Count ts d (r ∷ A) (Some x) g e h = ap Num (word_same _ _ h)
means Sum ts d [] None g e h = e
means Sum ts d [] (Some x) g e h = cc
means Sum ts d (r ∷ A) None g e h = cc
means Sum ts d (r ∷ A) (Some x) g e h = ap Num (word_same _ _ h)
means Min ts d A None g e h = ap (or_nothing d) (num_is (leaf_result Min ts) _ None h) ∙ e
means Min ts d A (Some x) g e h = ap (or_nothing d) (num_is (leaf_result Min ts) _ (Some x) h)
means Max ts d A None g e h = ap (or_nothing d) (num_is (leaf_result Max ts) _ None h) ∙ e
means Max ts d A (Some x) g e h = ap (or_nothing d) (num_is (leaf_result Max ts) _ (Some x) h)
means (GroupBit op) ts d A x g e h = by (folded (bit_op op) (bits_of_rows (first_type ts) A)) x (h ∙ word_from op ts x)
  where
    t : Ty
    t = leaf_result (GroupBit op) ts

    nothing : (b : Bool) → may_be_null t ≡ b → cond b d (Num (from_bits_in (first_type ts) (bits_of_none op (bits_in (first_type ts))))) ≡ cond b Nil (Num (from_bits_in t (bits_of_none op (bits_in t))))
    nothing true q = e ∙ ap (λ b. cond b Nil (Num (pos 0))) q
    nothing false q = ap Num (ap (λ n. from_bits_in (first_type ts) (bits_of_none op n)) (sym (bits_result op ts)) ∙ sym (from_result op ts (bits_of_none op (bits_in t))))

    by : (o x : Option ℕ) → bit_tree (first_type ts) o ≡ word_tree (first_type ts) x → bit_value (first_type ts) (cond (any_null ts) d (Num (from_bits_in (first_type ts) (bits_of_none op (bits_in (first_type ts)))))) o ≡ word_value (GroupBit op) t (length ts) x
    by None None q = ap (λ b. cond b d (Num (from_bits_in (first_type ts) (bits_of_none op (bits_in (first_type ts)))))) (sym (null_result (any_null ts) (first_type ts))) ∙ nothing (may_be_null t) refl
    by None (Some x) q = cc
    by (Some a) None q = cc
    by (Some a) (Some x) q = ap Num (word_same _ _ q ∙ sym (from_result op ts x))
means Retention ts d [] None g e h = ap (λ s. list_value (retained s)) (sym (none_met (length ts)))
means Retention ts d [] (Some x) g e h = cc
means Retention ts d (r ∷ A) None g e h = cc
means Retention ts d (r ∷ A) (Some x) g e h =
    ap (λ s. list_value (retained s)) (sym (set_back (length ts) (r ∷ A)) ∙ ap (λ z. bools (length ts) (nat_abs z)) (word_same _ _ h))
means _ ts d A x g e h = absurd g

numeric_result : (w : Function) (n : Number) (b : Bool) → IfNumberFunction (function_leaf w) (default (function_result w n b) ≡ cond (may_be_null (function_result w n b)) Nil (Num (pos 0)))
numeric_result function.Count n b = refl
numeric_result function.Retention n b = tt
numeric_result function.Sum n b = numeric b n
numeric_result function.Min n b = numeric b n
numeric_result function.Max n b = numeric b n
numeric_result function.BitAnd n b = numeric b n
numeric_result function.BitOr n b = numeric b n
numeric_result function.BitXor n b = numeric b n

meant : (p : Parts) → KeepsWord (leaf_at p) (result_at p) →
    Means (held p) (word_value (leaf_at p) (result_at p) p.made.arguments p.word)
meant p k = λ f ts L g s.
    ap (λ m. word_value m.leaf m.result m.arguments p.word) s.0
    ∙ sym (means f ts (default (leaf_result f ts)) (filter no_null L) p.word
    (subst (λ m. KeepsWord m.leaf m.result) s.0 k)
    (subst (λ m. IfNumberFunction m.leaf (default m.result ≡ cond (may_be_null m.result) Nil (Num (pos 0)))) s.0 (numeric_result p.made.function p.made.number p.made.nullable))
    (sym s.1 ∙ ap (λ m. word_tree (word_type m.leaf m.result) p.word) s.0))

pub some_is : (w : Function) (n : Number) (b : Bool) (a x : ℕ) → IsNumberFunction (function_leaf w) → Num (from_bits_in (word_type (function_leaf w) (number_ty n)) x) ≡ word_value (function_leaf w) (function_result w n b) a (Some x)
some_is function.Count n b a x k = refl
some_is function.Retention n b a x k = absurd k
some_is function.Sum n true a x k = refl
some_is function.Sum n false a x k = refl
some_is function.Min n true a x k = refl
some_is function.Min n false a x k = refl
some_is function.Max n true a x k = refl
some_is function.Max n false a x k = refl
some_is function.BitAnd n true a x k = refl
some_is function.BitAnd n false a x k = refl
some_is function.BitOr n true a x k = refl
some_is function.BitOr n false a x k = refl
some_is function.BitXor n true a x k = refl
some_is function.BitXor n false a x k = refl

number_plain : (n : Number) → may_be_null (number_ty n) ≡ false
number_plain numbers.U8 = refl
number_plain numbers.U16 = refl
number_plain numbers.U32 = refl
number_plain numbers.U64 = refl
number_plain numbers.I8 = refl
number_plain numbers.I16 = refl
number_plain numbers.I32 = refl
number_plain numbers.I64 = refl

-- a NULL, where the result is Nullable, else a number
abbrev pub IsNullFunction : Function → Type 0
IsNullFunction function.Count = ⊥
IsNullFunction function.Retention = ⊥
IsNullFunction _ = Unit {0}

pub none_null : (w : Function) (n : Number) (a : ℕ) → IsNullFunction w → Nil ≡ word_value (function_leaf w) (function_result w n true) a None
none_null function.Count n a k = absurd k
none_null function.Retention n a k = absurd k
none_null function.Sum n a k = refl
none_null function.Min n a k = refl
none_null function.Max n a k = refl
none_null function.BitAnd n a k = refl
none_null function.BitOr n a k = refl
none_null function.BitXor n a k = refl

pub none_plain : (w : Function) (n : Number) (a : ℕ) → IsNullFunction w → Num (none_number (function_leaf w) (number_ty n)) ≡ word_value (function_leaf w) (function_result w n false) a None
none_plain function.Count n a k = absurd k
none_plain function.Retention n a k = absurd k
none_plain function.Sum n a k = rw (number_plain n)
none_plain function.Min n a k = rw (number_plain n)
none_plain function.Max n a k = rw (number_plain n)
none_plain function.BitAnd n a k = rw (number_plain n)
none_plain function.BitOr n a k = rw (number_plain n)
none_plain function.BitXor n a k = rw (number_plain n)

pub none_counted : (n : Number) (b : Bool) (a : ℕ) → Num (pos 0) ≡ word_value Count (function_result function.Count n b) a None
none_counted n b a = refl

pub ruleset values_of_none = (none_null, none_plain, none_counted)

no_bits : (n : Number) → pos 0 ≡ from_bits_in (number_ty n) 0
no_bits numbers.U8 = refl
no_bits numbers.U16 = refl
no_bits numbers.U32 = refl
no_bits numbers.U64 = refl
no_bits numbers.I8 = refl
no_bits numbers.I16 = refl
no_bits numbers.I32 = refl
no_bits numbers.I64 = refl

-- all but groupBitAnd begin at 0
abbrev pub IsZeroFunction : Function → Type 0
IsZeroFunction function.BitAnd = ⊥
IsZeroFunction _ = Unit {0}

pub none_zero : (w : Function) (n : Number) → IsZeroFunction w → pos 0 ≡ none_number (function_leaf w) (number_ty n)
none_zero function.Count n k = refl
none_zero function.Retention n k = refl
none_zero function.Sum n k = refl
none_zero function.Min n k = refl
none_zero function.Max n k = refl
none_zero function.BitAnd n k = absurd k
none_zero function.BitOr n k = no_bits n
none_zero function.BitXor n k = no_bits n

pub none_ones : (n : Number) → from_bits_in (number_ty n) (2 ^ bits_in (number_ty n) - 1) ≡ none_number (GroupBit And) (number_ty n)
none_ones n = refl

pub ruleset numbers_of_none = (none_zero, none_ones)

pub finished : (p s : Parts) (v : Value) → p ≡ s → KeepsWord (leaf_at p) (number_at p) → v ≡ word_value (leaf_at p) (result_at p) p.made.arguments p.word → Means (held s) v
finished p s v e k h = subst (λ z. Means (held z) v) e (subst (Means (held p)) (sym h) (meant p (keeps_same p.made.function p.made.number p.made.nullable k)))

-- whether a row reached the function
abbrev has_word : Tree → Bool
has_word Empty = false
has_word _ = true

listed_has : (A : List (List Value)) (z : ℤ) → has_word (unless_none A (Word z)) ≡ not (is_empty A)
listed_has [] z = refl
listed_has (r ∷ A) z = refl

one_has : (beats : Value → Value → Bool) (A : List (List Value)) → has_word (one_tree (best beats (map the_arg A))) ≡ not (is_empty A)
one_has beats [] = refl
one_has beats (r ∷ A) = go (of_two beats (the_arg r) (best beats (map the_arg A)))
  where
    go : (v : Value) → has_word (one_tree (Some v)) ≡ true
    go (Num n) = refl
    go Nil = refl
    go (Bytes b) = refl
    go (Items vs) = refl
    go (Pairs es) = refl
    go (Cell t) = refl

bits_has : (op : BitOp) (t : Ty) (A : List (List Value)) → has_word (bit_tree t (folded (bit_op op) (bits_of_rows t A))) ≡ not (is_empty A)
bits_has op t [] = refl
bits_has op t (r ∷ A) = refl

leaf_has : (f : Leaf) (ts : List Ty) (A : List (List Value)) → KeepsWord f (leaf_result f ts) → has_word (leaf_normal f ts A) ≡ not (is_empty A)
leaf_has Count ts A g = listed_has A (counted A)
leaf_has Sum ts A g = listed_has A (total ts A)
leaf_has Min ts A g = one_has lower A
leaf_has Max ts A g = one_has higher A
leaf_has (GroupBit op) ts A g = bits_has op (first_type ts) A
leaf_has Retention ts A g = listed_has A _
leaf_has _ ts A g = absurd g

word_has : (t : Ty) (x : Option ℕ) → has_word (word_tree t x) ≡ is_some x
word_has t None = refl
word_has t (Some b) = refl

pub fed_by : (p s : Parts) (b : Bool) → p ≡ s → KeepsWord (leaf_at p) (number_at p) → b ≡ is_some p.word → IsFedBy (held s) b
fed_by p s b e k h = subst (λ z. IsFedBy (held z) b) e (λ f ts L g.
    h ∙ sym (word_has (word_type (leaf_at p) (result_at p)) p.word)
    ∙ ap has_word g.1
    ∙ leaf_has f ts (filter no_null L) (subst (λ m. KeepsWord m.leaf m.result) g.0 (keeps_same p.made.function p.made.number p.made.nullable k)))
