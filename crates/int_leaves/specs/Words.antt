-- The one word that these functions keep: its tree, what a row brings, what two words make, and what a word means.
-- A word is kept as its bits in the type of the function's numbers.
use Rattle.std.specs.Prelude.{◌≡◌, ℕ, ◌+◌, ◌%◌, ◌^◌, ℤ, pos, bit_or, cond, List, Option, Some, None}
use Rattle.std.specs.Ordering.{is_lt, is_gt, int_cmp}
use Rattle.agg_terms.specs.Chains.{Count, GroupBit, Leaf, Max, Min, Retention, Sum, Ty, Whole}
use Rattle.agg_terms.specs.Types.{may_be_null}
use Rattle.agg_terms.specs.Values.{Empty, Nil, Num, Tree, Value, Word, list_value}
use Rattle.agg_meaning.specs.Events.{bools, mask_of, mets, retained}
use Rattle.agg_meaning.specs.Functions.{arg, bit_op, bits_in, bits_of_none, from_bits_in, number, residue}

-- the tree of a word, or of none
abbrev pub word_tree : Ty → Option ℕ → Tree
word_tree t None = Empty
word_tree t (Some b) = Word (from_bits_in t b)

-- the word of a tree, or none
abbrev pub tree_word : Ty → Tree → Option ℕ
tree_word t (Word z) = Some (residue (bits_in t) z)
tree_word t _ = None

-- the type of the word of a function with this result
abbrev pub word_type : Leaf → Ty → Ty
word_type Count t = Whole 64
word_type Retention t = Whole 64
word_type _ t = t

-- what holds of a word that is there
abbrev pub IfWord : (ℕ → Type 0) → Option ℕ → Type 0
IfWord P None = Unit {0}
IfWord P (Some b) = P b

-- the functions that keep a word, and the types that they keep it in: a sum has 64 bits
abbrev pub KeepsWord : Leaf → Ty → Type 0
KeepsWord Count t = Unit {0}
KeepsWord Sum t = bits_in t ≡ 64
KeepsWord Min t = Unit {0}
KeepsWord Max t = Unit {0}
KeepsWord (GroupBit op) t = Unit {0}
KeepsWord Retention t = Unit {0}
KeepsWord _ t = ⊥

-- two words of a function made one, the second of later rows
abbrev pub joined : Leaf → Ty → ℕ → ℕ → ℕ
joined Count t x y = (x + y) % 2 ^ 64
joined Sum t x y = (x + y) % 2 ^ 64
joined Min t x y = cond (is_lt (int_cmp (from_bits_in t y) (from_bits_in t x))) y x
joined Max t x y = cond (is_gt (int_cmp (from_bits_in t y) (from_bits_in t x))) y x
joined (GroupBit op) t x y = bit_op op x y
joined Retention t x y = bit_or x y
joined _ t x y = x

-- the words of two lists of rows made one; a list of no rows has none
abbrev pub both_words : (ℕ → ℕ → ℕ) → Option ℕ → Option ℕ → Option ℕ
both_words j None y = y
both_words j (Some a) None = Some a
both_words j (Some a) (Some b) = Some (j a b)

-- the word of one row of n arguments
abbrev pub row_word : Leaf → Ty → ℕ → List Value → ℕ
row_word Count t n r = 1
row_word Retention t n r = mask_of (mets n r)
row_word _ t n r = residue (bits_in t) (number (arg 0 r))

-- the bits of a word, 0 of none
abbrev pub bits_or_none : Option ℕ → ℕ
bits_or_none None = 0
bits_or_none (Some x) = x

-- the number over no rows, in a type of numbers: all ones for groupBitAnd, else 0
abbrev pub none_number : Leaf → Ty → ℤ
none_number (GroupBit op) t = from_bits_in t (bits_of_none op (bits_in t))
none_number _ t = pos 0

-- the value that a word means for a result of this type and n arguments
abbrev pub word_value : Leaf → Ty → ℕ → Option ℕ → Value
word_value Retention t n x = list_value (retained (bools n (bits_or_none x)))
word_value f t n None = cond (may_be_null t) Nil (Num (none_number f t))
word_value Count t n (Some x) = Num (pos x)
word_value f t n (Some x) = Num (from_bits_in t x)

-- all functions but retention, whose value is a list
abbrev pub IsNumberFunction : Leaf → Type 0
IsNumberFunction Retention = ⊥
IsNumberFunction _ = Unit {0}
