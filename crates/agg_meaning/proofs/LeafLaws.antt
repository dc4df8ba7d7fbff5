-- The laws of the functions: equal normal forms mean the same, and stay equal where the same is added.
use Rattle.std.proofs.Common.{◌≡◌, ℕ, zero, suc, ◌+◌, ◌%◌, ◌^◌, ◌<◌, ℤ, pos, negsuc, unsigned_abs, ◌+ℤ◌, nat_abs, Bool, true, false, cond, ◌&&◌, List, [], ◌∷◌, ◌++◌, map, length, length-append, take, Option, Some, None, refl, sym, ap, ap₂, ◌∙◌, arith, is_none}
use Rattle.std.specs.Int.{int_wrap, int_rem_euclid, cast_signed, cast_unsigned}
use Rattle.std.proofs.lemmas.Int.{int_wrap-add_left, int_wrap-add_right, of_z-to_z}
use Rattle.std.proofs.lemmas.List.{map-append, length-map}
use mir.Syntax.{w64}
use lib.IntN.{+ℤ_assoc, +ℤ_idl}
use native.Mathlib.Bridge.{le_by_compare, IsLe}
use native.Mathlib.Nat.{add-mod, mod-lt}
use Rattle.std.specs.Prelude.{filter}
use Rattle.std.proofs.lemmas.List.Elements.{filter-append}
use Rattle.std.proofs.lemmas.Cmp.{nat_cmp_total}
use Rattle.agg_meaning.specs.Events.{event, events, is_some_mask, mask_of, met_set, either, bools, bit, funnel_level, is_matched, retained}
use Rattle.agg_terms.specs.Trees.{by_time}
use Rattle.agg_meaning.proofs.EventLists.{set_back, met_set-append, mask_falses}
use Rattle.agg_terms.specs.Values.{Event, Value, Num, Tree, Empty, Word, Tuple, Events, values_list, values_of, rows_of, list_value, values_tree, rows_tree}
use Rattle.agg_terms.specs.Chains.{Leaf, Count, Sum, Min, Max, ArgMin, ArgMax, GroupArray, UniqExact, QuantileExact, WindowFunnel, SequenceMatch, Retention, GroupBit, BitOp, Ty}
use Rattle.agg_terms.specs.Lists.{is_empty}
use Rattle.agg_terms.specs.Order.{compare, compare_rows, ascending, different, best, into_sorted, into_set}
use Rattle.agg_terms.specs.Types.{conditions, is_signed, first_type}
use Rattle.agg_meaning.specs.Functions.{arg, number, unless_none, wrapped, sum_of, total, counted, lower, higher, lower_second, higher_second, arg_val, the_arg, at_most, leaf_normal, leaf_meaning, or_nothing, option_first, quantile_place}
use Rattle.agg_terms.specs.Trees.{one_tree, pair_tree}
use Rattle.agg_meaning.specs.Functions.{residue, bits_in, bit_tree, bit_op, bit_value, folded, bits_of_rows}
use Rattle.agg_terms.specs.Lists.{Each}
use Rattle.agg_meaning.specs.Feeds.{IfHere}
use Rattle.agg_meaning.proofs.BitLists.{residue_lt, bits_back, folded_lt, folded_joins}
use Rattle.agg_meaning.specs.Lawful.{TakesSome}
use Rattle.agg_terms.proofs.Sorting.{IsRanking, IsBeating, best_joins, sorted_steady, ranking, set_steady, steady_joins, take_joins, length-ascending, into_set-filled}
use Rattle.agg_terms.proofs.Comparing.{compare_order, rows_order}
use Rattle.agg_meaning.proofs.Better.{lower_beats, higher_beats, lower_second_beats, higher_second_beats}
use Rattle.agg_terms.proofs.Lists.{values_back, table_back}

-- words
abbrev tree_empty : Tree → Bool
tree_empty Empty = true
tree_empty _ = false

abbrev tree_word : Tree → ℤ
tree_word (Word z) = z
tree_word _ = pos 0

word_empty_is : {X : Type 0} (A : List X) (a : ℤ) → tree_empty (unless_none A (Word a)) ≡ is_empty A
word_empty_is [] a = refl
word_empty_is (x ∷ A) a = refl

word_is : {X : Type 0} (v : List X → ℤ) → v [] ≡ pos 0 → (A : List X) → tree_word (unless_none A (Word (v A))) ≡ v A
word_is v z [] = sym z
word_is v z (x ∷ A) = refl

word_from_is : {X : Type 0} (A : List X) (a : ℤ) → unless_none A (Word a) ≡ cond (is_empty A) Empty (Word a)
word_from_is [] a = refl
word_from_is (x ∷ A) a = refl

empty-append : {X : Type 0} (A B : List X) → is_empty (A ++ B) ≡ is_empty A && is_empty B
empty-append [] B = refl
empty-append (x ∷ A) B = refl

pub word_empty : {X : Type 0} (v : List X → ℤ) (A B : List X) → unless_none A (Word (v A)) ≡ unless_none B (Word (v B)) → is_empty A ≡ is_empty B
word_empty v A B e = sym (word_empty_is A (v A)) ∙ ap tree_empty e ∙ word_empty_is B (v B)

pub word_same : {X : Type 0} (v : List X → ℤ) → v [] ≡ pos 0 → (A B : List X) → unless_none A (Word (v A)) ≡ unless_none B (Word (v B)) → v A ≡ v B
word_same v z A B e = sym (word_is v z A) ∙ ap tree_word e ∙ word_is v z B

word_joins : {X : Type 0} (v : List X → ℤ) → v [] ≡ pos 0 → ((A A' B B' : List X) → v A ≡ v A' → v B ≡ v B' → v (A ++ B) ≡ v (A' ++ B')) → (A A' B B' : List X) → unless_none A (Word (v A)) ≡ unless_none A' (Word (v A')) → unless_none B (Word (v B)) ≡ unless_none B' (Word (v B')) → unless_none (A ++ B) (Word (v (A ++ B))) ≡ unless_none (A' ++ B') (Word (v (A' ++ B')))
word_joins v z joins A A' B B' a b =
    word_from_is (A ++ B) (v (A ++ B))
    ∙ ap₂ (λ e w. cond e Empty (Word w))
    (empty-append A B ∙ ap₂ ◌&&◌ (word_empty v A A' a) (word_empty v B B' b) ∙ sym (empty-append A' B'))
    (joins A A' B B' (word_same v z A A' a) (word_same v z B B' b))
    ∙ sym (word_from_is (A' ++ B') (v (A' ++ B')))

-- count
counted-append : (A B : List (List Value)) → counted (A ++ B) ≡ pos ((nat_abs (counted A) + nat_abs (counted B)) % 2 ^ 64)
counted-append A B = ap (λ n. pos (n % 2 ^ 64)) (length-append A B) ∙ ap pos (add-mod (length A) (length B) (2 ^ 64))

counted_joins : (A A' B B' : List (List Value)) → counted A ≡ counted A' → counted B ≡ counted B' → counted (A ++ B) ≡ counted (A' ++ B')
counted_joins A A' B B' a b =
    counted-append A B ∙ ap₂ (λ x y. pos ((nat_abs x + nat_abs y) % 2 ^ 64)) a b ∙ sym (counted-append A' B')

-- sum
to_wrap : (s : Bool) (a b : ℤ) → wrapped s a ≡ wrapped s b → int_wrap w64 a ≡ int_wrap w64 b
unfolding int_wrap
to_wrap true a b e = e
to_wrap false a b e = ap (λ z. cast_signed w64 (unsigned_abs z)) e

residue64 : ℤ → ℕ
residue64 z = unsigned_abs (int_rem_euclid z (pos (2 ^ 64)))

residue-lt : (z : ℤ) → residue64 z < 2 ^ 64
unfolding residue64 IsLe
residue-lt (pos n) = mod-lt n (le_by_compare 1 18446744073709551616 tt)
residue-lt (negsuc n) = omega arith

residue_is : (z : ℤ) → pos (residue64 z) ≡ int_rem_euclid z (pos (2 ^ 64))
unfolding residue64
residue_is (pos n) = refl
residue_is (negsuc n) = refl

from_wrap : (s : Bool) (a b : ℤ) → int_wrap w64 a ≡ int_wrap w64 b → wrapped s a ≡ wrapped s b
unfolding int_wrap residue64
from_wrap true a b e = e
from_wrap false a b e =
    sym (residue_is a)
    ∙ ap pos (sym (of_z-to_z w64 (residue64 a) (residue-lt a)) ∙ ap (cast_unsigned w64) e ∙ of_z-to_z w64 (residue64 b) (residue-lt b))
    ∙ residue_is b

sum-append : (A B : List ℤ) → sum_of (A ++ B) ≡ sum_of A +ℤ sum_of B
sum-append [] B = sym (+ℤ_idl (sum_of B))
sum-append (a ∷ A) B = ap (◌+ℤ◌ a) (sum-append A B) ∙ sym (+ℤ_assoc a (sum_of A) (sum_of B))

wrap-add : (a b : ℤ) → int_wrap w64 (a +ℤ b) ≡ int_wrap w64 (int_wrap w64 a +ℤ int_wrap w64 b)
wrap-add a b = sym (int_wrap-add_left w64 a b) ∙ sym (int_wrap-add_right w64 (int_wrap w64 a) b)

wrapped_joins : (s : Bool) (a a' b b' : ℤ) → wrapped s a ≡ wrapped s a' → wrapped s b ≡ wrapped s b' → wrapped s (a +ℤ b) ≡ wrapped s (a' +ℤ b')
wrapped_joins s a a' b b' e f =
    from_wrap s (a +ℤ b) (a' +ℤ b')
    (wrap-add a b ∙ ap₂ (λ x y. int_wrap w64 (x +ℤ y)) (to_wrap s a a' e) (to_wrap s b b' f) ∙ sym (wrap-add a' b'))

total_joins : (ts : List Ty) (A A' B B' : List (List Value)) → total ts A ≡ total ts A' → total ts B ≡ total ts B' → total ts (A ++ B) ≡ total ts (A' ++ B')
total_joins ts A A' B B' a b = two A B ∙ wrapped_joins s (sums A) (sums A') (sums B) (sums B') a b ∙ sym (two A' B')
  where
    s : Bool
    s = is_signed (first_type ts)

    sums : List (List Value) → ℤ
    sums L = sum_of (map (λ r. number (arg 0 r)) L)

    two : (C D : List (List Value)) → total ts (C ++ D) ≡ wrapped s (sums C +ℤ sums D)
    two C D = ap (λ l. wrapped s (sum_of l)) (map-append (λ r. number (arg 0 r)) C D) ∙ ap (wrapped s) (sum-append (map (λ r. number (arg 0 r)) C) (map (λ r. number (arg 0 r)) D))

total_none : (ts : List Ty) → total ts [] ≡ pos 0
unfolding int_wrap
total_none ts = go (is_signed (first_type ts))
  where
    go : (s : Bool) → wrapped s (pos 0) ≡ pos 0
    go true = refl
    go false = refl

-- one value, or a pair
abbrev one_of : Tree → Option Value
one_of (Word z) = Some (Num z)
one_of (Tuple vs) = first_of (values_list vs)
  where
    first_of : List Value → Option Value
    first_of [] = None
    first_of (v ∷ vs) = Some v
one_of _ = None

abbrev pair_of : Tree → Option (Value × Value)
pair_of (Tuple vs) = two_of (values_list vs)
  where
    two_of : List Value → Option (Value × Value)
    two_of (v ∷ w ∷ ws) = Some (v, w)
    two_of _ = None
pair_of _ = None

one_back : (o : Option Value) → one_of (one_tree o) ≡ o
one_back None = refl
one_back (Some (Num n)) = refl
one_back (Some v) = refl

pair_back : (o : Option (Value × Value)) → pair_of (pair_tree o) ≡ o
pair_back None = refl
pair_back (Some p) = refl

one_same : (o p : Option Value) → one_tree o ≡ one_tree p → o ≡ p
one_same o p e = sym (one_back o) ∙ ap one_of e ∙ one_back p

pair_same : (o p : Option (Value × Value)) → pair_tree o ≡ pair_tree p → o ≡ p
pair_same o p e = sym (pair_back o) ∙ ap pair_of e ∙ pair_back p

listed_same : (vs ws : List Value) → values_tree vs ≡ values_tree ws → vs ≡ ws
listed_same vs ws e = sym (values_back vs) ∙ ap values_of e ∙ values_back ws

rows_same : (vs ws : List (List Value)) → rows_tree vs ≡ rows_tree ws → vs ≡ ws
rows_same vs ws e = sym (table_back vs) ∙ ap rows_of e ∙ table_back ws

best_mapped : {R X : Type 0} (beats : X → X → Bool) → IsBeating beats → (f : R → X) (A A' B B' : List R) → best beats (map f A) ≡ best beats (map f A') → best beats (map f B) ≡ best beats (map f B') → best beats (map f (A ++ B)) ≡ best beats (map f (A' ++ B'))
best_mapped beats laws f A A' B B' a b =
    ap (best beats) (map-append f A B) ∙ best_joins beats laws (map f A) (map f A') (map f B) (map f B') a b ∙ sym (ap (best beats) (map-append f A' B'))

at_most_joins : (most : Option ℕ) (A A' B B' : List Value) → at_most most A ≡ at_most most A' → at_most most B ≡ at_most most B' → at_most most (A ++ B) ≡ at_most most (A' ++ B')
at_most_joins None A A' B B' a b = ap₂ ◌++◌ a b
at_most_joins (Some n) A A' B B' a b = take_joins n A A' B B' a b

best_empty : {R X : Type 0} (beats : X → X → Bool) (f : R → X) (A B : List R) → best beats (map f A) ≡ best beats (map f B) → is_empty A ≡ is_empty B
best_empty beats f A B e = sym (one A) ∙ ap is_none e ∙ one B
  where
    one : (L : List _) → is_none (best beats (map f L)) ≡ is_empty L
    one [] = refl
    one (x ∷ L) = refl

mapped_empty : {R X : Type 0} (f : R → X) (A B : List R) → map f A ≡ map f B → is_empty A ≡ is_empty B
mapped_empty f A B e = sym (one A) ∙ ap is_empty e ∙ one B
  where
    one : (L : List _) → is_empty (map f L) ≡ is_empty L
    one [] = refl
    one (x ∷ L) = refl

taken_empty : {R X : Type 0} (n : ℕ) (f : R → X) (A B : List R) → take (suc n) (map f A) ≡ take (suc n) (map f B) → is_empty A ≡ is_empty B
taken_empty n f A B e = sym (one A) ∙ ap is_empty e ∙ one B
  where
    one : (L : List _) → is_empty (take (suc n) (map f L)) ≡ is_empty L
    one [] = refl
    one (x ∷ L) = refl

set_empty : (L : List (List Value)) → is_empty (different compare_rows L) ≡ is_empty L
set_empty [] = refl
set_empty (r ∷ L) = into_set-filled compare_rows r (different compare_rows L)

-- events
abbrev tree_events : Tree → List Event
tree_events (Events es) = es
tree_events _ = []

event_tree_empty : (A : List (List Value)) (es : List Event) → tree_empty (unless_none A (Events es)) ≡ is_empty A
event_tree_empty [] es = refl
event_tree_empty (r ∷ A) es = refl

event_tree_is : (n : ℕ) (A : List (List Value)) → tree_events (unless_none A (Events (events n A))) ≡ events n A
event_tree_is n [] = refl
event_tree_is n (r ∷ A) = refl

event_tree_from : (A : List (List Value)) (es : List Event) → unless_none A (Events es) ≡ cond (is_empty A) Empty (Events es)
event_tree_from [] es = refl
event_tree_from (r ∷ A) es = refl

events_empty : (n : ℕ) (A B : List (List Value)) → unless_none A (Events (events n A)) ≡ unless_none B (Events (events n B)) → is_empty A ≡ is_empty B
events_empty n A B e = sym (event_tree_empty A (events n A)) ∙ ap tree_empty e ∙ event_tree_empty B (events n B)

events_same : (n : ℕ) (A B : List (List Value)) → unless_none A (Events (events n A)) ≡ unless_none B (Events (events n B)) → events n A ≡ events n B
events_same n A B e = sym (event_tree_is n A) ∙ ap tree_events e ∙ event_tree_is n B

pub time_ranking : IsRanking by_time
time_ranking = record {
  flip = λ x y. nat_cmp_total.antisymm x.time y.time;
  trans = λ x y z. nat_cmp_total.trans x.time y.time z.time;
  level = λ x y z. nat_cmp_total.congr x.time y.time z.time;
}

events_joins : (n : ℕ) (A A' B B' : List (List Value)) → events n A ≡ events n A' → events n B ≡ events n B' → events n (A ++ B) ≡ events n (A' ++ B')
events_joins n A A' B B' a b =
    ap (ascending by_time) (two A B)
    ∙ steady_joins (into_sorted by_time) (sorted_steady by_time time_ranking) (some_of A) (some_of A') (some_of B) (some_of B') a b
    ∙ sym (ap (ascending by_time) (two A' B'))
  where
    some_of : List (List Value) → List Event
    some_of L = filter is_some_mask (map (event n) L)

    two : (C D : List (List Value)) → some_of (C ++ D) ≡ some_of C ++ some_of D
    two C D = ap (filter is_some_mask) (map-append (event n) C D) ∙ filter-append is_some_mask (map (event n) C) (map (event n) D)

event_tree_joins : (n : ℕ) (A A' B B' : List (List Value)) → unless_none A (Events (events n A)) ≡ unless_none A' (Events (events n A')) → unless_none B (Events (events n B)) ≡ unless_none B' (Events (events n B')) → unless_none (A ++ B) (Events (events n (A ++ B))) ≡ unless_none (A' ++ B') (Events (events n (A' ++ B')))
event_tree_joins n A A' B B' a b =
    event_tree_from (A ++ B) (events n (A ++ B))
    ∙ ap₂ (λ e es. cond e Empty (Events es))
    (empty-append A B ∙ ap₂ ◌&&◌ (events_empty n A A' a) (events_empty n B B' b) ∙ sym (empty-append A' B'))
    (events_joins n A A' B B' (events_same n A A' a) (events_same n B B' b))
    ∙ sym (event_tree_from (A' ++ B') (events n (A' ++ B')))

-- retention
abbrev mask_word : ℕ → List (List Value) → ℤ
mask_word n L = pos (mask_of (met_set n L))

set_same : (n : ℕ) (A B : List (List Value)) → mask_word n A ≡ mask_word n B → met_set n A ≡ met_set n B
set_same n A B e = sym (set_back n A) ∙ ap (λ z. bools n (nat_abs z)) e ∙ set_back n B

mask_joins : (n : ℕ) (A A' B B' : List (List Value)) → mask_word n A ≡ mask_word n A' → mask_word n B ≡ mask_word n B' → mask_word n (A ++ B) ≡ mask_word n (A' ++ B')
mask_joins n A A' B B' a b =
    ap (λ s. pos (mask_of s))
    (met_set-append n A B ∙ ap₂ either (set_same n A A' a) (set_same n B B' b) ∙ sym (met_set-append n A' B'))

-- bits
bit_of : Ty → Tree → Option ℕ
bit_of t (Word z) = Some (residue (bits_in t) z)
bit_of t _ = None

pub rows_bits_lt : (t : Ty) (L : List (List Value)) → Each (λ n. n < 2 ^ bits_in t) (bits_of_rows t L)
rows_bits_lt t [] = tt
rows_bits_lt t (r ∷ L) = (residue_lt (bits_in t) (number (arg 0 r)), rows_bits_lt t L)

bit_back : (t : Ty) (o : Option ℕ) → IfHere (λ n. n < 2 ^ bits_in t) o → bit_of t (bit_tree t o) ≡ o
unfolding bit_of
bit_back t None h = refl
bit_back t (Some b) h = ap Some (bits_back t b h)

bits_same : (op : BitOp) (t : Ty) (A B : List (List Value)) → bit_tree t (folded (bit_op op) (bits_of_rows t A)) ≡ bit_tree t (folded (bit_op op) (bits_of_rows t B)) → folded (bit_op op) (bits_of_rows t A) ≡ folded (bit_op op) (bits_of_rows t B)
bits_same op t A B e =
    sym (bit_back t (folded (bit_op op) (bits_of_rows t A)) (folded_lt op (bits_in t) (bits_of_rows t A) (rows_bits_lt t A)))
    ∙ ap (bit_of t) e
    ∙ bit_back t (folded (bit_op op) (bits_of_rows t B)) (folded_lt op (bits_in t) (bits_of_rows t B) (rows_bits_lt t B))

bits_join : (op : BitOp) (t : Ty) (A A' B B' : List (List Value)) → folded (bit_op op) (bits_of_rows t A) ≡ folded (bit_op op) (bits_of_rows t A') → folded (bit_op op) (bits_of_rows t B) ≡ folded (bit_op op) (bits_of_rows t B') → folded (bit_op op) (bits_of_rows t (A ++ B)) ≡ folded (bit_op op) (bits_of_rows t (A' ++ B'))
bits_join op t A A' B B' a b =
    ap (folded (bit_op op)) (map-append (λ r. residue (bits_in t) (number (arg 0 r))) A B)
    ∙ folded_joins op (bits_of_rows t A) (bits_of_rows t A') (bits_of_rows t B) (bits_of_rows t B') a b
    ∙ sym (ap (folded (bit_op op)) (map-append (λ r. residue (bits_in t) (number (arg 0 r))) A' B'))

folded_empty : (op : BitOp) (t : Ty) (A B : List (List Value)) → folded (bit_op op) (bits_of_rows t A) ≡ folded (bit_op op) (bits_of_rows t B) → is_empty A ≡ is_empty B
folded_empty op t A B e = sym (one A) ∙ ap is_none e ∙ one B
  where
    one : (L : List (List Value)) → is_none (folded (bit_op op) (bits_of_rows t L)) ≡ is_empty L
    one [] = refl
    one (r ∷ L) = refl

-- equal normal forms stay equal where equal ones are added
pub leaf_joins : (f : Leaf) (ts : List Ty) (A A' B B' : List (List Value)) → leaf_normal f ts A ≡ leaf_normal f ts A' → leaf_normal f ts B ≡ leaf_normal f ts B' → leaf_normal f ts (A ++ B) ≡ leaf_normal f ts (A' ++ B')
leaf_joins Count ts A A' B B' a b = word_joins counted refl counted_joins A A' B B' a b
leaf_joins Sum ts A A' B B' a b = word_joins (total ts) (total_none ts) (total_joins ts) A A' B B' a b
leaf_joins Min ts A A' B B' a b = ap one_tree (best_mapped lower lower_beats the_arg A A' B B' (one_same _ _ a) (one_same _ _ b))
leaf_joins Max ts A A' B B' a b = ap one_tree (best_mapped higher higher_beats the_arg A A' B B' (one_same _ _ a) (one_same _ _ b))
leaf_joins ArgMin ts A A' B B' a b = ap pair_tree (best_mapped lower_second lower_second_beats arg_val A A' B B' (pair_same _ _ a) (pair_same _ _ b))
leaf_joins ArgMax ts A A' B B' a b = ap pair_tree (best_mapped higher_second higher_second_beats arg_val A A' B B' (pair_same _ _ a) (pair_same _ _ b))
leaf_joins (GroupArray most) ts A A' B B' a b =
    ap values_tree
    (ap (at_most most) (map-append the_arg A B)
    ∙ at_most_joins most (map the_arg A) (map the_arg A') (map the_arg B) (map the_arg B') (listed_same _ _ a) (listed_same _ _ b)
    ∙ sym (ap (at_most most) (map-append the_arg A' B')))
leaf_joins UniqExact ts A A' B B' a b =
    ap rows_tree (steady_joins (into_set compare_rows) (set_steady compare_rows rows_order) A A' B B' (rows_same _ _ a) (rows_same _ _ b))
leaf_joins (QuantileExact level) ts A A' B B' a b =
    ap values_tree
    (ap (ascending compare) (map-append the_arg A B)
    ∙ steady_joins (into_sorted compare) (sorted_steady compare (ranking compare compare_order)) (map the_arg A) (map the_arg A') (map the_arg B) (map the_arg B') (listed_same _ _ a) (listed_same _ _ b)
    ∙ sym (ap (ascending compare) (map-append the_arg A' B')))
leaf_joins (WindowFunnel window strict) ts A A' B B' a b = event_tree_joins (conditions ts) A A' B B' a b
leaf_joins (SequenceMatch pattern) ts A A' B B' a b = event_tree_joins (conditions ts) A A' B B' a b
leaf_joins Retention ts A A' B B' a b = word_joins (mask_word (length ts)) (ap pos (mask_falses (length ts))) (mask_joins (length ts)) A A' B B' a b
leaf_joins (GroupBit op) ts A A' B B' a b = ap (bit_tree (first_type ts)) (bits_join op (first_type ts) A A' B B' (bits_same op (first_type ts) A A' a) (bits_same op (first_type ts) B B' b))

-- equal normal forms mean the same
same_length : (A B : List (List Value)) → ascending compare (map the_arg A) ≡ ascending compare (map the_arg B) → length A ≡ length B
same_length A B e = sym (one A) ∙ ap length e ∙ one B
  where
    one : (L : List (List Value)) → length (ascending compare (map the_arg L)) ≡ length L
    one L = length-ascending compare (map the_arg L) ∙ length-map L the_arg

abbrev is_zero : ℕ → Bool
is_zero zero = true
is_zero (suc n) = false

empty_by_length : {X : Type 0} (A : List X) → is_empty A ≡ is_zero (length A)
empty_by_length [] = refl
empty_by_length (x ∷ A) = refl

pub leaf_sound : (f : Leaf) (ts : List Ty) (nothing : Value) (A B : List (List Value)) → leaf_normal f ts A ≡ leaf_normal f ts B → leaf_meaning f ts nothing A ≡ leaf_meaning f ts nothing B
leaf_sound Count ts d A B e = ap Num (word_same counted refl A B e)
leaf_sound Sum ts d A B e = ap₂ (λ b w. cond b d (Num w)) (word_empty (total ts) A B e) (word_same (total ts) (total_none ts) A B e)
leaf_sound Min ts d A B e = ap (or_nothing d) (one_same _ _ e)
leaf_sound Max ts d A B e = ap (or_nothing d) (one_same _ _ e)
leaf_sound ArgMin ts d A B e = ap (λ o. or_nothing d (option_first o)) (pair_same _ _ e)
leaf_sound ArgMax ts d A B e = ap (λ o. or_nothing d (option_first o)) (pair_same _ _ e)
leaf_sound (GroupArray most) ts d A B e = ap list_value (listed_same _ _ e)
leaf_sound UniqExact ts d A B e = ap (λ rs. Num (pos (length rs % 2 ^ 64))) (rows_same _ _ e)
leaf_sound (QuantileExact level) ts d A B e =
    let n : length A ≡ length B = same_length A B (listed_same _ _ e) in
    let b : is_empty A ≡ is_empty B = empty_by_length A ∙ ap is_zero n ∙ sym (empty_by_length B) in
    ap₂ (λ x y. cond x d y) b (ap₂ (λ k vs. arg (quantile_place level k) vs) n (listed_same _ _ e))
leaf_sound (WindowFunnel window strict) ts d A B e = ap (λ es. Num (pos (funnel_level window strict es))) (events_same (conditions ts) A B e)
leaf_sound (SequenceMatch pattern) ts d A B e = ap (λ es. Num (pos (bit (is_matched pattern es)))) (events_same (conditions ts) A B e)
leaf_sound Retention ts d A B e =
    ap (λ s. list_value (retained s)) (set_same (length ts) A B (word_same (mask_word (length ts)) (ap pos (mask_falses (length ts))) A B e))
leaf_sound (GroupBit op) ts d A B e = ap (bit_value (first_type ts) _) (bits_same op (first_type ts) A B e)

-- and are of something alike
pub leaf_fed : (f : Leaf) (ts : List Ty) → TakesSome f → (A B : List (List Value)) → leaf_normal f ts A ≡ leaf_normal f ts B → is_empty A ≡ is_empty B
leaf_fed Count ts k A B e = word_empty counted A B e
leaf_fed Sum ts k A B e = word_empty (total ts) A B e
leaf_fed Min ts k A B e = best_empty lower the_arg A B (one_same _ _ e)
leaf_fed Max ts k A B e = best_empty higher the_arg A B (one_same _ _ e)
leaf_fed ArgMin ts k A B e = best_empty lower_second arg_val A B (pair_same _ _ e)
leaf_fed ArgMax ts k A B e = best_empty higher_second arg_val A B (pair_same _ _ e)
leaf_fed (GroupArray None) ts k A B e = mapped_empty the_arg A B (listed_same _ _ e)
leaf_fed (GroupArray (Some zero)) ts k A B e = absurd k
leaf_fed (GroupArray (Some (suc n))) ts k A B e = taken_empty n the_arg A B (listed_same _ _ e)
leaf_fed UniqExact ts k A B e = sym (set_empty A) ∙ ap is_empty (rows_same _ _ e) ∙ set_empty B
leaf_fed (QuantileExact level) ts k A B e =
    empty_by_length A ∙ ap is_zero (same_length A B (listed_same _ _ e)) ∙ sym (empty_by_length B)
leaf_fed (WindowFunnel window strict) ts k A B e = events_empty (conditions ts) A B e
leaf_fed (SequenceMatch pattern) ts k A B e = events_empty (conditions ts) A B e
leaf_fed Retention ts k A B e = word_empty (mask_word (length ts)) A B e
leaf_fed (GroupBit op) ts k A B e = folded_empty op (first_type ts) A B (bits_same op (first_type ts) A B e)
