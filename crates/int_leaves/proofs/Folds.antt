-- What the functions keep, of two lists one behind the other.
use Rattle.std.proofs.Common.{◌≡◌, ℕ, ◌+◌, ◌%◌, ◌^◌, ◌<◌, ℤ, pos, negsuc, ◌+ℤ◌, nat_abs, Bool, true, false, ◌||◌, List, [], ◌∷◌, ◌++◌, map, length, length-append, Option, Some, None, refl, sym, ap, ap₂, ◌∙◌, mod-eq_of_lt, unsigned_abs}
use Rattle.std.specs.Int.{int_wrap, int_rem_euclid, cast_signed, cast_unsigned}
use Rattle.std.proofs.lemmas.Int.{int_wrap-add_left, int_wrap-add_right, of_z-to_z}
use Rattle.std.proofs.lemmas.List.{map-append}
use mir.Syntax.{w64}
use lib.IntN.{+ℤ_assoc, +ℤ_idl}
use lib.Bits.{and_lt, or_lt, xor_lt}
use native.Mathlib.Nat.{add-mod}
use Rattle.agg_terms.specs.Values.{Value, Tree, Num, Word, Tuple, values_list}
use Rattle.agg_terms.specs.Chains.{BitOp, And, Or, Xor, Ty}
use Rattle.agg_terms.specs.Order.{best, of_two}
use Rattle.agg_terms.specs.Trees.{one_tree}
use Rattle.agg_terms.specs.Types.{first_type, is_signed}
use Rattle.agg_terms.proofs.Sorting.{IsBeating, better}
use Rattle.agg_meaning.specs.Events.{either, falses}
use Rattle.agg_meaning.specs.Functions.{arg, bit_op, counted, folded, number, residue, sum_of, total, with_next, wrapped}
use Rattle.agg_meaning.proofs.BitLists.{residue_lt}

-- counts
pub counted-append : (A B : List (List Value)) → counted (A ++ B) ≡ pos ((nat_abs (counted A) + nat_abs (counted B)) % 2 ^ 64)
counted-append A B = ap (λ n. pos (n % 2 ^ 64)) (length-append A B) ∙ ap pos (add-mod (length A) (length B) (2 ^ 64))

-- sums
sum-append : (A B : List ℤ) → sum_of (A ++ B) ≡ sum_of A +ℤ sum_of B
sum-append [] B = sym (+ℤ_idl (sum_of B))
sum-append (a ∷ A) B = ap (◌+ℤ◌ a) (sum-append A B) ∙ sym (+ℤ_assoc a (sum_of A) (sum_of B))

abbrev rem : ℤ → ℤ
rem z = int_rem_euclid z (pos (2 ^ 64))

pub rem_residue : (z : ℤ) → rem z ≡ pos (residue 64 z)
rem_residue (pos n) = refl
rem_residue (negsuc n) = refl

rem_twice : (z : ℤ) → rem z ≡ rem (rem z)
rem_twice z = rem_residue z ∙ ap pos (sym (mod-eq_of_lt (residue_lt 64 z))) ∙ ap rem (sym (rem_residue z))

wrap_rem : (z : ℤ) → int_wrap w64 z ≡ int_wrap w64 (rem z)
unfolding int_wrap
wrap_rem z = ap (λ y. cast_signed w64 (unsigned_abs y)) (rem_twice z)

rem_of_wrap : (a b : ℤ) → int_wrap w64 a ≡ int_wrap w64 b → rem a ≡ rem b
unfolding int_wrap
rem_of_wrap a b e =
    rem_residue a
    ∙ ap pos (sym (of_z-to_z w64 (residue 64 a) (residue_lt 64 a)) ∙ ap (cast_unsigned w64) e ∙ of_z-to_z w64 (residue 64 b) (residue_lt 64 b))
    ∙ sym (rem_residue b)

wrap-add : (a b : ℤ) → int_wrap w64 (a +ℤ b) ≡ int_wrap w64 (int_wrap w64 a +ℤ int_wrap w64 b)
wrap-add a b = sym (int_wrap-add_left w64 a b) ∙ sym (int_wrap-add_right w64 (int_wrap w64 a) b)

wrapped-add : (s : Bool) (a b : ℤ) → wrapped s (a +ℤ b) ≡ wrapped s (wrapped s a +ℤ wrapped s b)
wrapped-add true a b = wrap-add a b
wrapped-add false a b =
    rem_of_wrap (a +ℤ b) (rem a +ℤ rem b)
    (wrap-add a b ∙ ap₂ (λ x y. int_wrap w64 (x +ℤ y)) (wrap_rem a) (wrap_rem b) ∙ sym (wrap-add (rem a) (rem b)))

pub total-append : (ts : List Ty) (A B : List (List Value)) → total ts (A ++ B) ≡ wrapped (is_signed (first_type ts)) (total ts A +ℤ total ts B)
total-append ts A B =
    ap (λ l. wrapped (is_signed (first_type ts)) (sum_of l)) (map-append (λ r. number (arg 0 r)) A B)
    ∙ ap (wrapped (is_signed (first_type ts))) (sum-append (map (λ r. number (arg 0 r)) A) (map (λ r. number (arg 0 r)) B))
    ∙ wrapped-add (is_signed (first_type ts)) (sum_of (map (λ r. number (arg 0 r)) A)) (sum_of (map (λ r. number (arg 0 r)) B))

-- the least and the greatest
abbrev one_of : Tree → Option Value
one_of (Word z) = Some (Num z)
one_of (Tuple vs) = first_of (values_list vs)
  where
    first_of : List Value → Option Value
    first_of [] = None
    first_of (v ∷ vs) = Some v
one_of _ = None

one_back : (o : Option Value) → one_of (one_tree o) ≡ o
one_back None = refl
one_back (Some (Num n)) = refl
one_back (Some v) = refl

pub one_same : (o p : Option Value) → one_tree o ≡ one_tree p → o ≡ p
one_same o p e = sym (one_back o) ∙ ap one_of e ∙ one_back p

of_three : {X : Type 0} (beats : X → X → Bool) → IsBeating beats → (x y z : X) → of_two beats x (Some (of_two beats y (Some z))) ≡ of_two beats (of_two beats x (Some y)) (Some z)
of_three beats laws x y z = go (beats y x) refl (beats z y) refl
  where
    go : (a : Bool) → beats y x ≡ a → (b : Bool) → beats z y ≡ b → of_two beats x (Some (of_two beats y (Some z))) ≡ of_two beats (of_two beats x (Some y)) (Some z)
    go true e true f = simp (e, f, laws.over x y z e f)
    go true e false f = simp (e, f)
    go false e true f = simp (e, f)
    go false e false f = simp (e, f, laws.under x y z e f)

pub best-append : {X : Type 0} (beats : X → X → Bool) → IsBeating beats → (A B : List X) → best beats (A ++ B) ≡ better beats (best beats A) (best beats B)
best-append beats laws [] B = refl
best-append beats laws (a ∷ A) B = ap (λ o. Some (of_two beats a o)) (best-append beats laws A B) ∙ go (best beats A) (best beats B)
  where
    go : (o p : Option _) → better beats (Some a) (better beats o p) ≡ better beats (better beats (Some a) o) p
    go None p = refl
    go (Some y) None = refl
    go (Some y) (Some z) = ap Some (of_three beats laws a y z)

-- bits
pub op_lt : (op : BitOp) (k a b : ℕ) → a < 2 ^ k → b < 2 ^ k → bit_op op a b < 2 ^ k
op_lt And k a b l m = and_lt k a b l m
op_lt Or k a b l m = or_lt k a b l m
op_lt Xor k a b l m = xor_lt k a b l m

abbrev pub both : (ℕ → ℕ → ℕ) → Option ℕ → Option ℕ → Option ℕ
both op None o = o
both op (Some a) o = Some (with_next op a o)

pub folded-append : (op : ℕ → ℕ → ℕ) → ((a b c : ℕ) → op (op a b) c ≡ op a (op b c)) → (A B : List ℕ) → folded op (A ++ B) ≡ both op (folded op A) (folded op B)
folded-append op h [] B = refl
folded-append op h (a ∷ A) B = ap (λ o. Some (with_next op a o)) (folded-append op h A B) ∙ go (folded op A) (folded op B)
  where
    go : (o p : Option ℕ) → Some (with_next op a (both op o p)) ≡ both op (Some (with_next op a o)) p
    go None p = refl
    go (Some b) None = refl
    go (Some b) (Some c) = ap Some (sym (h a b c))

-- conditions met
pub falses_either : (bs : List Bool) → either bs (falses (length bs)) ≡ bs
falses_either [] = refl
falses_either (b ∷ bs) = ap₂ ◌∷◌ (or_false b) (falses_either bs)
  where
    or_false : (b : Bool) → b || false ≡ b
    or_false true = refl
    or_false false = refl
