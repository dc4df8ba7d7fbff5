-- Folds of bits.
use Rattle.std.proofs.Common.{◌≡◌, ℕ, suc, ◌-◌, ◌%◌, ◌^◌, ◌<◌, ℤ, pos, negsuc, Bool, true, false, List, [], ◌∷◌, ◌++◌, Option, Some, None, refl, sym, ap, ap₂, ◌∙◌, subst, arith, mod-lt, mod-eq_of_lt, pow_pos}
use Rattle.std.specs.Prelude.{bit_and, bit_or, bit_xor}
use Rattle.std.specs.Int.{cast_signed, int_wrap}
use Rattle.std.proofs.lemmas.Nat.Bits.{same_from_bits, bit_at_and, bit_at_or, bit_at_xor}
use lib.Bits.{and_lt, or_lt, xor_lt}
use mir.Val.{bits, hbits, sel}
use mir.ValLaws.{to_z-Fits}
use mir.Syntax.{Width}
use Rattle.std.proofs.Common.{ltb}
use Rattle.agg_terms.specs.Chains.{BitOp, And, Or, Xor, Ty, Whole, Signed, Str, Arr, MapTy, Nullable, StateOf}
use Rattle.agg_meaning.specs.Functions.{bits_in, residue, from_bits_in, bit_op, with_next, folded}
use Rattle.agg_terms.specs.Lists.{Each}
use Rattle.agg_meaning.specs.Feeds.{IfHere}
use Rattle.agg_terms.specs.Trees.{IsPlain}
use Rattle.agg_meaning.specs.Lawful.{IsNumber}
use Rattle.agg_terms.specs.Types.{bare}
use Rattle.agg_meaning.specs.Functions.{number}
use Rattle.agg_terms.specs.Values.{Num}
use Rattle.std.proofs.lemmas.Int.{int_wrap_fits}

or_assoc : (a b c : ℕ) → bit_or (bit_or a b) c ≡ bit_or a (bit_or b c)
or_assoc a b c = same_from_bits _ _ (λ i. omega (arith, bit_at_or (bit_or a b) c i, bit_at_or a b i, bit_at_or a (bit_or b c) i, bit_at_or b c i))

and_assoc : (a b c : ℕ) → bit_and (bit_and a b) c ≡ bit_and a (bit_and b c)
and_assoc a b c = same_from_bits _ _ (λ i. omega (arith, bit_at_and (bit_and a b) c i, bit_at_and a b i, bit_at_and a (bit_and b c) i, bit_at_and b c i))

xor_assoc : (a b c : ℕ) → bit_xor (bit_xor a b) c ≡ bit_xor a (bit_xor b c)
xor_assoc a b c = same_from_bits _ _ (λ i. omega (arith, bit_at_xor (bit_xor a b) c i, bit_at_xor a b i, bit_at_xor a (bit_xor b c) i, bit_at_xor b c i))

pub op_assoc : (op : BitOp) (a b c : ℕ) → bit_op op (bit_op op a b) c ≡ bit_op op a (bit_op op b c)
op_assoc And = and_assoc
op_assoc Or = or_assoc
op_assoc Xor = xor_assoc

op_lt : (op : BitOp) (k a b : ℕ) → a < 2 ^ k → b < 2 ^ k → bit_op op a b < 2 ^ k
op_lt And k a b l m = and_lt k a b l m
op_lt Or k a b l m = or_lt k a b l m
op_lt Xor k a b l m = xor_lt k a b l m

pub folded_lt : (op : BitOp) (k : ℕ) (ns : List ℕ) → Each (λ n. n < 2 ^ k) ns → IfHere (λ n. n < 2 ^ k) (folded (bit_op op) ns)
folded_lt op k [] h = tt
folded_lt op k (n ∷ ns) h = go (folded (bit_op op) ns) (folded_lt op k ns h.1)
  where
    go : (o : Option ℕ) → IfHere (λ n. n < 2 ^ k) o → with_next (bit_op op) n o < 2 ^ k
    go None r = h.0
    go (Some b) r = op_lt op k n b h.0 r

pub both : (ℕ → ℕ → ℕ) → Option ℕ → Option ℕ → Option ℕ
both op None o = o
both op (Some a) o = Some (with_next op a o)

folded-append : (op : ℕ → ℕ → ℕ) → ((a b c : ℕ) → op (op a b) c ≡ op a (op b c)) → (A B : List ℕ) → folded op (A ++ B) ≡ both op (folded op A) (folded op B)
unfolding both
folded-append op h [] B = refl
folded-append op h (a ∷ A) B = ap (λ o. Some (with_next op a o)) (folded-append op h A B) ∙ go (folded op A) (folded op B)
  where
    go : (o p : Option ℕ) → Some (with_next op a (both op o p)) ≡ both op (Some (with_next op a o)) p
    go None p = refl
    go (Some b) None = refl
    go (Some b) (Some c) = ap Some (sym (h a b c))

pub folded_joins : (op : BitOp) (A A' B B' : List ℕ) → folded (bit_op op) A ≡ folded (bit_op op) A' → folded (bit_op op) B ≡ folded (bit_op op) B' → folded (bit_op op) (A ++ B) ≡ folded (bit_op op) (A' ++ B')
folded_joins op A A' B B' a b = folded-append (bit_op op) (op_assoc op) A B ∙ ap₂ (both (bit_op op)) a b ∙ sym (folded-append (bit_op op) (op_assoc op) A' B')

-- bits there and back
pub residue_lt : (n : ℕ) (z : ℤ) → residue n z < 2 ^ n
residue_lt n (pos k) = mod-lt k (pow_pos n)
residue_lt n (negsuc k) = omega (arith, pow_pos n)

signed_back : (w : Width) (b : ℕ) → b < 2 ^ bits w → (s : Bool) → residue (bits w) (sel s (pos b) (negsuc (2 ^ bits w - suc b))) ≡ b
signed_back w b l true = mod-eq_of_lt l
signed_back w b l false =
    let m : 2 ^ bits w - suc b < 2 ^ bits w = omega (arith, pow_pos (bits w)) in
    let e : (2 ^ bits w - suc b) % 2 ^ bits w ≡ 2 ^ bits w - suc b = mod-eq_of_lt m in
    omega (arith, e, l)

pub bits_back : (t : Ty) (b : ℕ) → b < 2 ^ bits_in t → residue (bits_in t) (from_bits_in t b) ≡ b
bits_back (Whole n) b l = mod-eq_of_lt l
bits_back (Signed w) b l = signed_back w b l (ltb b (2 ^ hbits w))
bits_back (Nullable t) b l = bits_back t b l
bits_back Str b l = mod-eq_of_lt l
bits_back (Arr t) b l = mod-eq_of_lt l
bits_back (MapTy j t) b l = mod-eq_of_lt l
bits_back (StateOf c ts) b l = mod-eq_of_lt l

pub word_back : (t : Ty) (z : ℤ) → IsPlain (bare t) (Num z) → from_bits_in t (residue (bits_in t) z) ≡ z
unfolding int_wrap
word_back (Whole n) z k = subst (λ y. pos (residue n y) ≡ y) (sym (ap number k.1)) (ap pos (mod-eq_of_lt k.2))
word_back (Signed w) z k = subst (λ y. cast_signed w (residue (bits w) y) ≡ y) (sym (ap number k.1)) (int_wrap_fits w k.0 k.2)
word_back (Nullable t) z k = word_back t z k
word_back Str z k = grind (arith, k.1)
word_back (Arr t) z k = grind (arith, k.1)
word_back (MapTy j t) z k = grind (arith, k.1)
word_back (StateOf c ts) z k = absurd k

pub bits_plain : (t : Ty) → IsNumber (bare t) → (b : ℕ) → b < 2 ^ bits_in t → IsPlain (bare t) (Num (from_bits_in t b))
bits_plain (Whole n) s b l = (b, refl, l)
bits_plain (Signed w) s b l = (cast_signed w b, refl, to_z-Fits w b (record { fits = l }))
bits_plain (Nullable t) s b l = bits_plain t s b l
bits_plain Str s b l = absurd s
bits_plain (Arr t) s b l = absurd s
bits_plain (MapTy j t) s b l = absurd s
bits_plain (StateOf c ts) s b l = absurd s
