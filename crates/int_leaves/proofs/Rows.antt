-- A live row of a function of numbers has a number of its type.
use Rattle.std.proofs.Common.{◌≡◌, ℤ, pos, Bool, true, false, List, [], ◌∷◌, inl, inr, refl, sym, ap, ◌∙◌, subst, true≢false}
use Rattle.int_leaves.specs.declared.number.Number.{Number}
use Rattle.int_leaves.specs.declared.number.Number.TheVariants as numbers
use Rattle.int_leaves.specs.declared.function.Function.{Function}
use Rattle.int_leaves.specs.declared.function.Function.TheVariants as function
use Rattle.agg_terms.specs.Values.{Value, Num, is_null}
use Rattle.agg_terms.specs.Chains.{Leaf, Count, Sum, Min, Max, GroupBit, Retention, ArgMin, ArgMax, GroupArray, UniqExact, QuantileExact, WindowFunnel, SequenceMatch, And, Ty, Whole, Signed, Str, Arr, MapTy, Nullable, StateOf}
use Rattle.agg_meaning.specs.Functions.{arg, number, bits_in, from_bits_in, residue}
use Rattle.agg_meaning.specs.Feeds.{no_null, AreValues, IsLeafFeed}
use Rattle.agg_terms.specs.Types.{bare, any_null, first_type}
use Rattle.agg_meaning.specs.Results.{nullable_if, leaf_result}
use Rattle.agg_meaning.specs.Lawful.{IsNumber, TakesTypes}
use Rattle.agg_terms.specs.Trees.{IsPlain, IsValue}
use Rattle.agg_meaning.proofs.BitLists.{word_back}
use Rattle.agg_meaning.specs.States.{made_for}
use Rattle.int_leaves.specs.Parts.{Parts, number_ty, function_leaf, function_result, held}
use Rattle.int_leaves.proofs.Words.{IsNumberRow, bits_result, from_result}

number_is : (b : Bool) (n : Number) → IsNumber (bare (nullable_if b (number_ty n)))
number_is true numbers.U8 = tt
number_is true numbers.U16 = tt
number_is true numbers.U32 = tt
number_is true numbers.U64 = tt
number_is true numbers.I8 = tt
number_is true numbers.I16 = tt
number_is true numbers.I32 = tt
number_is true numbers.I64 = tt
number_is false numbers.U8 = tt
number_is false numbers.U16 = tt
number_is false numbers.U32 = tt
number_is false numbers.U64 = tt
number_is false numbers.I8 = tt
number_is false numbers.I16 = tt
number_is false numbers.I32 = tt
number_is false numbers.I64 = tt

abbrev IsExtreme : Leaf → Type 0
IsExtreme Min = Unit {0}
IsExtreme Max = Unit {0}
IsExtreme _ = ⊥

extreme_is : (w : Function) (b : Bool) (n : Number) → IsExtreme (function_leaf w) → IsNumber (bare (function_result w n b))
extreme_is function.Count b n k = absurd k
extreme_is function.Sum b n k = absurd k
extreme_is function.Min b n k = number_is b n
extreme_is function.Max b n k = number_is b n
extreme_is function.BitAnd b n k = absurd k
extreme_is function.BitOr b n k = absurd k
extreme_is function.BitXor b n k = absurd k
extreme_is function.Retention b n k = absurd k

bare_bare : (t : Ty) → bare (bare t) ≡ bare t
bare_bare (Whole n) = refl
bare_bare (Signed w) = refl
bare_bare Str = refl
bare_bare (Arr t) = refl
bare_bare (MapTy k t) = refl
bare_bare (Nullable t) = bare_bare t
bare_bare (StateOf c ts) = refl

bare_result : (b : Bool) (t : Ty) → bare (nullable_if b (bare t)) ≡ bare t
bare_result true t = bare_bare t
bare_result false t = bare_bare t

value_number : (t : Ty) → IsNumber (bare t) → (v : Value) → IsValue t v → is_null v ≡ false → (z : ℤ) × (v ≡ Num z) × IsPlain (bare t) (Num z)
value_number (Whole n) s v k e = (pos k.0, k.1, (k.0, refl, k.2))
value_number (Signed w) s v k e = (k.0, k.1, (k.0, refl, k.2))
value_number (Nullable t) s v (inl k) e = absurd (true≢false (sym (ap is_null k) ∙ e))
value_number (Nullable t) s v (inr k) e = value_number t s v k e
value_number Str s v k e = absurd s
value_number (Arr t) s v k e = absurd s
value_number (MapTy i t) s v k e = absurd s
value_number (StateOf c ts) s v k e = absurd s

live_first : (v : Value) (r : List Value) → no_null (v ∷ r) ≡ true → is_null v ≡ false
live_first v r e = go (is_null v) refl
  where
    go : (b : Bool) → is_null v ≡ b → is_null v ≡ false
    go true h = absurd (true≢false (sym e ∙ rw h))
    go false h = h

number_of_row : (t : Ty) (b : Bool) → IsNumber (bare t) → (r : List Value) → AreValues (t ∷ []) r → no_null r ≡ true →
    (arg 0 r ≡ Num (number (arg 0 r))) × (from_bits_in t (residue (bits_in t) (number (arg 0 r))) ≡ number (arg 0 r))
number_of_row t b s [] k e = absurd k
number_of_row t b s (v ∷ r) k e =
    let h : (z : ℤ) × (v ≡ Num z) × IsPlain (bare t) (Num z) = value_number t s v k.0 (live_first v r e) in
    (h.1 ∙ ap (λ w. Num (number w)) (sym h.1), subst (λ w. from_bits_in t (residue (bits_in t) (number w)) ≡ number w) (sym h.1) (word_back t h.0 h.2))

at_result : (ts : List Ty) (r : List Value) → (arg 0 r ≡ Num (number (arg 0 r))) × (from_bits_in (first_type ts) (residue (bits_in (first_type ts)) (number (arg 0 r))) ≡ number (arg 0 r)) → IsNumberRow Min (leaf_result Min ts) r
at_result ts r h =
    (h.0, from_result And ts (residue (bits_in (leaf_result Min ts)) (number (arg 0 r))) ∙ ap (λ n. from_bits_in (first_type ts) (residue n (number (arg 0 r)))) (bits_result And ts) ∙ h.1)

extreme_row : (p : Parts) (f : Leaf) (ts : List Ty) (r : List Value) → IsExtreme f → (held p).made ≡ made_for f ts → leaf_result f ts ≡ leaf_result Min ts → (t : Ty) → ts ≡ t ∷ [] → AreValues ts r → no_null r ≡ true → IsNumberRow Min (leaf_result Min ts) r
extreme_row p f ts r x e m t g k n =
    at_result ts r
    (subst (λ us. (arg 0 r ≡ Num (number (arg 0 r))) × (from_bits_in (first_type us) (residue (bits_in (first_type us)) (number (arg 0 r))) ≡ number (arg 0 r))) (sym g)
    (number_of_row t true
    (subst IsNumber (ap bare (ap (λ h. h.result) e ∙ m) ∙ bare_result (any_null ts) (first_type ts) ∙ ap (λ us. bare (first_type us)) g)
    (extreme_is p.made.function p.made.nullable p.made.number (subst IsExtreme (sym (ap (λ h. h.leaf) e)) x)))
    r (subst (λ us. AreValues us r) g k) n))

pub number_row : (p : Parts) (f : Leaf) (ts : List Ty) (r : List Value) → (held p).made ≡ made_for f ts → TakesTypes f ts → IsLeafFeed f ts r → no_null r ≡ true → IsNumberRow f (leaf_result f ts) r
number_row p Min ts r e g k n = extreme_row p Min ts r tt e refl g.0 g.1 k n
number_row p Max ts r e g k n = extreme_row p Max ts r tt e refl g.0 g.1 k n
number_row p Count ts r e g k n = tt
number_row p Sum ts r e g k n = tt
number_row p ArgMin ts r e g k n = tt
number_row p ArgMax ts r e g k n = tt
number_row p (GroupArray m) ts r e g k n = tt
number_row p UniqExact ts r e g k n = tt
number_row p (QuantileExact l) ts r e g k n = tt
number_row p (WindowFunnel w s) ts r e g k n = tt
number_row p (SequenceMatch q) ts r e g k n = tt
number_row p Retention ts r e g k n = tt
number_row p (GroupBit o) ts r e g k n = tt
