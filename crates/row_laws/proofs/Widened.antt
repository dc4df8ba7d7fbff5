-- A value of a narrow type is one of the type with 64 bits, and a key of -Resample where it is a number.
use Rattle.std.proofs.Common.{◌≡◌, inl, inr, sym, subst, ℕ, ◌<◌, ◌≤◌, ◌^◌, ℤ, pos, negsuc, true, List, [], ◌∷◌, map, FitsSigned, arith}
use Rattle.std.proofs.lemmas.Int.{ints}
use Rattle.std.proofs.lemmas.Bool.{eqb-true}
use lib.Pow.{pow_mono}
use mir.Syntax.{Width, w8, w16, w32, w64, w128}
use mir.Val.{hbits}
use Rattle.agg_terms.specs.Chains.{Arr, MapTy, Nullable, Signed, StateOf, Str, Ty, Whole}
use Rattle.agg_terms.specs.Lists.{Each}
use Rattle.agg_terms.specs.Trees.{IsValue}
use Rattle.agg_terms.specs.Values.{Value}
use Rattle.agg_meaning.specs.Feeds.{AreValues, IfHere, IsKey, as_condition, as_key, widened, widened_first}
use Rattle.agg_typing.specs.Kinds.{is_condition, is_number}
use Rattle.agg_terms.specs.Widths.{IsNarrow}

half : (w : Width) → IsNarrow (Signed w) → hbits w ≤ 63
half w8 n = omega arith
half w16 n = omega arith
half w32 n = omega arith
half w64 n = omega arith
half w128 n = absurd n

signed_wider : (w : Width) (z : ℤ) → IsNarrow (Signed w) → FitsSigned w z → FitsSigned w64 z
signed_wider w z n f = let below : 2 ^ hbits w ≤ 2 ^ 63 = pow_mono (half w n) in record { sfits = omega (arith, f.sfits, below) }

whole_wider : (n k : ℕ) → n ≤ 64 → k < 2 ^ n → k < 2 ^ 64
whole_wider n k l h = let below : 2 ^ n ≤ 2 ^ 64 = pow_mono l in omega (arith, h, below)

pub wider : (t : Ty) (v : Value) → IsNarrow t → IsValue t v → IsValue (widened t) v
wider (Whole n) v l k = (k.0, k.1, whole_wider n k.0 l k.2)
wider (Signed w) v l k = (k.0, k.1, signed_wider w k.0 l k.2)
wider (Nullable t) v l (inl e) = inl e
wider (Nullable t) v l (inr k) = inr (wider t v l k)
wider Str v l k = k
wider (Arr t) v l k = k
wider (MapTy j t) v l k = k
wider (StateOf c ts) v l k = k

pub all_wider : (ts : List Ty) (r : List Value) → Each IsNarrow ts → AreValues ts r → AreValues (map widened ts) r
all_wider [] [] n k = tt
all_wider [] (v ∷ vs) n k = absurd k
all_wider (t ∷ ts) [] n k = absurd k
all_wider (t ∷ ts) (v ∷ vs) n k = (wider t v n.0 k.0, all_wider ts vs n.1 k.1)

pub first_wider : (ts : List Ty) (r : List Value) → Each IsNarrow ts → AreValues ts r → AreValues (widened_first ts) r
first_wider [] [] n k = tt
first_wider [] (v ∷ vs) n k = absurd k
first_wider (t ∷ ts) [] n k = absurd k
first_wider (t ∷ ts) (v ∷ vs) n k = (wider t v n.0 k.0, k.1)

-- a condition is a number of eight bits, or NULL
abbrev pub IsMet : Value → Type 0
IsMet v = IfHere (λ n. n < 2 ^ 8) (as_condition v)

pub condition_met : (t : Ty) (v : Value) → is_condition t ≡ true → IsNarrow t → IsValue t v → IsMet v
condition_met (Whole n) v h l k =
    let eight : n ≡ 8 = eqb-true n 8 h in
    subst IsMet (sym k.1) (subst (λ m. k.0 < 2 ^ m) eight k.2)
condition_met (Nullable t) v h l (inl e) = subst IsMet (sym e) tt
condition_met (Nullable t) v h l (inr k) = condition_met t v h l k
condition_met (Signed w) v h l k = cc h
condition_met Str v h l k = cc h
condition_met (Arr t) v h l k = cc h
condition_met (MapTy j t) v h l k = cc h
condition_met (StateOf c ts) v h l k = cc h

-- a key is a number between the least of Int64 and the greatest of UInt64, or NULL
abbrev pub HasKey : Value → Type 0
HasKey v = IfHere IsKey (as_key v)

whole_key : (n k : ℕ) → n ≤ 64 → k < 2 ^ n → IsKey (pos k)
whole_key n k l h = let small : k < 2 ^ 64 = whole_wider n k l h in (omega (arith, ints), omega (arith, ints, small))

signed_key : (w : Width) (z : ℤ) → IsNarrow (Signed w) → FitsSigned w z → IsKey z
signed_key w (pos k) n f = let h : k < 2 ^ 63 = (signed_wider w (pos k) n f).sfits in (omega (arith, ints), omega (arith, ints, h))
signed_key w (negsuc k) n f = let h : k < 2 ^ 63 = (signed_wider w (negsuc k) n f).sfits in (omega (arith, ints, h), omega (arith, ints))

pub number_key : (t : Ty) (v : Value) → is_number t ≡ true → IsNarrow t → IsValue t v → HasKey v
number_key (Whole n) v h l k = subst HasKey (sym k.1) (whole_key n k.0 l k.2)
number_key (Signed w) v h l k = subst HasKey (sym k.1) (signed_key w k.0 l k.2)
number_key (Nullable t) v h l (inl e) = subst HasKey (sym e) tt
number_key (Nullable t) v h l (inr k) = number_key t v h l k
number_key Str v h l k = cc h
number_key (Arr t) v h l k = cc h
number_key (MapTy j t) v h l k = cc h
number_key (StateOf c ts) v h l k = cc h
