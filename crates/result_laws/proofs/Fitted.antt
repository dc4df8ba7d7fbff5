-- Values of types: plain ones, defaults, and what stands in for no value.
use Rattle.std.proofs.Common.{refl, inl, inr, ◌<◌, ◌^◌, pos, Bool, true, false, cond, Option, Some, None, [], pow_pos, rules, arith}
use Rattle.std.specs.Prelude.{FitsSigned}
use mir.Syntax.{Width}
use Rattle.agg_terms.specs.Chains.{Arr, MapTy, Nullable, Signed, StateOf, Str, Ty, Whole, tys_list}
use Rattle.agg_terms.specs.Trees.{IsPlain, IsValue}
use Rattle.agg_terms.specs.Values.{Nil, Value}
use Rattle.agg_meaning.specs.Events.{bit, flag}
use Rattle.agg_meaning.specs.Feeds.{IfHere}
use Rattle.agg_meaning.specs.Functions.{option_first, or_nothing}
use Rattle.agg_meaning.specs.Results.{blank, can_be_null, default, nullable_if, with_null}
use Rattle.agg_meaning.proofs.LeafFormed.{blank_tree}
use Rattle.agg_meaning.proofs.LeafTrees.{each_weaker}

-- a plain value is a value
pub plain_value : (t : Ty) (v : Value) → IsPlain t v → IsValue t v
plain_value (Whole n) v k = k
plain_value (Signed w) v k = k
plain_value Str v k = k
plain_value (Arr t) v k = (k.0, k.1, each_weaker (IsPlain t) (IsValue t) (plain_value t) k.0 k.2)
plain_value (MapTy j t) v k =
    (k.0, k.1, each_weaker (λ e. IsPlain j e.0 × IsPlain t e.1) (λ e. IsPlain j e.0 × IsValue t e.1) (λ e h. (h.0, plain_value t e.1 h.1)) k.0 k.2)
plain_value (Nullable t) v (inl e) = inl e
plain_value (Nullable t) v (inr k) = inr (plain_value t v k)
plain_value (StateOf c ts) v k = absurd k

zero_fits : (w : Width) → FitsSigned w (pos 0)
zero_fits w = search (rules, arith)

-- the default of a type is a value of it
pub default_value : (t : Ty) → IsValue t (default t)
default_value (Whole n) = (0, refl, pow_pos n)
default_value (Signed w) = (pos 0, refl, zero_fits w)
default_value Str = ([], refl, tt)
default_value (Arr t) = ([], refl, tt)
default_value (MapTy j t) = ([], refl, tt)
default_value (Nullable t) = inl refl
default_value (StateOf c ts) = (blank c, refl, blank_tree c (tys_list ts))

-- a value of a type is one of the Nullable type
pub nullable_value : (b : Bool) (t : Ty) (v : Value) → IsValue t v → IsValue (nullable_if b t) v
nullable_value true t v k = inr k
nullable_value false t v k = k

-- 1 and 0 are numbers of eight bits
pub flag_value : (b : Bool) → IsValue (Whole 8) (flag b)
flag_value b = (bit b, refl, small b)
  where
    small : (b : Bool) → bit b < 2 ^ 8
    small true = omega arith
    small false = omega arith

-- what holds of both of two values
pub of_both : (P : Value → Type 0) (b : Bool) (v w : Value) → P v → P w → P (cond b v w)
of_both P true v w k h = k
of_both P false v w k h = h

-- a value, or what stands for none
pub or_none : (P : Value → Type 0) (nothing : Value) (o : Option Value) → P nothing → IfHere P o → P (or_nothing nothing o)
or_none P nothing None k h = k
or_none P nothing (Some v) k h = h

pub first_or_none : (P : Value → Type 0) (nothing : Value) (o : Option (Value × Value)) → P nothing → IfHere (λ p. P p.0) o → P (or_nothing nothing (option_first o))
first_or_none P nothing None k h = k
first_or_none P nothing (Some p) k h = h

-- NULL where a type can be given it
pub null_value : (t : Ty) (fed : Bool) (v : Value) → IsValue t v → IsValue (with_null t) (cond fed v (cond (can_be_null t) Nil v))
null_value (Whole n) true v k = inr k
null_value (Whole n) false v k = inl refl
null_value (Signed w) true v k = inr k
null_value (Signed w) false v k = inl refl
null_value Str true v k = inr k
null_value Str false v k = inl refl
null_value (Nullable t) true v k = k
null_value (Nullable t) false v k = inl refl
null_value (Arr t) fed v k = of_both (IsValue (Arr t)) fed v v k k
null_value (MapTy j t) fed v k = of_both (IsValue (MapTy j t)) fed v v k k
null_value (StateOf c ts) fed v k = of_both (IsValue (StateOf c ts)) fed v v k k
