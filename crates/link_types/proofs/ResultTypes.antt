-- Defaults and NULL of the types of results.
use Rattle.std.proofs.Common.{◌≡◌, Bool, true, false, cond, List, refl}
use mir.Syntax.{w64}
use Rattle.agg_terms.specs.Chains.{Arr, Array, Chain, Distinct, ForEach, If, MapOf, MapTy, Merge, Nullable, Of, OrDefault, OrNull, Resample, Signed, State, StateOf, Str, Sum, Ty, Whole}
use Rattle.agg_terms.specs.Types.{any_null, first_type, inward, is_signed}
use Rattle.agg_terms.specs.Values.{Cell, Nil}
use Rattle.agg_meaning.specs.Results.{blank, can_be_null, default, leaf_result, nullable_if, state_type, with_null}

pub sum_takes_null : (ts : List Ty) → can_be_null (leaf_result Sum ts) ≡ true
sum_takes_null ts = go (any_null ts) (is_signed (first_type ts))
  where
    go : (b s : Bool) → can_be_null (nullable_if b (cond s (Signed w64) (Whole 64))) ≡ true
    go true s = refl
    go false true = refl
    go false false = refl

pub or_null_takes : (t : Ty) → can_be_null (with_null t) ≡ can_be_null t
or_null_takes (Whole n) = refl
or_null_takes (Signed w) = refl
or_null_takes Str = refl
or_null_takes (Arr t) = refl
or_null_takes (MapTy k t) = refl
or_null_takes (Nullable t) = refl
or_null_takes (StateOf c ts) = refl

pub or_null_default : (t : Ty) → default (with_null t) ≡ cond (can_be_null t) Nil (default t)
or_null_default (Whole n) = refl
or_null_default (Signed w) = refl
or_null_default Str = refl
or_null_default (Arr t) = refl
or_null_default (MapTy k t) = refl
or_null_default (Nullable t) = refl
or_null_default (StateOf c ts) = refl

pub state_takes : (c : Chain) (ts : List Ty) → can_be_null (state_type c ts) ≡ false
state_takes (State c) ts = state_takes c ts
state_takes (Merge c) ts = state_takes c (inward (Merge c) ts)
state_takes (Of f) ts = refl
state_takes (If c) ts = refl
state_takes (Array c) ts = refl
state_takes (MapOf c) ts = refl
state_takes (ForEach c) ts = refl
state_takes (OrNull c) ts = refl
state_takes (OrDefault c) ts = refl
state_takes (Distinct c) ts = refl
state_takes (Resample start end step c) ts = refl

pub state_default : (c : Chain) (ts : List Ty) → default (state_type c ts) ≡ Cell (blank c)
state_default (State c) ts = state_default c ts
state_default (Merge c) ts = state_default c (inward (Merge c) ts)
state_default (Of f) ts = refl
state_default (If c) ts = refl
state_default (Array c) ts = refl
state_default (MapOf c) ts = refl
state_default (ForEach c) ts = refl
state_default (OrNull c) ts = refl
state_default (OrDefault c) ts = refl
state_default (Distinct c) ts = refl
state_default (Resample start end step c) ts = refl

pub ruleset null_laws = (or_null_takes, state_takes)

pub ruleset default_laws = (or_null_default, state_default)
