-- The types of results and states of a legal chain are legal.
use Rattle.std.proofs.Common.{◌≡◌, refl, ap, sym, ◌∙◌, subst, Bool, true, false, cond, not, ◌&&◌, List, [], ◌∷◌, None}
use mir.Syntax.{w64}
use Rattle.agg_terms.specs.Chains.{Chain, Leaf, Ty, Tys, no_tys, a_ty, tys, tys_list}
use Rattle.agg_terms.specs.Chains as C
use Rattle.agg_terms.specs.Lists.{Each, numbered}
use Rattle.agg_terms.specs.Types.{bare, any_null, first_type, is_signed, inward, key_type}
use Rattle.agg_meaning.specs.Results.{nullable_if, leaf_result, with_null, result, state_type}
use Rattle.agg_typing.specs.Kinds.{Arg, arg_types, each_is, is_map, is_number, is_number_or_text, leaf_types, with_parts}
use Rattle.agg_terms.specs.Types.{map_part}
use Rattle.agg_typing.specs.States.{is_state_or_merge}
use Rattle.agg_typing.specs.Legal.{is_legal, is_basic, is_legal_type, all_legal, are_legal_types}
use Rattle.agg_typing.specs.Promises.{IsLegalCall}
use Rattle.agg_typing.proofs.Same.{both}
use Rattle.agg_typing.proofs.Tests.{types, IsLegalType, or_none, each}
use Rattle.agg_typing.proofs.Reaching.{types-numbered, legal-tys_list}
use Rattle.agg_typing.proofs.Inward.{Passes, legal_passes, inner_is_legal}

basic_legal : (t : Ty) → is_basic t ≡ true → is_legal_type t ≡ true
basic_legal (C.Whole n) h = refl
basic_legal (C.Signed w) h = refl
basic_legal C.Str h = refl
basic_legal (C.Arr t) h = cc h
basic_legal (C.MapTy k t) h = cc h
basic_legal (C.Nullable t) h = cc h
basic_legal (C.StateOf c ts) h = cc h

basic_bare : (t : Ty) → is_basic t ≡ true → bare t ≡ t
basic_bare (C.Whole n) h = refl
basic_bare (C.Signed w) h = refl
basic_bare C.Str h = refl
basic_bare (C.Arr t) h = refl
basic_bare (C.MapTy k t) h = refl
basic_bare (C.Nullable t) h = cc h
basic_bare (C.StateOf c ts) h = refl

-- a type without Nullable
legal_bare : (t : Ty) → is_legal_type t ≡ true → is_legal_type (bare t) ≡ true
legal_bare (C.Whole n) h = refl
legal_bare (C.Signed w) h = refl
legal_bare C.Str h = refl
legal_bare (C.Arr t) h = h
legal_bare (C.MapTy k t) h = h
legal_bare (C.Nullable t) h = ap is_legal_type (basic_bare t h) ∙ basic_legal t h
legal_bare (C.StateOf c ts) h = h

basic_number : (t : Ty) → is_number t ≡ true → is_basic (bare t) ≡ true
basic_number (C.Whole n) h = refl
basic_number (C.Signed w) h = refl
basic_number (C.Nullable t) h = basic_number t h
basic_number _ h = cc h

basic_text : (t : Ty) → is_number_or_text t ≡ true → is_basic (bare t) ≡ true
basic_text C.Str h = refl
basic_text (C.Whole n) h = refl
basic_text (C.Signed w) h = refl
basic_text (C.Nullable t) h = basic_text t h
basic_text _ h = cc h

maybe_null : (b : Bool) (t : Ty) → is_basic t ≡ true → is_legal_type (nullable_if b t) ≡ true
maybe_null true t h = h
maybe_null false t h = basic_legal t h

-- the first type is of a kind where all are
abbrev IsBasicBare : Ty → Type 0
IsBasicBare t = is_basic (bare t) ≡ true

first : (P : Ty → Type 0) (args : List Arg) → P C.Str → Each P (types args) → P (first_type (types args))
first P [] s e = s
first P (a ∷ args) s e = e.0

leaf_legal : (f : Leaf) (args : List Arg) → leaf_types f args ≡ None → Each IsLegalType (types args) →
    is_legal_type (leaf_result f (types args)) ≡ true
leaf_legal C.Count args h l = refl
leaf_legal C.Sum args h l = sum_legal (is_signed (first_type (types args)))
  where
    sum_legal : (b : Bool) → is_legal_type (nullable_if (any_null (types args)) (cond b (C.Signed w64) (C.Whole 64))) ≡ true
    sum_legal true = maybe_null (any_null (types args)) (C.Signed w64) refl
    sum_legal false = maybe_null (any_null (types args)) (C.Whole 64) refl
leaf_legal C.Min args h l =
    maybe_null (any_null (types args)) (bare (first_type (types args))) (first IsBasicBare args refl (each is_number_or_text IsBasicBare basic_text args h))
leaf_legal C.Max args h l =
    maybe_null (any_null (types args)) (bare (first_type (types args))) (first IsBasicBare args refl (each is_number_or_text IsBasicBare basic_text args h))
leaf_legal C.ArgMin args h l =
    maybe_null (any_null (types args)) (bare (first_type (types args))) (first IsBasicBare args refl (each is_number_or_text IsBasicBare basic_text args h))
leaf_legal C.ArgMax args h l =
    maybe_null (any_null (types args)) (bare (first_type (types args))) (first IsBasicBare args refl (each is_number_or_text IsBasicBare basic_text args h))
leaf_legal (C.GroupBit op) args h l =
    maybe_null (any_null (types args)) (bare (first_type (types args))) (first IsBasicBare args refl (each is_number IsBasicBare basic_number args h))
leaf_legal (C.GroupArray most) args h l = legal_bare (first_type (types args)) (first IsLegalType args refl l)
leaf_legal C.UniqExact args h l = refl
leaf_legal (C.QuantileExact at) args h l =
    maybe_null (any_null (types args)) (bare (first_type (types args))) (first IsBasicBare args refl (each is_number IsBasicBare basic_number args h))
leaf_legal (C.WindowFunnel window strict) args h l = refl
leaf_legal (C.SequenceMatch pattern) args h l = refl
leaf_legal C.Retention args h l = refl

with_null_legal : (t : Ty) → is_legal_type t ≡ true → is_legal_type (with_null t) ≡ true
with_null_legal (C.Whole n) h = refl
with_null_legal (C.Signed w) h = refl
with_null_legal C.Str h = refl
with_null_legal (C.Arr t) h = h
with_null_legal (C.MapTy k t) h = h
with_null_legal (C.Nullable t) h = h
with_null_legal (C.StateOf c ts) h = h

-- a list of types and back
pub tys_list-tys : (ts : List Ty) → tys_list (tys ts) ≡ ts
tys_list-tys [] = refl
tys_list-tys (t ∷ ts) = ap (λ us. t ∷ us) (tys_list-tys ts)

pub tys-tys_list : (ts : Tys) → tys (tys_list ts) ≡ ts
tys-tys_list no_tys = refl
tys-tys_list (a_ty t ts) = ap (a_ty t) (tys-tys_list ts)

legal_tys : (ts : List Ty) → are_legal_types ts ≡ true → all_legal (tys ts) ≡ true
legal_tys [] h = refl
legal_tys (t ∷ ts) h = let two = both (is_legal_type t) (are_legal_types ts) h in rw (two.0, legal_tys ts two.1)

-- the state type of a chain that is no State and no Merge
pub state_of_legal : (c : Chain) (ts : List Ty) → not (is_state_or_merge c) ≡ true → IsLegalCall c ts → is_legal_type (C.StateOf c (tys ts)) ≡ true
state_of_legal c ts outer l =
    let whole : is_legal c (tys_list (tys ts)) ≡ true = subst (λ (us : List Ty). is_legal c us ≡ true) (sym (tys_list-tys ts)) l.0 in
    rw (whole, outer, legal_tys ts l.1)

pub state_type_legal : (c : Chain) (ts : List Ty) → IsLegalCall c ts → is_legal_type (state_type c ts) ≡ true
state_type_legal (C.State c) ts l = state_type_legal c ts (inner_is_legal (C.State c) c ts refl l)
state_type_legal (C.Merge c) ts l = state_type_legal c (inward (C.Merge c) ts) (inner_is_legal (C.Merge c) c ts refl l)
state_type_legal (C.Of f) ts l = state_of_legal (C.Of f) ts refl l
state_type_legal (C.If c) ts l = state_of_legal (C.If c) ts refl l
state_type_legal (C.Array c) ts l = state_of_legal (C.Array c) ts refl l
state_type_legal (C.MapOf c) ts l = state_of_legal (C.MapOf c) ts refl l
state_type_legal (C.ForEach c) ts l = state_of_legal (C.ForEach c) ts refl l
state_type_legal (C.OrNull c) ts l = state_of_legal (C.OrNull c) ts refl l
state_type_legal (C.OrDefault c) ts l = state_of_legal (C.OrDefault c) ts refl l
state_type_legal (C.Distinct c) ts l = state_of_legal (C.Distinct c) ts refl l
state_type_legal (C.Resample start end step c) ts l = state_of_legal (C.Resample start end step c) ts refl l

key_basic : (t : Ty) → is_map t ≡ true → is_legal_type t ≡ true → is_basic (key_type t) ≡ true
key_basic (C.MapTy k t) h l = (both (is_basic k) (is_legal_type t) l).0
key_basic _ h l = cc h

keys_basic : (args : List Arg) → each_is is_map args ≡ None → Each IsLegalType (types args) → is_basic (key_type (first_type (types args))) ≡ true
keys_basic [] h l = refl
keys_basic (a ∷ args) h l = key_basic a.1 (each is_map (λ (t : Ty). is_map t ≡ true) (λ t k. k) (a ∷ args) h).0 l.0

pub result_legal : (c : Chain) (ts : List Ty) → IsLegalCall c ts → is_legal_type (result c ts) ≡ true
result_legal (C.Of f) ts l =
    let p : Passes (C.Of f) (numbered 1 ts) = legal_passes (C.Of f) ts l in
    subst (λ (us : List Ty). is_legal_type (leaf_result f us) ≡ true) (types-numbered 1 ts) (leaf_legal f (numbered 1 ts) p.types_ok p.legal_ok)
result_legal (C.If c) ts l = result_legal c (inward (C.If c) ts) (inner_is_legal (C.If c) c ts refl l)
result_legal (C.Array c) ts l = result_legal c (inward (C.Array c) ts) (inner_is_legal (C.Array c) c ts refl l)
result_legal (C.MapOf c) ts l =
    let p : Passes (C.MapOf c) (numbered 1 ts) = legal_passes (C.MapOf c) ts l in
    let t = or_none (each_is is_map (numbered 1 ts)) (arg_types c (with_parts map_part (numbered 1 ts))) p.types_ok in
    let key : is_basic (key_type (first_type ts)) ≡ true =
    subst (λ (us : List Ty). is_basic (key_type (first_type us)) ≡ true) (types-numbered 1 ts) (keys_basic (numbered 1 ts) t.0 p.legal_ok) in
    rw (key, result_legal c (inward (C.MapOf c) ts) (inner_is_legal (C.MapOf c) c ts refl l))
result_legal (C.ForEach c) ts l = result_legal c (inward (C.ForEach c) ts) (inner_is_legal (C.ForEach c) c ts refl l)
result_legal (C.OrNull c) ts l = with_null_legal (result c ts) (result_legal c ts (inner_is_legal (C.OrNull c) c ts refl l))
result_legal (C.OrDefault c) ts l = result_legal c ts (inner_is_legal (C.OrDefault c) c ts refl l)
result_legal (C.Distinct c) ts l = result_legal c ts (inner_is_legal (C.Distinct c) c ts refl l)
result_legal (C.State c) ts l = state_type_legal c ts (inner_is_legal (C.State c) c ts refl l)
result_legal (C.Merge c) ts l = result_legal c (inward (C.Merge c) ts) (inner_is_legal (C.Merge c) c ts refl l)
result_legal (C.Resample start end step c) ts l =
    result_legal c (inward (C.Resample start end step c) ts) (inner_is_legal (C.Resample start end step c) c ts refl l)

-- a legal state type is that of its own chain and types
same_state : (c : Chain) (ts : Tys) → not (is_state_or_merge c) ≡ true → state_type c (tys_list ts) ≡ C.StateOf c ts
same_state (C.State c) ts h = cc h
same_state (C.Merge c) ts h = cc h
same_state (C.Of f) ts h = ap (C.StateOf (C.Of f)) (tys-tys_list ts)
same_state (C.If c) ts h = ap (C.StateOf (C.If c)) (tys-tys_list ts)
same_state (C.Array c) ts h = ap (C.StateOf (C.Array c)) (tys-tys_list ts)
same_state (C.MapOf c) ts h = ap (C.StateOf (C.MapOf c)) (tys-tys_list ts)
same_state (C.ForEach c) ts h = ap (C.StateOf (C.ForEach c)) (tys-tys_list ts)
same_state (C.OrNull c) ts h = ap (C.StateOf (C.OrNull c)) (tys-tys_list ts)
same_state (C.OrDefault c) ts h = ap (C.StateOf (C.OrDefault c)) (tys-tys_list ts)
same_state (C.Distinct c) ts h = ap (C.StateOf (C.Distinct c)) (tys-tys_list ts)
same_state (C.Resample start end step c) ts h = ap (C.StateOf (C.Resample start end step c)) (tys-tys_list ts)

pub state_type_is_of_legal : (c : Chain) (ts : Tys) → is_legal_type (C.StateOf c ts) ≡ true →
    IsLegalCall c (tys_list ts) × (state_type c (tys_list ts) ≡ C.StateOf c ts)
state_type_is_of_legal c ts h =
    let a = both (is_legal c (tys_list ts)) (not (is_state_or_merge c) && all_legal ts) h in
    let b = both (not (is_state_or_merge c)) (all_legal ts) a.1 in
    ((a.0, legal-tys_list ts b.1), same_state c ts b.0)
