-- A list of types, there and back, and the parts of a state type.
use Rattle.std.proofs.Common.{◌≡◌, refl, true, ap, sym, ◌∙◌, subst, List, [], ◌∷◌, map}
use Rattle.agg_terms.specs.Chains as terms
use Rattle.agg_meaning.specs.Results.{state_type}
use Rattle.agg_typing.specs.Legal.{is_legal_type}
use Rattle.agg_typing.specs.Promises.{IsLegalCall}
use Rattle.agg_terms.specs.Types.{inward}
use Rattle.agg_typing.proofs.Results.{state_type_is_of_legal, state_type_legal}
use Rattle.agg_defs.specs.Parts.{Parts, IsTypedCall, is_state_type, IsStateType}
use Rattle.value_types.specs.declared.chain.Chain.{Chain}
use Rattle.value_types.specs.declared.ty.Ty.{Ty}
use Rattle.value_types.specs.declared.ty.Ty.TheOpen.{Ty-F}
use Rattle.value_types.specs.declared.ty.Ty.TheFolds.{fold-roll-Ty}
use Rattle.value_types.specs.declared.ty.Ty.TheVariants.{State, rolls-State}
use Rattle.value_types.specs.Folds.{chain_of, ty_of, ty_step}

pub tys_back : (ts : List terms.Ty) → terms.tys_list (terms.tys ts) ≡ ts
tys_back [] = refl
tys_back (t ∷ ts) = ap (λ us. t ∷ us) (tys_back ts)

pub state_is : (c : Chain) (ts : List Ty) → ty_of (State c ts) ≡ terms.StateOf (chain_of c) (terms.tys (map ty_of ts))
state_is c ts = ap ty_of (sym (rolls-State c ts)) ∙ fold-roll-Ty terms.Ty ty_step (Ty-F.State c ts)

-- copies of the parts of a legal state type are a legal chain over legal types, and its state type is that type
pub record IsMadeOf (t : Ty) (c : Chain) (ts : List Ty) : Type 0 where
  pub legal : IsLegalCall (chain_of c) (map ty_of ts)
  pub state : ty_of t ≡ state_type (chain_of c) (map ty_of ts)

pub state_parts : (t : Ty) (c d : Chain) (ts us : List Ty) → t ≡ State c ts → d ≡ c → us ≡ ts → is_legal_type (ty_of t) ≡ true → IsMadeOf t d us
state_parts t c d ts us e f g h =
    let image : List terms.Ty = map ty_of ts in
    let whole : ty_of t ≡ terms.StateOf (chain_of c) (terms.tys image) = ap ty_of e ∙ state_is c ts in
    let legal : is_legal_type (terms.StateOf (chain_of c) (terms.tys image)) ≡ true = subst (λ (z : terms.Ty). is_legal_type z ≡ true) whole h in
    let r = state_type_is_of_legal (chain_of c) (terms.tys image) legal in
    let same : terms.tys_list (terms.tys image) ≡ image = tys_back image in
    let parts : IsLegalCall (chain_of c) image = subst (IsLegalCall (chain_of c)) same r.0 in
    let state : state_type (chain_of c) image ≡ terms.StateOf (chain_of c) (terms.tys image) =
    subst (λ (zs : List terms.Ty). state_type (chain_of c) zs ≡ terms.StateOf (chain_of c) (terms.tys image)) same r.1 in
    let here : IsMadeOf t c ts = record { legal = parts; state = whole ∙ sym state } in
    subst (λ (zs : List Ty). IsMadeOf t d zs) (sym g) (subst (λ (z : Chain). IsMadeOf t z ts) (sym f) here)

-- the states of every chain have a state type
is_state : (c : terms.Chain) (ts : List terms.Ty) → is_state_type (state_type c ts) ≡ true
is_state (terms.State c) ts = is_state c ts
is_state (terms.Merge c) ts = is_state c (inward (terms.Merge c) ts)
is_state (terms.Of f) ts = refl
is_state (terms.If c) ts = refl
is_state (terms.Array c) ts = refl
is_state (terms.MapOf c) ts = refl
is_state (terms.ForEach c) ts = refl
is_state (terms.OrNull c) ts = refl
is_state (terms.OrDefault c) ts = refl
is_state (terms.Distinct c) ts = refl
is_state (terms.Resample start end step c) ts = refl

pub typed_state : (p : Parts) → IsTypedCall p → IsStateType p.state_type
typed_state p i = record {
  of_states = ap is_state_type i.state_is ∙ is_state (chain_of p.chain) (map ty_of p.args);
  legal = ap is_legal_type i.state_is ∙ state_type_legal (chain_of p.chain) (map ty_of p.args) i.legal;
}
