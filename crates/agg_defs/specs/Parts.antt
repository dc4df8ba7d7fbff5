-- What a legal chain with its types is to its callers.
use Rattle.std.specs.Prelude.{◌≡◌, true, Bool, false, List, map, refl}
use Rattle.std.specs.Coded.{Coded, code_by, coded×, coded_list}
use Rattle.agg_terms.specs.Chains as terms
use Rattle.agg_meaning.specs.Results as meaning
use Rattle.agg_typing.specs.Legal.{is_legal_type}
use Rattle.agg_typing.specs.Promises.{IsLegalCall}
use Rattle.value_types.specs.declared.chain.Chain.{Chain}
use Rattle.value_types.specs.declared.ty.Ty.{Ty}
use Rattle.value_types.specs.contracts.chain.Chain as chain
use Rattle.value_types.specs.contracts.ty.Ty as ty
use Rattle.value_types.specs.Folds.{chain_of, ty_of}

-- a chain with the types of its arguments, of its result and of its states
pub record Parts : Type 0 where
  pub chain : Chain
  pub args : List Ty
  pub result : Ty
  pub state_type : Ty

-- stored as the tuple of its fields
abbrev pub parts_code : Coded Parts
parts_code =
    code_by (Chain × (List Ty × (Ty × Ty)))
    (coded× chain.the_row.coded (coded× (coded_list ty.the_row.coded) (coded× ty.the_row.coded ty.the_row.coded)))
    (λ p. (p.chain, (p.args, (p.result, p.state_type))))
    (λ q. record { chain = q.0; args = q.1.0; result = q.1.1.0; state_type = q.1.1.1 })
    (λ _. refl)

-- the typing definitions give these four: the chain is legal over legal types, and two types follow
pub record IsTypedCall (p : Parts) : Type 0 where
  pub legal : IsLegalCall (chain_of p.chain) (map ty_of p.args)
  pub result_is : ty_of p.result ≡ meaning.result (chain_of p.chain) (map ty_of p.args)
  pub state_is : ty_of p.state_type ≡ meaning.state_type (chain_of p.chain) (map ty_of p.args)

-- whether a type is one of states
abbrev pub is_state_type : terms.Ty → Bool
is_state_type (terms.StateOf c ts) = true
is_state_type _ = false

-- the type of the states of a legal chain over legal types
pub record IsStateType (t : Ty) : Type 0 where
  pub of_states : is_state_type (ty_of t) ≡ true
  pub legal : is_legal_type (ty_of t) ≡ true
