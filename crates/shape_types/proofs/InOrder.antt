-- Types of shapes from left to right.
use Rattle.std.proofs.Common.{◌≡◌, refl, sym, ap, subst, ◌∙◌, ℕ, suc, List, [], ◌∷◌, ◌++◌, length, Result, Ok, Err}
use Rattle.agg_terms.specs.Chains.{Ty}
use Rattle.agg_typing.specs.Faults.{Fault, and_then}
use Rattle.chain_params.specs.Faults.{IsFault}
use Rattle.chain_params.specs.declared.fault.ChainFault.{ChainFault}
use Rattle.type_shapes.specs.Shapes.{Shape, Shapes, no_shapes, a_shape, shapes}
use Rattle.shape_types.specs.Countable.{IsCountable, AreCountable, shape_count}
use Rattle.shape_types.specs.Types.{type_of_shape, types_of_shapes}
use Rattle.shape_types.proofs.Refused.{fault_first}

abbrev Types : Type 0
Types = Result (List Ty) Fault

-- both lists of types, one behind the other
abbrev joined : Types → Types → Types
joined front back = and_then front (λ (ts : List Ty). and_then back (λ (us : List Ty). Ok (ts ++ us)))

abbrev one_before : Result Ty Fault → Types → Types
one_before first more = and_then first (λ (t : Ty). and_then more (λ (ts : List Ty). Ok (t ∷ ts)))

none_before : (r : Types) → r ≡ joined (Ok []) r
none_before (Ok ts) = refl
none_before (Err f) = refl

regrouped : (first : Result Ty Fault) (front back : Types) → one_before first (joined front back) ≡ joined (one_before first front) back
regrouped (Err f) front back = refl
regrouped (Ok t) (Err f) back = refl
regrouped (Ok t) (Ok ts) (Err f) = refl
regrouped (Ok t) (Ok ts) (Ok us) = refl

types_join : (front back : List Shape) → types_of_shapes (shapes (front ++ back)) ≡ joined (types_of_shapes (shapes front)) (types_of_shapes (shapes back))
types_join [] back = none_before (types_of_shapes (shapes back))
types_join (s ∷ front) back =
    ap (one_before (type_of_shape s)) (types_join front back) ∙ regrouped (type_of_shape s) (types_of_shapes (shapes front)) (types_of_shapes (shapes back))

-- one more is given
pub types_push : (front : List Shape) (s : Shape) (ts : List Ty) (t : Ty) → types_of_shapes (shapes front) ≡ Ok ts → type_of_shape s ≡ Ok t →
    types_of_shapes (shapes (front ++ s ∷ [])) ≡ Ok (ts ++ t ∷ [])
types_push front s ts t given one =
    types_join front (s ∷ []) ∙ ap (λ r. joined r (types_of_shapes (shapes (s ∷ [])))) given ∙ ap (λ r. joined (Ok ts) (one_before r (Ok []))) one

-- the first that is refused
pub types_refused : (front back : List Shape) (s : Shape) (ts : List Ty) (f : ChainFault) → types_of_shapes (shapes front) ≡ Ok ts → IsFault f (type_of_shape s) →
    IsFault f (types_of_shapes (shapes (front ++ s ∷ back)))
types_refused front back s ts f given refused =
    let more : Types = types_of_shapes (shapes back) in
    let first : IsFault f (one_before (type_of_shape s) more) = fault_first (type_of_shape s) (λ (t : Ty). and_then more (λ (us : List Ty). Ok (t ∷ us))) f refused in
    let both : IsFault f (joined (Ok ts) (one_before (type_of_shape s) more)) = fault_first (one_before (type_of_shape s) more) (λ (us : List Ty). Ok (ts ++ us)) f first in
    subst (IsFault f) (sym (types_join front (s ∷ back) ∙ ap (λ r. joined r (one_before (type_of_shape s) more)) given)) both

-- each is countable
pub countable_at : (front back : List Shape) (s : Shape) → AreCountable (shapes (front ++ s ∷ back)) → IsCountable s
countable_at [] back s h = h.0
countable_at (x ∷ front) back s h = countable_at front back s h.1

-- as many types as shapes
abbrev HasCount : ℕ → Types → Type 0
HasCount n (Ok ts) = length ts ≡ n
HasCount n (Err f) = Unit {0}

counted : (ss : Shapes) → HasCount (shape_count ss) (types_of_shapes ss)
counted no_shapes = refl
counted (a_shape s more) = with_one (type_of_shape s) (types_of_shapes more) (counted more)
  where
    with_one : (first : Result Ty Fault) (r : Types) → HasCount (shape_count more) r → HasCount (suc (shape_count more)) (one_before first r)
    with_one (Err f) r h = tt
    with_one (Ok t) (Err f) h = tt
    with_one (Ok t) (Ok ts) h = ap suc h

pub types_count : (ss : Shapes) (ts : List Ty) → types_of_shapes ss ≡ Ok ts → length ts ≡ shape_count ss
types_count ss ts given = subst (HasCount (shape_count ss)) given (counted ss)
