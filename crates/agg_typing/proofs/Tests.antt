-- What the tests of types and counts say.
use Rattle.std.proofs.Common.{◌≡◌, refl, ℕ, ◌≤◌, nat_lt, Bool, true, false, cond, List, [], ◌∷◌, map, length, Option, Some, None, is_none, arith}
use Rattle.std.proofs.lemmas.Bool.{eqb-true, ltb-false}
use Rattle.agg_typing.proofs.Same.{both}
use Rattle.agg_typing.specs.Kinds.{Arg, each_is, holds_no_state, is_condition, is_number, is_number_or_text, is_time, leaf_types, time_and_conditions}
use Rattle.agg_typing.specs.Faults.{ArgCount, ArgType, Fault, or_else}
use Rattle.agg_terms.specs.Chains.{Chain, Leaf, Ty, Tys, a_ty, no_tys, tys_list}
use Rattle.agg_terms.specs.Lists.{Each}
use Rattle.agg_meaning.specs.Lawful.{IsCondition, IsNumber, IsTime, TakesTime, TakesTypes}
use Rattle.agg_terms.specs.Trees.{IsStateless}
use Rattle.agg_typing.specs.Legal.{is_legal_type}
use Rattle.agg_typing.specs.Counts.{greatest, leaf_greatest, leaf_least, least, takes_count}
use Rattle.agg_terms.specs.Types.{bare}
use Rattle.agg_terms.specs.Chains as C

abbrev pub types : List Arg → List Ty
types args = map (λ (a : Arg). a.1) args

abbrev pub IsLegalType : Ty → Type 0
IsLegalType t = is_legal_type t ≡ true

pub cond_none : (b : Bool) (x : Option Fault) (e : Fault) → cond b x (Some e) ≡ None → (b ≡ true) × (x ≡ None)
cond_none true x e h = (refl, h)
cond_none false x e h = cc h

pub or_none : (a b : Option Fault) → or_else a b ≡ None → (a ≡ None) × (b ≡ None)
or_none None b h = (refl, h)
or_none (Some e) b h = cc h

pub unless_none : (b : Bool) (e : Fault) (x : Option Fault) → cond b (Some e) x ≡ None → (b ≡ false) × (x ≡ None)
unless_none false e x h = (refl, h)
unless_none true e x h = cc h

pub is_none_is : (x : Option Fault) → is_none x ≡ true → x ≡ None
is_none_is None h = refl
is_none_is (Some e) h = cc h

pub in_bounds : (c : Chain) (n : ℕ) → takes_count c n ≡ None → (least c ≤ n) × (n ≤ greatest c)
in_bounds c n h =
    let low = unless_none (nat_lt n (least c)) (ArgCount (least c) n) (cond (nat_lt (greatest c) n) (Some (ArgCount (greatest c) n)) None) h in
    let high = unless_none (nat_lt (greatest c) n) (ArgCount (greatest c) n) None low.1 in
    (ltb-false n (least c) low.0, ltb-false (greatest c) n high.0)

-- what the tests of types say
pub stateless : (t : Ty) → holds_no_state t ≡ true → IsStateless t
stateless (C.Whole n) h = tt
stateless (C.Signed w) h = tt
stateless C.Str h = tt
stateless (C.Arr t) h = stateless t h
stateless (C.MapTy k t) h = let two = both (holds_no_state k) (holds_no_state t) h in (stateless k two.0, stateless t two.1)
stateless (C.Nullable t) h = stateless t h
stateless (C.StateOf c ts) h = cc h

pub plain_stateless : (t : Ty) → is_number_or_text t ≡ true → IsStateless t
plain_stateless (C.Whole n) h = tt
plain_stateless (C.Signed w) h = tt
plain_stateless C.Str h = tt
plain_stateless (C.Nullable t) h = plain_stateless t h
plain_stateless _ h = cc h

pub number_stateless : (t : Ty) → is_number t ≡ true → IsStateless t
number_stateless (C.Whole n) h = tt
number_stateless (C.Signed w) h = tt
number_stateless (C.Nullable t) h = number_stateless t h
number_stateless _ h = cc h

pub number : (t : Ty) → is_number t ≡ true → IsNumber (bare t)
number (C.Whole n) h = tt
number (C.Signed w) h = tt
number (C.Nullable t) h = number t h
number _ h = cc h

pub time : (t : Ty) → is_time t ≡ true → IsTime t
time (C.Whole n) h = tt
time (C.Nullable t) h = time t h
time _ h = cc h

pub condition : (t : Ty) → is_condition t ≡ true → IsCondition t
condition (C.Whole n) h = eqb-true n 8 h
condition (C.Nullable t) h = condition t h
condition _ h = cc h

pub each : (kind : Ty → Bool) (P : Ty → Type 0) (tells : (t : Ty) → kind t ≡ true → P t) (args : List Arg) → each_is kind args ≡ None →
    Each P (types args)
each kind P tells [] h = tt
each kind P tells (a ∷ args) h =
    let two = cond_none (kind a.1) (each_is kind args) (ArgType a.0) h in (tells a.1 two.0, each kind P tells args two.1)

pub one : (kind : Ty → Bool) (P : Ty → Type 0) (tells : (t : Ty) → kind t ≡ true → P t) (args : List Arg) → 1 ≤ length args → length args ≤ 1 →
    each_is kind args ≡ None → (t : Ty) × (types args ≡ t ∷ []) × P t
one kind P tells [] l g h = absurd (omega arith)
one kind P tells (a ∷ []) l g h = (a.1, refl, (each kind P tells (a ∷ []) h).0)
one kind P tells (a ∷ b ∷ args) l g h = absurd (omega arith)

pub pair : (args : List Arg) → 2 ≤ length args → length args ≤ 2 →
    each_is is_number_or_text args ≡ None → (t : Ty) × (u : Ty) × (types args ≡ t ∷ u ∷ []) × IsStateless t × IsStateless u
pair [] l g h = absurd (omega arith)
pair (a ∷ []) l g h = absurd (omega arith)
pair (a ∷ b ∷ []) l g h =
    let e = each is_number_or_text IsStateless plain_stateless (a ∷ b ∷ []) h in (a.1, b.1, refl, e.0, e.1.0)
pair (a ∷ b ∷ d ∷ args) l g h = absurd (omega arith)

pub timed : (args : List Arg) → 2 ≤ length args → time_and_conditions args ≡ None → TakesTime (types args)
timed [] l h = absurd (omega arith)
timed (a ∷ args) l h =
    let two = cond_none (is_time a.1) (each_is is_condition args) (ArgType a.0) h in
    (time a.1 two.0, each is_condition IsCondition condition args two.1)

pub leaf_typed : (f : Leaf) (args : List Arg) → leaf_least f ≤ length args → length args ≤ leaf_greatest f → leaf_types f args ≡ None →
    TakesTypes f (types args)
leaf_typed C.Count args l g h = tt
leaf_typed C.Sum args l g h = one is_number (λ t. IsNumber (bare t)) number args l g h
leaf_typed C.Min args l g h = one is_number_or_text IsStateless plain_stateless args l g h
leaf_typed C.Max args l g h = one is_number_or_text IsStateless plain_stateless args l g h
leaf_typed C.ArgMin args l g h = pair args l g h
leaf_typed C.ArgMax args l g h = pair args l g h
leaf_typed (C.GroupBit op) args l g h = one is_number (λ t. IsNumber (bare t)) number args l g h
leaf_typed (C.GroupArray most) args l g h = one holds_no_state IsStateless stateless args l g h
leaf_typed C.UniqExact args l g h = each holds_no_state IsStateless stateless args h
leaf_typed (C.QuantileExact level) args l g h = one is_number IsStateless number_stateless args l g h
leaf_typed (C.WindowFunnel window strict) args l g h = timed args l h
leaf_typed (C.SequenceMatch pattern) args l g h = timed args l h
leaf_typed C.Retention args l g h = each is_condition IsCondition condition args h
