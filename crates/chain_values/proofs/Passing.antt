-- The values of the links that only pass rows on, and those of -OrNull and -OrDefault, from those of the chain inside.
use Rattle.std.proofs.Common.{◌≡◌, ℕ, ℤ, Bool, true, false, cond, List, refl, sym, ap, ap₂, ◌∙◌, subst, Result, Ok, Err}
use Rattle.std.specs.Result.{IfOk}
use Rattle.agg_terms.specs.Chains.{Array, Chain, Distinct, ForEach, If, MapOf, Merge, OrDefault, OrNull, Resample, State, Ty}
use Rattle.agg_terms.specs.Types.{inward}
use Rattle.agg_terms.specs.Values.{Cell, Nil, Tree, Value}
use Rattle.agg_meaning.specs.Results.{can_be_null, default, result}
use Rattle.agg_meaning.specs.States.{IsFedChain, MeansChain}
use Rattle.agg_meaning.specs.Suffixes.{fed, meaning}
use Rattle.agg_meaning.proofs.Suffixed.{array_fed, array_means, if_fed, if_means, merge_fed, merge_means, state_means}
use Rattle.agg_typing.specs.Promises.{IsLegalCall}
use Rattle.agg_typing.proofs.Inward.{inner_is_legal}
use Rattle.link_types.specs.Links.{inner_types}
use Rattle.value_types.specs.declared.value.Value.{Value as Valued}
use Rattle.value_types.specs.Folds.{value_of}

pub if_ok : {A E : Type 0} {P Q : A → Type 0} (r : Result A E) → ((a : A) → P a → Q a) → IfOk r P → IfOk r Q
if_ok (Ok x) h k = h x k
if_ok (Err e) h k = k

-- the chain inside is legal over the types handed inward
module _ (c : Chain) (ts us : List Ty) where
  pub legal_if : us ≡ inward (If c) ts → IsLegalCall (If c) ts → IsLegalCall c us
  legal_if e l = subst (IsLegalCall c) (sym e) (inner_is_legal (If c) c ts refl l)

  pub legal_array : us ≡ inward (Array c) ts → IsLegalCall (Array c) ts → IsLegalCall c us
  legal_array e l = subst (IsLegalCall c) (sym e) (inner_is_legal (Array c) c ts refl l)

  pub legal_merge : us ≡ inward (Merge c) ts → IsLegalCall (Merge c) ts → IsLegalCall c us
  legal_merge e l = subst (IsLegalCall c) (sym e) (inner_is_legal (Merge c) c ts refl l)

  pub legal_for_each : us ≡ inward (ForEach c) ts → IsLegalCall (ForEach c) ts → IsLegalCall c us
  legal_for_each e l = subst (IsLegalCall c) (sym e) (inner_is_legal (ForEach c) c ts refl l)

  pub legal_map : us ≡ inward (MapOf c) ts → IsLegalCall (MapOf c) ts → IsLegalCall c us
  legal_map e l = subst (IsLegalCall c) (sym e) (inner_is_legal (MapOf c) c ts refl l)

  pub legal_resample : (start end : ℤ) (step : ℕ) → us ≡ inward (Resample start end step c) ts → IsLegalCall (Resample start end step c) ts → IsLegalCall c us
  legal_resample start end step e l = subst (IsLegalCall c) (sym e) (inner_is_legal (Resample start end step c) c ts refl l)

module _ (c : Chain) (ts : List Ty) where
  pub legal_or_null : IsLegalCall (OrNull c) ts → IsLegalCall c ts
  legal_or_null l = inner_is_legal (OrNull c) c ts refl l

  pub legal_or_default : IsLegalCall (OrDefault c) ts → IsLegalCall c ts
  legal_or_default l = inner_is_legal (OrDefault c) c ts refl l

  pub legal_state : IsLegalCall (State c) ts → IsLegalCall c ts
  legal_state l = inner_is_legal (State c) c ts refl l

  pub legal_distinct : IsLegalCall (Distinct c) ts → IsLegalCall c ts
  legal_distinct l = inner_is_legal (Distinct c) c ts refl l

-- the links that only pass rows on
module _ {E : Type 0} (c : Chain) (ts us : List Ty) (t : Tree) (r : Result Valued E) where
  pub value_if : us ≡ inward (If c) ts → IfOk r (λ v. MeansChain c us t (value_of v)) → IfOk r (λ v. MeansChain (If c) ts t (value_of v))
  value_if e h = if_ok r (λ v a. if_means c ts t (value_of v) (subst (λ y. MeansChain c y t (value_of v)) e a)) h

  pub value_array : us ≡ inward (Array c) ts → IfOk r (λ v. MeansChain c us t (value_of v)) → IfOk r (λ v. MeansChain (Array c) ts t (value_of v))
  value_array e h = if_ok r (λ v a. array_means c ts t (value_of v) (subst (λ y. MeansChain c y t (value_of v)) e a)) h

  pub value_merge : us ≡ inward (Merge c) ts → IfOk r (λ v. MeansChain c us t (value_of v)) → IfOk r (λ v. MeansChain (Merge c) ts t (value_of v))
  value_merge e h = if_ok r (λ v a. merge_means c ts t (value_of v) (subst (λ y. MeansChain c y t (value_of v)) e a)) h

pub value_state : (c : Chain) (ts : List Ty) (t u : Tree) (x : Value) → u ≡ t → x ≡ Cell u → MeansChain (State c) ts t x
value_state c ts t u x e g = subst (MeansChain (State c) ts t) (sym (g ∙ ap Cell e)) (state_means c ts t)

module _ {E : Type 0} (c : Chain) (ts us : List Ty) (t : Tree) (r : Result Bool E) where
  pub fed_if : us ≡ inward (If c) ts → IfOk r (λ b. IsFedChain c us t b) → IfOk r (λ b. IsFedChain (If c) ts t b)
  fed_if e h = if_ok r (λ b a. if_fed c ts t b (subst (λ y. IsFedChain c y t b) e a)) h

  pub fed_array : us ≡ inward (Array c) ts → IfOk r (λ b. IsFedChain c us t b) → IfOk r (λ b. IsFedChain (Array c) ts t b)
  fed_array e h = if_ok r (λ b a. array_fed c ts t b (subst (λ y. IsFedChain c y t b) e a)) h

  pub fed_merge : us ≡ inward (Merge c) ts → IfOk r (λ b. IsFedChain c us t b) → IfOk r (λ b. IsFedChain (Merge c) ts t b)
  fed_merge e h = if_ok r (λ b a. merge_fed c ts t b (subst (λ y. IsFedChain c y t b) e a)) h

  pub fed_or_null : IfOk r (λ b. IsFedChain c ts t b) → IfOk r (λ b. IsFedChain (OrNull c) ts t b)
  fed_or_null h = if_ok r (λ b a. λ L l k m. a L l k m) h

  pub fed_or_default : IfOk r (λ b. IsFedChain c ts t b) → IfOk r (λ b. IsFedChain (OrDefault c) ts t b)
  fed_or_default h = if_ok r (λ b a. λ L l k m. a L l k m) h

  pub fed_state : IfOk r (λ b. IsFedChain c ts t b) → IfOk r (λ b. IsFedChain (State c) ts t b)
  fed_state h = if_ok r (λ b a. λ L l k m. a L l k m) h

-- -OrNull and -OrDefault
module _ (c : Chain) (ts : List Ty) (t : Tree) (b : Bool) (f : IsFedChain c ts t b) where
  pub null_value : (n : Bool) (x : Value) → n ≡ can_be_null (result c ts) → b ≡ false → n ≡ true → x ≡ Nil → MeansChain (OrNull c) ts t x
  null_value n x e g h i = λ L l k m. i ∙ sym (ap₂ (λ y z. cond y (meaning c ts L) (cond z Nil (meaning c ts L))) (sym (f L l k m) ∙ g) (sym e ∙ h))

  pub fed_value : (x : Value) → MeansChain c ts t x → b ≡ true → MeansChain (OrNull c) ts t x
  fed_value x a g = λ L l k m. a L l k m ∙ sym (ap (λ y. cond y (meaning c ts L) (cond (can_be_null (result c ts)) Nil (meaning c ts L))) (sym (f L l k m) ∙ g))

  pub bare_value : (n : Bool) (x : Value) → MeansChain c ts t x → n ≡ can_be_null (result c ts) → n ≡ false → MeansChain (OrNull c) ts t x
  bare_value n x a e h = λ L l k m. a L l k m ∙ go (fed c ts L) (meaning c ts L) ∙ sym (ap (λ z. cond (fed c ts L) (meaning c ts L) (cond z Nil (meaning c ts L))) (sym e ∙ h))
    where
      go : (y : Bool) (v : Value) → v ≡ cond y v (cond false Nil v)
      go true v = refl
      go false v = refl

  pub default_value : (x : Value) → x ≡ default (result c ts) → b ≡ false → MeansChain (OrDefault c) ts t x
  default_value x e g = λ L l k m. e ∙ sym (ap (λ y. cond y (meaning c ts L) (default (result c ts))) (sym (f L l k m) ∙ g))

  pub reached_value : (x : Value) → MeansChain c ts t x → b ≡ true → MeansChain (OrDefault c) ts t x
  reached_value x a g = λ L l k m. a L l k m ∙ sym (ap (λ y. cond y (meaning c ts L) (default (result c ts))) (sym (f L l k m) ∙ g))

-- the same of an answer
module _ {E : Type 0} (c : Chain) (ts : List Ty) (t : Tree) (b : Bool) (f : IsFedChain c ts t b) (r : Result Valued E) where
  pub fed_values : b ≡ true → IfOk r (λ v. MeansChain c ts t (value_of v)) → IfOk r (λ v. MeansChain (OrNull c) ts t (value_of v))
  fed_values g h = if_ok r (λ v a. fed_value c ts t b f (value_of v) a g) h

  pub bare_values : (n : Bool) → n ≡ can_be_null (result c ts) → n ≡ false → IfOk r (λ v. MeansChain c ts t (value_of v)) → IfOk r (λ v. MeansChain (OrNull c) ts t (value_of v))
  bare_values n e g h = if_ok r (λ v a. bare_value c ts t b f n (value_of v) a e g) h

  pub default_values : b ≡ false → IfOk r (λ v. value_of v ≡ default (result c ts)) → IfOk r (λ v. MeansChain (OrDefault c) ts t (value_of v))
  default_values g h = if_ok r (λ v a. default_value c ts t b f (value_of v) a g) h

  pub reached_values : b ≡ true → IfOk r (λ v. MeansChain c ts t (value_of v)) → IfOk r (λ v. MeansChain (OrDefault c) ts t (value_of v))
  reached_values g h = if_ok r (λ v a. reached_value c ts t b f (value_of v) a g) h

pub ruleset state_laws = (value_state)

-- the types of the function, from the types handed inward
module _ (c : Chain) (ts us fs : List Ty) where
  pub function_if : us ≡ inward (If c) ts → fs ≡ inner_types (If c) ts → fs ≡ inner_types c us
  function_if e h = h ∙ ap (inner_types c) (sym e)

  pub function_array : us ≡ inward (Array c) ts → fs ≡ inner_types (Array c) ts → fs ≡ inner_types c us
  function_array e h = h ∙ ap (inner_types c) (sym e)

  pub function_merge : us ≡ inward (Merge c) ts → fs ≡ inner_types (Merge c) ts → fs ≡ inner_types c us
  function_merge e h = h ∙ ap (inner_types c) (sym e)

pub ruleset if_values = (legal_if, function_if, value_if)

pub ruleset if_tolds = (legal_if, function_if, fed_if)

pub ruleset array_values = (legal_array, function_array, value_array)

pub ruleset array_tolds = (legal_array, function_array, fed_array)

pub ruleset merge_values = (legal_merge, function_merge, value_merge)

pub ruleset merge_tolds = (legal_merge, function_merge, fed_merge)

pub ruleset null_laws = (legal_or_null, fed_values, bare_values, null_value)

pub ruleset default_laws = (legal_or_default, default_values, reached_values)

pub ruleset fed_laws = (fed_or_null, fed_or_default, fed_state, legal_or_null, legal_or_default, legal_state)
