-- Suffixes that keep what the chain inside keeps, and take rows as it does.
use Rattle.std.proofs.Common.{◌≡◌, ℕ, List, [], ◌∷◌, Option, Some, None, refl, sym, ap, ◌∙◌, subst, Result}
use Rattle.std.specs.Result.{OnOk}
use Rattle.agg_terms.specs.Chains.{Chain, OrDefault, OrNull, State as StateLink, Ty}
use Rattle.agg_terms.specs.Values.{Value}
use Rattle.value_types.specs.Folds.{chain_of}
use Rattle.value_types.proofs.FoldLaws.{chain_of-OrDefault, chain_of-OrNull, chain_of-State}
use Rattle.value_types.specs.declared.chain.Chain.{Chain as Chained}
use Rattle.value_types.specs.declared.chain.Chain.TheVariants as chained
use Rattle.running_states.proofs.Outcomes.{on_ok}
use Rattle.chain_states.specs.declared.state.State.{State}
use Rattle.chain_states.specs.proving.Places.{AreStates, FeedsAt, IsFedAs, with_if}

pub as_itself : (c : Chain) → IsFedAs c c
as_itself c = record { sound = λ k. k; function = refl; inward = λ us s k. k; outward = λ us s k. k; all = λ us rs s v k. k; met = λ us rs s v k. k }

or_null : (c d : Chain) → IsFedAs c d → IsFedAs (OrNull c) d
or_null c d a = record {
  sound = a.sound;
  function = a.function;
  inward = a.inward;
  outward = a.outward;
  all = λ us rs s v k. record { over = (a.all us rs s v k).over };
  met = λ us rs s v k. record { over = (a.met us rs s v k).over };
}

or_default : (c d : Chain) → IsFedAs c d → IsFedAs (OrDefault c) d
or_default c d a = record {
  sound = a.sound;
  function = a.function;
  inward = a.inward;
  outward = a.outward;
  all = λ us rs s v k. record { over = (a.all us rs s v k).over };
  met = λ us rs s v k. record { over = (a.met us rs s v k).over };
}

stored : (c d : Chain) → IsFedAs c d → IsFedAs (StateLink c) d
stored c d a = record {
  sound = a.sound;
  function = a.function;
  inward = a.inward;
  outward = a.outward;
  all = λ us rs s v k. record { over = (a.all us rs s v k).over };
  met = λ us rs s v k. record { over = (a.met us rs s v k).over };
}

pub at_or_null : (chain of inner : Chained) (d : Chain) → chain ≡ chained.OrNull of → inner ≡ of → IsFedAs (chain_of inner) d → IsFedAs (chain_of chain) d
at_or_null chain of inner d e g k = subst (λ c. IsFedAs c d) (sym (ap chain_of e ∙ chain_of-OrNull of)) (or_null (chain_of of) d (subst (λ i. IsFedAs (chain_of i) d) g k))

pub at_or_default : (chain of inner : Chained) (d : Chain) → chain ≡ chained.OrDefault of → inner ≡ of → IsFedAs (chain_of inner) d → IsFedAs (chain_of chain) d
at_or_default chain of inner d e g k = subst (λ c. IsFedAs c d) (sym (ap chain_of e ∙ chain_of-OrDefault of)) (or_default (chain_of of) d (subst (λ i. IsFedAs (chain_of i) d) g k))

pub at_state : (chain of inner : Chained) (d : Chain) → chain ≡ chained.State of → inner ≡ of → IsFedAs (chain_of inner) d → IsFedAs (chain_of chain) d
at_state chain of inner d e g k = subst (λ c. IsFedAs c d) (sym (ap chain_of e ∙ chain_of-State of)) (stored (chain_of of) d (subst (λ i. IsFedAs (chain_of i) d) g k))

-- states, and rows fed to them
module _ (c d : Chain) (k : IsFedAs c d) (us : List Ty) where
  pub states_inward : (ss : List State) → AreStates c us ss → AreStates d us ss
  states_inward [] h = tt
  states_inward (s ∷ ss) h = (k.inward us s.running h.0, states_inward ss h.1)

  pub states_outward : (ss : List State) → AreStates d us ss → AreStates c us ss
  states_outward [] h = tt
  states_outward (s ∷ ss) h = (k.outward us s.running h.0, states_outward ss h.1)

  fed_outward : {X : Type 0} (o : Option X) (ps : List ℕ) (rs : List (List Value)) (ss vv : List State) → FeedsAt (with_if o d) us ps rs ss vv → FeedsAt (with_if o c) us ps rs ss vv
  fed_outward None ps rs ss vv a = record { long = a.long; at = λ g i l. k.all us _ _ _ (a.at g i l) }
  fed_outward (Some x) ps rs ss vv a = record { long = a.long; at = λ g i l. k.met us _ _ _ (a.at g i l) }

  pub shape_outward : {A E : Type 0} (x : Result A E) (vv : List State) → OnOk x (AreStates d us vv) → OnOk x (AreStates c us vv)
  shape_outward x vv = on_ok x (states_outward vv)

  pub rows_outward : {A E X : Type 0} (x : Result A E) (o : Option X) (ps : List ℕ) (rs : List (List Value)) (ss vv : List State) → OnOk x (FeedsAt (with_if o d) us ps rs ss vv) → OnOk x (FeedsAt (with_if o c) us ps rs ss vv)
  rows_outward x o ps rs ss vv = on_ok x (fed_outward o ps rs ss vv)

  pub chain_outward : {A E : Type 0} (x : Result A E) (ps : List ℕ) (rs : List (List Value)) (ss vv : List State) → OnOk x (FeedsAt d us ps rs ss vv) → OnOk x (FeedsAt c us ps rs ss vv)
  chain_outward x ps rs ss vv = on_ok x (λ a. record { long = a.long; at = λ g i l. k.all us _ _ _ (a.at g i l) })
