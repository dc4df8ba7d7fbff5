-- The answer of a link, from the answers of its inner chain.
use Rattle.std.proofs.Common.{◌≡◌, ℕ, ℤ, cond, not, List, refl, sym, ap, ap₂, ◌∙◌, subst}
use Rattle.std.specs.Prelude.{filter, IfOk, Result, Ok, Err}
use Rattle.agg_terms.specs.Chains.{Array, Chain, Distinct, ForEach, If, Leaf, MapOf, Of, OrDefault, OrNull, Resample, State, Ty}
use Rattle.agg_terms.specs.Lists.{is_empty}
use Rattle.agg_terms.specs.Types.{inward}
use Rattle.agg_terms.specs.Values as family
use Rattle.agg_terms.specs.Values.{Cell, Nil, keyed_tree, list_value, map_value, rows_tree, slots_tree}
use Rattle.agg_meaning.specs.Feeds.{no_null}
use Rattle.agg_meaning.specs.Results.{can_be_null, default, result}
use Rattle.agg_meaning.specs.Suffixes.{fed, meaning, normal}
use Rattle.value_types.specs.declared.chain.Chain as code
use Rattle.value_types.specs.declared.chain.Chain.TheVariants as chain
use Rattle.value_types.specs.declared.value.Value.{Value}
use Rattle.value_types.specs.declared.value.Tree.{Tree}
use Rattle.value_types.specs.Folds.{chain_of, tree_of, value_of}
use Rattle.value_types.proofs.FoldLaws.{chain_of-Array, chain_of-Distinct, chain_of-ForEach, chain_of-If, chain_of-MapOf, chain_of-OrDefault, chain_of-OrNull, chain_of-Resample, chain_of-State}
use Rattle.plain_meaning.specs.declared.answer.Answer.{Answer}
use Rattle.plain_meaning.specs.proving.Answers.{Answers}
use Rattle.plain_meaning.specs.Inward.{IsEvaluated, element_rows, first_live, met_rows}
use Rattle.plain_meaning.proofs.Arms.{array_fed, array_means, array_normal, distinct_fed, distinct_means, distinct_normal, if_fed, if_means, if_normal}
use Rattle.plain_meaning.proofs.Picked.{as_they_are}

abbrev Rows : Type 0
Rows = List (List family.Value)

abbrev Types : Type 0
Types = List Ty

-- the same over equal types and rows
pub moved : (d : Chain) (us vs : Types) (S T : Rows) (a : Answer) → us ≡ vs → S ≡ T → Answers d us S a → Answers d vs T a
moved d us vs S T a f g h = subst (λ l. Answers d vs l a) g (subst (λ l. Answers d l S a) f h)

there : (d : Chain) (us vs : Types) (S T : Rows) → us ≡ vs → S ≡ T → IsEvaluated d vs T → IsEvaluated d us S
there d us vs S T f g h = subst (λ l. IsEvaluated d l S) (sym f) (subst (λ l. IsEvaluated d vs l) (sym g) h)

opened_inward : (x y : Chain) (ts : Types) (R : Rows) → x ≡ y → IsEvaluated x ts R → IsEvaluated y ts R
opened_inward x y ts R e h = subst (λ l. IsEvaluated l ts R) e h

answered : (x y : Chain) (ts : Types) (R : Rows) (a : Answer) → x ≡ y → Answers y ts R a → Answers x ts R a
answered x y ts R a e h = subst (λ l. Answers l ts R a) (sym e) h

-- a function
pub leaf_answers : (f : Leaf) (ts : Types) (R : Rows) (a : Answer) →
    value_of a.value ≡ meaning (Of f) ts R → a.is_fed ≡ not (is_empty (filter no_null R)) → tree_of a.state ≡ normal (Of f) ts R → Answers (Of f) ts R a
leaf_answers f ts R a v b t = record {
  value = v ∙ ap (meaning (Of f) ts) (sym (as_they_are R));
  is_fed = b ∙ ap (fed (Of f) ts) (sym (as_they_are R));
  state = t ∙ ap (normal (Of f) ts) (sym (as_they_are R));
}

-- -If
pub if_evaluated : (x d : Chain) (ts us : Types) (R S : Rows) → x ≡ If d → us ≡ inward (If d) ts → S ≡ met_rows R → IsEvaluated x ts R → IsEvaluated d us S
if_evaluated x d ts us R S e f g h = there d us (inward (If d) ts) S (met_rows R) f g (opened_inward x (If d) ts R e h)

pub if_answers : (x d : Chain) (ts us : Types) (R S : Rows) (a : Answer) → x ≡ If d → us ≡ inward (If d) ts → S ≡ met_rows R → Answers d us S a → Answers x ts R a
if_answers x d ts us R S a e f g h =
    let k = moved d us (inward (If d) ts) S (met_rows R) a f g h in
    answered x (If d) ts R a e (record { value = k.value ∙ sym (if_means d ts R); is_fed = k.is_fed ∙ sym (if_fed d ts R); state = k.state ∙ sym (if_normal d ts R) })

-- -Array
pub array_evaluated : (x d : Chain) (ts us : Types) (R S : Rows) → x ≡ Array d → us ≡ inward (Array d) ts → S ≡ element_rows R → IsEvaluated x ts R → IsEvaluated d us S
array_evaluated x d ts us R S e f g h = there d us (inward (Array d) ts) S (element_rows R) f g (opened_inward x (Array d) ts R e h)

pub array_answers : (x d : Chain) (ts us : Types) (R S : Rows) (a : Answer) → x ≡ Array d → us ≡ inward (Array d) ts → S ≡ element_rows R → Answers d us S a → Answers x ts R a
array_answers x d ts us R S a e f g h =
    let k = moved d us (inward (Array d) ts) S (element_rows R) a f g h in
    answered x (Array d) ts R a e (record { value = k.value ∙ sym (array_means d ts R); is_fed = k.is_fed ∙ sym (array_fed d ts R); state = k.state ∙ sym (array_normal d ts R) })

-- -OrNull, -OrDefault and -State: the same rows
pub or_null_evaluated : (x d : Chain) (ts : Types) (R : Rows) → x ≡ OrNull d → IsEvaluated x ts R → IsEvaluated d ts R
or_null_evaluated x d ts R e h = opened_inward x (OrNull d) ts R e h

pub or_null_answers : (x d : Chain) (ts : Types) (R : Rows) (a : Answer) (v : Value) → x ≡ OrNull d → Answers d ts R a →
    value_of v ≡ cond a.is_fed (value_of a.value) (cond (can_be_null (result d ts)) Nil (value_of a.value)) → Answers x ts R (record a { value = v })
or_null_answers x d ts R a v e h k =
    answered x (OrNull d) ts R (record a { value = v }) e (record {
      value = k ∙ ap₂ (λ b w. cond b w (cond (can_be_null (result d ts)) Nil w)) h.is_fed h.value;
      is_fed = h.is_fed;
      state = h.state;
    })

pub or_default_evaluated : (x d : Chain) (ts : Types) (R : Rows) → x ≡ OrDefault d → IsEvaluated x ts R → IsEvaluated d ts R
or_default_evaluated x d ts R e h = opened_inward x (OrDefault d) ts R e h

pub or_default_answers : (x d : Chain) (ts : Types) (R : Rows) (a : Answer) (v : Value) → x ≡ OrDefault d → Answers d ts R a →
    value_of v ≡ cond a.is_fed (value_of a.value) (default (result d ts)) → Answers x ts R (record a { value = v })
or_default_answers x d ts R a v e h k =
    answered x (OrDefault d) ts R (record a { value = v }) e (record {
      value = k ∙ ap₂ (λ b w. cond b w (default (result d ts))) h.is_fed h.value;
      is_fed = h.is_fed;
      state = h.state;
    })

pub state_evaluated : (x d : Chain) (ts : Types) (R : Rows) → x ≡ State d → IsEvaluated x ts R → IsEvaluated d ts R
state_evaluated x d ts R e h = opened_inward x (State d) ts R e h

pub state_answers : (x d : Chain) (ts : Types) (R : Rows) (a : Answer) (v : Value) → x ≡ State d → Answers d ts R a →
    value_of v ≡ Cell (tree_of a.state) → Answers x ts R (record a { value = v })
state_answers x d ts R a v e h k =
    answered x (State d) ts R (record a { value = v }) e (record { value = k ∙ ap Cell h.state; is_fed = h.is_fed; state = h.state })

-- -Distinct
pub distinct_evaluated : (x d : Chain) (ts : Types) (R S : Rows) → x ≡ Distinct d → S ≡ first_live R → IsEvaluated x ts R → IsEvaluated d ts S
distinct_evaluated x d ts R S e g h = there d ts ts S (first_live R) refl g (opened_inward x (Distinct d) ts R e h)

pub distinct_answers : (x d : Chain) (ts : Types) (R S : Rows) (a : Answer) (t : Tree) → x ≡ Distinct d → S ≡ first_live R → Answers d ts S a →
    tree_of t ≡ rows_tree S → Answers x ts R (record a { state = t })
distinct_answers x d ts R S a t e g h k =
    let m = moved d ts ts S (first_live R) a refl g h in
    answered x (Distinct d) ts R (record a { state = t }) e (record {
      value = m.value ∙ sym (distinct_means d ts R);
      is_fed = m.is_fed ∙ sym (distinct_fed d ts R);
      state = k ∙ ap rows_tree g ∙ sym (distinct_normal d ts R);
    })

-- a chain by its outermost link, in the code and in the definitions
module _ (ch o p : code.Chain) (f : p ≡ o) where
  pub is_if : ch ≡ chain.If o → chain_of ch ≡ If (chain_of p)
  is_if e = ap chain_of e ∙ chain_of-If o ∙ ap (λ z. If (chain_of z)) (sym f)

  pub is_array : ch ≡ chain.Array o → chain_of ch ≡ Array (chain_of p)
  is_array e = ap chain_of e ∙ chain_of-Array o ∙ ap (λ z. Array (chain_of z)) (sym f)

  pub is_map : ch ≡ chain.MapOf o → chain_of ch ≡ MapOf (chain_of p)
  is_map e = ap chain_of e ∙ chain_of-MapOf o ∙ ap (λ z. MapOf (chain_of z)) (sym f)

  pub is_each : ch ≡ chain.ForEach o → chain_of ch ≡ ForEach (chain_of p)
  is_each e = ap chain_of e ∙ chain_of-ForEach o ∙ ap (λ z. ForEach (chain_of z)) (sym f)

  pub is_or_null : ch ≡ chain.OrNull o → chain_of ch ≡ OrNull (chain_of p)
  is_or_null e = ap chain_of e ∙ chain_of-OrNull o ∙ ap (λ z. OrNull (chain_of z)) (sym f)

  pub is_or_default : ch ≡ chain.OrDefault o → chain_of ch ≡ OrDefault (chain_of p)
  is_or_default e = ap chain_of e ∙ chain_of-OrDefault o ∙ ap (λ z. OrDefault (chain_of z)) (sym f)

  pub is_distinct : ch ≡ chain.Distinct o → chain_of ch ≡ Distinct (chain_of p)
  is_distinct e = ap chain_of e ∙ chain_of-Distinct o ∙ ap (λ z. Distinct (chain_of z)) (sym f)

  pub is_state : ch ≡ chain.State o → chain_of ch ≡ State (chain_of p)
  is_state e = ap chain_of e ∙ chain_of-State o ∙ ap (λ z. State (chain_of z)) (sym f)

  pub is_resample : (start end : ℤ) (step : ℕ) → ch ≡ chain.Resample start end step o → chain_of ch ≡ Resample start end step (chain_of p)
  is_resample start end step e = ap chain_of e ∙ chain_of-Resample o start end step ∙ ap (λ z. Resample start end step (chain_of z)) (sym f)

-- the links whose answer is the inner chain's
pub if_ok : {E : Type 0} (x d : Chain) (ts us : Types) (R S : Rows) (r : Result Answer E) → x ≡ If d → us ≡ inward (If d) ts → S ≡ met_rows R →
    IfOk r (λ a. Answers d us S a) → IfOk r (λ a. Answers x ts R a)
if_ok x d ts us R S (Ok a) e f g h = if_answers x d ts us R S a e f g h
if_ok x d ts us R S (Err z) e f g h = h

pub array_ok : {E : Type 0} (x d : Chain) (ts us : Types) (R S : Rows) (r : Result Answer E) → x ≡ Array d → us ≡ inward (Array d) ts → S ≡ element_rows R →
    IfOk r (λ a. Answers d us S a) → IfOk r (λ a. Answers x ts R a)
array_ok x d ts us R S (Ok a) e f g h = array_answers x d ts us R S a e f g h
array_ok x d ts us R S (Err z) e f g h = h
