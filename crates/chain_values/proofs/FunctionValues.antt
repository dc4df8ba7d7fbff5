-- The values of functions' states.
use Rattle.std.proofs.Common.{◌≡◌, Bool, List, sym, ap, ◌∙◌, subst, Result}
use Rattle.std.specs.Result.{IfOk}
use Rattle.agg_terms.specs.Chains.{Leaf, Of, Ty}
use Rattle.agg_terms.specs.Values.{Value}
use Rattle.agg_meaning.specs.Results.{leaf_result}
use Rattle.agg_meaning.specs.States.{IsFedBy, IsFedChain, Means, MeansChain, made_for}
use Rattle.agg_meaning.proofs.Suffixed.{function_fed, function_means}
use Rattle.boxed_leaves.specs.Boxed as boxed
use Rattle.boxed_leaves.specs.declared.state.BoxedState.{BoxedState}
use Rattle.int_leaves.specs.Parts as int
use Rattle.value_types.specs.declared.value.Value.{Value as Valued}
use Rattle.value_types.specs.Folds.{value_of}
use Rattle.running_states.specs.declared.running.Running.{Running}
use Rattle.running_states.specs.declared.running.Running.TheVariants.{Boxed, Int}
use Rattle.running_states.specs.Shapes.{IsState}
use Rattle.running_states.specs.Trees.{tree_in}
use Rattle.running_states.proofs.Functions.{boxed_kind, int_kind}
use Rattle.running_states.proofs.Layers.{tree_Int}
use Rattle.chain_values.proofs.Passing.{if_ok}

-- functions
module _ (f : Leaf) (ts us : List Ty) (e : us ≡ ts) (s : Running) (k : IsState (Of f) us s) where
  pub int_value : (p : int.Parts) (x : Value) → s ≡ Int p → Means (int.held p) x → MeansChain (Of f) ts (tree_in s) x
  int_value p x g m =
      subst (λ t. MeansChain (Of f) ts t x) (sym (ap tree_in g ∙ tree_Int p))
      (function_means f ts (int.held p) x ((int_kind.made f us p (subst (IsState (Of f) us) g k)).1 ∙ ap (made_for f) e) m)

  pub int_told : (p : int.Parts) (b : Bool) → s ≡ Int p → IsFedBy (int.held p) b → IsFedChain (Of f) ts (tree_in s) b
  int_told p b g m =
      subst (λ t. IsFedChain (Of f) ts t b) (sym (ap tree_in g ∙ tree_Int p))
      (function_fed f ts (int.held p) b ((int_kind.made f us p (subst (IsState (Of f) us) g k)).1 ∙ ap (made_for f) e) m)

  pub boxed_told : (p : BoxedState) (b : Bool) → s ≡ Boxed p → ((t : Ty) → IsFedBy (boxed.held t p) b) → IsFedChain (Of f) ts (tree_in s) b
  boxed_told p b g m =
      subst (λ t. IsFedChain (Of f) ts t b) (sym (ap tree_in g ∙ boxed_kind.tree (leaf_result f us) p))
      (function_fed f ts (boxed.held (leaf_result f us) p) b ((boxed_kind.made f us p (subst (IsState (Of f) us) g k)).1 ∙ ap (made_for f) e) (m (leaf_result f us)))

  pub boxed_value : {E : Type 0} (p : BoxedState) (r : Result Valued E) → s ≡ Boxed p → IfOk r (λ v. (t : Ty) → Means (boxed.held t p) (value_of v)) → IfOk r (λ v. MeansChain (Of f) ts (tree_in s) (value_of v))
  boxed_value p r g h = if_ok r (λ v m.
      subst (λ t. MeansChain (Of f) ts t (value_of v)) (sym (ap tree_in g ∙ boxed_kind.tree (leaf_result f us) p))
      (function_means f ts (boxed.held (leaf_result f us) p) (value_of v) ((boxed_kind.made f us p (subst (IsState (Of f) us) g k)).1 ∙ ap (made_for f) e) (m (leaf_result f us)))) h

  pub int_values : {E : Type 0} (p : int.Parts) (r : Result Valued E) → s ≡ Int p → IfOk r (λ v. Means (int.held p) (value_of v)) → IfOk r (λ v. MeansChain (Of f) ts (tree_in s) (value_of v))
  int_values p r g h = if_ok r (λ v m. int_value p (value_of v) g m) h

pub ruleset function_laws = (int_values, int_told, boxed_value, boxed_told)
