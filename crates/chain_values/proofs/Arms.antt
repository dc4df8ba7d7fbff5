-- A value that a helper gives along one suffix, as that of the chain.
use Rattle.std.proofs.Common.{◌≡◌, List, sym, ap, ◌∙◌, subst, Result}
use Rattle.std.specs.Result.{IfOk}
use Rattle.agg_terms.specs.Chains.{Chain, Of, Ty}
use Rattle.agg_terms.specs.Values.{Tree}
use Rattle.agg_meaning.specs.States.{MeansChain}
use Rattle.value_types.specs.Folds.{chain_of, leaf_of, value_of}
use Rattle.value_types.specs.declared.chain.Chain.{Chain as Chained}
use Rattle.value_types.specs.declared.chain.Chain.TheVariants as chained
use Rattle.value_types.specs.declared.leaf.Leaf.{Leaf as Leafed}
use Rattle.value_types.specs.declared.value.Value.{Value as Valued}
use Rattle.value_types.proofs.FoldLaws.{chain_of-Leaf}

module _ {E : Type 0} (chain : Chained) (ts : List Ty) (t : Tree) (r : Result Valued E) where
  same_chain : (k : Chain) → chain_of chain ≡ k → IfOk r (λ v. MeansChain k ts t (value_of v)) → IfOk r (λ v. MeansChain (chain_of chain) ts t (value_of v))
  same_chain k e h = subst (λ z. IfOk r (λ v. MeansChain z ts t (value_of v))) (sym e) h

  pub value_arm : (make : Chained → Chained) (wrap : Chain → Chain) → ((o : Chained) → chain_of (make o) ≡ wrap (chain_of o)) → (of inner : Chained) → chain ≡ make of → inner ≡ of →
      IfOk r (λ v. MeansChain (wrap (chain_of inner)) ts t (value_of v)) → IfOk r (λ v. MeansChain (chain_of chain) ts t (value_of v))
  value_arm make wrap law of inner e g h = same_chain (wrap (chain_of inner)) (ap chain_of e ∙ law of ∙ ap (λ o. wrap (chain_of o)) (sym g)) h

  pub value_leaf : (leaf : Leafed) → chain ≡ chained.Leaf leaf → IfOk r (λ v. MeansChain (Of (leaf_of leaf)) ts t (value_of v)) → IfOk r (λ v. MeansChain (chain_of chain) ts t (value_of v))
  value_leaf leaf e h = same_chain (Of (leaf_of leaf)) (ap chain_of e ∙ chain_of-Leaf leaf) h
