-- The tree of one value, from the kind that a match shows: a number is a word, another value a tuple of it.
use Rattle.std.proofs.Common.{◌≡◌, ℤ, [], ◌∷◌, Some, refl, sym, ap, ◌∙◌}
use Rattle.agg_terms.specs.Trees.{one_tree}
use Rattle.agg_terms.specs.Values.{Word, tuple_tree}
use Rattle.value_types.specs.declared.value.KeyedTree.{KeyedTree}
use Rattle.value_types.specs.declared.value.Tree.{Tree}
use Rattle.value_types.specs.declared.value.Tree.TheOpen.{Value-F}
use Rattle.value_types.specs.declared.value.Tree.TheViews.{out-Value, roll-Value, roll-out-Value}
use Rattle.value_types.specs.declared.value.Value.{Value}
use Rattle.value_types.specs.declared.value.Value.TheVariants as value
use Rattle.value_types.specs.Folds.{value_of}
use Rattle.value_types.proofs.FoldLaws.{value_of-Num}
use Rattle.agg_values.proofs.Layers.{value_rolls}

module _ (v : Value) where
  pub one_number : (z : ℤ) → v ≡ value.Num z → one_tree (Some (value_of v)) ≡ Word z
  one_number z e = ap (λ u. one_tree (Some u)) (ap value_of e ∙ value_of-Num z)

  pub one_other : ((z : ℤ) → v ≡ value.Num z → ⊥) → one_tree (Some (value_of v)) ≡ tuple_tree (value_of v ∷ [])
  one_other other = go (out-Value v) (sym (roll-out-Value v))
    where
      go : (layer : Value-F Tree Value KeyedTree) → v ≡ roll-Value layer → one_tree (Some (value_of v)) ≡ tuple_tree (value_of v ∷ [])
      go (Value-F.Num z) f = absurd (other z (f ∙ value.rolls-Num z))
      go layer f = rw (ap value_of f ∙ value_rolls layer) refl

pub ruleset one_laws = (one_number, one_other)
