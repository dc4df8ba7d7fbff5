-- A row of items is the row of their values, and the values that a tree has.
use Rattle.std.proofs.Common.{◌≡◌, List, map, ap, subst, sym, ◌∙◌}
use Rattle.std.proofs.lemmas.Simd.{map-map}
use Rattle.agg_terms.specs.Chains.{Ty}
use Rattle.agg_terms.specs.Values.{values_of}
use Rattle.agg_terms.proofs.Lists.{values_back}
use Rattle.agg_meaning.specs.States.{Held, TakesRow}
use Rattle.value_types.specs.Folds.{tree_of, value_of}
use Rattle.value_types.specs.declared.value.Tree.{Tree}
use Rattle.value_types.specs.declared.value.Tree.TheVariants as tree
use Rattle.value_types.specs.declared.value.Value.{Value}
use Rattle.value_types.proofs.FoldLaws.{tree_of-Values}
use Rattle.typed_columns.specs.Items.{item_value}
use Rattle.typed_columns.specs.declared.item.Item.{Item}
use Rattle.list_leaves.specs.Rows.{argument}

pub items_taken : (s t : Held) (items : List Item) (r : List Value) → map item_value items ≡ r → TakesRow s (map argument items) t → TakesRow s (map value_of r) t
items_taken s t items r e h = subst (λ l. TakesRow s l t) (sym (map-map value_of item_value items) ∙ ap (map value_of) e) h

pub any_items_taken : (s u : Ty → Held) (items : List Item) (r : List Value) → map item_value items ≡ r → ((t : Ty) → TakesRow (s t) (map argument items) (u t)) → (t : Ty) → TakesRow (s t) (map value_of r) (u t)
any_items_taken s u items r e h t = items_taken (s t) (u t) items r e (h t)

pub values_read : (t : Tree) (vs : List Value) → t ≡ tree.Values vs → map value_of vs ≡ values_of (tree_of t)
values_read t vs e = sym (ap values_of (ap tree_of e ∙ tree_of-Values vs) ∙ values_back (map value_of vs))
