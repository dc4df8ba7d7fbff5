-- Answers of the goals that the search leaves open in chain_links::storing::from_tree.
use Rattle.std.proofs.Common.{◌≡◌, ◌+◌, rules, arith, [], ◌∷◌, ◌++◌, map, length, ap, ◌∙◌, sym, subst, Ok, Err}
use Rattle.std.proofs.lemmas.List.{length-append}
use Rattle.agg_terms.specs.Chains.{Distinct}
use Rattle.agg_terms.specs.Lists.{Each}
use Rattle.agg_terms.specs.Types.{intervals}
use Rattle.value_types.specs.declared.value.KeyedTree.{KeyedTree}
use Rattle.value_types.specs.Folds.{chain_of, entry_of, tree_of, ty_of, value_of}
use Rattle.value_types.proofs.FoldLaws.{chain_laws}
use Rattle.running_states.specs.Entries.{IsFoundAt, IsMissingAt, IsPlaceOf, keys_in}
use Rattle.running_states.specs.Shapes.{IsState}
use Rattle.running_states.specs.Words.{HasTree}
use Rattle.chain_links.proofs.FromTrees.{entry_key, entry_tree, keys_done, keys_more, keys_put, parts_done, parts_more, rows_stored, same_there, slots_done}
use Rattle.chain_links.proofs.SlotLists.{each_more}
use Rattle.chain_links.proofs.Stored.{trees_more}
use Rattle.chain_links.proofs.StoredKeys.{keys_found}
use Rattle.chain_links.proofs.storing.+from_tree.Goals as goal

pub from_tree-returns-in-Distinct-clause-tree : goal.from_tree-returns-in-Distinct-clause-tree
from_tree-returns-in-Distinct-clause-tree t c =
    let e : chain_of c.args.chain.now ≡ Distinct (chain_of c.in-Distinct.field-0) = search (rules, chain_laws) in
    rows_stored c.first_from_tree.result (chain_of c.args.chain.now) (chain_of c.in-Distinct.field-0) (map ty_of c.args.types.now) (tree_of c.args.tree.now) e c.first_from_tree.ensures.tree

pub slots_from-loop-i-preserved : goal.slots_from-loop-i-preserved
slots_from-loop-i-preserved t c =
    let s = c.in_ok-from_tree.field-0 in
    let g : c.push.new.self.items ≡ c.loop-i.all.items ++ c.in_ok-from_tree.field-0 ∷ [] = search rules in (
      subst (Each (IsState (chain_of c.args.of.now) (map ty_of c.args.types.now))) (sym g) (each_more (IsState (chain_of c.args.of.now) (map ty_of c.args.types.now)) c.loop-i.all.items s c.loop-i.invariant.0 c.in_ok-from_tree.ensures.shape),
      trees_more (chain_of c.args.of.now) (map ty_of c.args.types.now) c.slots_in_tree-trees.result.now c.loop-i.i c.index-trees-i.result c.loop-i.all.items c.push.new.self.items s (omega arith) c.index-trees-i.is g c.loop-i.invariant.1 c.in_ok-from_tree.ensures.tree,
    )

pub slots_from-returns-clause-tree : goal.slots_from-returns-clause-tree
slots_from-returns-clause-tree t c =
    slots_done (chain_of c.args.of.now) (map ty_of c.args.types.now) (tree_of c.args.tree.now) c.slots_in_tree-trees.result.now c.loop-i.i c.loop-i.all c.slots_in_tree-trees.ensures (omega arith) c.loop-i.invariant.1

pub parts_from-loop-i-preserved : goal.parts_from-loop-i-preserved
parts_from-loop-i-preserved t c =
    let s = c.in_ok-from_tree.field-0 in
    let g : c.push-in-loop-i.new.self.items ≡ c.loop-i.all.items ++ c.in_ok-from_tree.field-0 ∷ [] = search rules in
    let n : length c.push-in-loop-i.new.self.items ≡ length (c.loop-i.all.items ++ c.in_ok-from_tree.field-0 ∷ []) = ap length g in (
      subst (Each (IsState (chain_of c.args.of.now) (map ty_of c.args.types.now))) (sym g) (each_more (IsState (chain_of c.args.of.now) (map ty_of c.args.types.now)) c.loop-i.all.items s c.loop-i.invariant.0 c.in_ok-from_tree.ensures.shape),
      omega (arith, n, length-append c.loop-i.all.items (s ∷ []), c.loop-i.invariant.1),
      parts_more (chain_of c.args.of.now) (map ty_of c.args.types.now) c.slots_in_tree-trees.result.now c.loop-i.i c.index-trees-i.result c.loop-i.all.items c.push-in-loop-i.new.self.items s (omega (arith, c.if-i-trees.false)) c.index-trees-i.is g c.loop-i.invariant.2 c.in_ok-from_tree.ensures.tree,
    )

pub parts_from-returns-clause-tree : goal.parts_from-returns-clause-tree
parts_from-returns-clause-tree t c =
    let n : c.count_intervals-count.result ≡ intervals c.args.start c.args.end c.args.step = search rules in
    parts_done (chain_of c.args.of.now) (map ty_of c.args.types.now) c.args.start c.args.end c.args.step (tree_of c.args.tree.now) c.slots_in_tree-trees.result.now c.loop-i.i c.count_intervals-count.result c.loop-i.all c.slots_in_tree-trees.ensures n
    (omega arith) (omega arith) c.loop-i.invariant.2

pub keys_from-loop-i-preserved-in_default : goal.keys_from-loop-i-preserved-in_default
keys_from-loop-i-preserved-in_default t c =
    let ks = keys_in c.as_slice.result.now in
    let q : (entry_of c.index-stored-i.result).0 ≡ value_of c.index-stored-i.result.key = entry_key c.index-stored-i.result in
    let e = subst (λ (z : KeyedTree). IsPlaceOf (value_of z.key) ks c.place_of_value.result) (sym c.index-stored-i.is) c.place_of_value.ensures in
    let f = subst (IsPlaceOf (value_of c.index-stored-i.result.key) ks) c.in_default.is e in (
      c.loop-i.invariant.0,
      keys_found (chain_of c.args.of.now) (map ty_of c.args.types.now) c.entries_in_tree-stored.result.now c.loop-i.i c.index-stored-i.result c.loop-i.all.items c.in_default.field-0 (omega arith) c.index-stored-i.is c.loop-i.invariant.1
          (subst (λ v. IsFoundAt v (keys_in c.loop-i.all.items) c.in_default.field-0) (sym q) (subst (λ zs. IsFoundAt (value_of c.index-stored-i.result.key) (keys_in zs) c.in_default.field-0) c.as_slice.ensures.value f)),
    )

pub keys_from-loop-i-preserved : goal.keys_from-loop-i-preserved
keys_from-loop-i-preserved t c =
    let xs = c.entries_in_tree-stored.result.now in
    let es = c.loop-i.all.items in
    let x = c.index-stored-i.result in
    let s = c.in_ok-from_tree.field-0 in
    let d = chain_of c.args.of.now in
    let us = map ty_of c.args.types.now in
    let k = value_of c.index-stored-i.result.key in
    let q : (entry_of c.index-stored-i.result).0 ≡ value_of c.index-stored-i.result.key = entry_key c.index-stored-i.result in
    let r : (entry_of c.index-stored-i.result).1 ≡ tree_of c.index-stored-i.result.tree = entry_tree c.index-stored-i.result in
    let e = subst (λ (z : KeyedTree). IsPlaceOf (value_of z.key) (keys_in c.as_slice.result.now) c.place_of_value.result) (sym c.index-stored-i.is) c.place_of_value.ensures in
    let f = subst (IsPlaceOf k (keys_in c.as_slice.result.now)) c.in-Err.is e in
    let m = subst (λ zs. IsMissingAt k (keys_in zs) c.in-Err.place) c.as_slice.ensures.value f in
    let a : c.index-stored-i-in-loop-i.result ≡ c.index-stored-i.result = same_there xs c.loop-i.i c.index-stored-i-in-loop-i.result x (omega arith) c.index-stored-i-in-loop-i.is c.index-stored-i.is in
    let b : c.index-stored-i-in-loop-i-2.result ≡ c.index-stored-i.result = same_there xs c.loop-i.i c.index-stored-i-in-loop-i-2.result x (omega arith) c.index-stored-i-in-loop-i-2.is c.index-stored-i.is in
    let v = ap value_of c.in_ok-key.ensures ∙ ap (λ (z : KeyedTree). value_of z.key) (sym c.index-stored-i-in-loop-i.is ∙ a) in
    let h = subst (λ (z : KeyedTree). HasTree d us (tree_of z.tree) s) (sym c.index-stored-i-in-loop-i-2.is ∙ b) c.in_ok-from_tree.ensures.tree in (
      keys_put d us k es c.insert.new.self.items c.in-Err.place c.in_ok-key.key s (search rules) v m c.loop-i.invariant.0 c.in_ok-from_tree.ensures.shape,
      keys_more d us xs c.loop-i.i x es c.insert.new.self.items c.in-Err.place c.in_ok-key.key s (omega arith) c.index-stored-i.is (search rules) c.loop-i.invariant.1
          (v ∙ sym q) (subst (λ z. IsMissingAt z (keys_in es) c.in-Err.place) (sym q) m) (subst (λ z. HasTree d us z s) (sym r) h),
    )

pub keys_from-returns-clause-tree : goal.keys_from-returns-clause-tree
keys_from-returns-clause-tree t c =
    keys_done (chain_of c.args.of.now) (map ty_of c.args.types.now) (tree_of c.args.tree.now) c.entries_in_tree-stored.result.now c.loop-i.i c.loop-i.all c.entries_in_tree-stored.ensures (omega arith) c.loop-i.invariant.1
