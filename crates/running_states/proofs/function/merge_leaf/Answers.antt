-- Answers of the goals that the search leaves open in running_states::function::merge_leaf.
use Rattle.std.proofs.Common.{rules, map, ap, ◌∙◌}
use Rattle.boxed_leaves.specs.Boxed as boxed
use Rattle.boxed_leaves.specs.declared.state.BoxedState.{BoxedState}
use Rattle.int_leaves.specs.Parts as int
use Rattle.value_types.specs.Folds.{leaf_of, ty_of}
use Rattle.running_states.proofs.Functions.{boxed_alike, boxed_joins, boxed_kept, int_alike, int_joins, int_kept}
use Rattle.running_states.proofs.function.merge_leaf.Goals as goal

pub merge-requires : goal.merge-requires
merge-requires c = record {
  same = ap (λ (z : int.Parts). (int.held z).made) c.in-Int.of-is
      ∙ int_alike (leaf_of c.args.leaf.now) (map ty_of c.args.types.now) c.args.state.now c.args.later.now c.in-Int.of c.in-Int-later.rows c.in-Int.is c.in-Int-later.is c.requires.first c.requires.later;
}

pub merge-requires-in-Boxed-later : goal.merge-requires-in-Boxed-later
merge-requires-in-Boxed-later c = record {
  same = λ t. ap (λ (z : BoxedState). (boxed.held t z).made) c.in-Boxed.of-is
      ∙ boxed_alike (leaf_of c.args.leaf.now) (map ty_of c.args.types.now) c.args.state.now c.args.later.now c.in-Boxed.of c.in-Boxed-later.rows c.in-Boxed.is c.in-Boxed-later.is c.requires.first c.requires.later t;
}

pub returns-in-Int-later-clause-shape : goal.returns-in-Int-later-clause-shape
returns-in-Int-later-clause-shape c = int_kept (leaf_of c.args.leaf.now) (map ty_of c.args.types.now) c.args.state.now _ c.in-Int.of c.merge.new.self c.in-Int.is (search rules) c.requires.first (search rules)

pub returns-in-Int-later-clause-rows : goal.returns-in-Int-later-clause-rows
returns-in-Int-later-clause-rows c =
    int_joins (leaf_of c.args.leaf.now) (map ty_of c.args.types.now) c.args.state.now c.args.later.now _ c.in-Int.of c.in-Int-later.rows c.merge.new.self c.in-Int.is c.in-Int-later.is (search rules) c.requires.first c.requires.later (search rules)

pub returns-in-Boxed-later-clause-shape : goal.returns-in-Boxed-later-clause-shape
returns-in-Boxed-later-clause-shape c =
    boxed_kept (leaf_of c.args.leaf.now) (map ty_of c.args.types.now) c.merge-in-Boxed-later.result c.args.state.now _ c.in-Boxed.of c.merge-in-Boxed-later.new.self c.in-Boxed.is (search rules) c.requires.first (search rules)

pub returns-in-Boxed-later-clause-rows : goal.returns-in-Boxed-later-clause-rows
returns-in-Boxed-later-clause-rows c =
    boxed_joins (leaf_of c.args.leaf.now) (map ty_of c.args.types.now) c.merge-in-Boxed-later.result c.args.state.now c.args.later.now _ c.in-Boxed.of c.in-Boxed-later.rows c.merge-in-Boxed-later.new.self c.in-Boxed.is c.in-Boxed-later.is (search rules) c.requires.first c.requires.later (search rules)
