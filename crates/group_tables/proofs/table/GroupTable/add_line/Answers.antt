use Rattle.std.proofs.Common.{map, refl}
use Rattle.value_types.specs.Folds.{value_of}
use Rattle.group_keys.proofs.Placing.{on_both}
use Rattle.group_tables.proofs.CallColumns.{ok_then}
use Rattle.group_tables.proofs.Merges.{added, ask-line-room, ask-place, ask-set, ask-shape, ask-trees, ask-types, ask-values}
use Rattle.group_tables.proofs.table.GroupTable.add_line.Goals as goal

pub place_tuple-requires-clause-types : goal.place_tuple-requires-clause-types
place_tuple-requires-clause-types c =
    ask-types c.args.grouping.now c.requires.ready c.args.self.now c.requires.table c.as_slice-types.result.now c.as_slice-calls.result.now c.as_slice-types.ensures c.as_slice-calls.ensures

pub place_tuple-requires-clause-set : goal.place_tuple-requires-clause-set
place_tuple-requires-clause-set c =
    ask-set c.args.grouping.now c.requires.ready c.args.self.now c.requires.table c.as_slice-types.result.now c.as_slice-calls.result.now c.as_slice-types.ensures c.as_slice-calls.ensures c.args.self.now c.requires.table

pub place_tuple-requires-clause-values : goal.place_tuple-requires-clause-values
place_tuple-requires-clause-values c =
    ask-values c.args.grouping.now c.requires.ready c.args.self.now c.requires.table c.as_slice-types.result.now c.as_slice-calls.result.now c.as_slice-types.ensures c.as_slice-calls.ensures (map value_of c.args.key.now) c.args.trees.now c.requires.line

pub join_trees-requires-clause-shape : goal.join_trees-requires-clause-shape
join_trees-requires-clause-shape c =
    ask-shape c.args.grouping.now c.requires.ready c.args.self.now c.requires.table c.as_slice-types.result.now c.as_slice-calls.result.now c.as_slice-types.ensures c.as_slice-calls.ensures c.args.self.now c.requires.table c.args.self.now.columns.items refl

pub join_trees-requires-clause-room : goal.join_trees-requires-clause-room
join_trees-requires-clause-room c =
    ask-line-room c.args.grouping.now c.requires.ready c.args.self.now c.requires.table c.as_slice-types.result.now c.as_slice-calls.result.now c.as_slice-types.ensures c.as_slice-calls.ensures (map value_of c.args.key.now) c.args.trees.now c.requires.line c.place_tuple.new.self c.in_ok-place.place c.in_ok-place.ensures c.len-count.result c.len-count.ensures

pub join_trees-requires-clause-place : goal.join_trees-requires-clause-place
join_trees-requires-clause-place c =
    ask-place c.args.grouping.now c.requires.ready c.args.self.now c.requires.table c.as_slice-types.result.now c.as_slice-calls.result.now c.as_slice-types.ensures c.as_slice-calls.ensures (map value_of c.args.key.now) c.args.trees.now c.requires.line c.place_tuple.new.self c.in_ok-place.place c.in_ok-place.ensures c.len-count.result c.len-count.ensures

pub join_trees-requires-clause-trees : goal.join_trees-requires-clause-trees
join_trees-requires-clause-trees c =
    ask-trees c.args.grouping.now c.requires.ready c.args.self.now c.requires.table c.as_slice-types.result.now c.as_slice-calls.result.now c.as_slice-types.ensures c.as_slice-calls.ensures (map value_of c.args.key.now) c.args.trees.now c.requires.line

pub returns : goal.returns
returns c =
    ok_then c.join_trees.result (on_both _ _ c.join_trees.result c.join_trees.ensures.rows c.join_trees.ensures.shape)
    (λ both. added c.args.grouping.now c.requires.ready c.args.self.now c.requires.table c.as_slice-types.result.now c.as_slice-calls.result.now c.as_slice-types.ensures c.as_slice-calls.ensures (map value_of c.args.key.now) c.args.trees.now c.requires.line c.place_tuple.new.self c.in_ok-place.place c.in_ok-place.ensures c.len-count.result c.len-count.ensures c.law_typing.ensures.legal_is_lawful c.law_states.ensures.trees_are_normal c.law_states.ensures.trees_unfold _ refl both.0 both.1)
