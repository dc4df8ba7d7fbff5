use Rattle.std.proofs.Common.{refl}
use Rattle.group_keys.proofs.Placing.{on_both}
use Rattle.group_tables.proofs.CallColumns.{ok_then}
use Rattle.group_tables.proofs.Merges.{ask-many, ask-places, ask-room, ask-set, ask-shape, ask-types, merged}
use Rattle.group_tables.proofs.table.GroupTable.merge.Goals as goal

pub place_keys-requires-clause-types : goal.place_keys-requires-clause-types
place_keys-requires-clause-types c =
    ask-types c.args.grouping.now c.requires.ready c.args.self.now c.requires.table c.as_slice-types.result.now c.as_slice-calls.result.now c.as_slice-types.ensures c.as_slice-calls.ensures

pub place_keys-requires-clause-set : goal.place_keys-requires-clause-set
place_keys-requires-clause-set c =
    ask-set c.args.grouping.now c.requires.ready c.args.self.now c.requires.table c.as_slice-types.result.now c.as_slice-calls.result.now c.as_slice-types.ensures c.as_slice-calls.ensures c.args.self.now c.requires.table

pub place_keys-requires-clause-later : goal.place_keys-requires-clause-later
place_keys-requires-clause-later c =
    ask-set c.args.grouping.now c.requires.ready c.args.self.now c.requires.table c.as_slice-types.result.now c.as_slice-calls.result.now c.as_slice-types.ensures c.as_slice-calls.ensures c.args.later.now c.requires.later

pub join_columns-requires-clause-shape : goal.join_columns-requires-clause-shape
join_columns-requires-clause-shape c =
    ask-shape c.args.grouping.now c.requires.ready c.args.self.now c.requires.table c.as_slice-types.result.now c.as_slice-calls.result.now c.as_slice-types.ensures c.as_slice-calls.ensures c.args.self.now c.requires.table c.args.self.now.columns.items refl

pub join_columns-requires-clause-later : goal.join_columns-requires-clause-later
join_columns-requires-clause-later c =
    ask-shape c.args.grouping.now c.requires.ready c.args.self.now c.requires.table c.as_slice-types.result.now c.as_slice-calls.result.now c.as_slice-types.ensures c.as_slice-calls.ensures c.args.later.now c.requires.later c.as_slice-columns.result.now c.as_slice-columns.ensures.value

pub join_columns-requires-clause-room : goal.join_columns-requires-clause-room
join_columns-requires-clause-room c =
    ask-room c.args.grouping.now c.requires.ready c.args.self.now c.requires.table c.as_slice-types.result.now c.as_slice-calls.result.now c.as_slice-types.ensures c.as_slice-calls.ensures c.args.later.now c.requires.later c.place_keys.new.self c.in_ok-places.places.items c.in_ok-places.ensures c.len-count.result c.len-count.ensures c.deref.result.now c.deref.ensures.value

pub join_columns-requires-clause-places : goal.join_columns-requires-clause-places
join_columns-requires-clause-places c =
    ask-places c.args.grouping.now c.requires.ready c.args.self.now c.requires.table c.as_slice-types.result.now c.as_slice-calls.result.now c.as_slice-types.ensures c.as_slice-calls.ensures c.args.later.now c.requires.later c.place_keys.new.self c.in_ok-places.places.items c.in_ok-places.ensures c.len-count.result c.len-count.ensures c.deref.result.now c.deref.ensures.value

pub join_columns-requires-clause-many : goal.join_columns-requires-clause-many
join_columns-requires-clause-many c =
    ask-many c.args.grouping.now c.requires.ready c.args.self.now c.requires.table c.as_slice-types.result.now c.as_slice-calls.result.now c.as_slice-types.ensures c.as_slice-calls.ensures c.args.later.now c.requires.later c.place_keys.new.self c.in_ok-places.places.items c.in_ok-places.ensures c.len-count.result c.len-count.ensures c.deref.result.now c.deref.ensures.value c.as_slice-columns.result.now c.as_slice-columns.ensures.value

pub returns : goal.returns
returns c =
    ok_then c.join_columns.result (on_both _ _ c.join_columns.result c.join_columns.ensures.rows c.join_columns.ensures.shape)
    (λ both. merged c.args.grouping.now c.requires.ready c.args.self.now c.requires.table c.as_slice-types.result.now c.as_slice-calls.result.now c.as_slice-types.ensures c.as_slice-calls.ensures c.args.later.now c.requires.later c.place_keys.new.self c.in_ok-places.places.items c.in_ok-places.ensures c.len-count.result c.len-count.ensures c.deref.result.now c.deref.ensures.value c.as_slice-columns.result.now c.as_slice-columns.ensures.value _ refl both.0 both.1)
