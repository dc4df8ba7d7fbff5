use Rattle.std.proofs.Common.{refl}
use Rattle.group_keys.proofs.Placing.{on_both}
use Rattle.group_tables.proofs.CallColumns.{ok_then}
use Rattle.group_tables.proofs.Feeding.{ask-arguments, ask-columns, ask-few, ask-keys, ask-many, ask-places, ask-room, ask-set, ask-shape, ask-types, fed-table}
use Rattle.group_tables.proofs.table.GroupTable.feed_columns.Goals as goal

pub place_rows-requires-clause-set : goal.place_rows-requires-clause-set
place_rows-requires-clause-set c =
    ask-set c.args.grouping.now c.requires.ready c.args.self.now c.args.columns.now c.args.from c.args.to c.requires.table c.requires.types c.requires.typed c.requires.order c.requires.within c.as_slice-types.result.now c.as_slice-keys.result.now c.args.grouping.now.calls c.as_slice-types.ensures c.as_slice-keys.ensures refl

pub place_rows-requires-clause-types : goal.place_rows-requires-clause-types
place_rows-requires-clause-types c =
    ask-types c.args.grouping.now c.requires.ready c.args.self.now c.args.columns.now c.args.from c.args.to c.requires.table c.requires.types c.requires.typed c.requires.order c.requires.within c.as_slice-types.result.now c.as_slice-keys.result.now c.args.grouping.now.calls c.as_slice-types.ensures c.as_slice-keys.ensures refl

pub place_rows-requires-clause-keys : goal.place_rows-requires-clause-keys
place_rows-requires-clause-keys c =
    ask-keys c.args.grouping.now c.requires.ready c.args.self.now c.args.columns.now c.args.from c.args.to c.requires.table c.requires.types c.requires.typed c.requires.order c.requires.within c.as_slice-types.result.now c.as_slice-keys.result.now c.args.grouping.now.calls c.as_slice-types.ensures c.as_slice-keys.ensures refl

pub place_rows-requires-clause-columns : goal.place_rows-requires-clause-columns
place_rows-requires-clause-columns c =
    ask-columns c.args.grouping.now c.requires.ready c.args.self.now c.args.columns.now c.args.from c.args.to c.requires.table c.requires.types c.requires.typed c.requires.order c.requires.within c.as_slice-types.result.now c.as_slice-keys.result.now c.args.grouping.now.calls c.as_slice-types.ensures c.as_slice-keys.ensures refl

pub feed_calls-requires-clause-shape : goal.feed_calls-requires-clause-shape
feed_calls-requires-clause-shape c =
    ask-shape c.args.grouping.now c.requires.ready c.args.self.now c.args.columns.now c.args.from c.args.to c.requires.table c.requires.types c.requires.typed c.requires.order c.requires.within c.as_slice-types.result.now c.as_slice-keys.result.now c.as_slice-calls.result.now c.as_slice-types.ensures c.as_slice-keys.ensures c.as_slice-calls.ensures

pub feed_calls-requires-clause-few : goal.feed_calls-requires-clause-few
feed_calls-requires-clause-few c =
    ask-few c.args.grouping.now c.requires.ready c.args.self.now c.args.columns.now c.args.from c.args.to c.requires.table c.requires.types c.requires.typed c.requires.order c.requires.within c.as_slice-types.result.now c.as_slice-keys.result.now c.as_slice-calls.result.now c.as_slice-types.ensures c.as_slice-keys.ensures c.as_slice-calls.ensures

pub feed_calls-requires-clause-columns : goal.feed_calls-requires-clause-columns
feed_calls-requires-clause-columns c =
    ask-arguments c.args.grouping.now c.requires.ready c.args.self.now c.args.columns.now c.args.from c.args.to c.requires.table c.requires.types c.requires.typed c.requires.order c.requires.within c.as_slice-types.result.now c.as_slice-keys.result.now c.as_slice-calls.result.now c.as_slice-types.ensures c.as_slice-keys.ensures c.as_slice-calls.ensures

pub feed_calls-requires-clause-room : goal.feed_calls-requires-clause-room
feed_calls-requires-clause-room c =
    ask-room c.args.grouping.now c.requires.ready c.args.self.now c.args.columns.now c.args.from c.args.to c.requires.table c.requires.types c.requires.typed c.requires.order c.requires.within c.as_slice-types.result.now c.as_slice-keys.result.now c.as_slice-calls.result.now c.as_slice-types.ensures c.as_slice-keys.ensures c.as_slice-calls.ensures c.place_rows.new.self c.in_ok-places.places.items c.in_ok-places.ensures c.len-count.result c.len-count.ensures c.deref.result.now c.deref.ensures.value

pub feed_calls-requires-clause-places : goal.feed_calls-requires-clause-places
feed_calls-requires-clause-places c =
    ask-places c.args.grouping.now c.requires.ready c.args.self.now c.args.columns.now c.args.from c.args.to c.requires.table c.requires.types c.requires.typed c.requires.order c.requires.within c.as_slice-types.result.now c.as_slice-keys.result.now c.as_slice-calls.result.now c.as_slice-types.ensures c.as_slice-keys.ensures c.as_slice-calls.ensures c.place_rows.new.self c.in_ok-places.places.items c.in_ok-places.ensures c.len-count.result c.len-count.ensures c.deref.result.now c.deref.ensures.value

pub feed_calls-requires-clause-count : goal.feed_calls-requires-clause-count
feed_calls-requires-clause-count c =
    ask-many c.args.grouping.now c.requires.ready c.args.self.now c.args.columns.now c.args.from c.args.to c.requires.table c.requires.types c.requires.typed c.requires.order c.requires.within c.as_slice-types.result.now c.as_slice-keys.result.now c.as_slice-calls.result.now c.as_slice-types.ensures c.as_slice-keys.ensures c.as_slice-calls.ensures c.place_rows.new.self c.in_ok-places.places.items c.in_ok-places.ensures c.len-count.result c.len-count.ensures c.deref.result.now c.deref.ensures.value

pub returns : goal.returns
returns c =
    ok_then c.feed_calls.result (on_both _ _ c.feed_calls.result c.feed_calls.ensures.rows c.feed_calls.ensures.shape)
    (λ both. fed-table c.args.grouping.now c.requires.ready c.args.self.now c.args.columns.now c.args.from c.args.to c.requires.table c.requires.types c.requires.typed c.requires.order c.requires.within c.as_slice-types.result.now c.as_slice-keys.result.now c.as_slice-calls.result.now c.as_slice-types.ensures c.as_slice-keys.ensures c.as_slice-calls.ensures c.place_rows.new.self c.in_ok-places.places.items c.in_ok-places.ensures c.len-count.result c.len-count.ensures c.deref.result.now c.deref.ensures.value
    _ refl both.0 both.1 c.law_typing.ensures.legal_is_lawful c.law_types.ensures.narrow)
