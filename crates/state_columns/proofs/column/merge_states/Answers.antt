use Rattle.std.proofs.Common.{get_or}
use Rattle.chain_states.specs.Calls.{IsStateOf}
use Rattle.state_columns.proofs.Columns.{each-set, joined-next}
use Rattle.state_columns.proofs.column.merge_states.Goals as goal

pub loop-i-preserved : goal.loop-i-preserved
loop-i-preserved c =
    record {
      shape = each-set (IsStateOf c.args.call.now) c.loop-i.states.items (get_or c.args.places.now c.loop-i.i 0) c.merge.new.self c.loop-i.invariant.shape c.in_ok-merge.ensures.shape;
      joined = joined-next c.args.call.now c.args.later.now c.args.places.now c.args.states.now.items c.loop-i.states.items c.loop-i.i c.index_mut.result.now c.index-later-i.result c.merge.new.self
          c.requires.count c.loop-i-test.true c.requires.places c.index-later-i.is c.index_mut.ensures.value c.loop-i.invariant.joined c.in_ok-merge.ensures.rows;
    }
