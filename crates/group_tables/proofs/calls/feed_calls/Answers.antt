use Rattle.std.proofs.Common.{◌≡◌, ◌-◌, ◌∙◌, get_or, length, subst, sym, arith}
use Rattle.state_columns.specs.Trees.{IsColumnOf}
use Rattle.group_tables.proofs.CallColumns.{ChangedSoFar, Fed, changed_all, changed_more}
use Rattle.group_tables.proofs.calls.feed_calls.Goals as goal

pub feed_call-requires-clause-shape : goal.feed_call-requires-clause-shape
feed_call-requires-clause-shape c =
    let call = c.index-calls-i.result in
    let column = c.index_mut-column.result.now in
    let i = c.loop-i.i in
    subst (λ k. IsColumnOf k.ready column) (sym c.index-calls-i.is)
    (subst (IsColumnOf (get_or c.args.calls.now i call).ready) (sym (c.index_mut-column.ensures.value ∙ c.loop-i.invariant.same i column (omega arith)))
    (c.requires.shape.each i call column c.loop-i-test.true))

pub loop-i-preserved : goal.loop-i-preserved
loop-i-preserved c =
    changed_more c.args.calls.now (Fed c.args.count c.args.places.now c.args.columns.now c.args.from (c.args.to - c.args.from)) c.args.states.now.items c.loop-i.states.items c.loop-i.i
    c.index-calls-i.result c.index_mut-column.result.now c.feed_call.new.states c.loop-i.invariant c.loop-i-test.true c.requires.shape.many c.index-calls-i.is c.index_mut-column.ensures.value
    c.in_ok-feed_call.ensures.shape c.in_ok-feed_call.ensures.rows

pub returns-clause-rows : goal.returns-clause-rows
returns-clause-rows c =
    let fed = Fed c.args.count c.args.places.now c.args.columns.now c.args.from (c.args.to - c.args.from) in
    let all : c.loop-i.i ≡ length c.args.calls.now = omega (arith, c.loop-i.auto.i-end, c.loop-i-test.false) in
    record {
      each =
          changed_all c.args.calls.now fed c.args.states.now.items c.loop-i.states.items c.requires.shape.many
          (subst (ChangedSoFar c.args.calls.now fed c.args.states.now.items c.loop-i.states.items) all c.loop-i.invariant);
    }
