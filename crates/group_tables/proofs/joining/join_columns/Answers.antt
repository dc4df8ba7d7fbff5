use Rattle.std.proofs.Common.{◌≡◌, ◌<◌, ◌∙◌, ap, get_or, length, map, subst, sym, arith}
use Rattle.state_columns.specs.Trees.{IsColumnOf, trees_in}
use Rattle.group_tables.specs.proving.Joined.{IsJoined}
use Rattle.group_tables.proofs.CallColumns.{ChangedSoFar, Joined, changed_all, changed_more, trees-at}
use Rattle.group_tables.proofs.joining.join_columns.Goals as goal

pub join_column-requires-clause-shape : goal.join_column-requires-clause-shape
join_column-requires-clause-shape c =
    let call = c.index-calls-i.result in
    let column = c.index_mut-column.result.now in
    let i = c.loop-i.i in
    subst (λ k. IsColumnOf k.ready column) (sym c.index-calls-i.is)
    (subst (IsColumnOf (get_or c.args.calls.now i call).ready) (sym (c.index_mut-column.ensures.value ∙ c.loop-i.invariant.same i column (omega arith)))
    (c.requires.shape.each i call column c.loop-i-test.true))

pub join_column-requires-clause-later : goal.join_column-requires-clause-later
join_column-requires-clause-later c =
    let call = c.index-calls-i.result in
    let column = c.index-later-i.result in
    subst (λ k. IsColumnOf k.ready column) (sym c.index-calls-i.is)
    (subst (IsColumnOf (get_or c.args.calls.now c.loop-i.i call).ready) (sym c.index-later-i.is) (c.requires.later.each c.loop-i.i call column c.loop-i-test.true))

pub loop-i-preserved : goal.loop-i-preserved
loop-i-preserved c =
    let call = c.index-calls-i.result in
    let later = c.index-later-i.result in
    let old = trees_in c.index_mut-column.result.now in
    let new = trees_in c.join_column.new.states in
    let there : c.loop-i.i < length c.args.later.now = omega (arith, c.loop-i-test.true, c.requires.later.many) in
    changed_more c.args.calls.now (Joined c.args.count c.args.places.now (map trees_in c.args.later.now)) c.args.states.now.items c.loop-i.states.items c.loop-i.i
    call c.index_mut-column.result.now c.join_column.new.states c.loop-i.invariant c.loop-i-test.true c.requires.shape.many c.index-calls-i.is c.index_mut-column.ensures.value
    c.in_ok-join_column.ensures.shape
    (subst (λ us. IsJoined call c.args.count c.args.places.now us old new) (ap trees_in c.index-later-i.is ∙ sym (trees-at c.args.later.now c.loop-i.i later there)) c.in_ok-join_column.ensures.rows)

pub returns-clause-rows : goal.returns-clause-rows
returns-clause-rows c =
    let joined = Joined c.args.count c.args.places.now (map trees_in c.args.later.now) in
    let all : c.loop-i.i ≡ length c.args.calls.now = omega (arith, c.loop-i.auto.i-end, c.loop-i-test.false) in
    record {
      each =
          changed_all c.args.calls.now joined c.args.states.now.items c.loop-i.states.items c.requires.shape.many
          (subst (ChangedSoFar c.args.calls.now joined c.args.states.now.items c.loop-i.states.items) all c.loop-i.invariant);
    }
