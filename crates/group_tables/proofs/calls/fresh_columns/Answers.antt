use Rattle.std.proofs.Common.{◌≡◌, length, subst, arith}
use Rattle.group_tables.proofs.CallColumns.{MadeSoFar, made_fresh, made_more}
use Rattle.group_tables.proofs.calls.fresh_columns.Goals as goal

pub loop-i-preserved : goal.loop-i-preserved
loop-i-preserved c =
    made_more c.args.calls.now c.args.count c.loop-i.columns.items c.push.new.self.items c.loop-i.i c.index-calls-i.result c.in_ok-fresh_column.field-0 c.loop-i.invariant c.loop-i-test.true
    c.index-calls-i.is c.in_ok-fresh_column.ensures.shape c.in_ok-fresh_column.ensures.fresh c.in_ok-push.ensures.items

pub returns-clause-fresh : goal.returns-clause-fresh
returns-clause-fresh c =
    let all : c.loop-i.i ≡ length c.args.calls.now = omega (arith, c.loop-i.auto.i-end, c.loop-i-test.false) in
    made_fresh c.args.calls.now c.args.count c.loop-i.columns.items (subst (MadeSoFar c.args.calls.now c.args.count c.loop-i.columns.items) all c.loop-i.invariant)
