use Rattle.std.proofs.Common.{ap, ◌∙◌, add-one, arith, set, get_or}
use Rattle.columns.proofs.Rows.{trim_here}
use Rattle.columns.proofs.each.trim_each.Goals as goal

pub loop-i-preserved : goal.loop-i-preserved
loop-i-preserved c =
    let cs = c.args.columns.now.items in
    let n = c.args.count in
    let i = c.loop-i.i in
    let here = c.index_mut.ensures.value ∙ ap (λ all. get_or all i c.index_mut.result.now) c.loop-i.invariant in
    ap (λ all. set all i c.trim_one.new.column) c.loop-i.invariant
    ∙ rw add-one (trim_here cs n i c.trim_one.new.column c.index_mut.result.now (omega (arith, c.loop-i-test.true, c.len-i-end.ensures, c.args.columns.now.ok)) c.trim_one.ensures here)
