use Rattle.std.proofs.Common.{arith, false, get_or, sym, take}
use Rattle.needed_columns.proofs.Kept.{few_taken, one_most, place_low, place_more, place_none}
use Rattle.needed_columns.proofs.places.place_in.Goals as goal

pub loop-marked-init : goal.loop-marked-init
loop-marked-init c = sym (place_none c.args.marks.now)

pub overflow_add-place : goal.overflow_add-place
overflow_add-place c =
    let marks = c.args.marks.now in
    let column = c.args.column in
    let i = c.loop-marked.marked-index in
    omega (arith, c.loop-marked.invariant, place_low marks i, c.loop-marked-test.true, few_taken column marks, c.ranges.column.fits, c.from-place.ensures, one_most (get_or (take column marks) i false))

pub loop-marked-preserved : goal.loop-marked-preserved
loop-marked-preserved c =
    place_more c.args.marks.now c.args.column c.loop-marked.marked-index c.loop-marked.place c.from-place.result c.requires c.loop-marked-test.true c.loop-marked.invariant c.from-place.ensures
