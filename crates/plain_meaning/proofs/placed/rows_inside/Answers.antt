use Rattle.std.proofs.Common.{◌≡◌, ◌∙◌, ◌+ℤ◌, ◌*◌, ◌<◌, ◌^◌, pos, ap, rules, to_z, of_z}
use Rattle.std.proofs.lemmas.Int.{to_z-of_z}
use Rattle.std.proofs.lemmas.Result.{IfOk-weaker}
use mir.Syntax.{w64, w128}
use Rattle.plain_rows.specs.Rows.{rows_of}
use Rattle.plain_meaning.specs.Inward.{rows_between, rows_inside}
use Rattle.plain_meaning.proofs.Intervals.{between_is, end_fits, interval_low}
use Rattle.plain_meaning.proofs.placed.rows_inside.Goals as goal

pub returns : goal.returns
returns c =
    let low = c.interval_start-low.result in
    let step = c.from.result in
    let rows = rows_of c.args.rows.now in
    let low_is : to_z w128 (of_z w128 low) ≡ low = search rules in
    let step_is : to_z w128 (of_z w128 step) ≡ step = search rules in
    let start_is : low ≡ c.args.start +ℤ pos (c.args.place * c.args.step) =
    c.interval_start-low.ensures ∙ ap (λ z. z +ℤ pos (c.args.place * c.args.step)) (to_z-of_z w64 c.args.start c.ranges.start) in
    let past : c.args.place * c.args.step < 2 ^ 64 = search (rules, interval_low) in
    let high_is : to_z w128 (of_z w128 (low +ℤ step)) ≡ low +ℤ step =
    to_z-of_z w128 (low +ℤ step) (end_fits c.args.start low step (c.args.place * c.args.step) c.args.step c.ranges.start past c.ranges.step.fits start_is c.from.ensures) in
    let end_is = to_z-of_z w64 c.args.end c.ranges.end in
    let read : rows_between (to_z w128 (of_z w128 low)) (to_z w128 (of_z w128 (to_z w128 (of_z w128 low) +ℤ to_z w128 (of_z w128 step)))) (to_z w64 (of_z w64 c.args.end)) rows ≡ rows_between low (low +ℤ step) c.args.end rows =
    ap (λ z. rows_between z (to_z w128 (of_z w128 (z +ℤ to_z w128 (of_z w128 step)))) (to_z w64 (of_z w64 c.args.end)) rows) low_is
    ∙ ap (λ z. rows_between low (to_z w128 (of_z w128 (low +ℤ z))) (to_z w64 (of_z w64 c.args.end)) rows) step_is
    ∙ ap (λ z. rows_between low z (to_z w64 (of_z w64 c.args.end)) rows) high_is
    ∙ ap (λ z. rows_between low (low +ℤ step) z rows) end_is in
    IfOk-weaker c.rows_between.result
    (λ found. rows_of found ≡ rows_between (to_z w128 (of_z w128 low)) (to_z w128 (of_z w128 (to_z w128 (of_z w128 low) +ℤ to_z w128 (of_z w128 step)))) (to_z w64 (of_z w64 c.args.end)) rows)
    (λ found. rows_of found ≡ rows_inside c.args.start c.args.end c.args.step c.args.place rows)
    (λ found h. h ∙ read ∙ between_is c.args.start c.args.end c.args.step c.args.place low (low +ℤ step) rows
    start_is (ap (λ z. low +ℤ z) c.from.ensures))
    c.rows_between.ensures
