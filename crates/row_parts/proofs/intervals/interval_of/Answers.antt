-- Answers of the goals that the search leaves open in row_parts::intervals::interval_of.
use Rattle.std.proofs.Common.{rules, ◌≡◌, ◌-ℤ◌, ◌≤ℤ◌, ◌<ℤ◌, to_z, of_z}
use mir.Syntax.{w128}
use Rattle.row_parts.proofs.IntervalPlaces.{interval_known}
use Rattle.row_parts.proofs.intervals.interval_of.Goals as goal

pub returns-clause-some : goal.returns-clause-some
returns-clause-some c =
    let past : to_z w128 (of_z w128 (to_z w128 (of_z w128 c.args.key) -ℤ to_z w128 (of_z w128 c.from-2.result))) ≡ c.args.key -ℤ c.args.start = search rules in
    let low : c.args.start ≤ℤ c.args.key = search rules in
    let high : c.args.key <ℤ c.args.end = search rules in
    interval_known c.args.start c.args.end c.args.key _ c.args.step c.from-3.result c.requires.step c.from-3.ensures past low high
