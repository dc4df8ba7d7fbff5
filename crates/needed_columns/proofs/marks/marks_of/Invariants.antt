use Rattle.std.proofs.Common.{◌≡◌, map}
use Rattle.agg_terms.specs.Lists.{places}
use Rattle.agg_defs.specs.Plans.{view_in}
use Rattle.needed_columns.specs.Columns.{is_named}
use Rattle.needed_columns.proofs.marks.marks_of.Given as goal

-- the marks so far
abbrev pub invariant-loop-column : goal.invariant-loop-column
invariant-loop-column l = l.marks.items ≡ map (is_named (view_in l.plan)) (places 0 l.column)
