-- Answers of the goals that the search leaves open in distinct_rows::rows::DistinctRows::merge.
use Rattle.std.proofs.Common.{rules, map, subst, sym}
use Rattle.set_leaves.specs.Tuples.{values_tuple}
use Rattle.set_leaves.specs.declared.tuple.Tuple.{Tuple}
use Rattle.value_types.specs.Folds.{value_of}
use Rattle.distinct_rows.specs.Rows.{AreFirsts, rows_in}
use Rattle.distinct_rows.proofs.Inserted.{are_firsts, more}
use Rattle.distinct_rows.proofs.rows.DistinctRows.merge.Goals as goal

pub insert-requires : goal.insert-requires
insert-requires c = subst AreFirsts (sym c.loop-i.invariant) (are_firsts _)

pub loop-i-preserved : goal.loop-i-preserved
loop-i-preserved c =
    more (λ (t : Tuple). values_tuple t.values) (rows_in c.args.self.now) c.as_slice-rows.result.now c.loop-i.i c.index-rows-i.result (map value_of c.in_ok-copy_values.field-0) (rows_in c.loop-i.self) (rows_in c.insert.new.self)
    c.loop-i-test.true c.index-rows-i.is (search rules) c.loop-i.invariant c.in_ok-insert.ensures
