-- Answers of the goals that the search leaves open in distinct_rows::rows::DistinctRows::insert.
use Rattle.std.proofs.Common.{map, refl, ap, ◌∙◌}
use Rattle.set_leaves.specs.Tuples.{values_tuple}
use Rattle.set_leaves.specs.declared.tuple.Tuple.{Tuple}
use Rattle.value_types.specs.Folds.{value_of}
use Rattle.distinct_rows.proofs.Inserted.{inserted}
use Rattle.distinct_rows.proofs.rows.DistinctRows.insert.Goals as goal

pub returns : goal.returns
returns c =
    ap (map (λ (t : Tuple). values_tuple t.values)) c.in_ok-insert.ensures.keys
    ∙ inserted c.args.self.now.rows.keys (record { values = c.args.values }) (map value_of c.args.values) refl c.requires
