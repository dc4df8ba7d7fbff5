-- Answers of the goals that the search leaves open in running_states::first_rows::first_from_tree.
use Rattle.std.proofs.Common.{refl, subst, sym}
use Rattle.distinct_rows.specs.Rows.{AreFirsts, rows_in}
use Rattle.distinct_rows.specs.declared.rows.DistinctRows.{DistinctRows}
use Rattle.distinct_rows.proofs.Inserted.{are_firsts}
use Rattle.running_states.proofs.DistinctRows.{are_rows}
use Rattle.running_states.proofs.first_rows.first_from_tree.Goals as goal

pub returns-clause-shape : goal.returns-clause-shape
returns-clause-shape c =
    are_rows _ c.in_ok-new.field-0 refl
    (subst (λ (z : DistinctRows). AreFirsts (rows_in z)) (sym c.in_ok-new.ensures.ok) (subst AreFirsts (sym c.in_ok-insert_all.ensures) (are_firsts _)))
