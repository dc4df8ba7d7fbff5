-- Answers of the goals that the search leaves open in running_states::first_rows::merge_first.
use Rattle.std.proofs.Common.{rules, map, refl}
use Rattle.std.specs.Box.{with_value}
use Rattle.distinct_rows.specs.Rows.{rows_in}
use Rattle.value_types.specs.Folds.{chain_of, ty_of}
use Rattle.running_states.proofs.DistinctRows.{rows_are, rows_joined, rows_kept}
use Rattle.running_states.proofs.first_rows.merge_first.Goals as goal

pub returns-clause-shape : goal.returns-clause-shape
returns-clause-shape c =
    rows_kept (chain_of c.args.of.now) (map ty_of c.args.types.now) c.args.state.now c.in-Rows.rows c.in-Rows.is (rows_are c.args.state.now c.in-Rows.rows c.in-Rows.is c.requires.first)
    c.merge.result _ (with_value c.in-Rows.rows c.merge.new.self) (search rules) (rows_in c.in-Rows-later.more.value) (search rules)

pub returns-clause-rows : goal.returns-clause-rows
returns-clause-rows c =
    rows_joined (chain_of c.args.of.now) (map ty_of c.args.types.now) c.args.state.now c.in-Rows.rows c.in-Rows.is (rows_are c.args.state.now c.in-Rows.rows c.in-Rows.is c.requires.first)
    c.merge.result _ (with_value c.in-Rows.rows c.merge.new.self) (search rules) (rows_in c.in-Rows-later.more.value) (search rules)
    c.args.later.now c.in-Rows-later.more c.in-Rows-later.is refl
