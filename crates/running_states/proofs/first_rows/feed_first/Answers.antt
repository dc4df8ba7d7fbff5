-- Answers of the goals that the search leaves open in running_states::first_rows::feed_first.
use Rattle.std.proofs.Common.{rules, [], ◌∷◌, map, refl}
use Rattle.std.specs.Box.{with_value}
use Rattle.int_leaves.specs.Rows.{argument}
use Rattle.value_types.specs.Folds.{chain_of, ty_of}
use Rattle.row_parts.specs.Rows.{arguments}
use Rattle.running_states.proofs.DistinctRows.{rows_are, rows_fed, rows_kept}
use Rattle.running_states.proofs.Functions.{flipped}
use Rattle.running_states.proofs.first_rows.feed_first.Goals as goal

pub returns-clause-shape : goal.returns-clause-shape
returns-clause-shape c =
    rows_kept (chain_of c.args.of.now) (map ty_of c.args.types.now) c.args.state.now c.in-Rows.rows c.in-Rows.is (rows_are c.args.state.now c.in-Rows.rows c.in-Rows.is c.requires)
    c.insert_items.result _ (with_value c.in-Rows.rows c.insert_items.new.self) (search rules) (map argument c.args.row.now ∷ []) (search rules)

pub returns-clause-row : goal.returns-clause-row
returns-clause-row c =
    rows_fed (chain_of c.args.of.now) (map ty_of c.args.types.now) c.args.state.now c.in-Rows.rows c.in-Rows.is (rows_are c.args.state.now c.in-Rows.rows c.in-Rows.is c.requires)
    c.insert_items.result _ (with_value c.in-Rows.rows c.insert_items.new.self) (search rules) (map argument c.args.row.now ∷ []) (search rules)
    (arguments c.args.row.now) (flipped _ _ c.has_null.ensures c.if-has_null.false) refl
