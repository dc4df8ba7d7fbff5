use Rattle.std.proofs.Common.{◌≡◌, ◌++◌, length, take, map}
use Rattle.std.specs.Prelude.{flat_map}
use Rattle.agg_values.specs.Peels.{peeled_types}
use Rattle.value_types.specs.Folds.{value_of}
use Rattle.state_texts.specs.Figures.{high}
use Rattle.state_texts.specs.Texts.{row_text}
use Rattle.state_texts.proofs.values.put_rows.Given as goal

abbrev pub invariant-loop-row : goal.invariant-loop-row
invariant-loop-row l = l.out.items ≡ l.fn.out.items ++ (high 8 (length l.rows) ++ flat_map (row_text (peeled_types l.peels l.types)) (map (map value_of) (take l.row-index l.rows)))
