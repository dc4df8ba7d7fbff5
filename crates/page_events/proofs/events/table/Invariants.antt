use Rattle.std.proofs.Common.{◌≤◌, length, map}
use Rattle.batch_reader.specs.Reading.{column_type}
use Rattle.row_texts.specs.Rows.{AreReadable}
use Rattle.page_events.proofs.events.table.Given as goal

abbrev pub invariant-loop-place : goal.invariant-loop-place
invariant-loop-place l = (length l.columns ≤ l.place) × (length l.columns ≤ 8) × AreReadable (λ _. Unit {0}) (map column_type l.columns)
