-- Answers of the goals that the search leaves open in row_parts::row::count_elements.
use Rattle.std.proofs.Common.{sym, ap, ◌∙◌, length}
use Rattle.std.proofs.lemmas.List.{length-map}
use Rattle.typed_columns.specs.Items.{span_values}
use Rattle.value_types.specs.Folds.{value_of}
use Rattle.row_parts.proofs.Tuples.{items_listed}
use Rattle.row_parts.proofs.row.count_elements.Goals as goal

pub returns-in-List : goal.returns-in-List
returns-in-List c = c.len.ensures ∙ sym (ap length (items_listed c.args.list.now c.in-List.elements c.in-List.is) ∙ length-map (span_values c.in-List.elements) value_of)
