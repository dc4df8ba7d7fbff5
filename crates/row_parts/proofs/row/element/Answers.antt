-- Answers of the goals that the search leaves open in row_parts::row::element.
use Rattle.std.proofs.Common.{arith, sym, ap, ◌∙◌, get_or, length}
use Rattle.std.proofs.lemmas.List.{length-map}
use Rattle.agg_terms.specs.Values.{Nil}
use Rattle.typed_columns.specs.Items.{item_value, span_values}
use Rattle.value_types.specs.Folds.{value_of}
use Rattle.row_parts.proofs.Tuples.{items_listed, map_at}
use Rattle.row_parts.proofs.row.element.Goals as goal

pub at-requires : goal.at-requires
at-requires c = omega (arith, c.requires, ap length (items_listed c.args.list.now c.in-List.elements c.in-List.is), length-map (span_values c.in-List.elements) value_of)

pub returns : goal.returns
returns c = sym (ap (λ z. get_or z c.args.place Nil) (items_listed c.args.list.now c.in-List.elements c.in-List.is) ∙ map_at value_of Nil (span_values c.in-List.elements) c.args.place (item_value c.at.result) c.at.ensures)
