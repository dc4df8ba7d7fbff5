-- The rows that a set keeps.
use Rattle.std.specs.Prelude.{List, map}
use Rattle.agg_terms.specs.Values.{Value}
use Rattle.set_leaves.specs.Tuples.{number_tuple, text_tuple, values_tuple}
use Rattle.set_leaves.specs.declared.rows.Rows.{Rows}
use Rattle.set_leaves.specs.declared.rows.Rows.TheVariants.{Numbers, Texts, Tuples}

abbrev pub rows_in : Rows → List (List Value)
rows_in (Numbers numbers) = map number_tuple numbers
rows_in (Texts texts) = map (λ text. text_tuple text.items) texts
rows_in (Tuples tuples) = map (λ tuple. values_tuple tuple.values) tuples
