use Rattle.std.proofs.Common.{map, rules, sym, ◌∙◌}
use Rattle.agg_terms.specs.Order.{compare_rows}
use Rattle.value_types.specs.Folds.{value_of}
use Rattle.state_codec.proofs.Last.{last_rises}
use Rattle.state_codec.proofs.rows.is_above.Goals as goal

pub returns-in-Some : goal.returns-in-Some
returns-in-Some c = (search rules) ∙ sym (last_rises (map value_of) compare_rows c.args.earlier.now c.in-Some.field-0-1.now c.in-Some.last.now (map value_of c.args.row.now) c.in-Some.ensures.cases.0)
