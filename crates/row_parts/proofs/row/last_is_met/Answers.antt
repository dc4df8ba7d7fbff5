-- Answers of the goals that the search leaves open in row_parts::row::last_is_met.
use Rattle.std.proofs.Common.{arith, sym, ap, ◌∙◌}
use Rattle.agg_terms.specs.Values.{Nil}
use Rattle.agg_meaning.specs.Feeds.{as_condition}
use Rattle.row_parts.specs.Rows.{is_met as met}
use Rattle.row_parts.proofs.Tuples.{last-get}
use Rattle.row_parts.proofs.row.last_is_met.Goals as goal

pub returns-in-len1-up : goal.returns-in-len1-up
returns-in-len1-up c = c.is_met.ensures ∙ ap (λ v. met (as_condition v)) (sym (last-get Nil c.condition-item.result c.args.row.now (omega arith) c.condition-item.is))
