-- Answers of the goals that the search leaves open in row_parts::row::last_key.
use Rattle.std.proofs.Common.{arith, sym, ap, ◌∙◌}
use Rattle.agg_terms.specs.Values.{Nil}
use Rattle.agg_meaning.specs.Feeds.{as_key}
use Rattle.row_parts.proofs.Tuples.{last-get}
use Rattle.row_parts.proofs.row.last_key.Goals as goal

pub returns-in-len1-up : goal.returns-in-len1-up
returns-in-len1-up c = c.key_of.ensures ∙ ap as_key (sym (last-get Nil c.key-item.result c.args.row.now (omega arith) c.key-item.is))
