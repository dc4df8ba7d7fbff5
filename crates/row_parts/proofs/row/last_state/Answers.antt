-- Answers of the goals that the search leaves open in row_parts::row::last_state.
use Rattle.std.proofs.Common.{arith}
use Rattle.agg_terms.specs.Values.{Nil}
use Rattle.row_parts.proofs.Tuples.{last-get}
use Rattle.row_parts.proofs.row.last_state.Goals as goal

pub returns-in-len1-up-clause-some : goal.returns-in-len1-up-clause-some
returns-in-len1-up-clause-some c = rw (last-get Nil c.state-item.result c.args.row.now (omega arith) c.state-item.is) c.state_of.ensures.some

pub returns-in-len1-up-clause-none : goal.returns-in-len1-up-clause-none
returns-in-len1-up-clause-none c = rw (last-get Nil c.state-item.result c.args.row.now (omega arith) c.state-item.is) c.state_of.ensures.none
