-- Answers of the goals that the search leaves open in row_parts::row::last_pairs.
use Rattle.std.proofs.Common.{arith}
use Rattle.agg_terms.specs.Values.{Nil}
use Rattle.row_parts.proofs.Tuples.{last-get}
use Rattle.row_parts.proofs.row.last_pairs.Goals as goal

pub returns-in-len1-up-clause-some : goal.returns-in-len1-up-clause-some
returns-in-len1-up-clause-some c = rw (last-get Nil c.pairs-item.result c.args.row.now (omega arith) c.pairs-item.is) c.pairs_of.ensures.some

pub returns-in-len1-up-clause-none : goal.returns-in-len1-up-clause-none
returns-in-len1-up-clause-none c = rw (last-get Nil c.pairs-item.result c.args.row.now (omega arith) c.pairs-item.is) c.pairs_of.ensures.none
