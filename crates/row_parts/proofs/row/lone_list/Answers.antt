-- Answers of the goals that the search leaves open in row_parts::row::lone_list.
use Rattle.row_parts.proofs.Tuples.{some_rows}
use Rattle.row_parts.proofs.row.lone_list.Goals as goal

pub returns-in-len1 : goal.returns-in-len1
returns-in-len1 c = some_rows c.args.row.now c.list-item.result c.elements_of.result c.in-len1.len_at_least c.in-len1.len_below c.list-item.is c.elements_of.ensures
