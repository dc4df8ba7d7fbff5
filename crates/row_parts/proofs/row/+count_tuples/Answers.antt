-- Answers of the goals that the search leaves open in row_parts::row::count_tuples.
use Rattle.std.proofs.Common.{rules, arith, ◌-◌, ◌≤◌, ◌∙◌, take, drop, length, length-drop}
use Rattle.std.proofs.lemmas.List.{take_all}
use Rattle.row_parts.proofs.Tuples.{counted}
use Rattle.row_parts.proofs.row.+count_tuples.Goals as goal

pub returns-else-is_empty : goal.returns-else-is_empty
returns-else-is_empty t c =
    let rows = c.args.row.now in
    let some : 1 ≤ length (take (length rows - 1) (drop 1 rows)) = search rules in
    c.min.ensures
    ∙ counted rows (take (length rows - 1) (drop 1 rows)) c.list-item.result c.count_elements-in-len1-up.result c.count_tuples.result c.in-len1-up.len_at_least
    (take_all (length rows - 1) (drop 1 rows) (omega (arith, length-drop 1 rows))) c.list-item.is some c.count_elements-in-len1-up.ensures c.count_tuples.ensures
