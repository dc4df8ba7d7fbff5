-- The orders that the definitions put lists in and pick the best by. The laws of ordered lists hold at each of them.
use Rattle.std.specs.Cmp.{IsStrictWeakOrder, IsTotalOrder}
use Rattle.agg_terms.specs.Laws.{IsFullOrder}
use Rattle.agg_terms.specs.Order.{compare, compare_rows}
use Rattle.agg_terms.specs.Trees.{by_time}
use Rattle.agg_meaning.specs.Functions.{higher, higher_second, lower, lower_second}

-- keys of maps, and values that are put in order
abbrev pub ValuesAreOrdered : Type 0
ValuesAreOrdered = IsFullOrder compare

-- rows and keys of groups
abbrev pub RowsAreOrdered : Type 0
RowsAreOrdered = IsFullOrder compare_rows

-- events by their time, where different events may stand at one time
abbrev pub TimesAreOrdered : Type 0
TimesAreOrdered = IsTotalOrder by_time

-- the better of two values, and of two pairs by their second part
abbrev pub LowestIsBest : Type 0
LowestIsBest = IsStrictWeakOrder lower × IsStrictWeakOrder lower_second

abbrev pub HighestIsBest : Type 0
HighestIsBest = IsStrictWeakOrder higher × IsStrictWeakOrder higher_second
