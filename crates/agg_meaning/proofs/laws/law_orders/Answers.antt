use Rattle.agg_meaning.proofs.Orders.{highest_is_best, lowest_is_best, rows_are_ordered, times_are_ordered, values_are_ordered}
use Rattle.agg_meaning.proofs.laws.law_orders.Goals as goal

pub returns-clause-values : goal.returns-clause-values
returns-clause-values c = values_are_ordered

pub returns-clause-rows : goal.returns-clause-rows
returns-clause-rows c = rows_are_ordered

pub returns-clause-times : goal.returns-clause-times
returns-clause-times c = times_are_ordered

pub returns-clause-lowest : goal.returns-clause-lowest
returns-clause-lowest c = lowest_is_best

pub returns-clause-highest : goal.returns-clause-highest
returns-clause-highest c = highest_is_best
