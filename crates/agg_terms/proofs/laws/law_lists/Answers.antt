use Rattle.agg_terms.proofs.Ordered.{ascending_rises, ascending_keeps, ascending_stable, different_rises, different_keeps, firsts_apart, firsts_keep, firsts_leave_out, firsts_add_last, best_first}
use Rattle.agg_terms.proofs.laws.law_lists.Goals as goal

pub returns-clause-ascending_rises : goal.returns-clause-ascending_rises
returns-clause-ascending_rises g c = λ cmp xs o. ascending_rises cmp o xs

pub returns-clause-ascending_keeps_all : goal.returns-clause-ascending_keeps_all
returns-clause-ascending_keeps_all g c = λ cmp xs o. ascending_keeps cmp o xs

pub returns-clause-ascending_is_stable : goal.returns-clause-ascending_is_stable
returns-clause-ascending_is_stable g c = λ cmp xs x o. ascending_stable cmp o x xs

pub returns-clause-different_rises : goal.returns-clause-different_rises
returns-clause-different_rises g c = λ cmp xs o. different_rises cmp o xs

pub returns-clause-different_keeps_all : goal.returns-clause-different_keeps_all
returns-clause-different_keeps_all g c = λ cmp xs x o. different_keeps cmp o x xs

pub returns-clause-firsts_are_apart : goal.returns-clause-firsts_are_apart
returns-clause-firsts_are_apart g c = λ cmp xs o. firsts_apart cmp o xs

pub returns-clause-firsts_keep_all : goal.returns-clause-firsts_keep_all
returns-clause-firsts_keep_all g c = λ cmp xs x o. firsts_keep cmp o x xs

pub returns-clause-firsts_leave_out : goal.returns-clause-firsts_leave_out
returns-clause-firsts_leave_out g c = λ cmp xs x o h. firsts_leave_out cmp o x xs h

pub returns-clause-firsts_add_last : goal.returns-clause-firsts_add_last
returns-clause-firsts_add_last g c = λ cmp xs x o n. firsts_add_last cmp o x xs n

pub returns-clause-best_is_first : goal.returns-clause-best_is_first
returns-clause-best_is_first g c = λ beats xs o. best_first beats o xs
