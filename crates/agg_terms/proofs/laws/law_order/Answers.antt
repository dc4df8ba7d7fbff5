use Rattle.std.proofs.Common.{subst, refl}
use Rattle.std.specs.declared.cmp.Ordering.TheVariants.{Equal}
use Rattle.std.proofs.Common.{◌≡◌}
use Rattle.agg_terms.specs.Order.{compare}
use Rattle.agg_terms.proofs.Comparing.{compare_order, compare_total, compare_lists, compare_maps, null_before}
use Rattle.agg_terms.proofs.Sorting.{itself}
use Rattle.agg_terms.proofs.laws.law_order.Goals as goal

pub returns-clause-total : goal.returns-clause-total
returns-clause-total c = compare_total

pub returns-clause-equal_is_same : goal.returns-clause-equal_is_same
returns-clause-equal_is_same c = λ a b. (compare_order.same a b, λ e. subst (λ z. compare a z ≡ Equal) e (itself compare compare_order a))

pub returns-clause-numbers : goal.returns-clause-numbers
unfolding compare
returns-clause-numbers c = λ a b. refl

pub returns-clause-strings : goal.returns-clause-strings
unfolding compare
returns-clause-strings c = λ a b. refl

pub returns-clause-lists : goal.returns-clause-lists
unfolding compare
returns-clause-lists c = λ a b. compare_lists a b

pub returns-clause-maps : goal.returns-clause-maps
unfolding compare
returns-clause-maps c = λ a b. compare_maps a b

pub returns-clause-null : goal.returns-clause-null
returns-clause-null c = null_before
