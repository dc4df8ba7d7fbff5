-- How keys stand to one another: as their tuples do. Proofs, which the implementations of comparisons name.
use Rattle.std.proofs.Common.{◌≡◌, ℤ, ℕ, List, refl, sym, true, Ordering, Less, Equal, Greater}
use Rattle.std.specs.Cmp.{IsTotalOrder, IsEquivalence, IsPartialEquivalence, IsPartialOrder, eq_by_cmp_equiv, on_total, partial_equiv_from_equiv, po, Equal-is}
use Rattle.std.specs.Cmp.Lexicographic.{slice_cmp}
use Rattle.std.specs.Ordering.{eq_by_cmp, int_cmp, nat_cmp, ordering_then}
use Rattle.std.specs.Prelude.{Some}
use Rattle.agg_terms.specs.Laws.{IsFullOrder}
use Rattle.agg_terms.specs.Order.{compare, compare_rows, compare_values}
use Rattle.agg_terms.proofs.Comparing.{rows_order}
use Rattle.agg_terms.proofs.Sorting.{ranking}
use Rattle.value_types.specs.declared.value.Value.{Value}
use Rattle.set_leaves.specs.Tuples.{number_tuple, text_tuple, values_cmp, values_tuple}

then_equal : (p : Ordering) → ordering_then p Equal ≡ p
then_equal Less = refl
then_equal Equal = refl
then_equal Greater = refl

pub number_ranks : (a b : ℤ) → int_cmp a b ≡ compare_rows (number_tuple a) (number_tuple b)
unfolding compare compare_values
number_ranks a b = sym (then_equal (int_cmp a b))

pub text_ranks : (a b : List ℕ) → slice_cmp nat_cmp a b ≡ compare_rows (text_tuple a) (text_tuple b)
unfolding compare compare_values
text_ranks a b = sym (then_equal (slice_cmp nat_cmp a b))

pub rows_total : IsTotalOrder compare_rows
rows_total = record { antisymm = rows_order.flip; trans = rows_order.trans; congr = (ranking compare_rows rows_order).level }

pub rows_full : IsFullOrder compare_rows
rows_full = (rows_total, rows_order.same)

pub values_total : IsTotalOrder values_cmp
values_total = on_total values_tuple rows_total

pub values_equal : IsEquivalence (eq_by_cmp values_cmp)
values_equal = eq_by_cmp_equiv values_total

pub values_alike : IsPartialEquivalence (eq_by_cmp values_cmp)
values_alike = partial_equiv_from_equiv values_equal

pub values_ordered : IsPartialOrder (eq_by_cmp values_cmp) (λ a b. Some (values_cmp a b))
values_ordered = po values_total (λ a b. refl)

pub values_same : (a b : List Value) → eq_by_cmp values_cmp a b ≡ true → values_tuple a ≡ values_tuple b
values_same a b e = rows_order.same (values_tuple a) (values_tuple b) ((Equal-is (values_cmp a b)).0 e)
