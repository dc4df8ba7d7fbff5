-- The orders that the definitions use, for the laws.
use Rattle.std.proofs.Common.{◌≡◌, true, false, refl, sym, ap, ◌∙◌, Ordering, Less, Equal, Greater, true≢false}
use Rattle.std.specs.Ordering.{is_lt, ordering_reverse}
use Rattle.std.specs.Cmp.{IsStrictWeakOrder, nat_cmp_total}
use Rattle.agg_terms.specs.Laws.{IsFullOrder}
use Rattle.agg_terms.specs.Order.{compare, compare_rows}
use Rattle.agg_terms.proofs.Sorting.{IsBeating, IsOrder}
use Rattle.agg_terms.proofs.Comparing.{compare_order, rows_order}
use Rattle.agg_meaning.specs.Functions.{higher, lower}
use Rattle.agg_meaning.specs.Orders.{HighestIsBest, LowestIsBest, RowsAreOrdered, TimesAreOrdered, ValuesAreOrdered}
use Rattle.agg_meaning.proofs.Better.{gt_lt, higher_beats, lower_beats}

full : {X : Type 0} (cmp : X → X → Ordering) → IsOrder cmp → IsFullOrder cmp
full cmp laws = (
  record { antisymm = laws.flip; trans = laws.trans; congr = λ x y z e. ap (λ w. cmp w z) (laws.same x y e) },
  laws.same,
)

pub values_are_ordered : ValuesAreOrdered
values_are_ordered = full compare compare_order

pub rows_are_ordered : RowsAreOrdered
rows_are_ordered = full compare_rows rows_order

pub times_are_ordered : TimesAreOrdered
times_are_ordered = record {
  antisymm = λ x y. nat_cmp_total.antisymm x.time y.time;
  trans = λ x y z. nat_cmp_total.trans x.time y.time z.time;
  congr = λ x y z. nat_cmp_total.congr x.time y.time z.time;
}

-- where one is lower, the other isn't
turned : (o p : Ordering) → o ≡ ordering_reverse p → is_lt o ≡ true → is_lt p ≡ false
turned o Less e h = absurd (true≢false (sym h ∙ ap is_lt e))
turned o Equal e h = refl
turned o Greater e h = refl

lower_order : IsStrictWeakOrder lower
lower_order = record {
  one_way = λ x y h. turned (compare x y) (compare y x) (compare_order.flip x y) h;
  chain = λ x y z e f. lower_beats.under z y x f e;
}

higher_order : IsStrictWeakOrder higher
higher_order = record {
  one_way = λ x y h. gt_lt compare compare_order y x ∙ lower_order.one_way y x (sym (gt_lt compare compare_order x y) ∙ h);
  chain = λ x y z e f. higher_beats.under z y x f e;
}

pub lowest_is_best : LowestIsBest
lowest_is_best = (lower_order, record { one_way = λ x y. lower_order.one_way x.1 y.1; chain = λ x y z. lower_order.chain x.1 y.1 z.1 })

pub highest_is_best : HighestIsBest
highest_is_best = (higher_order, record { one_way = λ x y. higher_order.one_way x.1 y.1; chain = λ x y z. higher_order.chain x.1 y.1 z.1 })
