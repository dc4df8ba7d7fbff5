-- The least and the greatest value, and those of a second argument: each comparison picks a first best one.
use Rattle.std.proofs.Common.{◌≡◌, true, false, sym, ap, ◌∙◌, subst, true≢false, refl, Ordering, Less, Equal, Greater}
use Rattle.std.specs.Ordering.{is_lt, is_gt, ordering_reverse}
use Rattle.agg_terms.specs.Order.{compare}
use Rattle.agg_meaning.specs.Functions.{lower, higher, lower_second, higher_second}
use Rattle.agg_terms.proofs.Sorting.{IsOrder, IsBeating, down}
use Rattle.agg_terms.proofs.Comparing.{compare_order}

-- which of two is better
lt_less : (o : Ordering) → is_lt o ≡ true → o ≡ Less
lt_less Less e = refl
lt_less Equal e = absurd (true≢false (sym e))
lt_less Greater e = absurd (true≢false (sym e))

lower_is_beating : {X : Type 0} (cmp : X → X → Ordering) → IsOrder cmp → IsBeating (λ a b. is_lt (cmp a b))
lower_is_beating cmp laws = record {
  over = λ x y z e f. ap is_lt (laws.trans z y x (lt_less _ f) (lt_less _ e));
  under = λ x y z e f. go x y z e f (cmp z x) refl (cmp z y) refl;
}
  where
    go : (x y z : _) → is_lt (cmp y x) ≡ false → is_lt (cmp z y) ≡ false → (o : Ordering) → cmp z x ≡ o → (p : Ordering) → cmp z y ≡ p → is_lt (cmp z x) ≡ false
    go x y z e f Less g Less h = absurd (true≢false (sym (ap is_lt h) ∙ f))
    go x y z e f Less g Equal h = absurd (true≢false (sym (ap is_lt (subst (λ w. cmp w x ≡ Less) (laws.same z y h) g)) ∙ e))
    go x y z e f Less g Greater h = absurd (true≢false (sym (ap is_lt (laws.trans y z x (down cmp laws z y h) g)) ∙ e))
    go x y z e f Equal g p h = ap is_lt g
    go x y z e f Greater g p h = ap is_lt g

flipped : {X : Type 0} (cmp : X → X → Ordering) → IsOrder cmp → IsOrder (λ a b. cmp b a)
flipped cmp laws = record {
  flip = λ x y. laws.flip y x;
  trans = λ x y z e f. laws.trans z y x f e;
  same = λ x y e. sym (laws.same y x e);
}

gt_reverse : (o : Ordering) → is_gt (ordering_reverse o) ≡ is_lt o
gt_reverse Less = refl
gt_reverse Equal = refl
gt_reverse Greater = refl

pub gt_lt : {X : Type 0} (cmp : X → X → Ordering) → IsOrder cmp → (a b : X) → is_gt (cmp a b) ≡ is_lt (cmp b a)
gt_lt cmp laws a b = ap is_gt (laws.flip a b) ∙ gt_reverse (cmp b a)

higher_is_beating : {X : Type 0} (cmp : X → X → Ordering) → IsOrder cmp → IsBeating (λ a b. is_gt (cmp a b))
higher_is_beating cmp laws =
    let low : IsBeating (λ a b. is_lt (cmp b a)) = lower_is_beating (λ a b. cmp b a) (flipped cmp laws) in
    record {
      over = λ x y z e f. gt_lt cmp laws z x ∙ low.over x y z (sym (gt_lt cmp laws y x) ∙ e) (sym (gt_lt cmp laws z y) ∙ f);
      under = λ x y z e f. gt_lt cmp laws z x ∙ low.under x y z (sym (gt_lt cmp laws y x) ∙ e) (sym (gt_lt cmp laws z y) ∙ f);
    }

pub lower_beats : IsBeating lower
lower_beats = lower_is_beating compare compare_order

pub higher_beats : IsBeating higher
higher_beats = higher_is_beating compare compare_order

pub lower_second_beats : IsBeating lower_second
lower_second_beats = record { over = λ x y z. lower_beats.over x.1 y.1 z.1; under = λ x y z. lower_beats.under x.1 y.1 z.1 }

pub higher_second_beats : IsBeating higher_second
higher_second_beats = record { over = λ x y z. higher_beats.over x.1 y.1 z.1; under = λ x y z. higher_beats.under x.1 y.1 z.1 }
