-- A reader that is quick and a judge that knows the place: where the reader finds nothing, the judge tells the fault.
use Rattle.std.proofs.Common.{◌≡◌, ℕ, List, ◌++◌, take, Option, Some, None, Result, Ok, Err, refl, sym, ap, ◌∙◌}
use Rattle.first_fault.specs.FirstFault.{Begins, IsLongestFront, IsReading, with_place, IsSpelled}

none_is : {V : Type 0} (o : Option V) (v : V) → o ≡ None → o ≡ Some v → ⊥
none_is o v e f = absurd cc

pub cold : {A V : Type 0} (spells : List A → V → Type 0) (text : List A) (found : Option V) (judged : Result (Unit {0}) ℕ)
    → ((v : V) → found ≡ Some v → spells text v) → ((v : V) → spells text v → found ≡ Some v)
    → IsReading (IsSpelled spells) text judged → IsReading spells text (with_place found judged)
cold spells text (Some v) judged sound complete j = sound v refl
cold spells text None (Ok u) sound complete j = absurd (none_is None j.0 refl (complete j.0 j.1))
cold spells text None (Err at) sound complete j = (
  λ v h. j.0 tt (v, h),
  record {
    within = j.1.within;
    begins = (j.1.begins.0, j.1.begins.2.0, j.1.begins.2.1);
    longest = λ n le b. j.1.longest n le (b.0, tt, (b.1, b.2));
  },
)
