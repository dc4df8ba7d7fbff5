-- Lists that are added to step by step.
use Rattle.std.proofs.Common.{◌≡◌, ℕ, zero, suc, ◌+◌, List, [], ◌∷◌, ◌++◌, length, take, refl, sym, ap, ◌∙◌, append_assoc}
use Rattle.std.proofs.lemmas.List.{append-nil}
use Rattle.std.proofs.Math.Seq.{take-append-add}
use Rattle.value_lists.specs.Fronts.{HoldsFront}

-- no more than there are
abbrev at_most : {X : Type 0} → List X → ℕ → ℕ
at_most [] n = zero
at_most (x ∷ xs) zero = zero
at_most (x ∷ xs) (suc n) = suc (at_most xs n)

take_first : {X : Type 0} (xs ys : List X) (n : ℕ) → take (at_most xs n) (xs ++ ys) ≡ take n xs
take_first [] ys zero = refl
take_first [] ys (suc n) = refl
take_first (x ∷ xs) ys zero = refl
take_first (x ∷ xs) ys (suc n) = ap (λ l. x ∷ l) (take_first xs ys n)

-- nothing was added
pub holds_none : {X : Type 0} {old new : List X} (more : List X) → new ≡ old → HoldsFront old more new
holds_none {old = old} more is = record { count = 0; holds = is ∙ sym (append-nil old) }

-- more was to come behind it
pub holds_first : {X : Type 0} {old first new : List X} (later : List X) → HoldsFront old first new → HoldsFront old (first ++ later) new
holds_first {old = old} {first = first} later h = record {
  count = at_most first h.count;
  holds = h.holds ∙ sym (ap (λ l. old ++ l) (take_first first later h.count));
}

-- all of the first part stands there
pub holds_later : {X : Type 0} {old between later new : List X} (first : List X) → between ≡ old ++ first → HoldsFront between later new → HoldsFront old (first ++ later) new
holds_later {old = old} {later = later} first is h = record {
  count = length first + h.count;
  holds = h.holds ∙ ap (λ l. l ++ take h.count later) is ∙ append_assoc old first (take h.count later) ∙ sym (ap (λ l. old ++ l) (take-append-add first later h.count));
}
