-- Texts that are written piece by piece, where a piece stops.
use Rattle.std.proofs.Common.{◌≡◌, ℕ, List, ◌++◌, Result, Ok, Err, OnErr}
use Rattle.std.proofs.lemmas.Result.{on_err_weaker}
use Rattle.value_lists.specs.Fronts.{HoldsFront}
use Rattle.value_lists.proofs.Fronts.{holds_later, holds_none}

-- what holds anyway
pub stopped : {T E P : Type 0} (r : Result T E) → P → OnErr r P
stopped (Ok x) h = tt
stopped (Err e) h = h

-- a piece that adds nothing where it stops
pub none_err : {T E : Type 0} (old new more : List ℕ) (r : Result T E) → OnErr r (new ≡ old) → OnErr r (HoldsFront old more new)
none_err old new more r h = on_err_weaker r (λ is. holds_none more is) h

-- the last piece, behind a first one that stands there whole
pub later_err : {T E : Type 0} (old between first later new : List ℕ) (r : Result T E) → between ≡ old ++ first →
    OnErr r (HoldsFront between later new) → OnErr r (HoldsFront old (first ++ later) new)
later_err old between first later new r is h = on_err_weaker r (λ g. holds_later first is g) h
