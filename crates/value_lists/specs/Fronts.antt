-- What stands in a list that was lent, behind a call that may stop on the way.
use Rattle.std.specs.Prelude.{◌≡◌, ℕ, List, ◌++◌, take}

-- what stood there before, and behind it as many of the items that were to come as `count` says
pub record HoldsFront {X : Type 0} (old more new : List X) : Type 0 where
  pub count : ℕ
  pub holds : new ≡ old ++ take count more
