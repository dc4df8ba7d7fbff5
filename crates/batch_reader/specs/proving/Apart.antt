-- Calls of a closure at the items of a list whose first one stands at a place.
use Rattle.std.specs.Prelude.{ℕ, ◌+◌, ◌<◌, List, length, slice_index_or}
use Rattle.std.specs.Fork.{AcceptsAt, ChangesAt}
use denote.Ref.{MutBor}
use denote.Param.Members.{Shared}

module _ {F T : Type 0} (g : Shared F (ℕ × (MutBor T × Unit {0})) ((Unit {0}) × (MutBor T × Unit {0}))) (f : F) (base : ℕ) where
  -- f may be called at each item
  pub record AcceptsFrom (items : List T) : Type 0 where
    pub each : (k : ℕ) (d : T) → k < length items → AcceptsAt g f (base + k) (slice_index_or items k d)

  -- each item is what a call of f left of the one that was there
  pub record ChangesFrom (items after : List T) : Type 0 where
    pub each : (k : ℕ) (d : T) → k < length items → ChangesAt g f (base + k) (slice_index_or items k d) (slice_index_or after k d)
