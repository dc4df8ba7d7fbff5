-- How many values groupArray keeps: all, or one and at most so many beyond it.
use Rattle.std.specs.Prelude.{ℕ, ◌+◌, ◌-◌, min, nat_lt, Bool, false, Option, Some, None}

-- the limit itself
abbrev pub limit_of : Option ℕ → Option ℕ
limit_of None = None
limit_of (Some beyond) = Some (beyond + 1)

-- whether so many are all that are kept
abbrev pub is_full : Option ℕ → ℕ → Bool
is_full None n = false
is_full (Some beyond) n = nat_lt beyond n

-- how many of more values are kept behind n of them
abbrev pub room_for : Option ℕ → ℕ → ℕ → ℕ
room_for None n more = more
room_for (Some beyond) n more = min more ((beyond + 1) - n)
