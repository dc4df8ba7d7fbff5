-- The places at which a match of a front of the pattern may end.
use Rattle.std.specs.Prelude.{ℕ, zero, suc, Bool, false, ◌&&◌, ◌||◌, List, get_or}
use Rattle.agg_terms.specs.Chains.{Any, Next, PatItem, PatLink}
use Rattle.agg_terms.specs.Values.{Event}
use Rattle.agg_meaning.specs.Events.{linked, meets}

-- some number below n passes
abbrev pub any_below : ℕ → (ℕ → Bool) → Bool
any_below zero test = false
any_below (suc n) test = test n || any_below n test

-- the event at a place, with its place
abbrev pub spot : List Event → ℕ → ℕ × Event
spot es p = (p, get_or es p (record { time = 0; mask = 0 }))

-- a match that ended at an earlier hit goes on to this place
abbrev pub goes_on : List Event → PatLink → (ℕ → Bool) → ℕ → ℕ → Bool
goes_on es link hits n p = any_below n (λ q. hits q && linked link (spot es q) (spot es p))

-- the hits of an item, by those of the item before
abbrev pub next_hits : List Event → PatLink → PatItem → (ℕ → Bool) → ℕ → Bool
next_hits es link item hits p = meets item (spot es p).1 && goes_on es link hits p p

-- whether a match of the items up to item j may end at a place
abbrev pub hit : List PatItem → List PatLink → List Event → ℕ → ℕ → Bool
hit items links es zero p = meets (get_or items 0 Any) (spot es p).1
hit items links es (suc j) p = next_hits es (get_or links j Next) (get_or items (suc j) Any) (hit items links es j) p
