-- The greatest first time of a funnel chain of each length.
use Rattle.std.specs.Prelude.{ℕ, suc, ◌+◌, max, cond, ◌&&◌, nat_le, List, [], ◌∷◌, Option, Some, None}
use Rattle.agg_terms.specs.Values.{Event}
use Rattle.agg_meaning.specs.Events.{is_in}

-- the later of two first times
abbrev pub later : Option ℕ → Option ℕ → Option ℕ
later None b = b
later (Some a) None = Some a
later (Some a) (Some b) = Some (max a b)

-- the first time of a chain of i events, where an event goes on with it
abbrev pub lengthened : ℕ → Event → ℕ → Option ℕ → Option ℕ
lengthened window e i None = None
lengthened window e i (Some start) = cond (is_in i e.mask && nat_le e.time (start + window)) (Some start) None

-- the first times with one more event: each chain is one of before, or a shorter one of before with this event
abbrev pub with_event : ℕ → Event → ℕ → Option ℕ → List (Option ℕ) → List (Option ℕ)
with_event window e i shorter [] = []
with_event window e i shorter (x ∷ xs) = later x (lengthened window e i shorter) ∷ with_event window e (suc i) x xs

-- the greatest length, from i on, that has a chain
abbrev pub longest : ℕ → List (Option ℕ) → ℕ
longest i [] = 0
longest i (None ∷ xs) = longest (suc i) xs
longest i (Some start ∷ xs) = max i (longest (suc i) xs)
