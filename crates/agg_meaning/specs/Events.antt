-- Events: rows with a time that meet conditions; the level of a funnel, whether a pattern matches, and retention.
use Rattle.std.specs.Prelude.{ℕ, zero, suc, ◌+◌, ◌-◌, ◌*◌, ◌/◌, ◌%◌, ◌^◌, max, pos, nat_eq, nat_lt, nat_le, Bool, true, false, not, ◌&&◌, ◌||◌, List, [], ◌∷◌, ◌++◌, map, length, filter}
use Rattle.agg_terms.specs.Chains.{Above, Any, At, AtOrAbove, Below, BelowOrAt, Cond, Gap, Next, Op, PatItem, PatLink, Pattern, Time}
use Rattle.agg_terms.specs.Values.{Event, Num, Value}
use Rattle.agg_terms.specs.Order.{ascending}
use Rattle.agg_terms.specs.Lists.{built, numbered, rest_of, some}
use Rattle.agg_terms.specs.Trees.{by_time, is_one}

-- a condition is met where it isn't 0
abbrev pub is_met : Value → Bool
is_met (Num (pos zero)) = false
is_met (Num z) = true
is_met _ = false

-- which of n conditions are met
abbrev pub mets : ℕ → List Value → List Bool
mets zero vs = []
mets (suc n) [] = false ∷ mets n []
mets (suc n) (v ∷ vs) = is_met v ∷ mets n vs

-- 1 or 0
abbrev pub bit : Bool → ℕ
bit true = 1
bit false = 0

-- a set of conditions as a number: condition 1 is its lowest bit
abbrev pub mask_of : List Bool → ℕ
mask_of [] = 0
mask_of (b ∷ bs) = bit b + 2 * mask_of bs

-- the set of n conditions that a number stands for
abbrev pub bools : ℕ → ℕ → List Bool
bools zero m = []
bools (suc n) m = is_one (m % 2) ∷ bools n (m / 2)

-- a condition that is met, or not, as a value
abbrev pub flag : Bool → Value
flag b = Num (pos (bit b))

-- the time of a row
abbrev pub time_of : List Value → ℕ
time_of (Num (pos t) ∷ vs) = t
time_of _ = 0

-- a row's time and the set of the n conditions that it meets
abbrev pub event : ℕ → List Value → Event
event n r = record { time = time_of r; mask = mask_of (mets n (rest_of r)) }

-- an event that meets some condition
abbrev pub is_some_mask : Event → Bool
is_some_mask e = is_one e.mask

-- The events of rows: those that meet some condition, by time, equal times in the order of the rows (this project's own choice).
abbrev pub events : ℕ → List (List Value) → List Event
events n L = ascending by_time (filter is_some_mask (map (event n) L))

-- a row that is this event
abbrev pub event_row : ℕ → Event → List Value
event_row n e = Num (pos e.time) ∷ map flag (bools n e.mask)

-- every way to choose elements of a list, in their order
abbrev pub sublists : {X : Type 0} → List X → List (List X)
sublists [] = [] ∷ []
sublists (x ∷ xs) = map (λ s. x ∷ s) (sublists xs) ++ sublists xs

-- whether condition i + 1 is in a set
abbrev pub is_in : ℕ → ℕ → Bool
is_in i mask = nat_eq ((mask / 2 ^ i) % 2) 1

-- the first meets condition i + 1, the next one condition i + 2, and so on
abbrev pub in_turn : ℕ → List Event → Bool
in_turn i [] = true
in_turn i (e ∷ es) = is_in i e.mask && in_turn (suc i) es

-- none is later than a time
abbrev pub all_by : ℕ → List Event → Bool
all_by last [] = true
all_by last (e ∷ es) = nat_le e.time last && all_by last es

-- none is later than the first one's time plus the window
abbrev pub is_in_window : ℕ → List Event → Bool
is_in_window window [] = true
is_in_window window (e ∷ es) = all_by (e.time + window) es

-- each is later than the one before it
abbrev pub rising_times : List Event → Bool
rising_times [] = true
rising_times (e ∷ []) = true
rising_times (e ∷ f ∷ es) = nat_lt e.time f.time && rising_times (f ∷ es)

-- A funnel chain: conditions 1, 2, 3 .. in turn is_in_window the window, with 'strict_increase' at rising times.
abbrev pub is_funnel : ℕ → Bool → List Event → Bool
is_funnel window strict es = in_turn 0 es && (is_in_window window es && (not strict || rising_times es))

-- the greatest of some numbers, 0 of none
abbrev pub greatest : List ℕ → ℕ
greatest ns = built max 0 ns

-- The level of a funnel: the greatest length of a funnel chain among the events, one event to a step.
-- Manual: "Parametric aggregate functions", windowFunnel; that one event serves one step is this project's own choice.
abbrev pub funnel_level : ℕ → Bool → List Event → ℕ
funnel_level window strict es = greatest (map length (filter (is_funnel window strict) (sublists es)))

-- a comparison of a difference of times with a number
abbrev pub holds : Op → ℕ → ℕ → Bool
holds Below d v = nat_lt d v
holds BelowOrAt d v = nat_le d v
holds At d v = nat_eq d v
holds AtOrAbove d v = nat_le v d
holds Above d v = nat_lt v d

-- an event that meets an item: (?N) asks for condition N, a point for nothing
abbrev pub meets : PatItem → Event → Bool
meets (Cond n) e = is_in (n - 1) e.mask
meets Any e = true

-- two placed events that stand as a link asks: side by side, anyhow, or so far apart in time
abbrev pub linked : PatLink → ℕ × Event → ℕ × Event → Bool
linked Next a b = nat_eq b.0 (suc a.0)
linked Gap a b = true
linked (Time op v) a b = holds op (b.1.time - a.1.time) v

-- as many events as items, each meeting its item
abbrev pub meet_items : List PatItem → List (ℕ × Event) → Bool
meet_items [] [] = true
meet_items (i ∷ is) (e ∷ es) = meets i e.1 && meet_items is es
meet_items _ _ = false

-- each two neighbours stand as the link between them asks
abbrev pub meet_links : List PatLink → List (ℕ × Event) → Bool
meet_links (l ∷ ls) (a ∷ b ∷ es) = linked l a b && meet_links ls (b ∷ es)
meet_links _ _ = true

-- chosen events that are a match
abbrev pub is_match : Pattern → List (ℕ × Event) → Bool
is_match p s = meet_items p.items s && meet_links p.links s

-- Whether some choice among the events, each with its place, is a match.
-- Manual: "Parametric aggregate functions", sequenceMatch; a time is measured between neighbours by this project's own choice.
abbrev pub is_matched : Pattern → List Event → Bool
is_matched p es = some (is_match p) (sublists (numbered 0 es))

-- what is in one of two sets
abbrev pub either : List Bool → List Bool → List Bool
either [] cs = cs
either (b ∷ bs) [] = b ∷ bs
either (b ∷ bs) (c ∷ cs) = (b || c) ∷ either bs cs

-- the empty set of n conditions
abbrev pub falses : ℕ → List Bool
falses zero = []
falses (suc n) = false ∷ falses n

-- the conditions that some row meets
abbrev pub met_set : ℕ → List (List Value) → List Bool
met_set n L = built (λ r s. either (mets n r) s) (falses n) L

-- The first number is 1 where condition 1 was met, the others where both condition 1 and theirs were.
-- Manual: "Parametric aggregate functions", retention.
abbrev pub retained : List Bool → List Value
retained [] = []
retained (b ∷ bs) = flag b ∷ map (λ c. flag (b && c)) bs
