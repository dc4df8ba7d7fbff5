-- What is kept of the hits of an item, and what it says of a place to come.
use Rattle.std.specs.Prelude.{ℕ, zero, suc, ◌-◌, ◌<◌, ◌≤◌, ◌≡◌, nat_eq, nat_lt, nat_le, Bool, true, false, cond, ◌&&◌, List, [], ◌∷◌, length, get_or, Option, Some, None}
use Rattle.agg_terms.specs.Chains.{Above, At, AtOrAbove, Below, BelowOrAt, Gap, Next, PatItem, PatLink, Time}
use Rattle.agg_terms.specs.Values.{Event}
use Rattle.sequence_pattern.specs.declared.front.Front.{Front}
use Rattle.sequence_pattern.specs.declared.front.Seen.{Seen}
use Rattle.sequence_pattern.specs.proving.Hits.{hit, spot}

abbrev pub time_at : List Event → ℕ → ℕ
time_at es p = (spot es p).1.time

abbrev pub earliest_of : Option Seen → ℕ → ℕ
earliest_of None time = time
earliest_of (Some seen) time = seen.earliest

-- with a hit at a later place
abbrev pub seen_with : Option Seen → ℕ → ℕ → Seen
seen_with seen place time = record { earliest = earliest_of seen time; place = place; latest = time }

-- the earliest and the latest of the hits below a place
abbrev pub seen_below : List Event → (ℕ → Bool) → ℕ → Option Seen
seen_below es hits zero = None
seen_below es hits (suc n) = cond (hits n) (Some (seen_with (seen_below es hits n) n (time_at es n))) (seen_below es hits n)

-- what they say of the event at a later place: where the time between may be long the earliest is best, else the latest
abbrev pub allowed_after : PatLink → Seen → ℕ → ℕ → Bool
allowed_after Next seen place time = nat_eq place (suc seen.place)
allowed_after Gap seen place time = true
allowed_after (Time Below v) seen place time = nat_lt (time - seen.latest) v
allowed_after (Time BelowOrAt v) seen place time = nat_le (time - seen.latest) v
allowed_after (Time At v) seen place time = nat_eq (time - seen.latest) v
allowed_after (Time AtOrAbove v) seen place time = nat_le v (time - seen.earliest)
allowed_after (Time Above v) seen place time = nat_lt v (time - seen.earliest)

abbrev pub allowed : PatLink → Option Seen → ℕ → ℕ → Bool
allowed link None place time = false
allowed link (Some seen) place time = allowed_after link seen place time

-- whether an item takes a place before the item behind the link takes its own
abbrev pub comes_first : List Event → PatLink → ℕ → ℕ → Bool
comes_first es (Time At v) q p = nat_lt q p && nat_le v (time_at es p - time_at es q)
comes_first es link q p = nat_lt q p

-- the front of the item before has taken nothing that comes too late for this one
abbrev pub IsBehind : List PatLink → List Event → Front → List Front → Type 0
IsBehind links es front [] = Unit {0}
IsBehind links es front (before ∷ fronts) =
    (q : ℕ) → q < before.next → front.next < length es → comes_first es (get_or links (length fronts) Next) q front.next ≡ true

-- fronts from the last item to the first: each knows its item's hits below the place that it takes next
abbrev pub AreFronts : List PatItem → List PatLink → List Event → List Front → Type 0
AreFronts items links es [] = Unit {0}
AreFronts items links es (front ∷ fronts) =
    (front.seen ≡ seen_below es (hit items links es (length fronts)) front.next)
    × (front.next ≤ length es)
    × IsBehind links es front fronts
    × AreFronts items links es fronts

-- the place that the first front takes next
abbrev pub next_place : List Front → ℕ
next_place [] = 0
next_place (front ∷ fronts) = front.next
