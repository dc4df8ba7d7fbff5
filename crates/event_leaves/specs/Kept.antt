-- What is kept of rows over events: whether there was one, and the events of those that meet some condition, by time.
use Rattle.std.specs.Prelude.{◌≡◌, ℕ, ◌<◌, ◌≤◌, ◌^◌, Bool, true, false, cond, ◌||◌, List, [], ◌∷◌, ◌++◌, filter, map}
use Rattle.agg_terms.specs.Lists.{Each, NotFalling}
use Rattle.agg_terms.specs.Order.{ascending}
use Rattle.agg_terms.specs.Trees.{by_time}
use Rattle.agg_terms.specs.Values.{Empty, Event, Events, Tree, Value}
use Rattle.agg_meaning.specs.Events.{is_some_mask}
use Rattle.window_funnel.specs.Conditions.{cut_to}
use Rattle.event_leaves.specs.Rows.{event_read}

-- what is kept of rows of a time and so many conditions
pub record Kept : Type 0 where
  pub conditions : ℕ
  pub is_fed : Bool
  pub events : List Event

-- the events are by time, and none meets a condition beyond
pub record IsKept (k : Kept) : Type 0 where
  pub some : 1 ≤ k.conditions
  pub most : k.conditions ≤ 32
  pub ordered : NotFalling by_time k.events
  pub within : Each (λ e. e.mask < 2 ^ k.conditions) k.events
  pub blank : k.is_fed ≡ false → k.events ≡ []

-- no event of one list is later than one of the other
abbrev pub AllBefore : List Event → List Event → Type 0
AllBefore xs ys = Each (λ x. Each (λ y. x.time ≤ y.time) ys) xs

-- no rows
abbrev pub no_rows : ℕ → Kept
no_rows n = record { conditions = n; is_fed = false; events = [] }

-- with one more row behind
abbrev pub with_row : Kept → List Value → Kept
with_row k r = record {
  conditions = k.conditions;
  is_fed = true;
  events = ascending by_time (k.events ++ filter is_some_mask (event_read k.conditions r ∷ []));
}

-- with later rows behind
abbrev pub joined : Kept → Kept → Kept
joined k l = record { conditions = k.conditions; is_fed = k.is_fed || l.is_fed; events = ascending by_time (k.events ++ l.events) }

-- the tree of what is kept
abbrev pub event_tree : Bool → List Event → Tree
event_tree b es = cond b (Events es) Empty

-- whether a tree is one of rows, and its events
abbrev pub has_rows : Tree → Bool
has_rows (Events es) = true
has_rows _ = false

abbrev pub stored_events : Tree → List Event
stored_events (Events es) = es
stored_events _ = []

-- what is kept of the rows of a tree
abbrev pub kept_of : ℕ → Tree → Kept
kept_of n t = record { conditions = n; is_fed = has_rows t; events = ascending by_time (map (cut_to n) (stored_events t)) }
