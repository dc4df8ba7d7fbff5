-- Rows of items, and the event that is read from one.
use Rattle.std.specs.Prelude.{ℕ, ◌%◌, ◌^◌, List}
use Rattle.agg_terms.specs.Values as family
use Rattle.agg_terms.specs.Lists.{rest_of}
use Rattle.agg_meaning.specs.Events.{mask_of, mets, time_of}
use Rattle.value_types.specs.Folds.{value_of}
use Rattle.typed_columns.specs.Items.{item_value}
use Rattle.typed_columns.specs.declared.item.Item.{Item}

-- an argument
abbrev pub argument : Item → family.Value
argument i = value_of (item_value i)

-- a row's time in 64 bits, and the set of the n conditions that it meets
abbrev pub event_read : ℕ → List family.Value → family.Event
event_read n r = record { time = time_of r % 2 ^ 64; mask = mask_of (mets n (rest_of r)) }
