-- Events over so many conditions.
use Rattle.std.specs.Prelude.{ℕ, ◌%◌, ◌^◌}
use Rattle.agg_terms.specs.Values.{Event}

-- an event without the conditions beyond n
abbrev pub cut_to : ℕ → Event → Event
cut_to n e = record { time = e.time; mask = e.mask % 2 ^ n }
