use Rattle.std.proofs.Common.{◌≡◌, ◌<◌, ◌^◌, ◌-◌, map, drop}
use Rattle.agg_meaning.specs.Events.{mask_of, mets}
use Rattle.event_leaves.specs.Rows.{argument}
use Rattle.event_leaves.proofs.row.mask.Given as goal

-- the conditions read so far are the last ones
abbrev pub invariant-loop-read : goal.invariant-loop-read
invariant-loop-read l = (l.mask ≡ mask_of (mets l.read (drop (l.conditions - l.read) (map argument l.row)))) × (l.mask < 2 ^ l.read)
