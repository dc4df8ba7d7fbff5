use Rattle.std.proofs.Common.{◌-◌, length}
use Rattle.script_text.proofs.Read.{IsRead}
use Rattle.script_text.proofs.reading.read_lines.Given as goal

abbrev pub invariant-loop-at : goal.invariant-loop-at
invariant-loop-at l = IsRead l.text l.fn.table l.from l.script l.at l.number

abbrev pub decreases-loop-at : goal.decreases-loop-at
decreases-loop-at l = length l.text - l.at
