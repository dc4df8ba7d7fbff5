use Rattle.group_answers.specs.proving.Lines.{AddsLines}
use Rattle.group_answers.proofs.answer.put_groups.Given as goal

-- the lines of the groups so far stand behind what stood there
abbrev pub invariant-loop-place : goal.invariant-loop-place
invariant-loop-place g l = AddsLines (g.W.StateWriter.writes l.writer) l.grouping l.table l.yielded l.fn.text.items l.text.items
