use Rattle.std.proofs.Common.{[], ◌∷◌, length}
use Rattle.line_forms.specs.Selects.{call_signs, CallFits}
use Rattle.request_lines.specs.proving.Judging.{call, calls}
use Rattle.request_lines.specs.proving.Reads.{IsCallRead}
use Rattle.request_lines.proofs.ListsRead.{SoFar}
use Rattle.request_lines.proofs.calls.read_calls.Given as goal

abbrev pub invariant-loop-behind : goal.invariant-loop-behind
invariant-loop-behind l = SoFar CallFits IsCallRead call_signs (call ∷ []) calls l.rest l.left l.calls

abbrev pub decreases-loop-behind : goal.decreases-loop-behind
decreases-loop-behind l = length l.left.text.now
