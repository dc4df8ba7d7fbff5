use Rattle.std.proofs.Common.{[], ◌∷◌, length}
use Rattle.line_forms.specs.Letters.{name_part}
use Rattle.request_lines.specs.proving.Judging.{a_name, names}
use Rattle.request_lines.specs.proving.Reads.{NameFits, IsNameOf}
use Rattle.request_lines.proofs.ListsRead.{SoFar}
use Rattle.request_lines.proofs.names.read_names.Given as goal

abbrev pub invariant-loop-behind : goal.invariant-loop-behind
invariant-loop-behind l = SoFar NameFits IsNameOf name_part (a_name ∷ []) names l.rest l.left l.names

abbrev pub decreases-loop-behind : goal.decreases-loop-behind
decreases-loop-behind l = length l.left.text.now
