use Rattle.std.proofs.Common.{◌≡◌, ◌++◌, map, take}
use Rattle.value_types.specs.Folds.{ty_of, value_of}
use Rattle.answer_texts.specs.Lines.{answer_text}
use Rattle.answer_texts.proofs.lines.put_lines.Given as goal

-- the lines so far are written behind what stood there
abbrev pub invariant-loop-line : goal.invariant-loop-line
invariant-loop-line g l = l.text.items ≡ l.fn.text.items ++ answer_text (g.W.StateWriter.writes l.writer) (map ty_of l.types) (map (map value_of) (take l.line-index l.lines))
