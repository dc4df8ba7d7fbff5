use Rattle.std.proofs.Common.{◌≡◌, [], ◌∷◌, ◌++◌, map, take}
use Rattle.value_types.specs.Folds.{ty_of, value_of}
use Rattle.tsv_values.specs.Writing.{commas, element_text, entry_text}
use Rattle.tsv_values.proofs.writing.+write_element.Given as goal

-- the items so far are written behind what stood there
abbrev pub invariant-loop-i : goal.invariant-loop-i
invariant-loop-i g l =
    l.text.items ≡ (l.fn.text.items ++ 91 ∷ []) ++ commas (map (λ v. element_text (g.W.StateWriter.writes l.writer) (ty_of l.item) (value_of v)) (take l.i l.items))

-- and the entries
abbrev pub invariant-loop-j : goal.invariant-loop-j
invariant-loop-j g l =
    l.text.items ≡ (l.fn.text.items ++ 123 ∷ []) ++ commas (map (λ e. entry_text (element_text (g.W.StateWriter.writes l.writer) (ty_of l.key)) (element_text (g.W.StateWriter.writes l.writer) (ty_of l.item)) (value_of e.0, value_of e.1)) (take l.j l.entries))
