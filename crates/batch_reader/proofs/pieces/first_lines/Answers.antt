use Rattle.std.proofs.Common.{ap, sym, ◌∙◌, ◌++◌, List, ℕ}
use Rattle.std.proofs.lemmas.List.{append-nil}
use Rattle.tsv_text.specs.Lines.{lines_of}
use Rattle.line_reader.proofs.Lines.{lines_of-nil}
use Rattle.batch_reader.proofs.Cut.{lines-split}
use Rattle.batch_reader.proofs.pieces.first_lines.Goals as goal

pub returns-then-text-end-eq10-clause-lines : goal.returns-then-text-end-eq10-clause-lines
returns-then-text-end-eq10-clause-lines c =
    rw (c.split_at.ensures.front, c.split_at.ensures.back) (lines-split c.args.text.now c.loop-end.end c.loop-end-test.true c.if-text-end-eq10.true)

pub returns-clause-lines : goal.returns-clause-lines
returns-clause-lines c = sym (ap (λ (l : List (List ℕ)). lines_of c.args.text.now ++ l) lines_of-nil ∙ append-nil (lines_of c.args.text.now))
