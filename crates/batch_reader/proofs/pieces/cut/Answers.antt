use Rattle.std.proofs.Common.{◌≡◌, ◌++◌, arith, subst, sym}
use Rattle.std.proofs.lemmas.Grind.{common_steps}
use Rattle.tsv_text.specs.Lines.{lines_of}
use Rattle.batch_reader.specs.proving.Pieces.{lines_in}
use Rattle.batch_reader.proofs.Cut.{cut-done, cut-more}
use Rattle.batch_reader.proofs.pieces.cut.Goals as goal

pub loop-left-preserved : goal.loop-left-preserved
loop-left-preserved c =
    subst (λ ps. lines_in ps ++ lines_of c.first_lines.result.1.now ≡ lines_of c.args.text.now) (sym c.in_ok-push.ensures.items)
    (cut-more c.loop-left.pieces.items c.first_lines.result.0 c.args.text.now c.loop-left.left.now c.first_lines.result.1.now c.loop-left.invariant c.first_lines.ensures.lines)

pub returns : goal.returns
returns c = cut-done c.loop-left.pieces.items c.args.text.now c.loop-left.left.now c.loop-left.invariant (grind (arith, common_steps))
