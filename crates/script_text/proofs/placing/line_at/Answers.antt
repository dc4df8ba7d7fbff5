use Rattle.std.proofs.Common.{sym, ap, subst, ◌∙◌}
use Rattle.tsv_text.specs.Lines.{lines_of}
use Rattle.script_text.proofs.Placed.{IsLineAt, line_at}
use Rattle.script_text.proofs.placing.line_at.Goals as goal

at_place : (c : goal.After-min) → IsLineAt c.args.text.now c.args.at c.first_line.result.0.now c.min.result
at_place c =
    subst (λ b. IsLineAt c.args.text.now c.args.at c.first_line.result.0.now b) (sym c.min.ensures)
    (line_at c.args.text.now c.args.at c.requires.within c.first_line.result.0.now (lines_of c.first_line.result.1.now) (sym (ap lines_of c.split_at.ensures.back) ∙ c.first_line.ensures.lines))

pub returns-clause-lines : goal.returns-clause-lines
returns-clause-lines c = (at_place c).lines

pub returns-clause-short : goal.returns-clause-short
returns-clause-short c = (at_place c).short
