use Rattle.std.proofs.Common.{◌∷◌, List, ℕ, ap, sym, ◌∙◌, take}
use Rattle.tsv_text.specs.Lines.{lines_of}
use Rattle.quick_rows.proofs.Lines.{lines_of-newline, lines_of-none}
use Rattle.quick_rows.proofs.line.first_line.Goals as goal

pub returns-in-Some-clause-lines : goal.returns-in-Some-clause-lines
returns-in-Some-clause-lines c =
    lines_of-newline c.args.text.now c.in-Some.at c.in-Some.ensures ∙ ap (λ (rest : List ℕ). take c.in-Some.at c.args.text.now ∷ lines_of rest) (sym c.split_at.ensures.back)

pub returns-in-None-clause-lines : goal.returns-in-None-clause-lines
unfolding lines_of
returns-in-None-clause-lines c = lines_of-none c.args.text.now c.in-None.ensures c.requires
