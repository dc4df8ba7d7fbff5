use Rattle.std.proofs.Common.{◌≡◌, ◌+◌, ◌∷◌, List, ℕ, take, drop, ◌∙◌, ap, sym}
use Rattle.std.specs.List.{slice_split}
use Rattle.tsv_text.specs.Lines.{fields_of, is_tab}
use Rattle.tsv_text.proofs.Parts.{split-found, split-none}
use Rattle.tsv_text.proofs.lines.first_field.Goals as goal

pub returns-in-Some-clause-fields : goal.returns-in-Some-clause-fields
unfolding fields_of
returns-in-Some-clause-fields c =
    split-found is_tab c.args.line.now c.in-Some.at (sym c.in-Some.ensures) ∙ ap (λ (rest : List ℕ). take c.in-Some.at c.args.line.now ∷ slice_split is_tab rest) (sym c.split_at.ensures.back)

pub returns-in-None-clause-fields : goal.returns-in-None-clause-fields
unfolding fields_of
returns-in-None-clause-fields c = split-none is_tab c.args.line.now (sym c.in-None.ensures)
