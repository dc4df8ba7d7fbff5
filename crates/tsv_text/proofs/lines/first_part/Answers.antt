use Rattle.std.proofs.Common.{◌≡◌, ◌==◌, ◌+◌, ◌∷◌, List, ℕ, take, drop, ◌∙◌, ap, sym}
use Rattle.std.specs.List.{slice_split}
use Rattle.tsv_text.proofs.Parts.{split-found, split-none}
use Rattle.tsv_text.proofs.lines.first_part.Goals as goal

pub returns-in-Some-clause-parts : goal.returns-in-Some-clause-parts
returns-in-Some-clause-parts c =
    split-found (λ b. b == c.args.separator) c.args.text.now c.in-Some.at (sym c.in-Some.ensures) ∙ ap (λ (rest : List ℕ). take c.in-Some.at c.args.text.now ∷ slice_split (λ b. b == c.args.separator) rest) (sym c.split_at.ensures.back)

pub returns-in-None-clause-parts : goal.returns-in-None-clause-parts
returns-in-None-clause-parts c = split-none (λ b. b == c.args.separator) c.args.text.now (sym c.in-None.ensures)
