use Rattle.std.proofs.Common.{◌≡◌, ◌++◌, ℕ, List, Option}
use Rattle.std.specs.Io.KnownBytes.{Consumes}
use Rattle.line_reader.specs.Filling.{HasCut}
use Rattle.line_reader.proofs.filling.fill.Given as goal

-- what was taken so far, and where its whole lines end
pub record IsFilled (left now : Option (List ℕ)) (faults count m r : ℕ) (before bytes : List ℕ) (cut : ℕ) : Type 0 where
  pub taken : List ℕ
  pub behind : bytes ≡ before ++ taken
  pub consumed : Consumes left now taken
  pub quiet : count ≡ faults
  pub has_cut : HasCut m r bytes cut

abbrev pub invariant-loop : goal.invariant-loop
invariant-loop g l =
    IsFilled (g.S.Source.left l.initial.source) (g.S.Source.left l.source) (g.S.Source.faults l.initial.source) (g.S.Source.faults l.source) l.most_line l.room l.initial.block l.block l.cut
