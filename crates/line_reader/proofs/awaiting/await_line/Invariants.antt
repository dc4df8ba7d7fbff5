use Rattle.std.proofs.Common.{◌≡◌, ◌+◌, ◌≤◌, ◌++◌, ℕ, List, Option, length}
use Rattle.std.specs.Io.KnownBytes.{Consumes}
use Rattle.line_reader.proofs.awaiting.await_line.Given as goal

-- what was taken so far
pub record IsAwaited (left now : Option (List ℕ)) (faults count m r : ℕ) (before bytes : List ℕ) : Type 0 where
  pub taken : List ℕ
  pub behind : bytes ≡ before ++ taken
  pub consumed : Consumes left now taken
  pub quiet : count ≡ faults
  pub line : length bytes ≤ m + 1
  pub input : length bytes ≤ r + 1

abbrev pub invariant-loop : goal.invariant-loop
invariant-loop g l =
    IsAwaited (g.S.Source.left l.initial.source) (g.S.Source.left l.source) (g.S.Source.faults l.initial.source) (g.S.Source.faults l.source) l.most_line l.room l.initial.held l.held
