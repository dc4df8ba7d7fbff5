use Rattle.std.proofs.Common.{◌≤◌, ℕ, List, length, drop}
use Rattle.line_reader.specs.Limits.{IsUnbroken}
use Rattle.line_reader.proofs.searching.whole_len.Given as goal

pub record IsSearched (text : List ℕ) (count : ℕ) : Type 0 where
  pub within : count ≤ length text
  pub unbroken : IsUnbroken (drop count text)

abbrev pub invariant-loop-count : goal.invariant-loop-count
invariant-loop-count l = IsSearched l.text l.count

abbrev pub decreases-loop-count : goal.decreases-loop-count
decreases-loop-count l = l.count
