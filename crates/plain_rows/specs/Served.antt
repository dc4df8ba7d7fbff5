-- What the functions over events ask of their rows and conditions; the others take any rows.
use Rattle.std.specs.Prelude.{◌≡◌, ◌<◌, ◌≤◌, ◌+◌, ◌^◌, List, length}
use Rattle.agg_terms.specs.Chains.{Leaf, Pattern, Retention, SequenceMatch, Ty, WindowFunnel}
use Rattle.agg_terms.specs.Lists.{Each}
use Rattle.agg_terms.specs.Types.{conditions}
use Rattle.agg_terms.specs.Values.{Value}
use Rattle.agg_meaning.specs.Events.{time_of}

-- each time is a number of 64 bits
abbrev pub AreTimed : List (List Value) → Type 0
AreTimed rows = Each (λ r. time_of r < 2 ^ 64) rows

-- one item or more, and a link between each two
pub record IsSearched (p : Pattern) : Type 0 where
  pub some : 1 ≤ length p.items
  pub most : length p.items ≤ 64
  pub links : length p.links + 1 ≡ length p.items

pub record AreEvents (ts : List Ty) (rows : List (List Value)) : Type 0 where
  pub timed : AreTimed rows
  pub some : 1 ≤ conditions ts
  pub most : conditions ts ≤ 32

-- a call of a function that its evaluator takes
abbrev pub IsServed : Leaf → List Ty → List (List Value) → Type 0
IsServed (WindowFunnel window strict) ts rows = AreEvents ts rows
IsServed (SequenceMatch pattern) ts rows = AreEvents ts rows × IsSearched pattern
IsServed Retention ts rows = length ts ≤ 32
IsServed f ts rows = Unit {0}
