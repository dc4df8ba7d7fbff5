-- How patterns are written, and which text spells which pattern (manual: "sequenceMatch", pattern syntax).
use Rattle.std.specs.Prelude.{◌≡◌, ℕ, suc, zero, List, [], ◌∷◌, ◌++◌, map, codes, true}
use Rattle.agg_terms.specs.Chains.{Op, PatItem, PatLink, Next, Gap, Time, Pattern}
use Rattle.agg_typing.specs.Legal.{is_pattern}
use Rattle.agg_typing.specs.PatternWords.{item_text, bound_text}

-- `.*`, so often
abbrev pub gap_text : ℕ → List ℕ
gap_text zero = []
gap_text (suc n) = codes ".*" ++ gap_text n

-- What is written between two items: nothing; `.*` once and so often more; or a bound on the time, `(?t<n)` and its like.
pub data Join : Type 0 where
  next : Join
  gap : ℕ → Join
  time : Op → ℕ → Join

-- a join as it is written
abbrev pub join_text : Join → List ℕ
join_text next = []
join_text (gap more) = gap_text (suc more)
join_text (time op n) = bound_text op n

-- the link that a join stands for
abbrev pub link_of : Join → PatLink
link_of next = Next
link_of (gap more) = Gap
link_of (time op n) = Time op n

-- A pattern as it is written: gaps in front, an item, more items each behind a join, gaps at the end.
pub record Written : Type 0 where
  pub lead : ℕ
  pub first : PatItem
  pub more : List (Join × PatItem)
  pub trail : ℕ

-- items, each behind its join, and the gaps at the end
abbrev pub more_text : List (Join × PatItem) → ℕ → List ℕ
more_text [] trail = gap_text trail
more_text (part ∷ more) trail = join_text part.0 ++ (item_text part.1 ++ more_text more trail)

-- the whole text
abbrev pub written_text : Written → List ℕ
written_text w = gap_text w.lead ++ (item_text w.first ++ more_text w.more w.trail)

-- The pattern that stands there: gaps in front and at the end say nothing.
abbrev pub written_pattern : Written → Pattern
written_pattern w = record { items = w.first ∷ map (λ part. part.1) w.more; links = map (λ part. link_of part.0) w.more }

-- The text spells the pattern, over so many conditions: the pattern is written so, and keeps to the rules on patterns.
abbrev pub Spells : ℕ → List ℕ → Pattern → Type 0
Spells conditions text pattern = (w : Written) × (written_text w ≡ text) × (written_pattern w ≡ pattern) × (is_pattern conditions pattern ≡ true)
