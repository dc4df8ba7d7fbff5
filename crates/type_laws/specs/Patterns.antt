-- What is printed for a pattern reads back.
use Rattle.std.specs.Prelude.{◌≡◌, ℕ, ◌≤◌, true}
use Rattle.agg_terms.specs.Chains.{Pattern}
use Rattle.agg_typing.specs.Legal.{is_pattern}
use Rattle.pattern_texts.specs.Texts.{Spells}
use Rattle.type_texts.specs.PatternTexts.{pattern_text}

-- The printed text of a pattern over some conditions spells that pattern, over so many conditions and over any more.
abbrev pub PatternsReadBack : Type 0
PatternsReadBack = (conditions more : ℕ) (p : Pattern) → is_pattern conditions p ≡ true → conditions ≤ more → Spells more (pattern_text p) p
