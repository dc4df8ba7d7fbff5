-- What the answer to a text that is to be a pattern says.
use Rattle.std.specs.Prelude.{◌≡◌, ℕ, ◌≤◌, List, Result, Ok, Err}
use Rattle.first_fault.specs.FirstFault.{IsReading}
use Rattle.agg_terms.specs.Chains as terms
use Rattle.agg_typing.specs.Parameters.{PatternReader, most_conditions}
use Rattle.value_types.specs.declared.pattern.Pattern.{Pattern}
use Rattle.value_types.specs.Folds.{pattern_of}
use Rattle.pattern_texts.specs.declared.fault.PatternFault.{PatternFault}
use Rattle.pattern_texts.specs.declared.fault.PatternFault.TheVariants.{At, OutOfMemory}
use Rattle.pattern_texts.specs.Texts.{Spells}

-- The answer to a text over so many conditions: a pattern that it spells; or, where it spells none, the length of its
-- longest front that begins some pattern. Want of memory says nothing.
abbrev pub IsAnswer : ℕ → List ℕ → Result Pattern PatternFault → Type 0
IsAnswer conditions text (Ok p) = IsReading (Spells conditions) text (Ok (pattern_of p))
IsAnswer conditions text (Err (At at)) = IsReading (Spells conditions) text (Err at)
IsAnswer conditions text (Err OutOfMemory) = Unit {0}

-- The answer is this reading, but for want of memory.
abbrev pub Gives : Result Pattern PatternFault → Result terms.Pattern ℕ → Type 0
Gives (Ok p) reading = reading ≡ Ok (pattern_of p)
Gives (Err (At at)) reading = reading ≡ Err at
Gives (Err OutOfMemory) reading = Unit {0}

-- Over 1 to 32 conditions the reader gives the pattern that a text spells, or the place of its first fault.
abbrev pub ReadsPatterns : PatternReader → Type 0
ReadsPatterns reader =
    (conditions : ℕ) → 1 ≤ conditions → conditions ≤ most_conditions → (text : List ℕ) →
    IsReading (Spells conditions) text (reader text conditions)
