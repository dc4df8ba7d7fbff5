use Rattle.std.proofs.Common.{◌≡◌, length}
use Rattle.query_words.specs.Words.{options_of, texts_of}
use Rattle.query_words.specs.proving.Steps.{options_behind}
use Rattle.query_words.proofs.options.read_options.Given as goal

-- what was given and what is left come to what all words do
abbrev pub invariant-loop-left : goal.invariant-loop-left
invariant-loop-left l = options_behind l.options (texts_of l.left) ≡ options_of (texts_of l.words)

abbrev pub decreases-loop-left : goal.decreases-loop-left
decreases-loop-left l = length l.left
