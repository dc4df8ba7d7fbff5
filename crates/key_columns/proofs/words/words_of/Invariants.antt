use Rattle.std.proofs.Common.{◌≡◌, map, take}
use Rattle.key_columns.proofs.words.words_of.Given as goal

abbrev pub invariant-loop-number : goal.invariant-loop-number
invariant-loop-number g l = l.words.items ≡ map g.N.Spelled.word (take l.number-index l.numbers)
