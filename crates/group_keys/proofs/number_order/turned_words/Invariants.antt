use Rattle.std.proofs.Common.{◌≡◌, map, take}
use Rattle.group_keys.specs.proving.Placed.{turned}
use Rattle.group_keys.proofs.number_order.turned_words.Given as goal

abbrev pub invariant-loop-word : goal.invariant-loop-word
invariant-loop-word l = l.numbers.items ≡ map (turned l.half) (take l.word-index l.words)
