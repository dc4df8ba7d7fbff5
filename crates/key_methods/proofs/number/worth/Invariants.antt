use Rattle.std.proofs.Common.{◌≡◌, ◌<◌, ◌^◌, drop}
use Rattle.key_methods.specs.Figures.{worth, worth_behind}
use Rattle.key_methods.proofs.number.worth.Given as goal

abbrev pub invariant-loop-byte : goal.invariant-loop-byte
invariant-loop-byte l = record { rest : worth_behind l.word (drop l.byte-index l.bytes) ≡ worth l.bytes; below : l.word < 256 ^ l.byte-index }
