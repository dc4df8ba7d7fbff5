use Rattle.std.proofs.Common.{◌≡◌, drop}
use Rattle.key_methods.specs.Hash.{hash_behind}
use Rattle.key_methods.proofs.hash.hash_behind.Given as goal

-- the bytes that are left give from here what all give from the start
abbrev pub invariant-loop-byte : goal.invariant-loop-byte
invariant-loop-byte l = hash_behind l.all (drop l.byte-index l.bytes) ≡ hash_behind l.hash l.bytes
