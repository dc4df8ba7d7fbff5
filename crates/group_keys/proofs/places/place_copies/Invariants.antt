use Rattle.std.proofs.Common.{map, take}
use Rattle.group_keys.specs.proving.Texts.{same_bytes}
use Rattle.group_keys.proofs.KeyLists.{Placed}
use Rattle.group_keys.proofs.places.place_copies.Given as goal

abbrev pub invariant-loop-text : goal.invariant-loop-text
invariant-loop-text l = Placed same_bytes (map (λ k. k.items) l.initial.set.keys) (map (λ k. k.items) (take l.text-index l.texts)) (map (λ k. k.items) l.set.keys) l.places.items
