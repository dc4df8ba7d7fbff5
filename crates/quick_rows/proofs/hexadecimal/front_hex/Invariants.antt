use Rattle.std.proofs.Common.{◌≡◌, ◌≤◌, length, take}
use Rattle.quick_rows.specs.proving.Hexadecimal.{IsHexFront}
use Rattle.quick_rows.proofs.hexadecimal.front_hex.Given as goal

abbrev pub invariant-loop-left : goal.invariant-loop-left
invariant-loop-left l = record {
  within : l.count ≤ 64;
  long : length l.bytes ≡ 64;
  front : IsHexFront l.text (take l.count l.bytes) l.left;
}

abbrev pub decreases-loop-left : goal.decreases-loop-left
decreases-loop-left l = length l.left
