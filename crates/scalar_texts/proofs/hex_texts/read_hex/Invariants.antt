use Rattle.std.proofs.Common.{◌≡◌, ◌++◌, length, true}
use Rattle.std.specs.List.{list_all}
use Rattle.scalar_texts.specs.Hex.{hex_bytes, is_lower_hex}
use Rattle.scalar_texts.proofs.hex_texts.read_hex.Given as goal

abbrev pub invariant-loop-rest : goal.invariant-loop-rest
invariant-loop-rest l = record {
  same : l.bytes.items ++ hex_bytes l.rest ≡ hex_bytes l.text;
  lower : list_all is_lower_hex l.rest ≡ true;
}

abbrev pub decreases-loop-rest : goal.decreases-loop-rest
decreases-loop-rest l = length l.rest
