use Rattle.std.proofs.Common.{refl}
use Rattle.scalar_texts.proofs.HexTexts.{no_fault_lower}
use Rattle.scalar_texts.proofs.hex_texts.read_hex.Goals as goal

pub loop-rest-init : goal.loop-rest-init
loop-rest-init c = record {
  same = rw c.in_ok-bytes.ensures.items refl;
  lower = no_fault_lower c.args.text.now c.requires;
}
