use Rattle.std.proofs.Common.{arith}
use Rattle.key_methods.proofs.Fronts.{text_read}
use Rattle.key_methods.proofs.unpacking.read_text.Goals as goal

pub returns : goal.returns
returns c =
    text_read c.args.bytes.now c.split_at.result.0.now c.split_at.result.1.now c.split_at-2.result.0.now c.split_at-2.result.1.now c.in_ok-from_slice.field-0
    c.min.result c.min-count.result c.worth.result (omega (arith, c.min.ensures)) c.split_at.ensures.front c.split_at.ensures.back c.worth.ensures.value
    (omega (arith, c.min-count.ensures)) c.split_at-2.ensures.front c.split_at-2.ensures.back c.in_ok-from_slice.ensures
