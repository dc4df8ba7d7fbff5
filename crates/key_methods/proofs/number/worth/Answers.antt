use Rattle.std.proofs.Common.{◌*◌, ◌<◌, ◌^◌, length, arith, rules}
use Rattle.key_methods.proofs.Figures.{byte_room}
use Rattle.key_methods.proofs.number.worth.Goals as goal

pub overflow_mul-word : goal.overflow_mul-word
overflow_mul-word c =
    let room = byte_room c.loop-byte.word c.loop-byte.byte-index (length c.args.bytes.now) c.loop-byte.invariant.below c.loop-byte-test.true c.requires in
    let fits : c.loop-byte.word * 256 < 2 ^ 64 = omega (arith, room) in
    search rules
