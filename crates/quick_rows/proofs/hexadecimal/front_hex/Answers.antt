use Rattle.std.proofs.Common.{◌<◌, length, ◌∙◌, arith}
use Rattle.std.proofs.lemmas.List.{length-set}
use Rattle.quick_rows.proofs.HexFronts.{hex_more, rest_two}
use Rattle.quick_rows.proofs.hexadecimal.front_hex.Goals as goal

pub loop-left-preserved : goal.loop-left-preserved
loop-left-preserved c =
    let room : c.loop-left.count < length c.loop-left.bytes = omega (arith, c.if-count-eq-FEW.false, c.loop-left.invariant.within, c.loop-left.invariant.long) in
    record {
      within = omega (arith, room, c.loop-left.invariant.long);
      long = length-set c.loop-left.bytes c.loop-left.count c.in-Some.byte ∙ c.loop-left.invariant.long;
      front = hex_more c.args.text.now c.loop-left.bytes c.loop-left.left.now _ c.loop-left.count c.in-Some.byte c.loop-left.invariant.front room c.in-len2-up.len_at_least c.in-Some.ensures
          (rest_two c.loop-left.left.now c.in-len2-up.len_at_least);
    }
