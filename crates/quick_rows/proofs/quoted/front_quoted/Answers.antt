use Rattle.std.proofs.Common.{◌-◌, drop, length, sym, take, arith}
use Rattle.scalar_texts.proofs.Bytes.{all_bytes}
use Rattle.quick_rows.proofs.Fronts.{bare_then_quote, bytes-behind, bytes-take, front_one}
use Rattle.quick_rows.proofs.quoted.front_quoted.Goals as goal

pub returns-then-inside-at-eq39 : goal.returns-then-inside-at-eq39
returns-then-inside-at-eq39 c =
    let text = c.args.text.now in
    let inside = take (length text - 1) (drop 1 text) in
    let opens = front_one text 39 (omega arith) (omega arith) in
    let front = bare_then_quote text inside c.split_at.result.1.now c.in-Some.at opens (sym c.in-Some.ensures) c.if-inside-at-eq39.true c.split_at.ensures.back in
    (front.0, front.1, bytes-take inside c.in-Some.at (bytes-behind 39 text inside opens (all_bytes text (λ i. let f = c.type_inv.text i in omega arith))))
