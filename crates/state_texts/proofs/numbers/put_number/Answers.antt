use Rattle.std.proofs.Common.{◌≡◌, ◌++◌, ap, rules, ◌∙◌}
use Rattle.std.specs.Int.{bytes_high_first, cast_unsigned}
use mir.Syntax.{w128}
use Rattle.state_texts.proofs.Written.{tail_text}
use Rattle.state_texts.proofs.numbers.put_number.Goals as goal

pub returns : goal.returns
returns c =
    let written : c.write_i128.new.buf ≡ bytes_high_first 16 (cast_unsigned w128 c.args.number) = search rules in
    c.in_ok-extend_from_slice.ensures.items
    ∙ ap (λ l. c.args.out.now.items ++ l) (tail_text c.args.width c.args.number c.write_i128.new.buf c.requires written)
