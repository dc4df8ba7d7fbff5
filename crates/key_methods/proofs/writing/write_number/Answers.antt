use Rattle.std.proofs.Common.{◌++◌, ap, ◌∙◌}
use Rattle.key_methods.proofs.SideBySide.{piece}
use Rattle.key_methods.proofs.writing.write_number.Goals as goal

pub returns : goal.returns
returns c = c.in_ok-extend_from_slice.ensures.items ∙ ap (λ l. c.args.out.now.items ++ l) (piece c.args.width c.args.word c.to_be_bytes.result c.requires c.to_be_bytes.ensures)
