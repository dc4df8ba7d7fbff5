use Rattle.std.proofs.Common.{◌≤◌, ap, ◌∙◌, arith}
use Rattle.key_methods.specs.Keys.{top_byte}
use Rattle.key_methods.specs.Hash.{hash_of}
use Rattle.std.specs.Int.{bytes_high_first}
use Rattle.key_methods.proofs.SideBySide.{wide_piece}
use Rattle.key_methods.proofs.buckets.top_of_16.Goals as goal

pub returns : goal.returns
returns c =
    let most : c.from-width.result ≤ 16 = omega (arith, c.requires, c.from-width.ensures) in
    c.top.ensures
    ∙ ap (λ l. top_byte (hash_of l)) (wide_piece c.from-width.result c.args.word c.to_be_bytes.result most c.to_be_bytes.ensures)
    ∙ ap (λ k. top_byte (hash_of (bytes_high_first k c.args.word))) c.from-width.ensures
