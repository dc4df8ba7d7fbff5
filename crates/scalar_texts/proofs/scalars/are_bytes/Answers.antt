use Rattle.std.proofs.Common.{arith}
use Rattle.scalar_texts.proofs.Bytes.{all_bytes}
use Rattle.scalar_texts.proofs.scalars.are_bytes.Goals as goal

pub returns : goal.returns
returns c = all_bytes c.args.bytes.now (λ i. let f = c.type_inv.bytes i in omega arith)
