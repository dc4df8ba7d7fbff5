use Rattle.std.proofs.Common.{arith}
use Rattle.agg_values.proofs.ValueKinds.{all_bytes}
use Rattle.agg_values.proofs.plain_fits.are_bytes.Goals as goal

pub returns : goal.returns
returns c = all_bytes c.args.bytes.now (λ i. let f = c.type_inv.bytes i in omega arith)
