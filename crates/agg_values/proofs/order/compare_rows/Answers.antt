use Rattle.std.proofs.Common.{◌∙◌, sym}
use Rattle.agg_values.proofs.Compared.{cmp_values}
use Rattle.agg_values.proofs.order.compare_rows.Goals as goal

pub returns : goal.returns
returns c = c.compare_values.ensures ∙ sym (cmp_values c.args.a.now c.args.b.now)
