use Rattle.std.proofs.Common.{length, ap, arith}
use Rattle.std.proofs.lemmas.List.{length-map}
use Rattle.bench_rows.proofs.feed_rows.Goals as goal

pub column-requires : goal.column-requires
column-requires c = omega (arith, ap (λ v. length v.types) c.batch.view_is, length-map c.batch.inside.columns.items (λ d. d.ty), c.batch.inside.columns.ok)

pub column-requires-2 : goal.column-requires-2
column-requires-2 c = omega (arith, ap (λ v. length v.types) c.batch.view_is, length-map c.batch.inside.columns.items (λ d. d.ty), c.batch.inside.columns.ok)
