use Rattle.agg_values.proofs.Rows.{row-longer}
use Rattle.agg_values.proofs.row_fits.row_fits.Goals as goal

pub returns-then-types-row : goal.returns-then-types-row
returns-then-types-row c = row-longer c.args.peels.now c.args.types.now c.args.row.now c.if-types-row.true
