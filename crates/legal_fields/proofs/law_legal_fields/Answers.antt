use Rattle.legal_fields.proofs.Readable.{fields_readable, rows_readable}
use Rattle.legal_fields.proofs.law_legal_fields.Goals as goal

pub returns-clause-fields : goal.returns-clause-fields
returns-clause-fields g c reader = fields_readable (g.R.StateReader.takes reader)

pub returns-clause-rows : goal.returns-clause-rows
returns-clause-rows g c reader = rows_readable (g.R.StateReader.takes reader)
