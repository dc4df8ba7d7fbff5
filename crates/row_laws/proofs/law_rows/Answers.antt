use Rattle.row_laws.proofs.Rows as rows
use Rattle.row_laws.proofs.Calls as calls
use Rattle.row_laws.proofs.law_rows.Goals as goal

pub returns-clause-rows_open_to_feeds : goal.returns-clause-rows_open_to_feeds
returns-clause-rows_open_to_feeds c = λ d ts r l n k. rows.row d ts r l n k

pub returns-clause-rows_contribute : goal.returns-clause-rows_contribute
returns-clause-rows_contribute c = λ v ts rows l n k. calls.contributed v ts rows l n k
