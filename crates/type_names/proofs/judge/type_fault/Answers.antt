use Rattle.type_names.proofs.Judged.{ok_told}
use Rattle.type_names.proofs.judge.type_fault.Goals as goal

pub returns : goal.returns
returns c = ok_told c.args.text.now c.first_fault.result c.first_fault.ensures
