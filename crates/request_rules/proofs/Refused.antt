-- A refused chain is refused at its part.
use Rattle.std.proofs.Common.{ap, ℕ, Result, Err}
use Rattle.agg_typing.specs.Faults.{Fault}
use Rattle.chain_params.specs.Faults.{IsFault}
use Rattle.chain_params.specs.declared.fault.ChainFault.{ChainFault}
use Rattle.request_rules.specs.Answers.{Says, part_refusal}
use Rattle.request_rules.specs.Turns.{at_part}

pub part_refused : {X Y : Type 0} (image : X → Y) (number : ℕ) (fault : ChainFault) (rules : Result Y Fault) → IsFault fault rules → Says image (Err (part_refusal number fault)) (at_part number rules)
part_refused image number ChainFault.UnknownName rules h = ap (at_part number) h
part_refused image number ChainFault.TooManySuffixes rules h = ap (at_part number) h
part_refused image number ChainFault.ArrayOutsideIf rules h = ap (at_part number) h
part_refused image number ChainFault.ParamCount rules h = ap (at_part number) h
part_refused image number (ChainFault.BadParam i) rules h = ap (at_part number) h
part_refused image number (ChainFault.BadPattern at) rules h = ap (at_part number) h
part_refused image number (ChainFault.ArgCount want have) rules h = ap (at_part number) h
part_refused image number (ChainFault.ArgType i) rules h = ap (at_part number) h
part_refused image number (ChainFault.WrongState i) rules h = ap (at_part number) h
part_refused image number ChainFault.OutOfMemory rules h = tt
