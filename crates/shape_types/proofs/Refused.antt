-- A refusal of the first step is that of both.
use Rattle.std.proofs.Common.{ap, Result}
use Rattle.agg_typing.specs.Faults.{Fault, and_then}
use Rattle.chain_params.specs.Faults.{IsFault}
use Rattle.chain_params.specs.declared.fault.ChainFault.{ChainFault}

pub fault_first : {X Y : Type 0} (r : Result X Fault) (next : X → Result Y Fault) (f : ChainFault) → IsFault f r → IsFault f (and_then r next)
fault_first r next ChainFault.UnknownName h = ap (λ q. and_then q next) h
fault_first r next ChainFault.TooManySuffixes h = ap (λ q. and_then q next) h
fault_first r next ChainFault.ArrayOutsideIf h = ap (λ q. and_then q next) h
fault_first r next ChainFault.ParamCount h = ap (λ q. and_then q next) h
fault_first r next (ChainFault.BadParam i) h = ap (λ q. and_then q next) h
fault_first r next (ChainFault.BadPattern at) h = ap (λ q. and_then q next) h
fault_first r next (ChainFault.ArgCount want have) h = ap (λ q. and_then q next) h
fault_first r next (ChainFault.ArgType i) h = ap (λ q. and_then q next) h
fault_first r next (ChainFault.WrongState i) h = ap (λ q. and_then q next) h
fault_first r next ChainFault.OutOfMemory h = tt
