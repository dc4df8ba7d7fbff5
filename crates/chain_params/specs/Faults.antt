-- What an answer says of the rules.
use Rattle.std.specs.Prelude.{◌≡◌, Result, Ok, Err}
use Rattle.agg_typing.specs.Faults.{Fault}
use Rattle.chain_params.specs.declared.fault.ChainFault.{ChainFault}

-- A refusal is the first rule that is broken. Want of memory says nothing.
abbrev pub IsFault : {Y : Type 0} → ChainFault → Result Y Fault → Type 0
IsFault ChainFault.UnknownName rules = rules ≡ Err Fault.UnknownName
IsFault ChainFault.TooManySuffixes rules = rules ≡ Err Fault.TooManySuffixes
IsFault ChainFault.ArrayOutsideIf rules = rules ≡ Err Fault.ArrayOutsideIf
IsFault ChainFault.ParamCount rules = rules ≡ Err Fault.ParamCount
IsFault (ChainFault.BadParam i) rules = rules ≡ Err (Fault.BadParam i)
IsFault (ChainFault.BadPattern at) rules = rules ≡ Err (Fault.BadPattern at)
IsFault (ChainFault.ArgCount want have) rules = rules ≡ Err (Fault.ArgCount want have)
IsFault (ChainFault.ArgType i) rules = rules ≡ Err (Fault.ArgType i)
IsFault (ChainFault.WrongState i) rules = rules ≡ Err (Fault.WrongState i)
IsFault ChainFault.OutOfMemory rules = Unit {0}

-- An answer is what the rules give, seen through an image.
abbrev pub Gives : {X Y : Type 0} → (X → Y) → Result X ChainFault → Result Y Fault → Type 0
Gives image (Ok x) rules = rules ≡ Ok (image x)
Gives image (Err fault) rules = IsFault fault rules
