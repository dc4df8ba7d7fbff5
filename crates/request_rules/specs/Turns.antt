-- How rules follow one another.
use Rattle.std.specs.Prelude.{ℕ, Bool, true, false, List, [], ◌∷◌, ◌++◌, Result, Ok, Err}
use Rattle.agg_typing.specs.Faults.{Fault}
use Rattle.chain_params.specs.declared.fault.ChainFault.{ChainFault}
use Rattle.refusals.specs.declared.why.Why.{Why}

-- go on with what was read, unless a rule was broken
abbrev pub and_then : {X Y : Type 0} → Result X Why → (X → Result Y Why) → Result Y Why
and_then (Ok x) next = next x
and_then (Err why) next = Err why

-- a rule that is met, or tells why it isn't
abbrev pub check : Bool → Why → Result (Unit {0}) Why
check true why = Ok tt
check false why = Err why

-- The parts of a line from left to right, each judged with what the parts to its left stand for: what all of them stand
-- for, or the first that is refused.
abbrev pub in_turn : {A X : Type 0} → (List X → A → Result X Why) → List X → List A → Result (List X) Why
in_turn judge before [] = Ok before
in_turn judge before (part ∷ parts) = and_then (judge before part) (λ x. in_turn judge (before ++ x ∷ []) parts)

-- a rule on chains, as an error tells it
abbrev pub chain_fault : Fault → ChainFault
chain_fault Fault.UnknownName = ChainFault.UnknownName
chain_fault Fault.TooManySuffixes = ChainFault.TooManySuffixes
chain_fault Fault.ArrayOutsideIf = ChainFault.ArrayOutsideIf
chain_fault Fault.ParamCount = ChainFault.ParamCount
chain_fault (Fault.BadParam i) = ChainFault.BadParam i
chain_fault (Fault.BadPattern at) = ChainFault.BadPattern at
chain_fault (Fault.ArgCount want have) = ChainFault.ArgCount want have
chain_fault (Fault.ArgType i) = ChainFault.ArgType i
chain_fault (Fault.WrongState i) = ChainFault.WrongState i

-- the rules on chains at the part of a number, a column or a call, counted from 1
abbrev pub at_part : {X : Type 0} → ℕ → Result X Fault → Result X Why
at_part number (Ok x) = Ok x
at_part number (Err fault) = Err (Why.Chain number (chain_fault fault))
