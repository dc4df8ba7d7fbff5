-- Why a call is refused, and the first of several refusals.
use Rattle.std.specs.Prelude.{ℕ, Bool, true, false, Option, Some, None, Result, Ok, Err}

-- Why a call is refused. Parameters and arguments count from 1.
pub data Fault : Type 0 where
  -- the name is no function followed by suffixes; it has more than eight; an Array stands outside an If
  UnknownName TooManySuffixes ArrayOutsideIf : Fault
  -- the number of parameters; a parameter, by its number; a pattern, by the place in its text
  ParamCount : Fault
  BadParam BadPattern : ℕ → Fault
  -- the bound on the number of arguments that is broken, and how many there are
  ArgCount : ℕ → ℕ → Fault
  -- an argument, by its number
  ArgType WrongState : ℕ → Fault

-- go on with what was read, unless a rule was broken
abbrev pub and_then : {X Y : Type 0} → Result X Fault → (X → Result Y Fault) → Result Y Fault
and_then (Ok x) next = next x
and_then (Err fault) next = Err fault

-- a rule that is met or gives its fault
abbrev pub check : Bool → Fault → Result (Unit {0}) Fault
check true fault = Ok tt
check false fault = Err fault

-- a rule that names what breaks it first, if anything does
abbrev pub no_breach : Option Fault → Result (Unit {0}) Fault
no_breach None = Ok tt
no_breach (Some fault) = Err fault

-- the first of two breaches
abbrev pub or_else : Option Fault → Option Fault → Option Fault
or_else (Some fault) later = Some fault
or_else None later = later
