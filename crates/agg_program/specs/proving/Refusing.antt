-- What writing an error line comes to.
use Rattle.std.specs.Prelude.{◌≡◌, ◌<◌, ◌⊎◌, ℕ, List, length, take, Option}
use Rattle.std.specs.Io.KnownBytes.{Appends}
use Rattle.agg_ports.specs.Causes.{Rose}
use Rattle.refusals.specs.Words.{error_line}
use Rattle.refusals.specs.declared.status.Status.{Status}

-- a status, or want of memory in its place
abbrev pub IsInPlaceOf : Status → Status → Type 0
IsInPlaceOf status told = (told ≡ status) ⊎ (told ≡ Status.OutOfMemory)

-- the line of what is told was written, and the sink didn't fail
pub record Told (status : Status) (old new : Option (List ℕ)) (before now : ℕ) (told : Status) : Type 0 where
  pub which : IsInPlaceOf status told
  pub written : Appends old new (error_line told)
  pub well : now ≡ before

-- a front of that line was written, not all of it, and the sink failed
pub record Cut (status : Status) (old new : Option (List ℕ)) (before now : ℕ) : Type 0 where
  pub told : Status
  pub which : IsInPlaceOf status told
  pub count : ℕ
  pub within : count < length (error_line told)
  pub written : Appends old new (take count (error_line told))
  pub failed : Rose before now

-- how a refusal ends
abbrev pub Refuses : Status → Option (List ℕ) → Option (List ℕ) → ℕ → ℕ → Status → Type 0
Refuses status old new before now Status.WriteFault = Cut status old new before now
Refuses status old new before now told = Told status old new before now told

-- how refused words end: the sink took the line, or failed within it
abbrev pub RefusesWords : Option (List ℕ) → Option (List ℕ) → ℕ → ℕ → Status → Type 0
RefusesWords old new before now Status.Usage = Appends old new (error_line Status.Usage) × (now ≡ before)
RefusesWords old new before now Status.WriteFault =
    ((count : ℕ) × (count < length (error_line Status.Usage)) × Appends old new (take count (error_line Status.Usage))) × Rose before now
RefusesWords old new before now status = ⊥
