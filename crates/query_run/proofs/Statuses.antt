-- The statuses of faults of rows.
use Rattle.std.proofs.Common.{◌≡◌, ℕ, ◌≤◌, Err, subst}
use Rattle.agg_ports.specs.Causes.{Rose}
use Rattle.batch_reader.specs.Reading.{RowCause}
use Rattle.batch_reader.specs.declared.fault.RowFault.{RowFault}
use Rattle.batch_reader.specs.declared.fault.RowFault.TheVariants as rows

-- the cause of a fault, behind rows that were read well, and whatever else would be answered
pub later-cause : (A B : Type 0) (first before now : ℕ) (f : RowFault) → before ≡ first → RowCause {A = A} before now (Err f) → RowCause {A = B} first now (Err f)
later-cause A B first before now (rows.Row row column f) same h = tt
later-cause A B first before now (rows.FieldCount row want have) same h = tt
later-cause A B first before now (rows.TooLong row) same h = tt
later-cause A B first before now rows.TooLarge same h = tt
later-cause A B first before now rows.Read same h = subst (λ b. (b ≤ now) × Rose b now) same h
later-cause A B first before now rows.OutOfMemory same h = tt
