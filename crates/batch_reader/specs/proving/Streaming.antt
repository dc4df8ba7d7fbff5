-- The rows of the lines of one block, and what a block without a refused row is answered.
use Rattle.std.specs.Prelude.{◌≡◌, ℕ, ◌+◌, Bool, true, false, List, ◌++◌, Result, Ok, Err, OnOk, length}
use Rattle.value_types.specs.declared.ty.Ty.{Ty}
use Rattle.value_types.specs.declared.value.Value.{Value}
use Rattle.scalar_texts.specs.States.{ReadsStates}
use Rattle.columns.specs.Rows.{Rows}
use Rattle.line_reader.specs.declared.stop.Stop.{Stop}
use Rattle.line_reader.specs.declared.stop.Stop.TheVariants as stop
use Rattle.quick_rows.specs.Keeping.{kept_rows}
use Rattle.batch_reader.specs.proving.Pushing.{PushesBlock}
use Rattle.batch_reader.specs.declared.fault.RowFault.{RowFault}
use Rattle.batch_reader.specs.declared.fault.RowFault.TheVariants.{TooLong, TooLarge, Read}

-- What is kept of the rows of the lines of one block, with the number of the row behind them.
pub record KeepsBehind (reads : ReadsStates) (types : List Ty) (keep : List Bool) (next : ℕ) (lines : List (List ℕ)) (batch : Rows) (pushed : Result ℕ RowFault) : Type 0 where
  pub more : List (List Value)
  pub stands : OnOk pushed (batch ≡ kept_rows keep (record { types = types; rows = more }))
  pub leads : (rows : List (List Value)) → next ≡ length rows + 1
      → PushesBlock reads (record { types = types; rows = rows }) lines (record { types = types; rows = rows ++ more }) pushed

-- what a stream answers to a block without a refused row
abbrev pub stop_answer : ℕ → Stop → Result Bool RowFault
stop_answer next stop.More = Ok true
stop_answer next stop.End = Ok false
stop_answer next stop.Read = Err Read
stop_answer next stop.TooLong = Err (TooLong next)
stop_answer next stop.TooLarge = Err TooLarge
