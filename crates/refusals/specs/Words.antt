-- Every text of a refusal. The words are this project's own choice.
use Rattle.std.specs.Prelude.{ℕ, List, [], ◌++◌, codes, ◌==◌, if◌then◌else◌}
use Rattle.std.specs.Fmt.{decimal}
use Rattle.chain_params.specs.declared.fault.ChainFault.{ChainFault}
use Rattle.refusals.specs.declared.status.RowWhy.{RowWhy}
use Rattle.refusals.specs.declared.status.Size.{Size}
use Rattle.refusals.specs.declared.status.StateWhy.{StateWhy}
use Rattle.refusals.specs.declared.status.Status.{Status}
use Rattle.refusals.specs.declared.why.LimitName.{LimitName}
use Rattle.refusals.specs.declared.why.Why.{Why}
use Rattle.tsv_text.specs.declared.fault.TextFault.{TextFault}
use Rattle.scalar_texts.specs.declared.fault.FieldFault.{FieldFault}
use Rattle.scalar_texts.specs.declared.fault.StateFault.{StateFault}

-- words with a number behind them
abbrev pub with_number : List ℕ → ℕ → List ℕ
with_number words n = words ++ decimal n

-- words with a place behind them, in bytes from 0
abbrev pub at : List ℕ → ℕ → List ℕ
at words place = words ++ with_number (codes " at ") place

-- Why a field is refused.

-- the escapes of a String
abbrev pub escape_words : TextFault → List ℕ
escape_words (TextFault.LoneBackslash place) = at (codes "lone backslash") place
escape_words (TextFault.BadHex place) = at (codes "bad hex escape") place
escape_words TextFault.OutOfMemory = codes "out of memory"

-- the bytes of a state
abbrev pub state_fault_words : StateFault → List ℕ
state_fault_words (StateFault.Version version) = with_number (codes "state version ") version
state_fault_words StateFault.Short = codes "state too short"
state_fault_words (StateFault.Long place) = at (codes "state too long") place
state_fault_words (StateFault.NotCanonical place) = at (codes "state not canonical") place
state_fault_words (StateFault.BadTag place) = at (codes "bad state tag") place

-- the field of a state
abbrev pub state_words : StateWhy → List ℕ
state_words (StateWhy.NotHex place) = at (codes "bad hex") place
state_words (StateWhy.Fault fault) = state_fault_words fault

-- any field
abbrev pub field_words : FieldFault → List ℕ
field_words FieldFault.NotNumber = codes "not a number"
field_words FieldFault.OutOfRange = codes "out of range"
field_words (FieldFault.Text fault) = escape_words fault
field_words (FieldFault.BadArray place) = at (codes "bad array") place
field_words (FieldFault.BadMap place) = at (codes "bad map") place
field_words FieldFault.NotNullable = codes "not nullable"
field_words (FieldFault.NotHex place) = at (codes "bad hex") place
field_words (FieldFault.BadState fault) = state_fault_words fault
field_words FieldFault.OutOfMemory = codes "out of memory"

-- Why a line is refused.

-- the number of arguments of a call: the bound that is broken, and how many there are
abbrev pub count_words : ℕ → ℕ → List ℕ
count_words want have = with_number (codes "want ") want ++ with_number (codes " arguments, have ") have

-- the rules on a chain, its parameters and its arguments, which count from 1
abbrev pub chain_words : ChainFault → List ℕ
chain_words ChainFault.UnknownName = codes "unknown name"
chain_words ChainFault.TooManySuffixes = codes "too many suffixes"
chain_words ChainFault.ArrayOutsideIf = codes "Array outside If"
chain_words ChainFault.ParamCount = codes "parameter count"
chain_words (ChainFault.BadParam number) = with_number (codes "bad parameter ") number
chain_words (ChainFault.BadPattern place) = at (codes "bad pattern") place
chain_words (ChainFault.ArgCount want have) = count_words want have
chain_words (ChainFault.ArgType number) = with_number (codes "bad argument ") number
chain_words (ChainFault.WrongState number) = with_number (codes "wrong state in argument ") number
chain_words ChainFault.OutOfMemory = codes "out of memory"

abbrev pub limit_words : LimitName → List ℕ
limit_words LimitName.Columns = codes "limit columns"
limit_words LimitName.Calls = codes "limit calls"
limit_words LimitName.Keys = codes "limit keys"
limit_words LimitName.Views = codes "limit views"
limit_words LimitName.Sessions = codes "limit sessions"
limit_words LimitName.Depth = codes "limit depth"

-- Line 1 of a request and of a script is its table, and its parts are columns; the parts of every other line are calls.
abbrev pub part_words : ℕ → List ℕ
part_words line = if line == 1 then codes "column " else codes "call "

-- a rule on chains that a part of a line breaks
abbrev pub part_fault_words : ℕ → ℕ → ChainFault → List ℕ
part_fault_words line part fault = with_number (part_words line) part ++ (codes ": " ++ chain_words fault)

-- the line of a number, counted from 1
abbrev pub line_words : ℕ → Why → List ℕ
line_words line (Why.Syntax place) = at (codes "syntax") place
line_words line (Why.Limit limit) = limit_words limit
line_words line (Why.UnknownColumn place) = at (codes "unknown column") place
line_words line (Why.UnknownView place) = at (codes "unknown view") place
line_words line (Why.Repeated place) = at (codes "repeated name") place
line_words line (Why.Chain part fault) = part_fault_words line part fault
line_words line (Why.KeyType place) = at (codes "bad key type") place
line_words line Why.Lines = codes "too few lines"
line_words line (Why.SessionOrder place) = at (codes "session number") place

-- How a run ends.

abbrev pub refused_line : ℕ → Why → List ℕ
refused_line line why = with_number (codes "line ") line ++ (codes ": " ++ line_words line why)

-- the field of a row and a column, which count from 1
abbrev pub field_place : ℕ → ℕ → List ℕ
field_place row column = with_number (codes "row ") row ++ (with_number (codes " column ") column ++ codes ": ")

abbrev pub refused_field : ℕ → ℕ → FieldFault → List ℕ
refused_field row column fault = field_place row column ++ field_words fault

abbrev pub refused_state : ℕ → ℕ → StateWhy → List ℕ
refused_state row column why = field_place row column ++ state_words why

-- how many fields a row has, and how many columns the table
abbrev pub refused_count : ℕ → ℕ → ℕ → List ℕ
refused_count row want have =
    with_number (codes "row ") row ++ (with_number (codes " has ") have ++ with_number (codes " fields, want ") want)

abbrev pub refused_row : ℕ → RowWhy → List ℕ
refused_row row (RowWhy.Field column fault) = refused_field row column fault
refused_row row (RowWhy.Count want have) = refused_count row want have

abbrev pub size_words : Size → List ℕ
size_words Size.Line = codes "too large: line"
size_words Size.Input = codes "too large: input"
size_words Size.Script = codes "too large: script"

-- what stands behind `error: `
abbrev pub status_words : Status → List ℕ
status_words Status.Done = []
status_words Status.Usage = codes "usage"
status_words (Status.BadRequest line why) = refused_line line why
status_words (Status.BadRow row why) = refused_row row why
status_words (Status.BadState row column why) = refused_state row column why
status_words Status.ReadFault = codes "read failed"
status_words Status.WriteFault = []
status_words (Status.TooLarge size) = size_words size
status_words Status.OutOfMemory = codes "out of memory"

-- the one line that is written in place of an answer
abbrev pub error_line : Status → List ℕ
error_line status = codes "error: " ++ (status_words status ++ codes "\n")
