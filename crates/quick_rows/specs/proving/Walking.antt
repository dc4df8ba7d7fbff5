-- What it means that a field was judged and not kept.
use Rattle.std.specs.Prelude.{◌≡◌, ◌⊎◌, ◌+◌, ℕ, Bool, true, false, List, get_or, map, set, Option, Some, None, Result, Ok, Err}
use Rattle.value_lists.specs.declared.out_of_memory.OutOfMemory.{OutOfMemory}
use Rattle.value_types.specs.declared.ty.Ty.{Ty}
use Rattle.value_types.specs.declared.ty.Ty.TheVariants as ty
use Rattle.value_types.specs.declared.value.Tree.{Tree}
use Rattle.value_types.specs.declared.value.Value.{Value}
use Rattle.value_types.specs.declared.value.Value.TheVariants as value
use Rattle.tsv_text.specs.Lines.{fields_of}
use Rattle.field_texts.specs.Syntax.{IsNumber}
use Rattle.scalar_texts.specs.Numbers.{number_value}
use Rattle.scalar_texts.specs.States.{ReadsStates}
use Rattle.column_parts.specs.declared.number_type.NumberType.{NumberType}
use Rattle.column_parts.specs.declared.number_type.NumberType.TheVariants as kind
use Rattle.column_parts.specs.NumberLists.{IsOf}
use Rattle.typed_columns.specs.TypedValues.{TypedValues}
use Rattle.typed_columns.specs.Growth.{AllFit, Fits, trim}
use Rattle.typed_columns.specs.Views.{number_ty}
use Rattle.columns.specs.Rows.{RowFits, pushed}
use Rattle.quick_rows.specs.declared.field.Front.{Front}
use Rattle.quick_rows.specs.declared.field.Front.TheVariants as front
use Rattle.quick_rows.specs.declared.walk.Step.{Step}
use Rattle.quick_rows.specs.declared.walk.Step.TheVariants as step
use Rattle.quick_rows.specs.Keeping.{AreSaidBy, IsStep, kept}
use Rattle.quick_rows.specs.Taking.{AreBytes, IsArrayText, IsFront, Says, SaysBy, TakesAs, TakesFront, is_plain}

-- a front of a text is a value's, and what stands behind it
abbrev pub IsWalked : Ty → List ℕ → List ℕ → Type 0
IsWalked ty text left = (field : List ℕ) × IsFront text field left × (v : Value) × Fits ty v × Says ty field v

-- that is told, or nothing is said
abbrev pub WalksFirst : Ty → List ℕ → Front → Type 0
WalksFirst ty text (front.Taken left) = IsWalked ty text left.now
WalksFirst ty text front.Irregular = Unit {0}

-- the same, of a column that isn't kept
abbrev pub WalksKept : Ty → Bool → List ℕ → Front → Type 0
WalksKept ty keep text (front.Taken left) = (keep ≡ false) × IsWalked ty text left.now
WalksKept ty keep text front.Irregular = Unit {0}

-- the same of a number, of a string and of the elements of an array
abbrev pub IsNumberWalked : NumberType → List ℕ → List ℕ → Type 0
IsNumberWalked kind text left = (field : List ℕ) × IsFront text field left × IsNumber field × IsOf kind (number_value field)

abbrev pub WalksNumber : NumberType → List ℕ → Front → Type 0
WalksNumber kind text (front.Taken left) = IsNumberWalked kind text left.now
WalksNumber kind text front.Irregular = Unit {0}

abbrev pub WalksText : List ℕ → Front → Type 0
WalksText text (front.Taken left) = (field : List ℕ) × IsFront text field left.now × (is_plain field ≡ true) × AreBytes field
WalksText text front.Irregular = Unit {0}

abbrev pub AreElementsWalked : Ty → List ℕ → List ℕ → Type 0
AreElementsWalked ty text left = (field : List ℕ) × IsFront text field left × (vs : List Value) × AllFit ty vs × IsArrayText ty field vs

abbrev pub WalksElements : Ty → List ℕ → Front → Type 0
WalksElements ty text (front.Taken left) = AreElementsWalked ty text left.now
WalksElements ty text front.Irregular = Unit {0}

-- So many digits write a number of the type, whatever they are.
abbrev pub safe_digits : NumberType → ℕ
safe_digits kind.U8 = 2
safe_digits kind.I8 = 2
safe_digits kind.U16 = 4
safe_digits kind.I16 = 4
safe_digits kind.U32 = 9
safe_digits kind.I32 = 9
safe_digits kind.I64 = 18
safe_digits kind.U64 = 19

-- numbers of a type, or strings
abbrev pub element_ty : Option NumberType → Ty
element_ty (Some kind) = number_ty kind
element_ty None = ty.Str

-- the same of arrays, and of values or NULL, that aren't kept
abbrev pub IsArrayStep : Ty → Step → Type 0
IsArrayStep of (step.Numbers kind) = of ≡ number_ty kind
IsArrayStep of step.Texts = of ≡ ty.Str
IsArrayStep of step.Leave = Unit {0}
IsArrayStep of _ = ⊥

abbrev pub IsNullableStep : Ty → Step → Type 0
IsNullableStep of (step.NullableNumber kind) = of ≡ number_ty kind
IsNullableStep of step.NullableText = of ≡ ty.Str
IsNullableStep of step.Leave = Unit {0}
IsNullableStep of _ = ⊥

-- a field that is walked is a value of each type whose step this is, and none that is kept is walked
abbrev pub WalksStep : Step → List ℕ → Front → Type 0
WalksStep s text f = (t : Ty) (keep : Bool) → IsStep t keep s → WalksKept t keep text f

-- the same of one type, by what reads the states
abbrev pub IsWalkedBy : ReadsStates → Ty → List ℕ → List ℕ → Type 0
IsWalkedBy reads ty text left = (field : List ℕ) × IsFront text field left × (v : Value) × Fits ty v × SaysBy reads ty field v

abbrev pub WalksBy : ReadsStates → Ty → List ℕ → Result Front OutOfMemory → Type 0
WalksBy reads ty text (Ok (front.Taken left)) = IsWalkedBy reads ty text left.now
WalksBy reads ty text (Ok front.Irregular) = Unit {0}
WalksBy reads ty text (Err fault) = Unit {0}

-- The field's value, by what reads the states, stands at the column's end, or the column is as before.
abbrev pub TakesBy : ReadsStates → TypedValues → List ℕ → TypedValues → Result Bool OutOfMemory → Type 0
TakesBy reads = TakesAs (SaysBy reads)

-- a state at the front of a text, and what stands behind it
abbrev pub IsStateAt : ReadsStates → Ty → List ℕ → Tree → List ℕ → Type 0
IsStateAt reads ty text tree left = (field : List ℕ) × IsFront text field left × Fits ty (value.Cell tree) × SaysBy reads ty field (value.Cell tree)

-- states as a column
abbrev pub states_seen : Ty → List Tree → TypedValues
states_seen ty trees = record { ty = ty; values = map value.Cell trees }

-- A front is taken into the column at a place, or is a value's and the columns are as before.
abbrev pub IsStepped : ReadsStates → Step → Ty → List TypedValues → ℕ → List ℕ → List TypedValues → ℕ → List ℕ → Type 0
IsStepped reads s t columns at text after next left =
    ((s ≡ step.Keep) × (e : TypedValues) × (e ≡ get_or columns at e) × (c : TypedValues) × (after ≡ set columns at c) × (next ≡ at + 1) × TakesFront (TakesBy reads) e text c left)
    ⊎ ((after ≡ columns) × (next ≡ at) × ((keep : Bool) → IsStep t keep s → (keep ≡ false) × IsWalkedBy reads t text left))

-- that is told, with the place of the next column, or the columns are as before
abbrev pub StepsFirst : ReadsStates → Step → Ty → List TypedValues → ℕ → List ℕ → List TypedValues → ℕ → Result Front OutOfMemory → Type 0
StepsFirst reads s t columns at text after next (Ok (front.Taken left)) = IsStepped reads s t columns at text after next left.now
StepsFirst reads s t columns at text after next (Ok front.Irregular) = after ≡ columns
StepsFirst reads s t columns at text after next (Err fault) = after ≡ columns

-- the kept values of the line's row stand at the ends of the columns, or the columns' first values are as before
abbrev pub FillsKept : ReadsStates → ℕ → List Ty → List Bool → List TypedValues → List ℕ → List TypedValues → Result Bool OutOfMemory → Type 0
FillsKept reads count types keep columns line after (Ok true) =
    (row : List Value) × RowFits types row × AreSaidBy reads types (fields_of line) row × (after ≡ pushed columns (kept keep row))
FillsKept reads count types keep columns line after (Ok false) = map (trim count) after ≡ columns
FillsKept reads count types keep columns line after (Err fault) = map (trim count) after ≡ columns
