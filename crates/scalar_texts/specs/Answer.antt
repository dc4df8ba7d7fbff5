-- What a field of a type says (manual: "TabSeparated").
use Rattle.std.specs.Prelude.{◌≡◌, ◌==◌, ◌&&◌, ℕ, ℤ, Bool, true, false, List, [], ◌∷◌, if◌then◌else◌, Option, Some, None, Result, Ok, Err}
use Rattle.agg_terms.specs.Chains.{Ty, Whole, Signed, Str, Arr, MapTy, Nullable, StateOf}
use Rattle.agg_terms.specs.Fitting.{fits_bits, fits_width}
use Rattle.agg_terms.specs.Types.{may_be_null}
use Rattle.agg_terms.specs.Values as family
use Rattle.value_types.specs.Folds.{value_of}
use Rattle.value_types.specs.declared.value.Value.{Value}
use Rattle.tsv_text.specs.Escapes.{IsUnescaped}
use Rattle.tsv_text.specs.declared.fault.TextFault.TheVariants as text
use Rattle.field_texts.specs.Syntax.{IsNumber}
use Rattle.scalar_texts.specs.Hex.{hex_bytes, hex_fault}
use Rattle.scalar_texts.specs.Numbers.{number_value}
use Rattle.scalar_texts.specs.States.{ReadsStates}
use Rattle.scalar_texts.specs.declared.fault.StateFault.{StateFault}
use Rattle.scalar_texts.specs.declared.fault.FieldFault.{FieldFault}
use Rattle.scalar_texts.specs.declared.fault.FieldFault.TheVariants.{NotNumber, OutOfRange, Text, NotNullable, NotHex, BadState, OutOfMemory}

-- The answer is what is told, but for want of memory.
abbrev pub Agrees : Result family.Value FieldFault → Result Value FieldFault → Type 0
Agrees told (Ok value) = told ≡ Ok (value_of value)
Agrees told (Err OutOfMemory) = Unit {0}
Agrees told (Err fault) = told ≡ Err fault

-- A number: a sign or none, and digits, in a range of the type.
abbrev pub IsNumericAnswer : (ℤ → Bool) → List ℕ → Result Value FieldFault → Type 0
IsNumericAnswer fits field (Ok value) = IsNumber field × (fits (number_value field) ≡ true) × (value_of value ≡ family.Num (number_value field))
IsNumericAnswer fits field (Err NotNumber) = IsNumber field → ⊥
IsNumericAnswer fits field (Err OutOfRange) = IsNumber field × (fits (number_value field) ≡ false)
IsNumericAnswer fits field (Err OutOfMemory) = Unit {0}
IsNumericAnswer fits field (Err fault) = ⊥

-- A string: its escapes undone once, or the first escape that is none.
abbrev pub IsTextAnswer : List ℕ → Result Value FieldFault → Type 0
IsTextAnswer field (Ok value) = (bytes : List ℕ) × (value_of value ≡ family.Bytes bytes) × IsUnescaped field (Ok bytes)
IsTextAnswer field (Err (Text (text.LoneBackslash at))) = IsUnescaped field (Err (text.LoneBackslash at))
IsTextAnswer field (Err (Text (text.BadHex at))) = IsUnescaped field (Err (text.BadHex at))
IsTextAnswer field (Err OutOfMemory) = Unit {0}
IsTextAnswer field (Err fault) = ⊥

abbrev pub cell_of : Result family.Tree StateFault → Result family.Value FieldFault
cell_of (Ok tree) = Ok (family.Cell tree)
cell_of (Err fault) = Err (BadState fault)

abbrev pub not_hex_or : Option ℕ → Result family.Value FieldFault → Result family.Value FieldFault
not_hex_or (Some at) other = Err (NotHex at)
not_hex_or None other = other

-- A state: lower-case hexadecimal, and then what its bytes stand for.
abbrev pub state_answer : ReadsStates → Ty → List ℕ → Result family.Value FieldFault
state_answer reads ty text = not_hex_or (hex_fault text) (cell_of (reads ty (hex_bytes text)))

-- The field is `\N`.
abbrev pub is_null_text : List ℕ → Bool
is_null_text (b ∷ c ∷ []) = b == 92 && c == 78
is_null_text field = false

abbrev pub null_answer : Ty → Result family.Value FieldFault
null_answer ty = if may_be_null ty then Ok family.Nil else Err NotNullable

-- A field of a type that is neither an array nor a map, and isn't `\N`.
abbrev pub IsScalarAnswer : ReadsStates → Ty → List ℕ → Result Value FieldFault → Type 0
IsScalarAnswer reads (Whole n) field answer = IsNumericAnswer (fits_bits n) field answer
IsScalarAnswer reads (Signed w) field answer = IsNumericAnswer (fits_width w) field answer
IsScalarAnswer reads Str field answer = IsTextAnswer field answer
IsScalarAnswer reads (StateOf c ts) field answer = Agrees (state_answer reads (StateOf c ts) field) answer
IsScalarAnswer reads (Nullable t) field answer = IsScalarAnswer reads t field answer
IsScalarAnswer reads ty field answer = ⊥

-- Neither an array nor a map.
abbrev pub IsScalar : Ty → Type 0
IsScalar (Arr t) = ⊥
IsScalar (MapTy k t) = ⊥
IsScalar (Nullable t) = IsScalar t
IsScalar ty = Unit {0}
