-- What a field of a type says (manual: "TabSeparated"; the faults and their order are this project's own choice).
use Rattle.std.specs.Prelude.{◌≡◌, ℕ, List, Some, Result, Ok, Err}
use Rattle.std.specs.Bool.{MatchBool}
use Rattle.agg_terms.specs.Chains.{Ty, Arr, MapTy, Nullable}
use Rattle.value_types.specs.Folds.{value_of}
use Rattle.value_types.specs.declared.value.Value.{Value}
use Rattle.field_texts.specs.Faults.{IsFieldFault}
use Rattle.field_texts.specs.Syntax.{form_of}
use Rattle.scalar_texts.specs.Answer.{Agrees, IsScalarAnswer, is_null_text, null_answer}
use Rattle.scalar_texts.specs.States.{AllStates, ReadsStates}
use Rattle.scalar_texts.specs.declared.fault.FieldFault.{FieldFault}
use Rattle.scalar_texts.specs.declared.fault.FieldFault.TheVariants.{BadArray, BadMap, OutOfMemory}
use Rattle.tsv_values.specs.Elements.{FieldSays, Said}

-- The answer is one that may be told, but for want of memory.
abbrev pub IsTold : (Said → Type 0) → Result Value FieldFault → Type 0
IsTold told (Ok value) = told (Ok (value_of value))
IsTold told (Err OutOfMemory) = Unit {0}
IsTold told (Err fault) = told (Err fault)

-- An array. First the syntax is judged: the place of a fault is the length of the longest front that begins some text of the
-- type's syntax, where numbers may be of any size and any bytes in quotes a state. Then the elements, from left to right.
abbrev pub IsArrayAnswer : ReadsStates → Ty → List ℕ → Result Value FieldFault → Type 0
IsArrayAnswer reads ty field (Err (BadArray at)) = IsFieldFault (form_of ty) field (Some at)
IsArrayAnswer reads ty field answer = IsTold (λ said. FieldSays reads ty said field) answer

-- The same of a map.
abbrev pub IsMapAnswer : ReadsStates → Ty → List ℕ → Result Value FieldFault → Type 0
IsMapAnswer reads ty field (Err (BadMap at)) = IsFieldFault (form_of ty) field (Some at)
IsMapAnswer reads ty field answer = IsTold (λ said. FieldSays reads ty said field) answer

-- A field that isn't `\N`, by its type.
abbrev pub IsFilledAnswer : ReadsStates → Ty → List ℕ → Result Value FieldFault → Type 0
IsFilledAnswer reads (Arr t) field answer = IsArrayAnswer reads (Arr t) field answer
IsFilledAnswer reads (MapTy k t) field answer = IsMapAnswer reads (MapTy k t) field answer
IsFilledAnswer reads (Nullable t) field answer = IsFilledAnswer reads t field answer
IsFilledAnswer reads ty field answer = IsScalarAnswer reads ty field answer

-- The whole field: `\N` is NULL where the type is Nullable, and else refused.
abbrev pub IsFieldAnswer : ReadsStates → Ty → List ℕ → Result Value FieldFault → Type 0
IsFieldAnswer reads ty field answer = MatchBool (is_null_text field) (Agrees (null_answer ty) answer) (IsFilledAnswer reads ty field answer)

-- No key of a map has a state in it.
abbrev pub KeysArePlain : Ty → Type 0
KeysArePlain (Arr t) = KeysArePlain t
KeysArePlain (MapTy k t) = AllStates (λ _. ⊥) k × KeysArePlain t
KeysArePlain (Nullable t) = KeysArePlain t
KeysArePlain ty = Unit {0}

-- Two answers are one, unless memory ran out; values count by what they are in the definitions.
abbrev pub IsSameField : Result Value FieldFault → Result Value FieldFault → Type 0
IsSameField one other = IsTold (λ a. IsTold (λ b. a ≡ b) other) one
