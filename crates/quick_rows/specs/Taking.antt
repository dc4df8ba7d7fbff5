-- What it means that a field, and a line, was taken into columns.
use Rattle.std.specs.Prelude.{◌≡◌, ◌==◌, ◌&&◌, ◌^◌, nat_lt, ℕ, length, Bool, true, false, not, List, [], ◌∷◌, ◌++◌, map, Result, Ok, Err}
use Rattle.std.specs.List.{list_all, slice_split}
use Rattle.value_lists.specs.declared.out_of_memory.OutOfMemory.{OutOfMemory}
use Rattle.value_types.specs.Folds.{ty_of, value_of}
use Rattle.value_types.specs.declared.ty.Ty.{Ty}
use Rattle.value_types.specs.declared.value.Value.{Value}
use Rattle.tsv_text.specs.Lines.{fields_of, is_tab}
use Rattle.field_texts.specs.Syntax.{IsNumber}
use Rattle.tsv_values.specs.Answer.{IsFieldAnswer, IsFilledAnswer}
use Rattle.tsv_values.specs.Elements.{ElementSays}
use Rattle.scalar_texts.specs.Numbers.{number_value}
use Rattle.scalar_texts.specs.States.{ReadsStates}
use Rattle.column_parts.specs.NumberLists.{NumberList, IsOf, with_number}
use Rattle.value_types.specs.declared.ty.Ty.TheVariants as ty
use Rattle.value_types.specs.declared.value.Value.TheVariants as value
use Rattle.column_parts.specs.Cuts.{cuts}
use Rattle.typed_columns.specs.TypedValues.{TypedValues}
use Rattle.typed_columns.specs.Growth.{AllFit, Fits, trim, with_value, with_values}
use Rattle.typed_columns.specs.Views.{number_ty}
use Rattle.columns.specs.Rows.{Rows, RowFits, pushed, with_row}
use Rattle.quick_rows.specs.declared.field.Front.{Front}
use Rattle.quick_rows.specs.declared.field.Front.TheVariants as front
use Rattle.quick_rows.specs.declared.row.Taken.{Taken}
use Rattle.quick_rows.specs.declared.row.Taken.TheVariants.{Row, Irregular}

-- no backslash
abbrev pub is_plain : List ℕ → Bool
is_plain text = list_all (λ b. not (b == 92)) text

-- each below 2^8
abbrev pub AreBytes : List ℕ → Type 0
AreBytes text = list_all (λ b. nat_lt b (2 ^ 8)) text ≡ true

-- the whole field says the value, by what reads the states
abbrev pub SaysBy : ReadsStates → Ty → List ℕ → Value → Type 0
SaysBy reads ty field v = IsFieldAnswer reads (ty_of ty) field (Ok v)

-- the same, whatever reads the states
abbrev pub Says : Ty → List ℕ → Value → Type 0
Says ty field v = (reads : ReadsStates) → SaysBy reads ty field v

-- the same of a field that isn't `\N`
abbrev pub SaysFilled : Ty → List ℕ → Value → Type 0
SaysFilled ty field v = (reads : ReadsStates) → IsFilledAnswer reads (ty_of ty) field (Ok v)

-- the field's value stands at the column's end, or the column is as before
abbrev pub TakesAs : (Ty → List ℕ → Value → Type 0) → TypedValues → List ℕ → TypedValues → Result Bool OutOfMemory → Type 0
TakesAs Means column field after (Ok true) = (v : Value) × Fits column.ty v × Means column.ty field v × (after ≡ with_value column v)
TakesAs Means column field after (Ok false) = after ≡ column
TakesAs Means column field after (Err fault) = after ≡ column

abbrev pub TakesField : TypedValues → List ℕ → TypedValues → Result Bool OutOfMemory → Type 0
TakesField = TakesAs Says

abbrev pub TakesFilled : TypedValues → List ℕ → TypedValues → Result Bool OutOfMemory → Type 0
TakesFilled = TakesAs SaysFilled

-- the same of a number and of a string
abbrev pub TakesNumber : NumberList → List ℕ → NumberList → Result Bool OutOfMemory → Type 0
TakesNumber numbers field after (Ok true) = IsNumber field × IsOf numbers.kind (number_value field) × (after ≡ with_number numbers (number_value field))
TakesNumber numbers field after (Ok false) = after ≡ numbers
TakesNumber numbers field after (Err fault) = after ≡ numbers

abbrev pub TakesText : List (List ℕ) → List ℕ → List (List ℕ) → Result Bool OutOfMemory → Type 0
TakesText texts field after (Ok true) = (is_plain field ≡ true) × AreBytes field × (after ≡ texts ++ field ∷ [])
TakesText texts field after (Ok false) = after ≡ texts
TakesText texts field after (Err fault) = after ≡ texts

-- no byte passes
abbrev pub Fails : (ℕ → Bool) → List ℕ → Type 0
Fails p [] = Unit {0}
Fails p (x ∷ xs) = (p x ≡ false) × Fails p xs

-- a front of a text without a tab, and what stands behind it: the first field, where that is a tab or nothing
abbrev pub IsFront : List ℕ → List ℕ → List ℕ → Type 0
IsFront text field left = (text ≡ field ++ left) × Fails is_tab field

-- such a front that stands in a store
abbrev pub TakesFront : {Store : Type 0} → (Store → List ℕ → Store → Result Bool OutOfMemory → Type 0) → Store → List ℕ → Store → List ℕ → Type 0
TakesFront Takes store text after left = (field : List ℕ) × IsFront text field left × Takes store field after (Ok true)

-- a front is taken, and what stands behind it is told, or nothing is taken
abbrev pub TakesFirst : {Store : Type 0} → (Store → List ℕ → Store → Result Bool OutOfMemory → Type 0) → Store → List ℕ → Store → Result Front OutOfMemory → Type 0
TakesFirst Takes store text after (Ok (front.Taken left)) = TakesFront Takes store text after left.now
TakesFirst Takes store text after (Ok front.Irregular) = Takes store text after (Ok false)
TakesFirst Takes store text after (Err fault) = Takes store text after (Err fault)

-- neither a backslash nor a quote
abbrev pub is_quotable : List ℕ → Bool
is_quotable text = list_all (λ b. not (b == 92) && not (b == 39)) text

-- the same of a string in quotes
abbrev pub TakesQuoted : List (List ℕ) → List ℕ → List (List ℕ) → Result Bool OutOfMemory → Type 0
TakesQuoted texts part after (Ok true) =
    (text : List ℕ) × (part ≡ 39 ∷ (text ++ 39 ∷ [])) × (is_quotable text ≡ true) × AreBytes text × (after ≡ texts ++ text ∷ [])
TakesQuoted texts part after (Ok false) = after ≡ texts
TakesQuoted texts part after (Err fault) = after ≡ texts

-- neither a quote nor a backslash, a comma or a tab
abbrev pub is_bare : List ℕ → Bool
is_bare text = list_all (λ b. not (b == 39) && not (b == 92) && not (b == 44) && not (b == 9)) text

-- a text inside an array says the value of an element
abbrev pub SaysElement : Ty → List ℕ → Value → Type 0
SaysElement ty part v = (reads : ReadsStates) → ElementSays reads (ty_of ty) (Ok (value_of v)) part

abbrev pub TakesElement : TypedValues → List ℕ → TypedValues → Result Bool OutOfMemory → Type 0
TakesElement = TakesAs SaysElement

-- what stands between commas, and nothing in an empty text
abbrev pub parts_of : List ℕ → List (List ℕ)
parts_of [] = []
parts_of (b ∷ text) = slice_split (λ c. c == 44) (b ∷ text)

-- each part says the element at its place
abbrev pub AreElements : Ty → List (List ℕ) → List Value → Type 0
AreElements ty [] [] = Unit {0}
AreElements ty (part ∷ parts) (v ∷ vs) = SaysElement ty part v × AreElements ty parts vs
AreElements ty _ _ = ⊥

-- `[`, elements between commas, `]`
abbrev pub IsArrayText : Ty → List ℕ → List Value → Type 0
IsArrayText ty field vs = (inside : List ℕ) × (field ≡ 91 ∷ (inside ++ 93 ∷ [])) × AreElements ty (parts_of inside) vs

-- numbers, strings and arrays as a column
abbrev pub numbers_seen : NumberList → TypedValues
numbers_seen n = record { ty = number_ty n.kind; values = map value.Num n.numbers }

abbrev pub texts_seen : List (List ℕ) → TypedValues
texts_seen texts = record { ty = ty.Str; values = map value.Bytes texts }

abbrev pub lists_seen : List ℕ → TypedValues → TypedValues
lists_seen starts elements = record { ty = ty.Arr elements.ty; values = map value.List (cuts starts elements.values) }

-- the same of the elements of an array
abbrev pub TakesElements : TypedValues → List ℕ → TypedValues → Result Bool OutOfMemory → Type 0
TakesElements elements field after (Ok true) = (vs : List Value) × AllFit elements.ty vs × IsArrayText elements.ty field vs × (after ≡ with_values elements vs)
TakesElements elements field after (Ok false) = trim (length elements.values) after ≡ elements
TakesElements elements field after (Err fault) = trim (length elements.values) after ≡ elements

-- one field and one value for each type, and each field says the value at its place
abbrev pub AreSaid : List Ty → List (List ℕ) → List Value → Type 0
AreSaid [] [] [] = Unit {0}
AreSaid (t ∷ ts) (f ∷ fs) (v ∷ vs) = Says t f v × AreSaid ts fs vs
AreSaid _ _ _ = ⊥

-- the line's values stand at the ends of the columns, or the columns' first values are as before
abbrev pub FillsColumns : ℕ → List TypedValues → List ℕ → List TypedValues → Result Bool OutOfMemory → Type 0
FillsColumns count columns line after (Ok true) =
    (row : List Value) × RowFits (map (λ c. c.ty) columns) row × AreSaid (map (λ c. c.ty) columns) (fields_of line) row × (after ≡ pushed columns row)
FillsColumns count columns line after (Ok false) = map (trim count) after ≡ columns
FillsColumns count columns line after (Err fault) = map (trim count) after ≡ columns

-- the line's row stands at the end of the batch, or the batch is as before
abbrev pub TakesRow : Rows → List ℕ → Rows → Result Taken OutOfMemory → Type 0
TakesRow batch line after (Ok Row) = (row : List Value) × AreSaid batch.types (fields_of line) row × (after ≡ with_row batch row)
TakesRow batch line after (Ok Irregular) = after ≡ batch
TakesRow batch line after (Err fault) = after ≡ batch
