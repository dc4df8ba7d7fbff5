-- What the quick reader tells of the front of a text. It knows no places: where it finds nothing, the judge tells the fault.
use Rattle.std.specs.Prelude.{◌≡◌, ◌==◌, ◌&&◌, ◌||◌, ℕ, nat_le, Bool, true, false, not, List, [], ◌∷◌, ◌++◌, if◌then◌else◌, Option, Some, None, Result, Ok, Err}
use Rattle.std.specs.Bool.{MatchBool}
use Rattle.std.specs.List.{list_all}
use Rattle.agg_terms.specs.Chains.{Ty}
use Rattle.agg_terms.specs.Values as family
use Rattle.value_types.specs.Folds.{value_of}
use Rattle.value_types.specs.declared.value.Value.{Value}
use Rattle.tsv_text.specs.declared.fault.TextFault.{TextFault}
use Rattle.tsv_text.specs.declared.fault.TextFault.TheVariants as text
use Rattle.field_texts.specs.Faults.{IsFieldFault}
use Rattle.field_texts.specs.Syntax.{form_of}
use Rattle.scalar_texts.specs.States.{ReadsStates}
use Rattle.scalar_texts.specs.declared.fault.FieldFault.{FieldFault}
use Rattle.scalar_texts.specs.declared.fault.FieldFault.TheVariants.{NotNumber, OutOfMemory, Text}
use Rattle.tsv_values.specs.Elements.{FieldSays, Said}
use Rattle.tsv_values.specs.Answer.{IsTold}
use Rattle.tsv_values.specs.declared.found.Found.{Found}
use Rattle.tsv_values.specs.declared.found.Entry.{Entry}
use Rattle.tsv_values.specs.declared.found.Missing.{Missing}
use Rattle.tsv_values.specs.declared.found.Missing.TheVariants.{Nothing, Refused}
use Rattle.tsv_values.specs.declared.found.Refusal.{Refusal}
use Rattle.tsv_values.specs.declared.found.Refusal.TheVariants as refusal

-- A digit or a sign.
abbrev pub is_numeric : ℕ → Bool
is_numeric b = (nat_le 48 b && nat_le b 57) || b == 43 || b == 45

abbrev pub is_other : ℕ → Bool
is_other b = not (is_numeric b)

-- A quote or a backslash.
abbrev pub is_special : ℕ → Bool
is_special b = b == 39 || b == 92

-- No number goes on here.
abbrev pub Ends : List ℕ → Type 0
Ends [] = Unit {0}
Ends (b ∷ text) = is_numeric b ≡ false

-- One of these texts at the front, and what follows it.
pub record IsAhead {A : Type 0} (says : A → List ℕ → Type 0) (text : List ℕ) (said : A) (behind : List ℕ) : Type 0 where
  pub front : List ℕ
  pub stands : says said front
  pub whole : text ≡ front ++ behind
  pub ends : Ends behind

-- The same, where no other may be seen there.
pub record IsFound {A : Type 0} (says : A → List ℕ → Type 0) (text : List ℕ) (said : A) (rest : List ℕ) : Type 0 where
  pub front : List ℕ
  pub stands : says said front
  pub whole : text ≡ front ++ rest
  pub only : (other : A) (behind : List ℕ) → IsAhead says text other behind → (other ≡ said) × (behind ≡ rest)

-- There is none, or each has this fault.
abbrev pub IsMissing : {X : Type 0} → (Result X FieldFault → List ℕ → Type 0) → List ℕ → Missing → Type 0
IsMissing {X} says text Nothing = (other : Result X FieldFault) (behind : List ℕ) → IsAhead says text other behind → ⊥
IsMissing {X} says text (Refused OutOfMemory) = Unit {0}
IsMissing {X} says text (Refused fault) = (other : Result X FieldFault) (behind : List ℕ) → IsAhead says text other behind → other ≡ Err fault

-- What the fault of a number or of a string is inside an array: no text of the syntax, or a refusal.
abbrev pub missing_of : FieldFault → Missing
missing_of NotNumber = Nothing
missing_of (Text fault) = Nothing
missing_of fault = Refused fault

-- What a bad escape is there.
abbrev pub escape_missing : TextFault → Missing
escape_missing text.OutOfMemory = Refused OutOfMemory
escape_missing fault = Nothing

-- An element; an entry of a map.
abbrev pub IsElementRead : (Said → List ℕ → Type 0) → List ℕ → Result Found Missing → Type 0
IsElementRead says text (Ok found) = IsFound says text (Ok (value_of found.value)) found.rest.now
IsElementRead says text (Err missing) = IsMissing says text missing

abbrev pub IsEntryRead : (Result (family.Value × family.Value) FieldFault → List ℕ → Type 0) → List ℕ → Result Entry Missing → Type 0
IsEntryRead says text (Ok entry) = IsFound says text (Ok (value_of entry.key, value_of entry.value)) entry.rest.now
IsEntryRead says text (Err missing) = IsMissing says text missing

-- A whole field.
abbrev pub IsWholeRead : (Said → Type 0) → Result Value Missing → Type 0
IsWholeRead told (Ok value) = told (Ok (value_of value))
IsWholeRead told (Err Nothing) = (said : Said) → told said → ⊥
IsWholeRead told (Err (Refused OutOfMemory)) = Unit {0}
IsWholeRead told (Err (Refused fault)) = (said : Said) → told said → said ≡ Err fault

-- The same with the place of a fault of syntax.
abbrev pub IsNestedAnswer : ReadsStates → Ty → List ℕ → Result Value Refusal → Type 0
IsNestedAnswer reads ty field (Ok value) = FieldSays reads ty (Ok (value_of value)) field
IsNestedAnswer reads ty field (Err (refusal.Syntax at)) = IsFieldFault (form_of ty) field (Some at)
IsNestedAnswer reads ty field (Err (refusal.Element fault)) = IsTold (λ said. FieldSays reads ty said field) (Err fault)

-- The bytes of a number, and what follows them.
pub record IsNumberCut (text : List ℕ) (number rest : List ℕ) : Type 0 where
  pub whole : text ≡ number ++ rest
  pub numeric : list_all is_numeric number ≡ true
  pub ends : Ends rest

-- The text behind the first quote that isn't behind a backslash of its own.
abbrev pub behind_quote : Bool → List ℕ → Option (List ℕ)
behind_quote escaped [] = None
behind_quote true (b ∷ text) = behind_quote false text
behind_quote false (b ∷ text) = if b == 39 then Some text else behind_quote (b == 92) text

-- What stands before that quote, and behind it.
abbrev pub IsQuoteCut : List ℕ → Option (List ℕ × List ℕ) → Type 0
IsQuoteCut text (Some cut) = (behind_quote false text ≡ Some cut.1) × (text ≡ cut.0 ++ 39 ∷ cut.1)
IsQuoteCut text None = behind_quote false text ≡ None

-- The same behind an opening quote.
abbrev pub IsQuotedCut : List ℕ → Option (List ℕ × List ℕ) → Type 0
IsQuotedCut [] cut = cut ≡ None
IsQuotedCut (b ∷ text) cut = MatchBool (b == 39) (IsQuoteCut text cut) (cut ≡ None)

-- The text behind `NULL`.
abbrev pub null_ahead : List ℕ → Option (List ℕ)
null_ahead (a ∷ b ∷ c ∷ d ∷ rest) = if a == 78 && b == 85 && c == 76 && d == 76 then Some rest else None
null_ahead text = None
