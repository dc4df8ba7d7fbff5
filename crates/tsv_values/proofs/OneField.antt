-- A field has one answer.
use Rattle.std.proofs.Common.{◌≡◌, ℕ, ℤ, Bool, true, false, List, Some, Result, Ok, Err, refl, sym, ap, ◌∙◌, inl, inr}
use Rattle.std.specs.Prelude.{◌⊎◌}
use Rattle.std.specs.Bool.{MatchBool}
use Rattle.first_fault.proofs.Unique.{one_place}
use Rattle.agg_terms.specs.Chains.{Ty, Whole, Signed, Str, Arr, MapTy, Nullable, StateOf}
use Rattle.agg_terms.specs.Fitting.{fits_bits, fits_width}
use Rattle.agg_terms.specs.Values as family
use Rattle.value_types.specs.declared.value.Value.{Value}
use Rattle.tsv_text.specs.Escapes.{IsUnescaped}
use Rattle.tsv_text.specs.Escapes as escapes
use Rattle.tsv_text.specs.declared.fault.TextFault.{TextFault}
use Rattle.tsv_text.specs.declared.fault.TextFault.TheVariants as text
use Rattle.field_texts.specs.Faults.{IsFieldFault}
use Rattle.field_texts.specs.Syntax.{IsField, IsNumber, FieldForm, form_of}
use Rattle.scalar_texts.specs.Answer.{Agrees, IsNumericAnswer, IsScalarAnswer, IsTextAnswer, is_null_text, null_answer, state_answer}
use Rattle.scalar_texts.specs.Numbers.{number_value}
use Rattle.scalar_texts.specs.States.{ReadsStates}
use Rattle.scalar_texts.specs.declared.fault.FieldFault.{FieldFault}
use Rattle.scalar_texts.specs.declared.fault.FieldFault.TheVariants.{NotNumber, OutOfRange, Text, BadArray, BadMap, NotNullable, NotHex, BadState, OutOfMemory}
use Rattle.tsv_values.specs.Answer.{IsArrayAnswer, IsFieldAnswer, IsFilledAnswer, IsMapAnswer, IsSameField, IsTold}
use Rattle.tsv_values.specs.Elements.{FieldSays, Said, ranged}
use Rattle.tsv_values.specs.OneAnswer.{OneFieldAnswer}
use Rattle.tsv_values.specs.proving.Steps.{after_spaces}
use Rattle.tsv_values.proofs.OneElement.{one_element}
use Rattle.tsv_values.proofs.Quoted.{OneText}
use Rattle.tsv_values.proofs.Syntactic.{field_syntax}
use Rattle.tsv_values.proofs.Whole.{whole_ahead}

abbrev Answer : Type 0
Answer = Result Value FieldFault

-- what is told of one thing, is told of another that follows
told_so : (P Q : Said → Type 0) → ((said : Said) → P said → Q said) → (answer : Answer) → IsTold P answer → IsTold Q answer
told_so P Q f (Ok value) h = f _ h
told_so P Q f (Err OutOfMemory) h = tt
told_so P Q f (Err NotNumber) h = f _ h
told_so P Q f (Err OutOfRange) h = f _ h
told_so P Q f (Err (Text g)) h = f _ h
told_so P Q f (Err (BadArray at)) h = f _ h
told_so P Q f (Err (BadMap at)) h = f _ h
told_so P Q f (Err NotNullable) h = f _ h
told_so P Q f (Err (NotHex at)) h = f _ h
told_so P Q f (Err (BadState g)) h = f _ h

-- where one thing alone may be told, two answers are one
one_told : (P : Said → Type 0) → ((a b : Said) → P a → P b → a ≡ b) → (one other : Answer) → IsTold P one → IsTold P other → IsSameField one other
one_told P only one other h g = told_so P (λ a. IsTold (λ b. a ≡ b) other) (λ a x. told_so P (λ b. a ≡ b) (λ b y. only a b x y) other g) one h

agreed : (said : Said) (answer : Answer) → Agrees said answer → IsTold (λ other. said ≡ other) answer
agreed said (Ok value) h = h
agreed said (Err OutOfMemory) h = tt
agreed said (Err NotNumber) h = h
agreed said (Err OutOfRange) h = h
agreed said (Err (Text f)) h = h
agreed said (Err (BadArray at)) h = h
agreed said (Err (BadMap at)) h = h
agreed said (Err NotNullable) h = h
agreed said (Err (NotHex at)) h = h
agreed said (Err (BadState f)) h = h

agreed_same : (said : Said) (one other : Answer) → Agrees said one → Agrees said other → IsSameField one other
agreed_same said one other h g = one_told (λ s. said ≡ s) (λ a b x y. sym x ∙ y) one other (agreed said one h) (agreed said other g)

-- ---- numbers

abbrev NumberTold : (ℤ → Bool) → List ℕ → Said → Type 0
NumberTold fits field said = (IsNumber field × (said ≡ ranged fits (number_value field))) ⊎ ((IsNumber field → ⊥) × (said ≡ Err NotNumber))

number_told : (fits : ℤ → Bool) (field : List ℕ) (answer : Answer) → IsNumericAnswer fits field answer → IsTold (NumberTold fits field) answer
number_told fits field (Ok value) h = inl (h.0, ap Ok h.2 ∙ rw h.1 refl)
number_told fits field (Err NotNumber) h = inr (h, refl)
number_told fits field (Err OutOfRange) h = inl (h.0, rw h.1 refl)
number_told fits field (Err OutOfMemory) h = tt
number_told fits field (Err (Text f)) h = absurd h
number_told fits field (Err (BadArray at)) h = absurd h
number_told fits field (Err (BadMap at)) h = absurd h
number_told fits field (Err NotNullable) h = absurd h
number_told fits field (Err (NotHex at)) h = absurd h
number_told fits field (Err (BadState f)) h = absurd h

one_number : (fits : ℤ → Bool) (field : List ℕ) (a b : Said) → NumberTold fits field a → NumberTold fits field b → a ≡ b
one_number fits field a b (inl h) (inl g) = h.1 ∙ sym g.1
one_number fits field a b (inr h) (inr g) = h.1 ∙ sym g.1
one_number fits field a b (inl h) (inr g) = absurd (g.0 h.0)
one_number fits field a b (inr h) (inl g) = absurd (h.0 g.0)

numeric_same : (fits : ℤ → Bool) (field : List ℕ) (one other : Answer) → IsNumericAnswer fits field one → IsNumericAnswer fits field other → IsSameField one other
numeric_same fits field one other h g = one_told (NumberTold fits field) (one_number fits field) one other (number_told fits field one h) (number_told fits field other g)

-- ---- strings

-- what an answer of the escapes says of a string
abbrev text_said : Result (List ℕ) TextFault → Said
text_said (Ok bytes) = Ok (family.Bytes bytes)
text_said (Err fault) = Err (Text fault)

abbrev TextTold : List ℕ → Said → Type 0
TextTold field said = (answer : Result (List ℕ) TextFault) × (answer ≡ Err text.OutOfMemory → ⊥) × IsUnescaped field answer × (said ≡ text_said answer)

found_not_lost : (bytes : List ℕ) → (let r : Result (List ℕ) TextFault = Ok bytes in r) ≡ Err text.OutOfMemory → ⊥
found_not_lost bytes e = cc

lone_not_lost : (at : ℕ) → (let r : Result (List ℕ) TextFault = Err (text.LoneBackslash at) in r) ≡ Err text.OutOfMemory → ⊥
lone_not_lost at e = cc

bad_not_lost : (at : ℕ) → (let r : Result (List ℕ) TextFault = Err (text.BadHex at) in r) ≡ Err text.OutOfMemory → ⊥
bad_not_lost at e = cc

text_told : (field : List ℕ) (answer : Answer) → IsTextAnswer field answer → IsTold (TextTold field) answer
text_told field (Ok value) h = (Ok h.0, found_not_lost h.0, h.2, ap Ok h.1)
text_told field (Err (Text (text.LoneBackslash at))) h = (Err (text.LoneBackslash at), lone_not_lost at, h, refl)
text_told field (Err (Text (text.BadHex at))) h = (Err (text.BadHex at), bad_not_lost at, h, refl)
text_told field (Err (Text text.OutOfMemory)) h = absurd h
text_told field (Err OutOfMemory) h = tt
text_told field (Err NotNumber) h = absurd h
text_told field (Err OutOfRange) h = absurd h
text_told field (Err (BadArray at)) h = absurd h
text_told field (Err (BadMap at)) h = absurd h
text_told field (Err NotNullable) h = absurd h
text_told field (Err (NotHex at)) h = absurd h
text_told field (Err (BadState f)) h = absurd h

same_escapes : (u w : Result (List ℕ) TextFault) → escapes.IsSameUnescaped u w → (u ≡ Err text.OutOfMemory → ⊥) → (w ≡ Err text.OutOfMemory → ⊥) → u ≡ w
same_escapes (Err text.OutOfMemory) w e n m = absurd (n refl)
same_escapes (Ok a) (Ok b) e n m = e
same_escapes (Ok a) (Err (text.LoneBackslash at)) e n m = e
same_escapes (Ok a) (Err (text.BadHex at)) e n m = e
same_escapes (Ok a) (Err text.OutOfMemory) e n m = absurd (m refl)
same_escapes (Err (text.LoneBackslash at)) (Ok b) e n m = e
same_escapes (Err (text.LoneBackslash at)) (Err (text.LoneBackslash to)) e n m = e
same_escapes (Err (text.LoneBackslash at)) (Err (text.BadHex to)) e n m = e
same_escapes (Err (text.LoneBackslash at)) (Err text.OutOfMemory) e n m = absurd (m refl)
same_escapes (Err (text.BadHex at)) (Ok b) e n m = e
same_escapes (Err (text.BadHex at)) (Err (text.LoneBackslash to)) e n m = e
same_escapes (Err (text.BadHex at)) (Err (text.BadHex to)) e n m = e
same_escapes (Err (text.BadHex at)) (Err text.OutOfMemory) e n m = absurd (m refl)

text_same : OneText → (field : List ℕ) (one other : Answer) → IsTextAnswer field one → IsTextAnswer field other → IsSameField one other
text_same law field one other h g =
    one_told (TextTold field) (λ a b x y. x.3 ∙ ap text_said (same_escapes x.0 y.0 (law field x.0 y.0 x.2 y.2) x.1 y.1) ∙ sym y.3) one other
    (text_told field one h) (text_told field other g)

-- ---- arrays and maps

module _ (law : OneText) (reads : ReadsStates) (t : Ty) (field : List ℕ) where
  one_said : (a b : Said) → FieldSays reads t a field → FieldSays reads t b field → a ≡ b
  one_said a b h g =
      let x = whole_ahead reads t field a h in
      let y = whole_ahead reads t field b g in
      (one_element law reads t (after_spaces field) a b x.0 y.0 x.2 y.2).0

  -- the place of a fault of the syntax, or what the text says
  abbrev NestedTold : (ℕ → FieldFault) → Said → Type 0
  NestedTold bad said = ((at : ℕ) × IsFieldFault (form_of t) field (Some at) × (said ≡ Err (bad at))) ⊎ FieldSays reads t said field

  one_nested : (bad : ℕ → FieldFault) (a b : Said) → NestedTold bad a → NestedTold bad b → a ≡ b
  one_nested bad a b (inl h) (inl g) = h.2 ∙ ap (λ at. Err (bad at)) (one_place (IsField (form_of t)) field h.0 g.0 h.1 g.1) ∙ sym g.2
  one_nested bad a b (inl h) (inr g) = absurd (h.1.0 tt (field_syntax reads t b field g))
  one_nested bad a b (inr h) (inl g) = absurd (g.1.0 tt (field_syntax reads t a field h))
  one_nested bad a b (inr h) (inr g) = one_said a b h g

  array_told : (answer : Answer) → IsArrayAnswer reads t field answer → IsTold (NestedTold BadArray) answer
  array_told (Ok value) h = inr h
  array_told (Err (BadArray at)) h = inl (at, h, refl)
  array_told (Err OutOfMemory) h = tt
  array_told (Err NotNumber) h = inr h
  array_told (Err OutOfRange) h = inr h
  array_told (Err (Text f)) h = inr h
  array_told (Err (BadMap at)) h = inr h
  array_told (Err NotNullable) h = inr h
  array_told (Err (NotHex at)) h = inr h
  array_told (Err (BadState f)) h = inr h

  map_told : (answer : Answer) → IsMapAnswer reads t field answer → IsTold (NestedTold BadMap) answer
  map_told (Ok value) h = inr h
  map_told (Err (BadMap at)) h = inl (at, h, refl)
  map_told (Err OutOfMemory) h = tt
  map_told (Err NotNumber) h = inr h
  map_told (Err OutOfRange) h = inr h
  map_told (Err (Text f)) h = inr h
  map_told (Err (BadArray at)) h = inr h
  map_told (Err NotNullable) h = inr h
  map_told (Err (NotHex at)) h = inr h
  map_told (Err (BadState f)) h = inr h

  array_same : (one other : Answer) → IsArrayAnswer reads t field one → IsArrayAnswer reads t field other → IsSameField one other
  array_same one other h g = one_told (NestedTold BadArray) (one_nested BadArray) one other (array_told one h) (array_told other g)

  map_same : (one other : Answer) → IsMapAnswer reads t field one → IsMapAnswer reads t field other → IsSameField one other
  map_same one other h g = one_told (NestedTold BadMap) (one_nested BadMap) one other (map_told one h) (map_told other g)

-- ---- any field

module _ (law : OneText) (reads : ReadsStates) (field : List ℕ) where
  scalar_same : (t : Ty) (one other : Answer) → IsScalarAnswer reads t field one → IsScalarAnswer reads t field other → IsSameField one other
  scalar_same (Whole n) one other h g = numeric_same (fits_bits n) field one other h g
  scalar_same (Signed w) one other h g = numeric_same (fits_width w) field one other h g
  scalar_same Str one other h g = text_same law field one other h g
  scalar_same (StateOf c ts) one other h g = agreed_same (state_answer reads (StateOf c ts) field) one other h g
  scalar_same (Nullable t) one other h g = scalar_same t one other h g
  scalar_same (Arr t) one other h g = absurd h
  scalar_same (MapTy k t) one other h g = absurd h

  filled_same : (t : Ty) (one other : Answer) → IsFilledAnswer reads t field one → IsFilledAnswer reads t field other → IsSameField one other
  filled_same (Whole n) one other h g = scalar_same (Whole n) one other h g
  filled_same (Signed w) one other h g = scalar_same (Signed w) one other h g
  filled_same Str one other h g = scalar_same Str one other h g
  filled_same (StateOf c ts) one other h g = scalar_same (StateOf c ts) one other h g
  filled_same (Nullable t) one other h g = filled_same t one other h g
  filled_same (Arr t) one other h g = array_same law reads (Arr t) field one other h g
  filled_same (MapTy k t) one other h g = map_same law reads (MapTy k t) field one other h g

  by_null : (null : Bool) (A B C D : Type 0) (E : Type 0) → (A → C → E) → (B → D → E) → MatchBool null A B → MatchBool null C D → E
  by_null true A B C D E f k h g = f h g
  by_null false A B C D E f k h g = k h g

  field_same : (t : Ty) (one other : Answer) → IsFieldAnswer reads t field one → IsFieldAnswer reads t field other → IsSameField one other
  field_same t one other h g =
      by_null (is_null_text field) (Agrees (null_answer t) one) (IsFilledAnswer reads t field one) (Agrees (null_answer t) other) (IsFilledAnswer reads t field other) (IsSameField one other)
      (agreed_same (null_answer t) one other) (filled_same t one other) h g

pub one_field_answer : OneText → OneFieldAnswer
one_field_answer law reads t field one other h g = field_same law reads field t one other h g
