-- A field that is taken into a store is taken into the column that has it.
use Rattle.std.proofs.Common.{◌≡◌, ℕ, ℤ, Bool, true, false, not, ◌||◌, List, [], ◌∷◌, ◌++◌, length, map, ap, sym, subst, ◌∙◌, refl, eqb}
use Rattle.std.specs.Prelude.{Result, Ok, Err}
use Rattle.std.specs.Bool.{MatchBool}
use Rattle.std.proofs.lemmas.Bool.{and_parts}
use Rattle.std.proofs.lemmas.List.{map-append}
use Rattle.value_lists.specs.declared.out_of_memory.OutOfMemory.{OutOfMemory}
use Rattle.value_types.specs.Folds.{ty_of, value_of}
use Rattle.agg_terms.specs.Chains as terms
use Rattle.agg_terms.specs.Fitting.{fits_value, is_nil}
use Rattle.value_types.specs.declared.ty.Ty.{Ty}
use Rattle.value_types.specs.declared.ty.Ty.TheVariants as ty
use Rattle.value_types.specs.declared.value.Value.{Value}
use Rattle.value_types.specs.declared.value.Value.TheVariants as value
use Rattle.value_types.proofs.FoldLaws.{ty_of-Nullable, ty_of-Str, value_of-Bytes, value_of-Nil}
use Rattle.tsv_text.specs.Escapes.{ArePieces, plain, pieces_bytes, pieces_then}
use Rattle.field_texts.specs.Syntax.{IsNumber}
use Rattle.scalar_texts.specs.Answer.{Agrees, is_null_text, null_answer}
use Rattle.tsv_values.specs.Answer.{IsFieldAnswer, IsFilledAnswer}
use Rattle.scalar_texts.specs.Numbers.{number_value}
use Rattle.scalar_texts.specs.States.{ReadsStates}
use Rattle.column_parts.specs.NumberLists.{IsOf, NumberList, Took}
use Rattle.typed_columns.specs.TypedValues.{TypedValues}
use Rattle.typed_columns.specs.Growth.{Fits}
use Rattle.typed_columns.specs.Views.{number_ty}
use Rattle.typed_columns.specs.Masks.{masked}
use Rattle.typed_columns.proofs.Masks.{masked_push}
use Rattle.quick_rows.specs.Taking.{AreBytes, Says, SaysFilled, TakesField, TakesFilled, TakesNumber, TakesText, is_plain, numbers_seen, texts_seen}
use Rattle.quick_rows.proofs.Numbers.{number_fits, number_says}

-- a number that the store took is the field's
pub number_taken : (old new : NumberList) (field : List ℕ) (z : ℤ) (r : Result Bool OutOfMemory) → IsNumber field → number_value field ≡ z → Took old z new r →
    TakesNumber old field new r
number_taken old new field z (Ok true) text is h = subst (λ x. IsNumber field × IsOf old.kind x × (new ≡ record { kind = old.kind; numbers = old.numbers ++ x ∷ [] })) (sym is) (text, h.0, h.1)
number_taken old new field z (Ok false) text is h = h.1
number_taken old new field z (Err fault) text is h = h

pub ruleset taken_laws = (number_taken)

pub numbers_filled : (old new : NumberList) (field : List ℕ) (r : Result Bool OutOfMemory) → TakesNumber old field new r →
    TakesFilled (numbers_seen old) field (numbers_seen new) r
numbers_filled old new field (Ok true) h = (
  value.Num (number_value field),
  number_fits old.kind (number_value field) h.1,
  number_says old.kind field (number_value field) h.0 refl h.1,
  ap numbers_seen h.2 ∙ (λ i. record { ty = number_ty old.kind; values = map-append value.Num old.numbers (number_value field ∷ []) i }),
)
numbers_filled old new field (Ok false) h = ap numbers_seen h
numbers_filled old new field (Err fault) h = ap numbers_seen h

-- a text without a backslash stands for itself
not_so : (b : Bool) → not b ≡ true → b ≡ false
not_so true h = cc
not_so false h = refl

pieces_plain : (field : List ℕ) → is_plain field ≡ true →
    ArePieces (map plain field) × (field ≡ pieces_then (map plain field) []) × (field ≡ pieces_bytes (map plain field))
pieces_plain [] h = (tt, refl, refl)
pieces_plain (b ∷ field) h =
    let parts = and_parts (not (eqb b 92)) (is_plain field) h in
    let rest = pieces_plain field parts.1 in
    ((not_so (eqb b 92) parts.0, rest.0), ap (λ t. b ∷ t) rest.1, ap (λ t. b ∷ t) rest.2)

pub text_says : (field : List ℕ) → is_plain field ≡ true → SaysFilled ty.Str field (value.Bytes field)
text_says field h reads =
    let p = pieces_plain field h in
    subst (λ t. IsFilledAnswer reads t field (Ok (value.Bytes field))) (sym ty_of-Str) (field, value_of-Bytes field, (map plain field, p.0, p.1, p.2))

pub text_fits : (field : List ℕ) → AreBytes field → Fits ty.Str (value.Bytes field)
text_fits field h = ap (λ t. fits_value t (value_of (value.Bytes field))) ty_of-Str ∙ ap (fits_value terms.Str) (value_of-Bytes field) ∙ h

pub texts_filled : (old new : List (List ℕ)) (field : List ℕ) (r : Result Bool OutOfMemory) → TakesText old field new r →
    TakesFilled (texts_seen old) field (texts_seen new) r
texts_filled old new field (Ok true) h = (
  value.Bytes field,
  text_fits field h.1,
  text_says field h.0,
  ap texts_seen h.2 ∙ (λ i. record { ty = ty.Str; values = map-append value.Bytes old (field ∷ []) i }),
)
texts_filled old new field (Ok false) h = ap texts_seen h
texts_filled old new field (Err fault) h = ap texts_seen h

-- NULL, and a value in a column that may hold it
pub unnulled : (reads : ReadsStates) (t : terms.Ty) (field : List ℕ) (v : Value) → is_null_text field ≡ false → IsFilledAnswer reads t field (Ok v) → IsFieldAnswer reads t field (Ok v)
unnulled reads t field v some h = subst (λ b. MatchBool b (Agrees (null_answer t) (Ok v)) (IsFilledAnswer reads t field (Ok v))) (sym some) h

pub filled_field : (old new : TypedValues) (field : List ℕ) (r : Result Bool OutOfMemory) → is_null_text field ≡ false → TakesFilled old field new r → TakesField old field new r
filled_field old new field (Ok true) some h = (h.0, h.1, (λ reads. unnulled reads (ty_of old.ty) field h.0 some (h.2 reads)), h.3)
filled_field old new field (Ok false) some h = h
filled_field old new field (Err fault) some h = h

pub null_says : (of : Ty) (field : List ℕ) → is_null_text field ≡ true → Says (ty.Nullable of) field value.Nil
null_says of field null reads =
    let t = ty_of (ty.Nullable of) in
    subst (λ b. MatchBool b (Agrees (null_answer t) (Ok value.Nil)) (IsFilledAnswer reads t field (Ok value.Nil))) (sym null)
    (subst (λ u. Agrees (null_answer u) (Ok value.Nil)) (sym (ty_of-Nullable of)) (ap Ok (sym value_of-Nil)))

pub some_says : (of : Ty) (field : List ℕ) (v : Value) → SaysFilled of field v → SaysFilled (ty.Nullable of) field v
some_says of field v h reads = subst (λ t. IsFilledAnswer reads t field (Ok v)) (sym (ty_of-Nullable of)) (h reads)

either : (a b : Bool) → b ≡ true → (a || b) ≡ true
either true b h = refl
either false b h = h

pub some_fits : (of : Ty) (v : Value) → Fits of v → Fits (ty.Nullable of) v
some_fits of v h = ap (λ t. fits_value t (value_of v)) (ty_of-Nullable of) ∙ either (is_nil (value_of v)) (fits_value (ty_of of) (value_of v)) h

pub null_fits : (of : Ty) → Fits (ty.Nullable of) value.Nil
null_fits of = ap (λ t. fits_value t (value_of value.Nil)) (ty_of-Nullable of) ∙ ap (fits_value (terms.Nullable (ty_of of))) value_of-Nil

abbrev pub nullable : List Bool → TypedValues → TypedValues
nullable mask values = record { ty = ty.Nullable values.ty; values = masked mask values.values }

pub some_taken : (mask after : List Bool) (old new : TypedValues) (field : List ℕ) → length mask ≡ length old.values → after ≡ mask ++ false ∷ [] →
    TakesFilled old field new (Ok true) → TakesFilled (nullable mask old) field (nullable after new) (Ok true)
some_taken mask after old new field alike marked h = (
  h.0,
  some_fits old.ty h.0 h.1,
  some_says old.ty field h.0 h.2,
  (λ i. nullable (marked i) (h.3 i)) ∙ (λ i. record { ty = ty.Nullable old.ty; values = masked_push mask old.values h.0 alike i }),
)
