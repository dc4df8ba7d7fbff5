-- A field that is judged and not kept is one that could be taken into a column.
use Rattle.std.proofs.Common.{◌≡◌, ℕ, zero, suc, ◌<◌, ◌≤◌, ◌≢◌, ◌^◌, ℤ, pos, Bool, true, false, get_or, List, [], ◌∷◌, ◌++◌, length, take, drop, refl, sym, subst, ap, arith, ◌≤ℤ◌}
use Rattle.std.specs.Prelude.{Ok}
use Rattle.std.specs.Str.Parse.{digits_value}
use Rattle.value_types.specs.Folds.{ty_of}
use Rattle.value_types.specs.declared.ty.Ty.{Ty}
use Rattle.value_types.specs.declared.ty.Ty.TheVariants as ty
use Rattle.value_types.specs.declared.value.Value.TheVariants as value
use Rattle.std.proofs.Math.Dec.{le→leb}
use Rattle.field_texts.specs.Syntax.{AreDigits, IsNumber}
use Rattle.scalar_texts.specs.Numbers.{number_value}
use Rattle.scalar_texts.proofs.Digits.{all_digits}
use Rattle.column_parts.specs.declared.number_type.NumberType.{NumberType}
use Rattle.column_parts.specs.declared.number_type.NumberType.TheVariants as kind
use Rattle.column_parts.specs.NumberLists.{IsOf}
use Rattle.typed_columns.specs.TypedValues.{TypedValues}
use Rattle.typed_columns.specs.Growth.{no_values}
use Rattle.typed_columns.specs.Views.{number_ty}
use Rattle.quick_rows.specs.declared.walk.Step.{Step}
use Rattle.quick_rows.specs.declared.walk.Step.TheVariants as step
use Rattle.quick_rows.specs.declared.field.Front.{Front}
use Rattle.quick_rows.specs.declared.field.Front.TheVariants as front
use Rattle.quick_rows.specs.Taking.{AreBytes, TakesElements, TakesFront, is_quotable, numbers_seen, texts_seen}
use Rattle.quick_rows.specs.Keeping.{AreSteps, IsStep}
use Rattle.quick_rows.specs.proving.Walking.{AreElementsWalked, IsArrayStep, IsNullableStep, IsNumberWalked, IsWalked, WalksElements, WalksFirst, WalksKept, WalksNumber, WalksStep, WalksText, safe_digits}
use Rattle.quick_rows.proofs.FieldLaws.{null_fits, null_says, some_fits, some_says, text_fits, text_says, unnulled}
use Rattle.quick_rows.proofs.FirstLaws.{number_some, plain_some}
use Rattle.quick_rows.proofs.FrontDigits.{CountedDigits, digits_below, number_begins, number_part}
use Rattle.quick_rows.proofs.Fronts.{IsPart, null_front, part_front}
use Rattle.quick_rows.proofs.ListLaws.{Listed, array_fits, array_says, array_some, listed_all, listed_empty, listed_more, listed_none, numbers_element, texts_element}
use Rattle.quick_rows.proofs.Numbers.{number_fits, number_says}

pub number_walked : (k : NumberType) (text : List ℕ) (f : Front) → WalksNumber k text f → WalksFirst (number_ty k) text f
number_walked k text (front.Taken left) h =
    let z = number_value h.0 in (
      h.0,
      h.1,
      value.Num z,
      number_fits k z h.3,
      λ reads. unnulled reads (ty_of (number_ty k)) h.0 (value.Num z) (number_some h.0 h.2) (number_says k h.0 z h.2 refl h.3 reads),
    )
number_walked k text front.Irregular h = tt

pub text_walked : (text : List ℕ) (f : Front) → WalksText text f → WalksFirst ty.Str text f
text_walked text (front.Taken left) h =
    (h.0, h.1, value.Bytes h.0, text_fits h.0 h.3, λ reads. unnulled reads (ty_of ty.Str) h.0 (value.Bytes h.0) (plain_some h.0 h.2) (text_says h.0 h.2 reads))
text_walked text front.Irregular h = tt

pub list_walked : (of : Ty) (text : List ℕ) (f : Front) → WalksElements of text f → WalksFirst (ty.Arr of) text f
list_walked of text (front.Taken left) h = (
  h.0,
  h.1,
  value.List h.2,
  array_fits of h.2 h.3,
  λ reads. unnulled reads (ty_of (ty.Arr of)) h.0 (value.List h.2) (array_some h.0 h.4.0 h.4.1) (array_says of h.0 h.2 h.4 reads),
)
list_walked of text front.Irregular h = tt

-- NULL, and a value where NULL may stand
pub null_walked : (of : Ty) (text left : List ℕ) → text ≡ 92 ∷ 78 ∷ left → IsWalked (ty.Nullable of) text left
null_walked of text left is = (92 ∷ 78 ∷ [], null_front text left is, value.Nil, null_fits of, null_says of (92 ∷ 78 ∷ []) refl)

pub number_filled : (k : NumberType) (text : List ℕ) (f : Front) → WalksNumber k text f → WalksFirst (ty.Nullable (number_ty k)) text f
number_filled k text (front.Taken left) h =
    let z = number_value h.0 in (
      h.0,
      h.1,
      value.Num z,
      some_fits (number_ty k) (value.Num z) (number_fits k z h.3),
      λ reads. unnulled reads (ty_of (ty.Nullable (number_ty k))) h.0 (value.Num z) (number_some h.0 h.2)
          (some_says (number_ty k) h.0 (value.Num z) (number_says k h.0 z h.2 refl h.3) reads),
    )
number_filled k text front.Irregular h = tt

pub text_filled : (text : List ℕ) (f : Front) → WalksText text f → WalksFirst (ty.Nullable ty.Str) text f
text_filled text (front.Taken left) h = (
  h.0,
  h.1,
  value.Bytes h.0,
  some_fits ty.Str (value.Bytes h.0) (text_fits h.0 h.3),
  λ reads. unnulled reads (ty_of (ty.Nullable ty.Str)) h.0 (value.Bytes h.0) (plain_some h.0 h.2)
      (some_says ty.Str h.0 (value.Bytes h.0) (text_says h.0 h.2) reads),
)
text_filled text front.Irregular h = tt

pub ruleset filled_laws = (number_filled, text_filled)

-- what a step walks
kept-out : (t u : Ty) (keep : Bool) (text : List ℕ) (f : Front) → (keep ≡ false) × (t ≡ u) → WalksFirst u text f → WalksKept t keep text f
kept-out t u keep text (front.Taken left) is h = (is.0, subst (λ (v : Ty). IsWalked v text left.now) (sym is.1) h)
kept-out t u keep text front.Irregular is h = tt

pub number_step : (k : NumberType) (text : List ℕ) (f : Front) → WalksNumber k text f → WalksStep (step.Number k) text f
number_step k text f h t keep is = kept-out t (number_ty k) keep text f is (number_walked k text f h)

pub text_step : (text : List ℕ) (f : Front) → WalksText text f → WalksStep step.Text text f
text_step text f h t keep is = kept-out t ty.Str keep text f is (text_walked text f h)

pub numbers_step : (k : NumberType) (text : List ℕ) (f : Front) → WalksElements (number_ty k) text f → WalksStep (step.Numbers k) text f
numbers_step k text f h t keep is = kept-out t (ty.Arr (number_ty k)) keep text f is (list_walked (number_ty k) text f h)

pub texts_step : (text : List ℕ) (f : Front) → WalksElements ty.Str text f → WalksStep step.Texts text f
texts_step text f h t keep is = kept-out t (ty.Arr ty.Str) keep text f is (list_walked ty.Str text f h)

pub nullable_number_step : (k : NumberType) (text : List ℕ) (f : Front) → WalksFirst (ty.Nullable (number_ty k)) text f → WalksStep (step.NullableNumber k) text f
nullable_number_step k text f h t keep is = kept-out t (ty.Nullable (number_ty k)) keep text f is h

pub nullable_text_step : (text : List ℕ) (f : Front) → WalksFirst (ty.Nullable ty.Str) text f → WalksStep step.NullableText text f
nullable_text_step text f h t keep is = kept-out t (ty.Nullable ty.Str) keep text f is h

pub no_step : (s : Step) (text : List ℕ) → WalksStep s text front.Irregular
no_step s text t keep is = tt

pub ruleset step_laws = (number_step, text_step, numbers_step, texts_step, nullable_number_step, nullable_text_step, no_step)

pub array_step : (of : Ty) (s : Step) → IsArrayStep of s → IsStep (ty.Arr of) false s
array_step of step.Keep h = absurd h
array_step of (step.Number k) h = absurd h
array_step of step.Text h = absurd h
array_step of (step.Numbers k) h = (refl, ap ty.Arr h)
array_step of step.Texts h = (refl, ap ty.Arr h)
array_step of (step.NullableNumber k) h = absurd h
array_step of step.NullableText h = absurd h
array_step of step.State h = absurd h
array_step of step.Leave h = refl

pub nullable_means : (of : Ty) (s : Step) → IsNullableStep of s → IsStep (ty.Nullable of) false s
nullable_means of step.Keep h = absurd h
nullable_means of (step.Number k) h = absurd h
nullable_means of step.Text h = absurd h
nullable_means of (step.Numbers k) h = absurd h
nullable_means of step.Texts h = absurd h
nullable_means of (step.NullableNumber k) h = (refl, ap ty.Nullable h)
nullable_means of step.NullableText h = (refl, ap ty.Nullable h)
nullable_means of step.State h = absurd h
nullable_means of step.Leave h = refl

pub step_at : (types : List Ty) (keep : List Bool) (steps : List Step) (i : ℕ) (t : Ty) (k : Bool) (s : Step) → AreSteps types keep steps → i < length types → IsStep (get_or types i t) (get_or keep i k) (get_or steps i s)
step_at [] [] [] i t k s h within = absurd (omega arith)
step_at (u ∷ types) (m ∷ keep) (p ∷ steps) zero t k s h within = h.0
step_at (u ∷ types) (m ∷ keep) (p ∷ steps) (suc i) t k s h within = step_at types keep steps i t k s h.1 (omega arith)
step_at [] [] (p ∷ steps) i t k s h within = absurd h
step_at [] (m ∷ keep) steps i t k s h within = absurd h
step_at (u ∷ types) [] steps i t k s h within = absurd h
step_at (u ∷ types) (m ∷ keep) [] i t k s h within = absurd h

pub steps_long : (types : List Ty) (keep : List Bool) (steps : List Step) → AreSteps types keep steps → (length keep ≡ length types) × (length steps ≡ length types)
steps_long [] [] [] h = (refl, refl)
steps_long (u ∷ types) (m ∷ keep) (p ∷ steps) h = let more = steps_long types keep steps h.1 in (omega (arith, more.0), omega (arith, more.1))
steps_long [] [] (p ∷ steps) h = absurd h
steps_long [] (m ∷ keep) steps h = absurd h
steps_long (u ∷ types) [] steps h = absurd h
steps_long (u ∷ types) (m ∷ keep) [] h = absurd h

-- a number at the front
pub number_passed : (k : NumberType) (text part left : List ℕ) → text ≡ part ++ left → IsNumber part → IsOf k (number_value part) → IsNumberWalked k text left
number_passed k text part left split number fits = (part, part_front text part left (number_part text part left split number), number, fits)

-- few digits write a number of the type
at_most : (n m : ℕ) → n ≤ m → pos n ≤ℤ pos m
at_most n m low = record { le = le→leb n m low }

below-of : (k : NumberType) (n : ℕ) → n < 10 ^ safe_digits k → IsOf k (pos n)
below-of kind.U8 n low = (at_most 0 n (omega arith), at_most n 255 (omega (arith, low)))
below-of kind.U16 n low = (at_most 0 n (omega arith), at_most n 65535 (omega (arith, low)))
below-of kind.U32 n low = (at_most 0 n (omega arith), at_most n 4294967295 (omega (arith, low)))
below-of kind.U64 n low = (at_most 0 n (omega arith), at_most n 18446744073709551615 (omega (arith, low)))
below-of kind.I8 n low = (record { le = tt }, at_most n 127 (omega (arith, low)))
below-of kind.I16 n low = (record { le = tt }, at_most n 32767 (omega (arith, low)))
below-of kind.I32 n low = (record { le = tt }, at_most n 2147483647 (omega (arith, low)))
below-of kind.I64 n low = (record { le = tt }, at_most n 9223372036854775807 (omega (arith, low)))

pub digits_passed : (k : NumberType) (text left : List ℕ) (count : ℕ) → count ≤ length text → AreDigits (take count text) → count ≢ 0 → count ≤ safe_digits k → left ≡ drop count text → IsNumberWalked k text left
digits_passed k text left count within digits some safe rest =
    let so_far : CountedDigits text count = record { within = within; plain = all_digits (take count text) digits } in
    let said = number_begins text left count (digits_value 10 (take count text)) within some digits refl rest in
    number_passed k text said.0 left said.1 said.2 (subst (λ (z : ℤ). IsOf k z) (sym said.3) (below-of k (digits_value 10 (take count text)) (digits_below text count (safe_digits k) so_far safe)))

-- elements that could be taken
pub walked_by : (old new : TypedValues) (text left : List ℕ) → TakesFront TakesElements old text new left → AreElementsWalked old.ty text left
walked_by old new text left h = (h.0, h.1, h.2.0, h.2.1, h.2.2)

pub none_walked : (of : Ty) (text left : List ℕ) → text ≡ 91 ∷ 93 ∷ left → AreElementsWalked of text left
none_walked of text left is = walked_by (no_values of) (no_values of) text left (listed_empty (no_values of) text left is)

-- the numbers so far, of an array that could be taken
abbrev pub numbers_of : NumberType → List ℤ → TypedValues
numbers_of k zs = numbers_seen (record { kind = k; numbers = zs })

abbrev pub WalkedNumbers : NumberType → List ℕ → List ℕ → Type 0
WalkedNumbers k inside left = (zs : List ℤ) × Listed (numbers_of k []) (numbers_of k zs) inside left

pub numbers_none : (k : NumberType) (inside : List ℕ) → WalkedNumbers k inside inside
numbers_none k inside = ([], listed_none (numbers_of k []) inside)

pub numbers_more : (k : NumberType) (inside left part behind after : List ℕ) → WalkedNumbers k inside left → left ≡ part ++ behind → IsNumber part → IsOf k (number_value part) → behind ≡ 44 ∷ after
    → WalkedNumbers k inside after
numbers_more k inside left part behind after h split number fits comma =
    let zs = h.0 ++ number_value part ∷ [] in (
      zs,
      listed_more (numbers_of k []) (numbers_of k h.0) (numbers_of k zs) inside left part behind after h.1 (number_part left part behind split number) comma
          (numbers_element (record { kind = k; numbers = h.0 }) (record { kind = k; numbers = zs }) part (Ok true) (number, fits, refl)),
    )

pub numbers_all : (k : NumberType) (inside left part behind after : List ℕ) → WalkedNumbers k inside left → left ≡ part ++ behind → IsNumber part → IsOf k (number_value part) → behind ≡ 93 ∷ after
    → AreElementsWalked (number_ty k) (91 ∷ inside) after
numbers_all k inside left part behind after h split number fits bracket =
    let zs = h.0 ++ number_value part ∷ [] in
    walked_by (numbers_of k []) (numbers_of k zs) (91 ∷ inside) after
    (listed_all (numbers_of k []) (numbers_of k h.0) (numbers_of k zs) inside left part behind after h.1 (number_part left part behind split number) bracket
    (numbers_element (record { kind = k; numbers = h.0 }) (record { kind = k; numbers = zs }) part (Ok true) (number, fits, refl)))

-- the same of strings
abbrev pub WalkedTexts : List ℕ → List ℕ → Type 0
WalkedTexts inside left = (texts : List (List ℕ)) × Listed (texts_seen []) (texts_seen texts) inside left

pub texts_none : (inside : List ℕ) → WalkedTexts inside inside
texts_none inside = ([], listed_none (texts_seen []) inside)

abbrev pub quotes : List ℕ → List ℕ
quotes text = 39 ∷ (text ++ 39 ∷ [])

pub texts_more : (inside left text behind after : List ℕ) → WalkedTexts inside left → IsPart left (quotes text) behind → is_quotable text ≡ true → AreBytes text → behind ≡ 44 ∷ after → WalkedTexts inside after
texts_more inside left text behind after h part quotable bytes comma =
    let texts = h.0 ++ text ∷ [] in (
      texts,
      listed_more (texts_seen []) (texts_seen h.0) (texts_seen texts) inside left (quotes text) behind after h.1 part comma
          (texts_element h.0 texts (quotes text) (Ok true) (text, refl, quotable, bytes, refl)),
    )

pub texts_all : (inside left text behind after : List ℕ) → WalkedTexts inside left → IsPart left (quotes text) behind → is_quotable text ≡ true → AreBytes text → behind ≡ 93 ∷ after
    → AreElementsWalked ty.Str (91 ∷ inside) after
texts_all inside left text behind after h part quotable bytes bracket =
    let texts = h.0 ++ text ∷ [] in
    walked_by (texts_seen []) (texts_seen texts) (91 ∷ inside) after
    (listed_all (texts_seen []) (texts_seen h.0) (texts_seen texts) inside left (quotes text) behind after h.1 part bracket
    (texts_element h.0 texts (quotes text) (Ok true) (text, refl, quotable, bytes, refl)))
