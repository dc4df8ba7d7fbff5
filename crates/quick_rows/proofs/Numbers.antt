-- What a sign and digits write, and which numbers are of a type.
use Rattle.std.proofs.Common.{◌≡◌, ℕ, ℤ, pos, negsuc, Bool, true, false, List, ap, sym, subst, ◌∙◌, refl, leb}
use Rattle.std.proofs.Math.Dec.{T}
use Rattle.std.specs.Prelude.{int_le, ◌≤ℤ◌, Ok}
use Rattle.std.specs.Cmp.Derive.{both_true}
use Rattle.std.specs.Str.Parse.{digits_value}
use Rattle.agg_terms.specs.Chains as terms
use Rattle.agg_terms.specs.Fitting.{has_number, is_between}
use Rattle.agg_terms.specs.Values as family
use Rattle.value_types.specs.Folds.{ty_of}
use Rattle.value_types.specs.declared.ty.Ty.{Ty}
use Rattle.value_types.specs.declared.value.Value.TheVariants as value
use Rattle.value_types.proofs.FoldLaws.{ty_of-U8, ty_of-U16, ty_of-U32, ty_of-U64, ty_of-I8, ty_of-I16, ty_of-I32, ty_of-I64, value_of-Num}
use Rattle.field_texts.specs.Syntax.{IsDigits, IsNumber}
use Rattle.tsv_values.specs.Answer.{IsFilledAnswer}
use Rattle.tsv_values.specs.Elements.{ElementSays}
use Rattle.scalar_texts.specs.declared.fault.FieldFault.TheVariants.{OutOfRange}
use Rattle.std.specs.Prelude.{if◌then◌else◌, Err, Result}
use Rattle.scalar_texts.specs.declared.fault.FieldFault.{FieldFault}
use Rattle.value_types.specs.Folds.{value_of}
use Rattle.quick_rows.specs.Taking.{SaysElement}
use Rattle.scalar_texts.specs.Numbers.{number_value, signed, split_sign}
use Rattle.scalar_texts.specs.States.{ReadsStates}
use Rattle.scalar_texts.proofs.Digits.{split_number}
use Rattle.column_parts.specs.declared.number_type.NumberType.{NumberType}
use Rattle.column_parts.specs.declared.number_type.NumberType.TheVariants as number
use Rattle.column_parts.specs.NumberLists.{IsOf, greatest, least}
use Rattle.typed_columns.specs.Growth.{Fits}
use Rattle.typed_columns.specs.Views.{number_ty}
use Rattle.typed_columns.proofs.Growing.{in_bounds}
use Rattle.quick_rows.specs.Taking.{SaysFilled}

pub number_said : (text : List ℕ) (s : Bool × List ℕ) (n : ℕ) (z : ℤ) → s ≡ split_sign text → IsDigits s.1 → digits_value 10 s.1 ≡ n → z ≡ signed s.0 n →
    IsNumber text × (number_value text ≡ z)
number_said text s n z split digits value is = (
  split_number text (subst (λ (x : Bool × List ℕ). IsDigits x.1) split digits),
  ap (λ (x : Bool × List ℕ). signed x.0 (digits_value 10 x.1)) (sym split) ∙ ap (signed s.0) value ∙ sym is,
)

pub ruleset number_laws = (number_said)

so : (b : Bool) → T b → b ≡ true
so true h = refl
so false h = absurd h

int_le-yes : (a b : ℤ) → a ≤ℤ b → int_le a b ≡ true
int_le-yes (pos a) (pos b) h = so (leb a b) h.le
int_le-yes (pos a) (negsuc b) h = absurd h.le
int_le-yes (negsuc a) (pos b) h = refl
int_le-yes (negsuc a) (negsuc b) h = so (leb b a) h.le

within-yes : (low high z : ℤ) → (low ≤ℤ z) × (z ≤ℤ high) → is_between low high z ≡ true
within-yes low high z h = both_true (int_le-yes low z h.0) (int_le-yes z high h.1)

pub number_fits : (k : NumberType) (z : ℤ) → IsOf k z → Fits (number_ty k) (value.Num z)
number_fits k z h =
    in_bounds k _ ∙ ap (has_number (is_between (least k) (greatest k))) (value_of-Num z) ∙ within-yes (least k) (greatest k) z h

says : (reads : ReadsStates) (field : List ℕ) (z : ℤ) (t : terms.Ty) (u : Ty) → ty_of u ≡ t → IsFilledAnswer reads t field (Ok (value.Num z)) → IsFilledAnswer reads (ty_of u) field (Ok (value.Num z))
says reads field z t u is h = subst (λ s. IsFilledAnswer reads s field (Ok (value.Num z))) (sym is) h

pub number_says : (k : NumberType) (field : List ℕ) (z : ℤ) → IsNumber field → number_value field ≡ z → IsOf k z → SaysFilled (number_ty k) field (value.Num z)
number_says number.U8 field z text is h reads = says reads field z _ _ ty_of-U8 (text, ap (is_between (pos 0) (pos 255)) is ∙ within-yes _ _ z h, value_of-Num z ∙ ap family.Num (sym is))
number_says number.U16 field z text is h reads = says reads field z _ _ ty_of-U16 (text, ap (is_between (pos 0) (pos 65535)) is ∙ within-yes _ _ z h, value_of-Num z ∙ ap family.Num (sym is))
number_says number.U32 field z text is h reads = says reads field z _ _ ty_of-U32 (text, ap (is_between (pos 0) (pos 4294967295)) is ∙ within-yes _ _ z h, value_of-Num z ∙ ap family.Num (sym is))
number_says number.U64 field z text is h reads = says reads field z _ _ ty_of-U64 (text, ap (is_between (pos 0) (pos 18446744073709551615)) is ∙ within-yes _ _ z h, value_of-Num z ∙ ap family.Num (sym is))
number_says number.I8 field z text is h reads = says reads field z _ _ ty_of-I8 (text, ap (is_between (negsuc 127) (pos 127)) is ∙ within-yes _ _ z h, value_of-Num z ∙ ap family.Num (sym is))
number_says number.I16 field z text is h reads = says reads field z _ _ ty_of-I16 (text, ap (is_between (negsuc 32767) (pos 32767)) is ∙ within-yes _ _ z h, value_of-Num z ∙ ap family.Num (sym is))
number_says number.I32 field z text is h reads = says reads field z _ _ ty_of-I32 (text, ap (is_between (negsuc 2147483647) (pos 2147483647)) is ∙ within-yes _ _ z h, value_of-Num z ∙ ap family.Num (sym is))
number_says number.I64 field z text is h reads = says reads field z _ _ ty_of-I64 (text, ap (is_between (negsuc 9223372036854775807) (pos 9223372036854775807)) is ∙ within-yes _ _ z h, value_of-Num z ∙ ap family.Num (sym is))

said : (reads : ReadsStates) (part : List ℕ) (z : ℤ) (t : terms.Ty) (u : Ty) → ty_of u ≡ t → ElementSays reads t (Ok (value_of (value.Num z))) part →
    ElementSays reads (ty_of u) (Ok (value_of (value.Num z))) part
said reads part z t u is h = subst (λ s. ElementSays reads s (Ok (value_of (value.Num z))) part) (sym is) h

in_range-says : (z : ℤ) (b : Bool) → b ≡ true → ◌≡◌ {A = Result family.Value FieldFault} (Ok (value_of (value.Num z))) (if b then Ok (family.Num z) else Err OutOfRange)
in_range-says z true h = ap Ok (value_of-Num z)
in_range-says z false h = cc

pub number_element : (k : NumberType) (part : List ℕ) → IsNumber part → IsOf k (number_value part) → SaysElement (number_ty k) part (value.Num (number_value part))
number_element number.U8 part text h reads = said reads part (number_value part) _ _ ty_of-U8 (text, in_range-says (number_value part) (is_between (pos 0) (pos 255) (number_value part)) (within-yes _ _ _ h))
number_element number.U16 part text h reads = said reads part (number_value part) _ _ ty_of-U16 (text, in_range-says (number_value part) (is_between (pos 0) (pos 65535) (number_value part)) (within-yes _ _ _ h))
number_element number.U32 part text h reads = said reads part (number_value part) _ _ ty_of-U32 (text, in_range-says (number_value part) (is_between (pos 0) (pos 4294967295) (number_value part)) (within-yes _ _ _ h))
number_element number.U64 part text h reads = said reads part (number_value part) _ _ ty_of-U64 (text, in_range-says (number_value part) (is_between (pos 0) (pos 18446744073709551615) (number_value part)) (within-yes _ _ _ h))
number_element number.I8 part text h reads = said reads part (number_value part) _ _ ty_of-I8 (text, in_range-says (number_value part) (is_between (negsuc 127) (pos 127) (number_value part)) (within-yes _ _ _ h))
number_element number.I16 part text h reads = said reads part (number_value part) _ _ ty_of-I16 (text, in_range-says (number_value part) (is_between (negsuc 32767) (pos 32767) (number_value part)) (within-yes _ _ _ h))
number_element number.I32 part text h reads = said reads part (number_value part) _ _ ty_of-I32 (text, in_range-says (number_value part) (is_between (negsuc 2147483647) (pos 2147483647) (number_value part)) (within-yes _ _ _ h))
number_element number.I64 part text h reads = said reads part (number_value part) _ _ ty_of-I64 (text, in_range-says (number_value part) (is_between (negsuc 9223372036854775807) (pos 9223372036854775807) (number_value part)) (within-yes _ _ _ h))
