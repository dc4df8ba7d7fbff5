-- Fields of plain values, and strings without escapes.
use Rattle.std.proofs.Common.{◌≡◌, ℕ, ℤ, Bool, true, false, ◌||◌, List, [], ◌∷◌, ◌++◌, codes, refl, sym, ap, ◌∙◌}
use Rattle.std.specs.List.{list_any}
use Rattle.std.specs.Fmt.{signed_decimal}
use Rattle.agg_terms.specs.Chains as terms
use Rattle.agg_terms.specs.Values as family
use Rattle.agg_terms.specs.Fitting.{fits_value}
use Rattle.tsv_text.specs.Escapes.{escaped, is_escaped}
use Rattle.tsv_values.specs.Writing.{WritesStates, field_text}
use Rattle.value_types.specs.declared.ty.Ty.{Ty}
use Rattle.value_types.specs.declared.value.Value.{Value}
use Rattle.value_types.specs.declared.value.Value.TheVariants as value
use Rattle.value_types.specs.Folds.{ty_of, value_of}
use Rattle.value_types.proofs.FoldLaws.{value_of-Num, value_of-Bytes, value_of-Nil}

plain_by : (t more : Bool) → (t || more) ≡ false → (t ≡ false) × (more ≡ false)
plain_by true more h = absurd cc
plain_by false more h = (refl, h)

-- a string without escapes is written as it is
pub plain : (bytes : List ℕ) → list_any is_escaped bytes ≡ false → escaped bytes ≡ bytes
plain [] h = refl
plain (b ∷ bytes) h =
    let parts = plain_by (is_escaped b) (list_any is_escaped bytes) h in
    rw (parts.0, plain bytes parts.1) refl

pub plain_added : (old new bytes : List ℕ) → list_any is_escaped bytes ≡ false → new ≡ old ++ bytes → new ≡ old ++ escaped bytes
plain_added old new bytes h is = is ∙ ap (λ more. old ++ more) (sym (plain bytes h))

pub ruleset string_laws = (plain_added)

number_so : (writes : WritesStates) (t : terms.Ty) (z : ℤ) → fits_value t (family.Num z) ≡ true → field_text writes t (family.Num z) ≡ signed_decimal z
number_so writes (terms.Whole n) z h = refl
number_so writes (terms.Signed w) z h = refl
number_so writes terms.Str z h = absurd cc
number_so writes (terms.Arr t) z h = absurd cc
number_so writes (terms.MapTy k t) z h = absurd cc
number_so writes (terms.Nullable t) z h = number_so writes t z h
number_so writes (terms.StateOf c ts) z h = absurd cc

string_so : (writes : WritesStates) (t : terms.Ty) (bytes : List ℕ) → fits_value t (family.Bytes bytes) ≡ true → field_text writes t (family.Bytes bytes) ≡ escaped bytes
string_so writes (terms.Whole n) bytes h = absurd cc
string_so writes (terms.Signed w) bytes h = absurd cc
string_so writes terms.Str bytes h = refl
string_so writes (terms.Arr t) bytes h = absurd cc
string_so writes (terms.MapTy k t) bytes h = absurd cc
string_so writes (terms.Nullable t) bytes h = string_so writes t bytes h
string_so writes (terms.StateOf c ts) bytes h = absurd cc

nil_so : (writes : WritesStates) (t : terms.Ty) → fits_value t family.Nil ≡ true → field_text writes t family.Nil ≡ codes "\\N"
nil_so writes (terms.Whole n) h = absurd cc
nil_so writes (terms.Signed w) h = absurd cc
nil_so writes terms.Str h = absurd cc
nil_so writes (terms.Arr t) h = absurd cc
nil_so writes (terms.MapTy k t) h = absurd cc
nil_so writes (terms.Nullable t) h = refl
nil_so writes (terms.StateOf c ts) h = absurd cc

module _ (writes : WritesStates) (t : Ty) (v : Value) (fits : fits_value (ty_of t) (value_of v) ≡ true) where
  pub number_field : (z : ℤ) → v ≡ value.Num z → field_text writes (ty_of t) (value_of v) ≡ signed_decimal z
  number_field z e =
      let is = ap value_of e ∙ value_of-Num z in
      ap (field_text writes (ty_of t)) is ∙ number_so writes (ty_of t) z (ap (fits_value (ty_of t)) (sym is) ∙ fits)

  pub string_field : (bytes : List ℕ) → v ≡ value.Bytes bytes → field_text writes (ty_of t) (value_of v) ≡ escaped bytes
  string_field bytes e =
      let is = ap value_of e ∙ value_of-Bytes bytes in
      ap (field_text writes (ty_of t)) is ∙ string_so writes (ty_of t) bytes (ap (fits_value (ty_of t)) (sym is) ∙ fits)

  pub nil_field : v ≡ value.Nil → field_text writes (ty_of t) (value_of v) ≡ codes "\\N"
  nil_field e =
      let is = ap value_of e ∙ value_of-Nil in
      ap (field_text writes (ty_of t)) is ∙ nil_so writes (ty_of t) (ap (fits_value (ty_of t)) (sym is) ∙ fits)

pub ruleset field_laws = (number_field, string_field, nil_field)
