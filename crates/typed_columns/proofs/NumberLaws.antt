-- Each type of numbers is that of its numbers, and no other type is one.
use Rattle.std.proofs.Common.{◌≡◌, ℕ, ℤ, false, true, List, map, ap, sym, ◌∙◌, refl, pos, subst}
use Rattle.std.specs.Prelude.{Option, Some, None, ◌↔◌}
use Rattle.std.proofs.lemmas.Simd.{map-map}
use Rattle.value_types.specs.declared.chain.Chain.{Chain}
use Rattle.value_types.specs.declared.ty.Ty.{Ty}
use Rattle.value_types.specs.declared.ty.Ty.TheVariants as ty
use Rattle.value_types.specs.declared.ty.Ty.TheOpen.{Ty-F}
use Rattle.value_types.specs.declared.ty.Ty.TheFolds.{fold-roll-Ty}
use Rattle.value_types.specs.declared.value.Value.TheVariants.{Num}
use Rattle.column_parts.specs.declared.number_type.NumberType.{NumberType}
use Rattle.column_parts.specs.declared.number_type.NumberType.TheVariants as number
use Rattle.column_parts.specs.NumberLists.{NumberList}
use Rattle.typed_columns.specs.TypedValues.{TypedValues}
use Rattle.typed_columns.specs.proving.NumberTypes.{number_of, number_layer}
use Rattle.typed_columns.specs.Views.{number_ty, view_of}
use Rattle.typed_columns.specs.declared.column.Kind.{Kind}
use Rattle.typed_columns.specs.declared.column.Kind.TheVariants as kind

pub number_of-number_ty : (k : NumberType) → number_of (number_ty k) ≡ Some k
number_of-number_ty number.U8 = ap number_of (sym ty.rolls-U8) ∙ fold-roll-Ty (Option NumberType) number_layer Ty-F.U8
number_of-number_ty number.U16 = ap number_of (sym ty.rolls-U16) ∙ fold-roll-Ty (Option NumberType) number_layer Ty-F.U16
number_of-number_ty number.U32 = ap number_of (sym ty.rolls-U32) ∙ fold-roll-Ty (Option NumberType) number_layer Ty-F.U32
number_of-number_ty number.U64 = ap number_of (sym ty.rolls-U64) ∙ fold-roll-Ty (Option NumberType) number_layer Ty-F.U64
number_of-number_ty number.I8 = ap number_of (sym ty.rolls-I8) ∙ fold-roll-Ty (Option NumberType) number_layer Ty-F.I8
number_of-number_ty number.I16 = ap number_of (sym ty.rolls-I16) ∙ fold-roll-Ty (Option NumberType) number_layer Ty-F.I16
number_of-number_ty number.I32 = ap number_of (sym ty.rolls-I32) ∙ fold-roll-Ty (Option NumberType) number_layer Ty-F.I32
number_of-number_ty number.I64 = ap number_of (sym ty.rolls-I64) ∙ fold-roll-Ty (Option NumberType) number_layer Ty-F.I64

pub number_of-Str : number_of ty.Str ≡ None
number_of-Str = ap number_of (sym ty.rolls-Str) ∙ fold-roll-Ty (Option NumberType) number_layer Ty-F.Str

pub number_of-Arr : (t : Ty) → number_of (ty.Arr t) ≡ None
number_of-Arr t = ap number_of (sym (ty.rolls-Arr t)) ∙ fold-roll-Ty (Option NumberType) number_layer (Ty-F.Arr t)

pub number_of-Map : (k t : Ty) → number_of (ty.Map k t) ≡ None
number_of-Map k t = ap number_of (sym (ty.rolls-Map k t)) ∙ fold-roll-Ty (Option NumberType) number_layer (Ty-F.Map k t)

pub number_of-Nullable : (t : Ty) → number_of (ty.Nullable t) ≡ None
number_of-Nullable t = ap number_of (sym (ty.rolls-Nullable t)) ∙ fold-roll-Ty (Option NumberType) number_layer (Ty-F.Nullable t)

pub number_of-State : (c : Chain) (ts : List Ty) → number_of (ty.State c ts) ≡ None
number_of-State c ts = ap number_of (sym (ty.rolls-State c ts)) ∙ fold-roll-Ty (Option NumberType) number_layer (Ty-F.State c ts)

abbrev or_else : NumberType → Option NumberType → NumberType
or_else k None = k
or_else k (Some other) = other

abbrev is_number : Option NumberType → Type 0
is_number None = ⊥
is_number (Some k) = Unit {0}

-- equal types are of equal numbers
pub number_ty-one : (a b : NumberType) → number_ty a ≡ number_ty b → a ≡ b
number_ty-one a b same = ap (or_else a) (sym (number_of-number_ty a) ∙ ap number_of same ∙ number_of-number_ty b)

abbrev numbers_seen : NumberList → TypedValues
numbers_seen n = record { ty = number_ty n.kind; values = map Num n.numbers }

is_width : {R : Type 0} (k : NumberType) (c : TypedValues) (n : NumberList) → c ≡ numbers_seen n → R ↔ (n.kind ≡ k) → R ↔ (c.ty ≡ number_ty k)
is_width k c n seen width =
    ((λ r. ap (λ v. v.ty) seen ∙ ap number_ty (width.0 r)), (λ same. width.1 (number_ty-one n.kind k (sym (ap (λ v. v.ty) seen) ∙ same))))

no_width : (k : NumberType) (t : Ty) → number_of t ≡ None → t ≡ number_ty k → false ≡ true
no_width k t none same = absurd (subst is_number (sym (number_of-number_ty k) ∙ ap number_of (sym same) ∙ none) tt)

-- every column that isn't one of numbers is of a type that isn't one of numbers
pub other_kind : (k : Kind) (c : TypedValues) → view_of k ≡ c → ((n : NumberList) → k ≡ kind.Numbers n → ⊥) → number_of c.ty ≡ None
other_kind (kind.Numbers n) c seen other = absurd (other n refl)
other_kind (kind.Texts texts) c seen other = ap (λ v. number_of v.ty) (sym seen) ∙ number_of-Str
other_kind (kind.Nullable mask values) c seen other = ap (λ v. number_of v.ty) (sym seen) ∙ number_of-Nullable values.value.ty
other_kind (kind.Lists starts elements) c seen other = ap (λ v. number_of v.ty) (sym seen) ∙ number_of-Arr elements.value.ty
other_kind (kind.Maps starts keys values) c seen other = ap (λ v. number_of v.ty) (sym seen) ∙ number_of-Map keys.value.ty values.value.ty
other_kind (kind.Cells chain args trees) c seen other = ap (λ v. number_of v.ty) (sym seen) ∙ number_of-State chain args

pub whole_values : (c : TypedValues) (n : NumberList) (all : List ℕ) → c ≡ numbers_seen n → n.numbers ≡ map pos all → c.values ≡ map (λ x. Num (pos x)) all
whole_values c n all seen is = ap (λ v. v.values) seen ∙ ap (map Num) is ∙ map-map Num pos all

pub signed_values : (c : TypedValues) (n : NumberList) (all : List ℤ) → c ≡ numbers_seen n → n.numbers ≡ all → c.values ≡ map Num all
signed_values c n all seen is = ap (λ v. v.values) seen ∙ ap (map Num) is

pub is_u8 : {R : Type 0} (c : TypedValues) (n : NumberList) → c ≡ numbers_seen n → R ↔ (n.kind ≡ number.U8) → R ↔ (c.ty ≡ ty.U8)
is_u8 c n seen width = is_width number.U8 c n seen width

pub no_u8 : (t : Ty) → number_of t ≡ None → t ≡ ty.U8 → false ≡ true
no_u8 t none same = no_width number.U8 t none same

pub is_u16 : {R : Type 0} (c : TypedValues) (n : NumberList) → c ≡ numbers_seen n → R ↔ (n.kind ≡ number.U16) → R ↔ (c.ty ≡ ty.U16)
is_u16 c n seen width = is_width number.U16 c n seen width

pub no_u16 : (t : Ty) → number_of t ≡ None → t ≡ ty.U16 → false ≡ true
no_u16 t none same = no_width number.U16 t none same

pub is_u32 : {R : Type 0} (c : TypedValues) (n : NumberList) → c ≡ numbers_seen n → R ↔ (n.kind ≡ number.U32) → R ↔ (c.ty ≡ ty.U32)
is_u32 c n seen width = is_width number.U32 c n seen width

pub no_u32 : (t : Ty) → number_of t ≡ None → t ≡ ty.U32 → false ≡ true
no_u32 t none same = no_width number.U32 t none same

pub is_u64 : {R : Type 0} (c : TypedValues) (n : NumberList) → c ≡ numbers_seen n → R ↔ (n.kind ≡ number.U64) → R ↔ (c.ty ≡ ty.U64)
is_u64 c n seen width = is_width number.U64 c n seen width

pub no_u64 : (t : Ty) → number_of t ≡ None → t ≡ ty.U64 → false ≡ true
no_u64 t none same = no_width number.U64 t none same

pub is_i8 : {R : Type 0} (c : TypedValues) (n : NumberList) → c ≡ numbers_seen n → R ↔ (n.kind ≡ number.I8) → R ↔ (c.ty ≡ ty.I8)
is_i8 c n seen width = is_width number.I8 c n seen width

pub no_i8 : (t : Ty) → number_of t ≡ None → t ≡ ty.I8 → false ≡ true
no_i8 t none same = no_width number.I8 t none same

pub is_i16 : {R : Type 0} (c : TypedValues) (n : NumberList) → c ≡ numbers_seen n → R ↔ (n.kind ≡ number.I16) → R ↔ (c.ty ≡ ty.I16)
is_i16 c n seen width = is_width number.I16 c n seen width

pub no_i16 : (t : Ty) → number_of t ≡ None → t ≡ ty.I16 → false ≡ true
no_i16 t none same = no_width number.I16 t none same

pub is_i32 : {R : Type 0} (c : TypedValues) (n : NumberList) → c ≡ numbers_seen n → R ↔ (n.kind ≡ number.I32) → R ↔ (c.ty ≡ ty.I32)
is_i32 c n seen width = is_width number.I32 c n seen width

pub no_i32 : (t : Ty) → number_of t ≡ None → t ≡ ty.I32 → false ≡ true
no_i32 t none same = no_width number.I32 t none same

pub is_i64 : {R : Type 0} (c : TypedValues) (n : NumberList) → c ≡ numbers_seen n → R ↔ (n.kind ≡ number.I64) → R ↔ (c.ty ≡ ty.I64)
is_i64 c n seen width = is_width number.I64 c n seen width

pub no_i64 : (t : Ty) → number_of t ≡ None → t ≡ ty.I64 → false ≡ true
no_i64 t none same = no_width number.I64 t none same

pub ruleset number_laws = (number_of-Str, number_of-Arr, number_of-Map, number_of-Nullable, number_of-State, whole_values, signed_values, is_u8, no_u8, is_u16, no_u16, is_u32, no_u32, is_u64, no_u64, is_i8, no_i8, is_i16, no_i16, is_i32, no_i32, is_i64, no_i64)
