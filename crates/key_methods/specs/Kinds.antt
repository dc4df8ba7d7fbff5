-- Which kind of key serves key columns of these types, this project's own choice.
use Rattle.std.specs.Prelude.{◌≡◌, ℕ, ◌/◌, ◌==◌, ◌&&◌, Bool, true, false, nat_le, List, [], ◌∷◌, if◌then◌else◌}
use Rattle.std.specs.Int.{byte_len}
use Rattle.std.specs.List.{list_all, sum_by}
use Rattle.agg_terms.specs.Chains.{Signed, Str, Ty, Whole}
use Rattle.agg_terms.specs.Lists.{Each}
use Rattle.agg_typing.specs.Kinds.{is_number_or_text}
use Rattle.value_types.specs.Folds.{ty_of}
use Rattle.value_types.specs.declared.ty.Ty as rust
use Rattle.key_methods.specs.declared.kind.KeyKind.{KeyKind}
use Rattle.key_methods.specs.declared.kind.KeyKind.TheVariants.{NoKey, Key8, Key16, Key32, Key64, KeyString, Packed128, Serialized}

-- a key column holds numbers or Strings, maybe under Nullable
abbrev pub AreKeyTypes : List rust.Ty → Type 0
AreKeyTypes types = Each (λ ty. is_number_or_text (ty_of ty) ≡ true) types

-- the bytes of a number of the type; 0 where it holds no plain numbers
abbrev pub width_of : Ty → ℕ
width_of (Whole n) = n / 8
width_of (Signed w) = byte_len w
width_of _ = 0

abbrev pub is_plain_number : Ty → Bool
is_plain_number (Whole n) = true
is_plain_number (Signed w) = true
is_plain_number _ = false

-- the bytes of plain numbers side by side
abbrev pub total_width : List Ty → ℕ
total_width ts = sum_by width_of ts

-- plain numbers that have at most so many bytes together
abbrev pub fit_in : ℕ → List Ty → Bool
fit_in most ts = list_all is_plain_number ts && nat_le (total_width ts) most

-- one number by its width
abbrev pub number_kind : ℕ → KeyKind
number_kind width = if width == 1 then Key8 else if width == 2 then Key16 else if width == 4 then Key32 else Key64

-- one column
abbrev pub kind_of_one : Ty → KeyKind
kind_of_one (Whole n) = number_kind (n / 8)
kind_of_one (Signed w) = number_kind (byte_len w)
kind_of_one Str = KeyString
kind_of_one _ = Serialized

-- none; one; two or more
abbrev pub kind_of : List Ty → KeyKind
kind_of [] = NoKey
kind_of (t ∷ []) = kind_of_one t
kind_of (t ∷ u ∷ ts) = if fit_in 16 (t ∷ u ∷ ts) then Packed128 else Serialized
