-- The rows that the tests of batches push.
use Rattle.std.specs.Prelude.{pos, [], ◌∷◌}
use Rattle.value_types.specs.declared.ty.Ty.TheVariants as ty
use Rattle.value_types.specs.declared.value.Value.TheVariants as value
use Rattle.columns.specs.Rows.{Rows}

-- (7, a) and (8, b), of a whole number of 8 bits and a string
abbrev pub two_rows : Rows
two_rows = record {
  types = ty.U8 ∷ ty.Str ∷ [];
  rows = (value.Num (pos 7) ∷ value.Bytes (97 ∷ []) ∷ []) ∷ (value.Num (pos 8) ∷ value.Bytes (98 ∷ []) ∷ []) ∷ [];
}
