-- The words of a column of numbers, by its type.
use Rattle.std.proofs.Common.{◌≡◌, ℕ, ◌-◌, ℤ, pos, List, [], ◌∷◌, map, take, drop, refl, sym, ap, ap₂, ◌∙◌}
use Rattle.std.specs.List.{slice_range}
use Rattle.std.specs.Int.{cast_unsigned}
use Rattle.std.proofs.lemmas.List.{take-map, drop-map}
use mir.Syntax.{Width, w8, w16, w32, w64}
use Rattle.agg_terms.specs.Chains as terms
use Rattle.typed_columns.specs.TypedValues.{TypedValues}
use Rattle.value_types.specs.declared.ty.Ty.{Ty}
use Rattle.value_types.specs.declared.ty.Ty.TheVariants as ty
use Rattle.value_types.specs.declared.value.Value.TheVariants.{Num}
use Rattle.value_types.specs.Folds.{ty_of, value_of}
use Rattle.value_types.proofs.FoldLaws.{ty_of-U8, ty_of-U16, ty_of-U32, ty_of-U64, ty_of-I8, ty_of-I16, ty_of-I32, ty_of-I64, value_of-Num}
use Rattle.key_methods.specs.KeyBytes.{word_of}
use Rattle.key_columns.specs.Words.{words_in}

module _ (c : TypedValues) (from to : ℕ) where
  range : {X Y : Type 0} (f : X → Y) (xs : List X) → slice_range (map f xs) from to ≡ map f (slice_range xs from to)
  range f xs = ap (take (to - from)) (drop-map f from xs) ∙ take-map f (to - from) (drop from xs)

  whole : (t : Ty) (n : ℕ) → c.ty ≡ t → ty_of t ≡ terms.Whole n → (all : List ℕ) → c.values ≡ map (λ m. Num (pos m)) all → map (λ m. m) (slice_range all from to) ≡ words_in c from to
  whole t n e is all values =
      words (slice_range all from to)
      ∙ ap (map (λ v. word_of (ty_of t) (value_of v))) (sym (range (λ m. Num (pos m)) all))
      ∙ ap₂ (λ u vs. map (λ v. word_of (ty_of u) (value_of v)) (slice_range vs from to)) (sym e) (sym values)
    where
      words : (xs : List ℕ) → map (λ m. m) xs ≡ map (λ v. word_of (ty_of t) (value_of v)) (map (λ m. Num (pos m)) xs)
      words [] = refl
      words (x ∷ xs) = ap₂ ◌∷◌ (sym (ap₂ word_of is (value_of-Num (pos x)))) (words xs)

  signed : (t : Ty) (w : Width) → c.ty ≡ t → ty_of t ≡ terms.Signed w → (all : List ℤ) → c.values ≡ map Num all → map (cast_unsigned w) (slice_range all from to) ≡ words_in c from to
  signed t w e is all values =
      words (slice_range all from to)
      ∙ ap (map (λ v. word_of (ty_of t) (value_of v))) (sym (range Num all))
      ∙ ap₂ (λ u vs. map (λ v. word_of (ty_of u) (value_of v)) (slice_range vs from to)) (sym e) (sym values)
    where
      words : (xs : List ℤ) → map (cast_unsigned w) xs ≡ map (λ v. word_of (ty_of t) (value_of v)) (map Num xs)
      words [] = refl
      words (x ∷ xs) = ap₂ ◌∷◌ (sym (ap₂ word_of is (value_of-Num x))) (words xs)

  pub words_U8 : (all : List ℕ) → c.ty ≡ ty.U8 → c.values ≡ map (λ m. Num (pos m)) all → map (λ m. m) (slice_range all from to) ≡ words_in c from to
  words_U8 all e v = whole ty.U8 8 e ty_of-U8 all v

  pub words_U16 : (all : List ℕ) → c.ty ≡ ty.U16 → c.values ≡ map (λ m. Num (pos m)) all → map (λ m. m) (slice_range all from to) ≡ words_in c from to
  words_U16 all e v = whole ty.U16 16 e ty_of-U16 all v

  pub words_U32 : (all : List ℕ) → c.ty ≡ ty.U32 → c.values ≡ map (λ m. Num (pos m)) all → map (λ m. m) (slice_range all from to) ≡ words_in c from to
  words_U32 all e v = whole ty.U32 32 e ty_of-U32 all v

  pub words_U64 : (all : List ℕ) → c.ty ≡ ty.U64 → c.values ≡ map (λ m. Num (pos m)) all → map (λ m. m) (slice_range all from to) ≡ words_in c from to
  words_U64 all e v = whole ty.U64 64 e ty_of-U64 all v

  pub words_I8 : (all : List ℤ) → c.ty ≡ ty.I8 → c.values ≡ map Num all → map (cast_unsigned w8) (slice_range all from to) ≡ words_in c from to
  words_I8 all e v = signed ty.I8 w8 e ty_of-I8 all v

  pub words_I16 : (all : List ℤ) → c.ty ≡ ty.I16 → c.values ≡ map Num all → map (cast_unsigned w16) (slice_range all from to) ≡ words_in c from to
  words_I16 all e v = signed ty.I16 w16 e ty_of-I16 all v

  pub words_I32 : (all : List ℤ) → c.ty ≡ ty.I32 → c.values ≡ map Num all → map (cast_unsigned w32) (slice_range all from to) ≡ words_in c from to
  words_I32 all e v = signed ty.I32 w32 e ty_of-I32 all v

  pub words_I64 : (all : List ℤ) → c.ty ≡ ty.I64 → c.values ≡ map Num all → map (cast_unsigned w64) (slice_range all from to) ≡ words_in c from to
  words_I64 all e v = signed ty.I64 w64 e ty_of-I64 all v

pub ruleset column_laws = (words_U8, words_U16, words_U32, words_U64, words_I8, words_I16, words_I32, words_I64, ty_of-U8, ty_of-U16, ty_of-U32, ty_of-U64, ty_of-I8, ty_of-I16, ty_of-I32, ty_of-I64)
