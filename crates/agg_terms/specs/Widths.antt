-- How wide numbers are (manual: "Int and UInt"). Every width is said here and nowhere else.
use Rattle.std.specs.Prelude.{◌≡◌, ◌≤◌, ℕ, ◌⊎◌}
use mir.Syntax.{Width, w8, w16, w32, w64, w128}
use Rattle.agg_terms.specs.Chains.{Arr, MapTy, Nullable, Signed, StateOf, Str, Ty, Tys, Whole, a_ty, no_tys}

-- UInt8 to UInt64
abbrev pub IsWholeWidth : ℕ → Type 0
IsWholeWidth n = (n ≡ 8) ⊎ ((n ≡ 16) ⊎ ((n ≡ 32) ⊎ (n ≡ 64)))

-- Int8 to Int64
abbrev pub IsSignedWidth : Width → Type 0
IsSignedWidth w128 = ⊥
IsSignedWidth w = Unit {0}

-- the numbers of a type have these widths, at every depth and in the argument types of states
abbrev mutual
  pub HasWidths : Ty → Type 0
  HasWidths (Whole n) = IsWholeWidth n
  HasWidths (Signed w) = IsSignedWidth w
  HasWidths Str = Unit {0}
  HasWidths (Arr t) = HasWidths t
  HasWidths (MapTy k t) = HasWidths k × HasWidths t
  HasWidths (Nullable t) = HasWidths t
  HasWidths (StateOf c ts) = HaveWidths ts

  pub HaveWidths : Tys → Type 0
  HaveWidths no_tys = Unit {0}
  HaveWidths (a_ty t ts) = HasWidths t × HaveWidths ts

-- What most laws ask for: numbers of at most so many bits, at every depth; a state's own types are free. Each type with
-- these widths is narrow.
abbrev pub most_bits : ℕ
most_bits = 64

abbrev pub IsNarrow : Ty → Type 0
IsNarrow (Whole n) = n ≤ most_bits
IsNarrow (Signed w) = IsSignedWidth w
IsNarrow Str = Unit {0}
IsNarrow (Arr t) = IsNarrow t
IsNarrow (MapTy k t) = IsNarrow k × IsNarrow t
IsNarrow (Nullable t) = IsNarrow t
IsNarrow (StateOf c ts) = Unit {0}
