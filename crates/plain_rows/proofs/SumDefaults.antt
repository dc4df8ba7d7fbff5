-- The default of a sum's type.
use Rattle.std.proofs.Common.{◌≡◌, pos, Bool, true, false, cond, List, refl}
use mir.Syntax.{w64}
use Rattle.agg_terms.specs.Chains.{Signed, Sum, Ty, Whole}
use Rattle.agg_terms.specs.Types.{any_null, first_type, is_signed}
use Rattle.agg_terms.specs.Values.{Nil, Num}
use Rattle.agg_meaning.specs.Results.{default, leaf_result, nullable_if}

pub sum_default : (ts : List Ty) → default (leaf_result Sum ts) ≡ cond (any_null ts) Nil (Num (pos 0))
sum_default ts = go (any_null ts) (is_signed (first_type ts))
  where
    go : (b s : Bool) → default (nullable_if b (cond s (Signed w64) (Whole 64))) ≡ cond b Nil (Num (pos 0))
    go true s = refl
    go false true = refl
    go false false = refl
