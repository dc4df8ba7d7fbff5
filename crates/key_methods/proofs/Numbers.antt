-- Numbers of key columns and their words.
use Rattle.std.proofs.Common.{◌≡◌, ℤ, pos, sym, ap, subst, ◌∙◌}
use Rattle.std.specs.Prelude.{FitsSigned}
use Rattle.agg_terms.specs.Chains as terms
use Rattle.agg_terms.specs.Trees.{IsValue}
use Rattle.agg_terms.specs.Values.{Num, Value}
use Rattle.value_types.specs.declared.ty.Ty.{Ty}
use Rattle.value_types.specs.declared.value.Value as rust
use Rattle.value_types.specs.declared.value.Value.TheVariants as value
use Rattle.value_types.specs.Folds.{ty_of, value_of}
use Rattle.value_types.proofs.FoldLaws.{ty_of-U8, ty_of-U16, ty_of-U32, ty_of-U64, ty_of-I8, ty_of-I16, ty_of-I32, ty_of-I64, value_of-Num}
use Rattle.key_methods.specs.KeyBytes.{IsNumberOf}

abbrev number_in : Value → ℤ
number_in (Num z) = z
number_in _ = pos 0

-- a value that is a number is a number of its type
number_fits : (t : terms.Ty) (z : ℤ) → IsValue t (Num z) → IsNumberOf t z
number_fits (terms.Whole n) z p = subst (IsNumberOf (terms.Whole n)) (sym (ap number_in p.1)) p.2
number_fits (terms.Signed w) z p = subst (FitsSigned w) (sym (ap number_in p.1)) p.2
number_fits terms.Str z p = tt
number_fits (terms.Arr t) z p = tt
number_fits (terms.MapTy k t) z p = tt
number_fits (terms.Nullable t) z p = tt
number_fits (terms.StateOf c ts) z p = tt

pub value_fits : (t : Ty) (v : rust.Value) (z : ℤ) → v ≡ value.Num z → IsValue (ty_of t) (value_of v) → IsNumberOf (ty_of t) z
value_fits t v z e p = number_fits (ty_of t) z (subst (IsValue (ty_of t)) (ap value_of e ∙ value_of-Num z) p)

pub ruleset number_laws = (value_fits, ty_of-U8, ty_of-U16, ty_of-U32, ty_of-U64, ty_of-I8, ty_of-I16, ty_of-I32, ty_of-I64)
