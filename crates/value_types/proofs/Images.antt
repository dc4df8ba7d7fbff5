-- The numbers of the code's types have 8 to 64 bits.
use Rattle.std.proofs.Common.{◌≡◌, ◌≤◌, ℕ, List, [], ◌∷◌, map, inl, inr, refl, sym, ap, subst, ◌∙◌, arith}
use Rattle.agg_terms.specs.Chains.{Ty, Arr, MapTy, Nullable, Signed, StateOf, Str, Whole, tys}
use Rattle.agg_terms.specs.Widths.{HasWidths, HaveWidths, IsNarrow, IsWholeWidth, most_bits}
use Rattle.value_types.specs.declared.ty.Ty.{Ty as Code}
use Rattle.value_types.specs.declared.ty.Ty.TheOpen.{Ty-F}
use Rattle.value_types.specs.declared.ty.Ty.TheFolds.{fold-roll-Ty, ind-Ty, map-Ty}
use Rattle.value_types.specs.Folds.{ty_of, ty_step}

abbrev Wide : Code → Type 0
Wide t = HasWidths (ty_of t)

abbrev WideType : Type 0
WideType = (t : Code) × Wide t

abbrev bare : Ty-F WideType → Ty-F Code
bare = map-Ty WideType Code (λ t. t.0)

wide_args : (ts : List WideType) → HaveWidths (tys (map ty_of (map (λ t. t.0) ts)))
wide_args [] = tt
wide_args (t ∷ ts) = (t.1, wide_args ts)

wide_layer : (layer : Ty-F WideType) → HasWidths (ty_step (map-Ty Code Ty ty_of (bare layer)))
wide_layer Ty-F.U8 = inl refl
wide_layer Ty-F.U16 = inr (inl refl)
wide_layer Ty-F.U32 = inr (inr (inl refl))
wide_layer Ty-F.U64 = inr (inr (inr refl))
wide_layer Ty-F.I8 = tt
wide_layer Ty-F.I16 = tt
wide_layer Ty-F.I32 = tt
wide_layer Ty-F.I64 = tt
wide_layer Ty-F.Str = tt
wide_layer (Ty-F.Arr t) = t.1
wide_layer (Ty-F.Map k t) = (k.1, t.1)
wide_layer (Ty-F.Nullable t) = t.1
wide_layer (Ty-F.State c ts) = wide_args ts

pub wide : (t : Code) → HasWidths (ty_of t)
wide = ind-Ty Wide (λ layer parts is.
    subst HasWidths (sym (fold-roll-Ty Ty ty_step layer ∙ ap (λ z. ty_step (map-Ty Code Ty ty_of z)) (sym is))) (wide_layer parts))

whole_narrow : (n : ℕ) → IsWholeWidth n → n ≤ most_bits
whole_narrow n h = elim h [
  | inl e ↦ omega (arith, e)
  | inr h ↦ elim h [
    | inl e ↦ omega (arith, e)
    | inr h ↦ elim h [ inl e ↦ omega (arith, e) | inr e ↦ omega (arith, e) ]
  ]
]

-- a type with these widths is narrow
pub widths_narrow : (t : Ty) → HasWidths t → IsNarrow t
widths_narrow (Whole n) h = whole_narrow n h
widths_narrow (Signed w) h = h
widths_narrow Str h = tt
widths_narrow (Arr t) h = widths_narrow t h
widths_narrow (MapTy k t) h = (widths_narrow k h.0, widths_narrow t h.1)
widths_narrow (Nullable t) h = widths_narrow t h
widths_narrow (StateOf c ts) h = tt

pub narrow : (t : Code) → IsNarrow (ty_of t)
narrow t = widths_narrow (ty_of t) (wide t)
