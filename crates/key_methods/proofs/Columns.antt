-- The types of key columns have numbers of whole bytes.
use Rattle.std.proofs.Common.{◌≡◌, ◌⊎◌, ℕ, ◌*◌, ◌/◌, ◌≤◌, true, List, [], ◌∷◌, map, refl, sym, ap, subst, ◌∙◌, arith, inl, inr}
use Rattle.std.specs.Int.{byte_len}
use Rattle.agg_terms.specs.Chains as terms
use Rattle.agg_terms.specs.Lists.{Each}
use Rattle.agg_typing.specs.Kinds.{is_number_or_text}
use Rattle.value_types.specs.declared.ty.Ty.{Ty}
use Rattle.value_types.specs.declared.ty.Ty.TheOpen.{Ty-F}
use Rattle.value_types.specs.declared.ty.Ty.TheFolds.{fold-roll-Ty, ind-Ty, map-Ty}
use Rattle.value_types.specs.Folds.{ty_of, ty_step}
use Rattle.key_methods.specs.Kinds.{AreKeyTypes}

abbrev HasWidths : terms.Ty → Type 0
HasWidths (terms.Whole n) = (n ≡ 8) ⊎ ((n ≡ 16) ⊎ ((n ≡ 32) ⊎ (n ≡ 64)))
HasWidths (terms.Signed w) = byte_len w ≤ 8
HasWidths (terms.Nullable t) = HasWidths t
HasWidths _ = Unit {0}

abbrev Sized : Type 0
Sized = (t : Ty) × HasWidths (ty_of t)

abbrev bare : Ty-F Sized → Ty-F Ty
bare = map-Ty Sized Ty (λ t. t.0)

sized_layer : (layer : Ty-F Sized) → HasWidths (ty_step (map-Ty Ty terms.Ty ty_of (bare layer)))
sized_layer Ty-F.U8 = inl refl
sized_layer Ty-F.U16 = inr (inl refl)
sized_layer Ty-F.U32 = inr (inr (inl refl))
sized_layer Ty-F.U64 = inr (inr (inr refl))
sized_layer Ty-F.I8 = omega arith
sized_layer Ty-F.I16 = omega arith
sized_layer Ty-F.I32 = omega arith
sized_layer Ty-F.I64 = omega arith
sized_layer Ty-F.Str = tt
sized_layer (Ty-F.Arr t) = tt
sized_layer (Ty-F.Map k t) = tt
sized_layer (Ty-F.Nullable t) = t.1
sized_layer (Ty-F.State c ts) = tt

sized : (t : Ty) → HasWidths (ty_of t)
sized = ind-Ty (λ t. HasWidths (ty_of t)) (λ layer parts is.
    subst HasWidths (sym (fold-roll-Ty terms.Ty ty_step layer ∙ ap (λ z. ty_step (map-Ty Ty terms.Ty ty_of z)) (sym is))) (sized_layer parts))

-- a key column, as the definitions see it
abbrev pub IsColumn : terms.Ty → Type 0
IsColumn (terms.Whole n) = (n ≡ 8 * (n / 8)) × (n / 8 ≤ 8)
IsColumn (terms.Signed w) = byte_len w ≤ 8
IsColumn terms.Str = Unit {0}
IsColumn (terms.Nullable t) = IsColumn t
IsColumn _ = ⊥

whole : (n : ℕ) → (n ≡ 8) ⊎ ((n ≡ 16) ⊎ ((n ≡ 32) ⊎ (n ≡ 64))) → (n ≡ 8 * (n / 8)) × (n / 8 ≤ 8)
whole n (inl e) = (omega arith, omega arith)
whole n (inr (inl e)) = (omega arith, omega arith)
whole n (inr (inr (inl e))) = (omega arith, omega arith)
whole n (inr (inr (inr e))) = (omega arith, omega arith)

column : (t : terms.Ty) → HasWidths t → is_number_or_text t ≡ true → IsColumn t
column (terms.Whole n) w k = whole n w
column (terms.Signed w) s k = s
column terms.Str w k = tt
column (terms.Arr t) w k = absurd cc
column (terms.MapTy k t) w h = absurd cc
column (terms.Nullable t) w k = column t w k
column (terms.StateOf c ts) w k = absurd cc

pub is_column : (t : Ty) → is_number_or_text (ty_of t) ≡ true → IsColumn (ty_of t)
is_column t k = column (ty_of t) (sized t) k

pub are_columns : (types : List Ty) → AreKeyTypes types → Each IsColumn (map ty_of types)
are_columns [] k = tt
are_columns (t ∷ ts) k = (is_column t k.0, are_columns ts k.1)
