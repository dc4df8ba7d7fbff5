-- A type is read back from its image.
use Rattle.std.proofs.Common.{◌≡◌, cond, nat_eq, List, [], ◌∷◌, map, refl, sym, ap, ap₂, ◌∙◌}
use mir.Syntax.{w8, w16, w32}
use Rattle.agg_terms.specs.Chains as terms
use Rattle.value_types.specs.declared.ty.Ty.{Ty}
use Rattle.value_types.specs.declared.ty.Ty.TheOpen.{Ty-F}
use Rattle.value_types.specs.declared.ty.Ty.TheFolds.{fold-roll-Ty, ind-Ty, map-Ty}
use Rattle.value_types.specs.declared.ty.Ty.TheViews.{roll-Ty}
use Rattle.value_types.specs.Folds.{ty_of, ty_step}
use Rattle.value_types.proofs.ChainsBack.{chain_back, chain_read}

abbrev mutual
  pub ty_back : terms.Ty → Ty
  ty_back (terms.Whole n) = roll-Ty (cond (nat_eq n 8) Ty-F.U8 (cond (nat_eq n 16) Ty-F.U16 (cond (nat_eq n 32) Ty-F.U32 Ty-F.U64)))
  ty_back (terms.Signed w8) = roll-Ty Ty-F.I8
  ty_back (terms.Signed w16) = roll-Ty Ty-F.I16
  ty_back (terms.Signed w32) = roll-Ty Ty-F.I32
  ty_back (terms.Signed _) = roll-Ty Ty-F.I64
  ty_back terms.Str = roll-Ty Ty-F.Str
  ty_back (terms.Arr t) = roll-Ty (Ty-F.Arr (ty_back t))
  ty_back (terms.MapTy k t) = roll-Ty (Ty-F.Map (ty_back k) (ty_back t))
  ty_back (terms.Nullable t) = roll-Ty (Ty-F.Nullable (ty_back t))
  ty_back (terms.StateOf c ts) = roll-Ty (Ty-F.State (chain_back c) (tys_back ts))

  pub tys_back : terms.Tys → List Ty
  tys_back terms.no_tys = []
  tys_back (terms.a_ty t ts) = ty_back t ∷ tys_back ts

abbrev IsRead : Ty → Type 0
IsRead t = ty_back (ty_of t) ≡ t

abbrev Read : Type 0
Read = (t : Ty) × IsRead t

-- a layer whose parts are read back
abbrev bare : Ty-F Read → Ty-F Ty
bare = map-Ty Read Ty (λ t. t.0)

args_read : (ts : List Read) → tys_back (terms.tys (map ty_of (map (λ t. t.0) ts))) ≡ map (λ t. t.0) ts
args_read [] = refl
args_read (t ∷ ts) = ap₂ ◌∷◌ t.1 (args_read ts)

layer_read : (layer : Ty-F Read) → ty_back (ty_step (map-Ty Ty terms.Ty ty_of (bare layer))) ≡ roll-Ty (bare layer)
layer_read Ty-F.U8 = refl
layer_read Ty-F.U16 = refl
layer_read Ty-F.U32 = refl
layer_read Ty-F.U64 = refl
layer_read Ty-F.I8 = refl
layer_read Ty-F.I16 = refl
layer_read Ty-F.I32 = refl
layer_read Ty-F.I64 = refl
layer_read Ty-F.Str = refl
layer_read (Ty-F.Arr t) = ap (λ u. roll-Ty (Ty-F.Arr u)) t.1
layer_read (Ty-F.Map k t) = ap₂ (λ l u. roll-Ty (Ty-F.Map l u)) k.1 t.1
layer_read (Ty-F.Nullable t) = ap (λ u. roll-Ty (Ty-F.Nullable u)) t.1
layer_read (Ty-F.State c ts) = ap₂ (λ d us. roll-Ty (Ty-F.State d us)) (chain_read c) (args_read ts)

pub ty_read : (t : Ty) → ty_back (ty_of t) ≡ t
ty_read = ind-Ty IsRead (λ layer parts is.
    ap ty_back (fold-roll-Ty terms.Ty ty_step layer)
    ∙ ap (λ z. ty_back (ty_step (map-Ty Ty terms.Ty ty_of z))) (sym is) ∙ layer_read parts ∙ ap roll-Ty is)
