-- What is a value of a type, by the type's kind, for the code's matches.
use Rattle.std.proofs.Common.{◌≡◌, ◌&&◌, ◌||◌, Bool, true, false, List, map, refl, ap, sym, ◌∙◌}
use Rattle.std.specs.List.{list_all}
use mir.Syntax.{w8, w16, w32, w64}
use Rattle.agg_terms.specs.Chains as terms
use Rattle.agg_terms.specs.Values as family
use Rattle.agg_terms.specs.Fitting.{fits_plain, fits_value, has_cell, has_entries, has_items, is_nil, is_tree}
use Rattle.value_types.specs.declared.chain.Chain.{Chain}
use Rattle.value_types.specs.declared.ty.Ty.{Ty}
use Rattle.value_types.specs.declared.ty.Ty.TheVariants as ty
use Rattle.value_types.specs.declared.value.Value.{Value}
use Rattle.value_types.specs.declared.value.Value.TheVariants as value
use Rattle.value_types.specs.declared.value.Tree.{Tree}
use Rattle.value_types.specs.Folds.{chain_of, tree_of, ty_of, value_of}
use Rattle.value_types.proofs.FoldLaws.{ty_of-Arr, ty_of-I16, ty_of-I32, ty_of-I64, ty_of-I8, ty_of-Map, ty_of-Nullable, ty_of-State, ty_of-Str, ty_of-U16, ty_of-U32, ty_of-U64, ty_of-U8, value_of-Cell}
use Rattle.agg_values.proofs.Images.{tys_back}
use Rattle.agg_values.proofs.TypeKinds.{entries_both}

pub cell_at : (test : family.Tree → Bool) (v : Value) (t : Tree) → v ≡ value.Cell t → has_cell test (value_of v) ≡ test (tree_of t)
cell_at test v t e = ap (has_cell test) (ap value_of e ∙ value_of-Cell t)

module _ (t : Ty) (v : family.Value) where
  -- a type that the test without a state decides
  as_plain : (u : terms.Ty) → ty_of t ≡ u → fits_value u v ≡ fits_plain u v → fits_value (ty_of t) v ≡ fits_plain (ty_of t) v
  as_plain u e same = ap (λ u. fits_value u v) e ∙ same ∙ ap (λ u. fits_plain u v) (sym e)

  pub in_U8 : t ≡ ty.U8 → fits_value (ty_of t) v ≡ fits_plain (ty_of t) v
  in_U8 e = as_plain (terms.Whole 8) (ap ty_of e ∙ ty_of-U8) refl

  pub in_U16 : t ≡ ty.U16 → fits_value (ty_of t) v ≡ fits_plain (ty_of t) v
  in_U16 e = as_plain (terms.Whole 16) (ap ty_of e ∙ ty_of-U16) refl

  pub in_U32 : t ≡ ty.U32 → fits_value (ty_of t) v ≡ fits_plain (ty_of t) v
  in_U32 e = as_plain (terms.Whole 32) (ap ty_of e ∙ ty_of-U32) refl

  pub in_U64 : t ≡ ty.U64 → fits_value (ty_of t) v ≡ fits_plain (ty_of t) v
  in_U64 e = as_plain (terms.Whole 64) (ap ty_of e ∙ ty_of-U64) refl

  pub in_I8 : t ≡ ty.I8 → fits_value (ty_of t) v ≡ fits_plain (ty_of t) v
  in_I8 e = as_plain (terms.Signed w8) (ap ty_of e ∙ ty_of-I8) refl

  pub in_I16 : t ≡ ty.I16 → fits_value (ty_of t) v ≡ fits_plain (ty_of t) v
  in_I16 e = as_plain (terms.Signed w16) (ap ty_of e ∙ ty_of-I16) refl

  pub in_I32 : t ≡ ty.I32 → fits_value (ty_of t) v ≡ fits_plain (ty_of t) v
  in_I32 e = as_plain (terms.Signed w32) (ap ty_of e ∙ ty_of-I32) refl

  pub in_I64 : t ≡ ty.I64 → fits_value (ty_of t) v ≡ fits_plain (ty_of t) v
  in_I64 e = as_plain (terms.Signed w64) (ap ty_of e ∙ ty_of-I64) refl

  pub in_Str : t ≡ ty.Str → fits_value (ty_of t) v ≡ fits_plain (ty_of t) v
  in_Str e = as_plain terms.Str (ap ty_of e ∙ ty_of-Str) refl

  pub in_Arr : (item : Ty) → t ≡ ty.Arr item → fits_value (ty_of t) v ≡ has_items (list_all (fits_value (ty_of item))) v
  in_Arr item e = ap (λ u. fits_value u v) (ap ty_of e ∙ ty_of-Arr item)

  in_Map : (key item : Ty) → t ≡ ty.Map key item → fits_value (ty_of t) v ≡ has_entries (list_all (λ e. fits_plain (ty_of key) e.0)) v && has_entries (list_all (λ e. fits_value (ty_of item) e.1)) v
  in_Map key item e = ap (λ u. fits_value u v) (ap ty_of e ∙ ty_of-Map key item) ∙ entries_both (fits_plain (ty_of key)) (fits_value (ty_of item)) v

  pub in_keys : (key item : Ty) → t ≡ ty.Map key item → has_entries (list_all (λ e. fits_plain (ty_of key) e.0)) v ≡ true → fits_value (ty_of t) v ≡ has_entries (list_all (λ e. fits_value (ty_of item) e.1)) v
  in_keys key item e h = in_Map key item e ∙ ap (λ b. b && has_entries (list_all (λ e. fits_value (ty_of item) e.1)) v) h

  pub in_no_keys : (key item : Ty) → t ≡ ty.Map key item → has_entries (list_all (λ e. fits_plain (ty_of key) e.0)) v ≡ false → fits_value (ty_of t) v ≡ false
  in_no_keys key item e h = in_Map key item e ∙ ap (λ b. b && has_entries (list_all (λ e. fits_value (ty_of item) e.1)) v) h

  pub in_null : (of : Ty) → t ≡ ty.Nullable of → is_nil v ≡ true → fits_value (ty_of t) v ≡ true
  in_null of e h = ap (λ u. fits_value u v) (ap ty_of e ∙ ty_of-Nullable of) ∙ ap (λ b. b || fits_value (ty_of of) v) h

  pub in_filled : (of : Ty) → t ≡ ty.Nullable of → is_nil v ≡ false → fits_value (ty_of t) v ≡ fits_value (ty_of of) v
  in_filled of e h = ap (λ u. fits_value u v) (ap ty_of e ∙ ty_of-Nullable of) ∙ ap (λ b. b || fits_value (ty_of of) v) h

  pub in_State : (c : Chain) (ts : List Ty) → t ≡ ty.State c ts → fits_value (ty_of t) v ≡ has_cell (is_tree (chain_of c) (map ty_of ts)) v
  in_State c ts e = ap (λ u. fits_value u v) (ap ty_of e ∙ ty_of-State c ts) ∙ ap (λ us. has_cell (is_tree (chain_of c) us) v) (tys_back (map ty_of ts))

pub ruleset fits_laws = (in_U8, in_U16, in_U32, in_U64, in_I8, in_I16, in_I32, in_I64, in_Str, in_Arr, in_keys, in_no_keys, in_null, in_filled, in_State)
