-- What fits a type, by the type's kind, for the code's matches.
use Rattle.std.proofs.Common.{◌≡◌, ◌&&◌, ◌||◌, Bool, true, false, List, [], ◌∷◌, refl, ap, ◌∙◌}
use Rattle.std.specs.List.{list_all}
use Rattle.agg_terms.specs.Values as family
use Rattle.agg_terms.specs.Fitting.{fits_plain, has_entries, has_items, is_nil}
use Rattle.value_types.specs.declared.ty.Ty.{Ty}
use Rattle.value_types.specs.declared.ty.Ty.TheVariants as ty
use Rattle.value_types.specs.Folds.{ty_of}
use Rattle.value_types.proofs.FoldLaws.{ty_of-Arr, ty_of-Map, ty_of-Nullable}

pub all_both : {X : Type 0} (p q : X → Bool) (xs : List X) → list_all (λ x. p x && q x) xs ≡ list_all p xs && list_all q xs
all_both p q [] = refl
all_both p q (x ∷ xs) = ap (λ b. (p x && q x) && b) (all_both p q xs) ∙ regroup (p x) (q x) (list_all p xs) (list_all q xs)
  where
    regroup : (a b c d : Bool) → ((a && b) && (c && d)) ≡ ((a && c) && (b && d))
    regroup true true c d = refl
    regroup true false true d = refl
    regroup true false false d = refl
    regroup false b c d = refl

pub entries_both : (p q : family.Value → Bool) (v : family.Value) → has_entries (list_all (λ e. p e.0 && q e.1)) v ≡ has_entries (list_all (λ e. p e.0)) v && has_entries (list_all (λ e. q e.1)) v
entries_both p q (family.Pairs es) = all_both (λ e. p e.0) (λ e. q e.1) (family.entries_list es)
entries_both p q v = refl

module _ (t : Ty) (v : family.Value) where
  pub plain_Arr : (item : Ty) → t ≡ ty.Arr item → fits_plain (ty_of t) v ≡ has_items (list_all (fits_plain (ty_of item))) v
  plain_Arr item e = ap (λ u. fits_plain u v) (ap ty_of e ∙ ty_of-Arr item)

  plain_Map : (key item : Ty) → t ≡ ty.Map key item → fits_plain (ty_of t) v ≡ has_entries (list_all (λ e. fits_plain (ty_of key) e.0)) v && has_entries (list_all (λ e. fits_plain (ty_of item) e.1)) v
  plain_Map key item e = ap (λ u. fits_plain u v) (ap ty_of e ∙ ty_of-Map key item) ∙ entries_both (fits_plain (ty_of key)) (fits_plain (ty_of item)) v

  pub plain_keys : (key item : Ty) → t ≡ ty.Map key item → has_entries (list_all (λ e. fits_plain (ty_of key) e.0)) v ≡ true → fits_plain (ty_of t) v ≡ has_entries (list_all (λ e. fits_plain (ty_of item) e.1)) v
  plain_keys key item e h = plain_Map key item e ∙ ap (λ b. b && has_entries (list_all (λ e. fits_plain (ty_of item) e.1)) v) h

  pub plain_no_keys : (key item : Ty) → t ≡ ty.Map key item → has_entries (list_all (λ e. fits_plain (ty_of key) e.0)) v ≡ false → fits_plain (ty_of t) v ≡ false
  plain_no_keys key item e h = plain_Map key item e ∙ ap (λ b. b && has_entries (list_all (λ e. fits_plain (ty_of item) e.1)) v) h

  pub plain_null : (of : Ty) → t ≡ ty.Nullable of → is_nil v ≡ true → fits_plain (ty_of t) v ≡ true
  plain_null of e h = ap (λ u. fits_plain u v) (ap ty_of e ∙ ty_of-Nullable of) ∙ ap (λ b. b || fits_plain (ty_of of) v) h

  pub plain_filled : (of : Ty) → t ≡ ty.Nullable of → is_nil v ≡ false → fits_plain (ty_of t) v ≡ fits_plain (ty_of of) v
  plain_filled of e h = ap (λ u. fits_plain u v) (ap ty_of e ∙ ty_of-Nullable of) ∙ ap (λ b. b || fits_plain (ty_of of) v) h

pub ruleset plain_laws = (plain_Arr, plain_keys, plain_no_keys, plain_null, plain_filled)
