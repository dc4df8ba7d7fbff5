-- The texts of types, part by part.
use Rattle.std.proofs.Common.{◌≡◌, ℕ, ◌+◌, ◌<◌, List, ◌++◌, length, drop, get_or, codes, map, sym, ap, ◌∙◌, append_assoc, add-one}
use Rattle.std.proofs.Math.Seq.{drop-cons}
use Rattle.agg_terms.specs.Chains as terms
use Rattle.value_types.specs.declared.chain.Chain.{Chain}
use Rattle.value_types.specs.declared.ty.Ty.{Ty}
use Rattle.value_types.specs.declared.ty.Ty.TheVariants as code
use Rattle.value_types.specs.declared.ty.Ty.TheOpen.{Ty-F}
use Rattle.value_types.specs.declared.ty.Ty.TheFolds.{fold-roll-Ty}
use Rattle.value_types.specs.Folds.{chain_of, ty_of, ty_step}
use Rattle.type_texts.specs.TypeNames.{chain_text, ty_text, tys_text}

pub array_text : (t : Ty) → ty_text (ty_of (code.Arr t)) ≡ codes "Array(" ++ (ty_text (ty_of t) ++ codes ")")
array_text t = ap ty_text (ap ty_of (sym (code.rolls-Arr t)) ∙ fold-roll-Ty terms.Ty ty_step (Ty-F.Arr t))

pub nullable_text : (t : Ty) → ty_text (ty_of (code.Nullable t)) ≡ codes "Nullable(" ++ (ty_text (ty_of t) ++ codes ")")
nullable_text t = ap ty_text (ap ty_of (sym (code.rolls-Nullable t)) ∙ fold-roll-Ty terms.Ty ty_step (Ty-F.Nullable t))

pub map_text : (k t : Ty) → ty_text (ty_of (code.Map k t)) ≡ codes "Map(" ++ (ty_text (ty_of k) ++ (codes ", " ++ (ty_text (ty_of t) ++ codes ")")))
map_text k t = ap ty_text (ap ty_of (sym (code.rolls-Map k t)) ∙ fold-roll-Ty terms.Ty ty_step (Ty-F.Map k t))

-- types, each behind a comma, and the bracket that closes them
abbrev pub listed : List Ty → List ℕ
listed types = tys_text (terms.tys (map ty_of types))

pub state_text : (c : Chain) (types : List Ty) → ty_text (ty_of (code.State c types)) ≡ codes "AggregateFunction(" ++ (chain_text (chain_of c) ++ listed types)
state_text c types = ap ty_text (ap ty_of (sym (code.rolls-State c types)) ∙ fold-roll-Ty terms.Ty ty_step (Ty-F.State c types))

pub one_listed : (types : List Ty) (i : ℕ) (d : Ty) (text one next : List ℕ) → i < length types → one ≡ text ++ codes ", " → next ≡ one ++ ty_text (ty_of (get_or types i d)) → next ++ listed (drop (i + 1) types) ≡ text ++ listed (drop i types)
one_listed types i d text one next h first second =
    let front : listed (drop i types) ≡ codes ", " ++ (ty_text (ty_of (get_or types i d)) ++ listed (drop (i + 1) types)) = rw (drop-cons types i d, add-one) in
    ap (λ t. t ++ listed (drop (i + 1) types)) (second ∙ ap (λ t. t ++ ty_text (ty_of (get_or types i d))) first ∙ append_assoc text (codes ", ") (ty_text (ty_of (get_or types i d))))
    ∙ append_assoc text (codes ", " ++ ty_text (ty_of (get_or types i d))) (listed (drop (i + 1) types)) ∙ ap (λ t. text ++ t) (sym front)
