-- What is read of a type, a function and a chain, by their kind in the code.
use Rattle.std.proofs.Common.{◌≡◌, ◌^◌, ℕ, pos, List, Option, length, nat_lt, ap, sym, ◌∙◌}
use Rattle.std.proofs.lemmas.List.{length-map}
use Rattle.agg_terms.specs.Chains as terms
use Rattle.agg_terms.specs.Chains.{MapTy}
use Rattle.agg_terms.specs.Types.{bare, first_type}
use Rattle.agg_terms.specs.Values.{Word, values_tree}
use Rattle.agg_values.specs.declared.links.Peels.{Peels}
use Rattle.agg_values.specs.Peels.{peeled, peeled_types}
use Rattle.state_texts.specs.declared.version.Version.{Version}
use Rattle.value_types.specs.declared.leaf.Leaf.{Leaf}
use Rattle.value_types.specs.declared.leaf.Leaf.TheVariants as leaf
use Rattle.value_types.specs.declared.ty.Ty.{Ty}
use Rattle.value_types.specs.declared.ty.Ty.TheVariants.{Map}
use Rattle.value_types.specs.Folds.{leaf_of, ty_of}
use Rattle.value_types.proofs.FoldLaws.{ty_of-Map}
use Rattle.state_codec.specs.Reading.{flag_at, kept_at, leaf_at, list_at, made, map_at, number_at, or_empty, up_to, value_at}

pub map_reads : (whole : ℕ) (ty k t : Ty) (bytes : List ℕ) → ty ≡ Map k t → value_at whole (ty_of ty) bytes ≡ map_at whole (ty_of ty) bytes
map_reads whole ty k t bytes e =
    let is : ty_of ty ≡ MapTy (ty_of k) (ty_of t) = ap ty_of e ∙ ty_of-Map k t in
    ap (λ u. value_at whole u bytes) is ∙ sym (ap (λ u. map_at whole u bytes) is)

-- the list of a groupArray
pub group_reads : (v : Version) (whole : ℕ) (f : Leaf) (most : Option ℕ) (T : Ty) (ts : List terms.Ty) (bytes : List ℕ) → f ≡ leaf.GroupArray most → ty_of T ≡ bare (first_type ts)
    → leaf_at v whole (leaf_of f) ts bytes ≡ made values_tree (list_at whole (up_to most) (λ earlier. value_at whole (ty_of T)) bytes)
group_reads v whole f most T ts bytes e g =
    ap (λ l. leaf_at v whole (leaf_of l) ts bytes) e ∙ ap (λ u. made values_tree (list_at whole (up_to most) (λ earlier. value_at whole u) bytes)) (sym g)

-- the mask of a retention
pub retention_reads : (v : Version) (whole : ℕ) (f : Leaf) (peels : Peels) (types : List Ty) (bytes : List ℕ) → f ≡ leaf.Retention
    → leaf_at v whole (leaf_of f) (peeled_types peels types) bytes ≡ made (or_empty (λ m. Word (pos m))) (flag_at whole (kept_at whole (λ m. nat_lt m (2 ^ length types)) (number_at 4)) bytes)
retention_reads v whole f peels types bytes e =
    ap (λ l. leaf_at v whole (leaf_of l) (peeled_types peels types) bytes) e
    ∙ ap (λ n. made (or_empty (λ m. Word (pos m))) (flag_at whole (kept_at whole (λ m. nat_lt m (2 ^ n)) (number_at 4)) bytes)) (length-map types (λ u. peeled peels (ty_of u)))
