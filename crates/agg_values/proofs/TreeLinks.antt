-- The trees of a chain, by the chain's kind, for the code's matches.
use Rattle.std.proofs.Common.{◌≡◌, ◌&&◌, ℕ, ℤ, Bool, true, false, Bor, List, [], ◌∷◌, length, map, nat_eq, refl, ap, sym, ◌∙◌}
use Rattle.std.specs.List.{list_all}
use Rattle.agg_terms.specs.Values as family
use Rattle.agg_terms.specs.Lists as lists
use Rattle.agg_terms.specs.Types as types
use Rattle.agg_terms.specs.Order.{compare, compare_rows}
use Rattle.agg_terms.specs.Fitting.{are_apart, fits_plain, fits_row, has_keyed, has_rows, has_slots, is_leaf_tree, is_rising, is_tree}
use Rattle.value_types.specs.declared.leaf.Leaf.{Leaf}
use Rattle.value_types.specs.declared.chain.Chain.{Chain}
use Rattle.value_types.specs.declared.chain.Chain.TheVariants as chain
use Rattle.value_types.specs.declared.ty.Ty.{Ty}
use Rattle.value_types.specs.Folds.{chain_of, leaf_of, ty_of}
use Rattle.value_types.proofs.FoldLaws.{chain_of-Array, chain_of-Distinct, chain_of-ForEach, chain_of-If, chain_of-Leaf, chain_of-MapOf, chain_of-Merge, chain_of-OrDefault, chain_of-OrNull, chain_of-Resample, chain_of-State}
use Rattle.agg_values.specs.declared.links.Peels.{Peels}
use Rattle.agg_values.specs.declared.links.Peels.TheVariants.{Whole, Element, Item}
use Rattle.agg_values.specs.Peels.{peeled, peeled_types}
use Rattle.agg_values.proofs.Inward.{front-map}
use Rattle.agg_values.proofs.TypeKinds.{all_both}

types_of-Element : (outer : Bor Peels) (ts : List Ty) → map types.element (peeled_types outer.now ts) ≡ peeled_types (Element outer) ts
types_of-Element outer [] = refl
types_of-Element outer (t ∷ ts) = ap (λ us. types.element (peeled outer.now (ty_of t)) ∷ us) (types_of-Element outer ts)

types_of-Item : (outer : Bor Peels) (ts : List Ty) → map types.map_part (peeled_types outer.now ts) ≡ peeled_types (Item outer) ts
types_of-Item outer [] = refl
types_of-Item outer (t ∷ ts) = ap (λ us. types.map_part (peeled outer.now (ty_of t)) ∷ us) (types_of-Item outer ts)

-- a test of keys and one of trees are one test of entries
with_keys : (p : family.Value → Bool) (q : family.Tree → Bool) (t : family.Tree) →
    has_keyed (λ es. list_all (λ e. p e.0 && q e.1) es && is_rising compare (map (λ e. e.0) es)) t
    ≡ has_keyed (λ es. list_all (λ e. p e.0) es && is_rising compare (map (λ e. e.0) es)) t && has_keyed (list_all (λ e. q e.1)) t
with_keys p q (family.Keyed es) =
    let l = family.keyed_list es in
    ap (λ b. b && is_rising compare (map (λ e. e.0) l)) (all_both (λ e. p e.0) (λ e. q e.1) l)
    ∙ regroup (list_all (λ e. p e.0) l) (list_all (λ e. q e.1) l) (is_rising compare (map (λ e. e.0) l))
  where
    regroup : (a b c : Bool) → ((a && b) && c) ≡ ((a && c) && b)
    regroup false b c = refl
    regroup true true true = refl
    regroup true true false = refl
    regroup true false true = refl
    regroup true false false = refl
with_keys p q t = refl

-- a test of places and one of how many there are
with_places : (p : family.Tree → Bool) (n : ℕ) (t : family.Tree) →
    has_slots (λ slots. list_all p slots && nat_eq (length slots) n) t ≡ has_slots (λ slots. nat_eq (length slots) n) t && has_slots (list_all p) t
with_places p n (family.Slots slots) = turned (list_all p (family.trees_list slots)) (nat_eq (length (family.trees_list slots)) n)
  where
    turned : (a b : Bool) → (a && b) ≡ (b && a)
    turned true true = refl
    turned true false = refl
    turned false true = refl
    turned false false = refl
with_places p n t = refl

module _ (c : Chain) (ts : List Ty) (t : family.Tree) (peels : Peels) where
  pub in_leaf : (f : Leaf) → c ≡ chain.Leaf f → is_tree (chain_of c) (peeled_types peels ts) t ≡ is_leaf_tree (leaf_of f) (peeled_types peels ts) t
  in_leaf f e = ap (λ c. is_tree c (peeled_types peels ts) t) (ap chain_of e ∙ chain_of-Leaf f)

  pub in_if : (of : Chain) → c ≡ chain.If of → is_tree (chain_of c) (peeled_types peels ts) t ≡ is_tree (chain_of of) (peeled_types peels (lists.front ts)) t
  in_if of e = ap (λ c. is_tree c (peeled_types peels ts) t) (ap chain_of e ∙ chain_of-If of) ∙ ap (λ us. is_tree (chain_of of) us t) (front-map (λ u. peeled peels (ty_of u)) ts)

  pub in_or_null : (of : Chain) → c ≡ chain.OrNull of → is_tree (chain_of c) (peeled_types peels ts) t ≡ is_tree (chain_of of) (peeled_types peels ts) t
  in_or_null of e = ap (λ c. is_tree c (peeled_types peels ts) t) (ap chain_of e ∙ chain_of-OrNull of)

  pub in_or_default : (of : Chain) → c ≡ chain.OrDefault of → is_tree (chain_of c) (peeled_types peels ts) t ≡ is_tree (chain_of of) (peeled_types peels ts) t
  in_or_default of e = ap (λ c. is_tree c (peeled_types peels ts) t) (ap chain_of e ∙ chain_of-OrDefault of)

  pub in_state : (of : Chain) → c ≡ chain.State of → is_tree (chain_of c) (peeled_types peels ts) t ≡ is_tree (chain_of of) (peeled_types peels ts) t
  in_state of e = ap (λ c. is_tree c (peeled_types peels ts) t) (ap chain_of e ∙ chain_of-State of)

  pub in_distinct : (of : Chain) → c ≡ chain.Distinct of →
      is_tree (chain_of c) (peeled_types peels ts) t ≡ has_rows (λ rs. list_all (fits_row (peeled_types peels ts)) rs && are_apart compare_rows rs) t
  in_distinct of e = ap (λ c. is_tree c (peeled_types peels ts) t) (ap chain_of e ∙ chain_of-Distinct of)

  pub in_merge : (of : Chain) (args : List Ty) → c ≡ chain.Merge of → map ty_of args ≡ types.state_args (types.first_type (peeled_types peels ts)) →
      is_tree (chain_of c) (peeled_types peels ts) t ≡ is_tree (chain_of of) (peeled_types Whole args) t
  in_merge of args e f = ap (λ c. is_tree c (peeled_types peels ts) t) (ap chain_of e ∙ chain_of-Merge of) ∙ ap (λ us. is_tree (chain_of of) us t) (sym f)

  module _ (start end : ℤ) (step : ℕ) (of : Chain) where
    places : c ≡ chain.Resample start end step of →
        is_tree (chain_of c) (peeled_types peels ts) t
        ≡ has_slots (λ slots. nat_eq (length slots) (types.intervals start end step)) t && has_slots (list_all (is_tree (chain_of of) (peeled_types peels (lists.front ts)))) t
    places e =
        ap (λ c. is_tree c (peeled_types peels ts) t) (ap chain_of e ∙ chain_of-Resample of start end step)
        ∙ with_places (is_tree (chain_of of) (lists.front (peeled_types peels ts))) (types.intervals start end step) t
        ∙ ap (λ us. has_slots (λ slots. nat_eq (length slots) (types.intervals start end step)) t && has_slots (list_all (is_tree (chain_of of) us)) t)
        (front-map (λ u. peeled peels (ty_of u)) ts)

    pub in_resample : c ≡ chain.Resample start end step of → has_slots (λ slots. nat_eq (length slots) (types.intervals start end step)) t ≡ true →
        is_tree (chain_of c) (peeled_types peels ts) t ≡ has_slots (list_all (is_tree (chain_of of) (peeled_types peels (lists.front ts)))) t
    in_resample e h = places e ∙ ap (λ b. b && has_slots (list_all (is_tree (chain_of of) (peeled_types peels (lists.front ts)))) t) h

    pub in_no_resample : c ≡ chain.Resample start end step of → has_slots (λ slots. nat_eq (length slots) (types.intervals start end step)) t ≡ false →
        is_tree (chain_of c) (peeled_types peels ts) t ≡ false
    in_no_resample e h = places e ∙ ap (λ b. b && has_slots (list_all (is_tree (chain_of of) (peeled_types peels (lists.front ts)))) t) h

module _ (c of : Chain) (ts : List Ty) (t : family.Tree) (outer : Bor Peels) where
  pub in_array : c ≡ chain.Array of → is_tree (chain_of c) (peeled_types outer.now ts) t ≡ is_tree (chain_of of) (peeled_types (Element outer) ts) t
  in_array e = ap (λ c. is_tree c (peeled_types outer.now ts) t) (ap chain_of e ∙ chain_of-Array of) ∙ ap (λ us. is_tree (chain_of of) us t) (types_of-Element outer ts)

  pub in_for_each : c ≡ chain.ForEach of → is_tree (chain_of c) (peeled_types outer.now ts) t ≡ has_slots (list_all (is_tree (chain_of of) (peeled_types (Element outer) ts))) t
  in_for_each e =
      ap (λ c. is_tree c (peeled_types outer.now ts) t) (ap chain_of e ∙ chain_of-ForEach of)
      ∙ ap (λ us. has_slots (list_all (is_tree (chain_of of) us)) t) (types_of-Element outer ts)

  abbrev keys : Bool
  keys =
      has_keyed (λ es. list_all (λ e. fits_plain (types.key_type (types.first_type (peeled_types outer.now ts))) e.0) es && is_rising compare (map (λ e. e.0) es)) t

  map_parts : c ≡ chain.MapOf of → is_tree (chain_of c) (peeled_types outer.now ts) t ≡ keys && has_keyed (list_all (λ e. is_tree (chain_of of) (peeled_types (Item outer) ts) e.1)) t
  map_parts e =
      ap (λ c. is_tree c (peeled_types outer.now ts) t) (ap chain_of e ∙ chain_of-MapOf of)
      ∙ with_keys (fits_plain (types.key_type (types.first_type (peeled_types outer.now ts)))) (is_tree (chain_of of) (map types.map_part (peeled_types outer.now ts))) t
      ∙ ap (λ us. keys && has_keyed (list_all (λ e. is_tree (chain_of of) us e.1)) t) (types_of-Item outer ts)

  pub in_map : c ≡ chain.MapOf of → keys ≡ true → is_tree (chain_of c) (peeled_types outer.now ts) t ≡ has_keyed (list_all (λ e. is_tree (chain_of of) (peeled_types (Item outer) ts) e.1)) t
  in_map e h = map_parts e ∙ ap (λ b. b && has_keyed (list_all (λ e. is_tree (chain_of of) (peeled_types (Item outer) ts) e.1)) t) h

  pub in_no_map : c ≡ chain.MapOf of → keys ≡ false → is_tree (chain_of c) (peeled_types outer.now ts) t ≡ false
  in_no_map e h = map_parts e ∙ ap (λ b. b && has_keyed (list_all (λ e. is_tree (chain_of of) (peeled_types (Item outer) ts) e.1)) t) h

pub ruleset link_laws = (in_leaf, in_if, in_or_null, in_or_default, in_state, in_distinct, in_merge, in_resample, in_no_resample, in_array, in_for_each, in_map, in_no_map)
