-- What is read of a chain, by its kind in the code.
use Rattle.std.proofs.Common.{◌≡◌, ℕ, ℤ, Bor, List, [], ◌∷◌, map, refl, ap, ap₂, sym, ◌∙◌}
use Rattle.agg_terms.specs.Chains as terms
use Rattle.agg_terms.specs.Values as family
use Rattle.agg_terms.specs.Lists as lists
use Rattle.agg_terms.specs.Types as types
use Rattle.agg_terms.specs.Order.{compare_rows}
use Rattle.value_types.specs.declared.leaf.Leaf.{Leaf}
use Rattle.value_types.specs.declared.chain.Chain.{Chain}
use Rattle.value_types.specs.declared.chain.Chain.TheVariants as chain
use Rattle.value_types.specs.declared.ty.Ty.{Ty}
use Rattle.value_types.specs.Folds.{chain_of, leaf_of, ty_of}
use Rattle.value_types.proofs.FoldLaws.{chain_of-Array, chain_of-Distinct, chain_of-ForEach, chain_of-If, chain_of-Leaf, chain_of-MapOf, chain_of-Merge, chain_of-OrDefault, chain_of-OrNull, chain_of-Resample, chain_of-State}
use Rattle.agg_values.specs.declared.links.Peels.{Peels}
use Rattle.agg_values.specs.declared.links.Peels.TheVariants.{Whole, Element, Item}
use Rattle.agg_values.specs.Peels.{peeled, peeled_types}
use Rattle.agg_values.proofs.Inward.{front-map}
use Rattle.state_texts.specs.declared.version.Version.{Version}
use Rattle.state_codec.specs.Reading.{any_length, body_at, entry_at, is_new, items_at, kept_at, leaf_at, list_at, made, row_at}

peeled_types-Element : (outer : Bor Peels) (ts : List Ty) → map types.element (peeled_types outer.now ts) ≡ peeled_types (Element outer) ts
peeled_types-Element outer [] = refl
peeled_types-Element outer (t ∷ ts) = ap (λ us. types.element (peeled outer.now (ty_of t)) ∷ us) (peeled_types-Element outer ts)

module _ (v : Version) (w : ℕ) (c : Chain) (ts : List Ty) (peels : Peels) (bytes : List ℕ) where
  is_chain : (d : terms.Chain) → chain_of c ≡ d → body_at v w (chain_of c) (peeled_types peels ts) bytes ≡ body_at v w d (peeled_types peels ts) bytes
  is_chain d e = ap (λ c. body_at v w c (peeled_types peels ts) bytes) e

  pub in_leaf : (f : Leaf) → c ≡ chain.Leaf f → body_at v w (chain_of c) (peeled_types peels ts) bytes ≡ leaf_at v w (leaf_of f) (peeled_types peels ts) bytes
  in_leaf f e = is_chain (terms.Of (leaf_of f)) (ap chain_of e ∙ chain_of-Leaf f)

  pub in_if : (of : Chain) → c ≡ chain.If of → body_at v w (chain_of c) (peeled_types peels ts) bytes ≡ body_at v w (chain_of of) (peeled_types peels (lists.front ts)) bytes
  in_if of e = is_chain (terms.If (chain_of of)) (ap chain_of e ∙ chain_of-If of) ∙ ap (λ us. body_at v w (chain_of of) us bytes) (front-map (λ u. peeled peels (ty_of u)) ts)

  pub in_or_null : (of : Chain) → c ≡ chain.OrNull of → body_at v w (chain_of c) (peeled_types peels ts) bytes ≡ body_at v w (chain_of of) (peeled_types peels ts) bytes
  in_or_null of e = is_chain (terms.OrNull (chain_of of)) (ap chain_of e ∙ chain_of-OrNull of)

  pub in_or_default : (of : Chain) → c ≡ chain.OrDefault of → body_at v w (chain_of c) (peeled_types peels ts) bytes ≡ body_at v w (chain_of of) (peeled_types peels ts) bytes
  in_or_default of e = is_chain (terms.OrDefault (chain_of of)) (ap chain_of e ∙ chain_of-OrDefault of)

  pub in_state : (of : Chain) → c ≡ chain.State of → body_at v w (chain_of c) (peeled_types peels ts) bytes ≡ body_at v w (chain_of of) (peeled_types peels ts) bytes
  in_state of e = is_chain (terms.State (chain_of of)) (ap chain_of e ∙ chain_of-State of)

  pub in_distinct : (of : Chain) → c ≡ chain.Distinct of →
      body_at v w (chain_of c) (peeled_types peels ts) bytes
      ≡ made family.rows_tree (list_at w any_length (λ earlier. kept_at w (is_new compare_rows earlier) (row_at w (peeled_types peels ts))) bytes)
  in_distinct of e = is_chain (terms.Distinct (chain_of of)) (ap chain_of e ∙ chain_of-Distinct of)

  pub in_merge : (of : Chain) (args : List Ty) → c ≡ chain.Merge of → map ty_of args ≡ types.state_args (types.first_type (peeled_types peels ts)) →
      body_at v w (chain_of c) (peeled_types peels ts) bytes ≡ body_at v w (chain_of of) (peeled_types Whole args) bytes
  in_merge of args e f = is_chain (terms.Merge (chain_of of)) (ap chain_of e ∙ chain_of-Merge of) ∙ ap (λ us. body_at v w (chain_of of) us bytes) (sym f)

  pub in_resample : (start end : ℤ) (step : ℕ) (of : Chain) → c ≡ chain.Resample start end step of →
      body_at v w (chain_of c) (peeled_types peels ts) bytes
      ≡ made family.slots_tree (items_at (λ earlier. body_at v w (chain_of of) (peeled_types peels (lists.front ts))) (types.intervals start end step) [] bytes)
  in_resample start end step of e =
      is_chain (terms.Resample start end step (chain_of of)) (ap chain_of e ∙ chain_of-Resample of start end step)
      ∙ ap (λ us. made family.slots_tree (items_at (λ earlier. body_at v w (chain_of of) us) (types.intervals start end step) [] bytes)) (front-map (λ u. peeled peels (ty_of u)) ts)

  -- as the code counts the places and finds the types
  pub in_places : (start end : ℤ) (step : ℕ) (of : Chain) (fs : List Ty) (count : ℕ) → c ≡ chain.Resample start end step of → fs ≡ lists.front ts → count ≡ types.intervals start end step →
      body_at v w (chain_of c) (peeled_types peels ts) bytes
      ≡ made family.slots_tree (items_at (λ earlier. body_at v w (chain_of of) (peeled_types peels fs)) count [] bytes)
  in_places start end step of fs count e f k =
      in_resample start end step of e
      ∙ sym (ap₂ (λ us n. made family.slots_tree (items_at (λ earlier. body_at v w (chain_of of) (peeled_types peels us)) n [] bytes)) f k)

module _ (v : Version) (w : ℕ) (c of : Chain) (ts : List Ty) (outer : Bor Peels) (bytes : List ℕ) where
  pub in_array : c ≡ chain.Array of → body_at v w (chain_of c) (peeled_types outer.now ts) bytes ≡ body_at v w (chain_of of) (peeled_types (Element outer) ts) bytes
  in_array e = ap (λ c. body_at v w c (peeled_types outer.now ts) bytes) (ap chain_of e ∙ chain_of-Array of) ∙ ap (λ us. body_at v w (chain_of of) us bytes) (peeled_types-Element outer ts)

  pub in_for_each : c ≡ chain.ForEach of →
      body_at v w (chain_of c) (peeled_types outer.now ts) bytes
      ≡ made family.slots_tree (list_at w any_length (λ earlier. body_at v w (chain_of of) (peeled_types (Element outer) ts)) bytes)
  in_for_each e =
      ap (λ c. body_at v w c (peeled_types outer.now ts) bytes) (ap chain_of e ∙ chain_of-ForEach of)
      ∙ ap (λ us. made family.slots_tree (list_at w any_length (λ earlier. body_at v w (chain_of of) us) bytes)) (peeled_types-Element outer ts)

peeled_types-Item : (outer : Bor Peels) (ts : List Ty) → map types.map_part (peeled_types outer.now ts) ≡ peeled_types (Item outer) ts
peeled_types-Item outer [] = refl
peeled_types-Item outer (t ∷ ts) = ap (λ us. types.map_part (peeled outer.now (ty_of t)) ∷ us) (peeled_types-Item outer ts)

pub in_map : (v : Version) (w : ℕ) (c of : Chain) (ts : List Ty) (outer : Bor Peels) (bytes : List ℕ) (key : Ty) → c ≡ chain.MapOf of → ty_of key ≡ types.key_type (types.first_type (peeled_types outer.now ts)) →
    body_at v w (chain_of c) (peeled_types outer.now ts) bytes
    ≡ made family.keyed_tree (list_at w any_length (entry_at w (ty_of key) (body_at v w (chain_of of) (peeled_types (Item outer) ts))) bytes)
in_map v w c of ts outer bytes key e k =
    ap (λ c. body_at v w c (peeled_types outer.now ts) bytes) (ap chain_of e ∙ chain_of-MapOf of)
    ∙ ap₂ (λ u us. made family.keyed_tree (list_at w any_length (entry_at w u (body_at v w (chain_of of) us)) bytes)) (sym k) (peeled_types-Item outer ts)

pub ruleset link_laws = (in_leaf, in_if, in_or_null, in_or_default, in_state, in_distinct, in_merge, in_map, in_resample, in_array, in_for_each)
