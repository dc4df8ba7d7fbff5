-- What is written of a chain, by its kind in the code.
use Rattle.std.proofs.Common.{◌≡◌, ℕ, ℤ, Bor, List, [], ◌∷◌, ◌++◌, map, length, refl, ap, ap₂, sym, ◌∙◌}
use Rattle.std.proofs.lemmas.List.{length-map}
use Rattle.std.specs.Prelude.{flat_map}
use Rattle.agg_terms.specs.Chains as terms
use Rattle.agg_terms.specs.Values as family
use Rattle.agg_terms.specs.Lists as lists
use Rattle.agg_terms.specs.Types as types
use Rattle.value_types.specs.declared.leaf.Leaf.{Leaf}
use Rattle.value_types.specs.declared.chain.Chain.{Chain}
use Rattle.value_types.specs.declared.chain.Chain.TheVariants as chain
use Rattle.value_types.specs.declared.ty.Ty.{Ty}
use Rattle.value_types.specs.declared.value.KeyedTree.{KeyedTree}
use Rattle.value_types.specs.declared.value.Tree.{Tree}
use Rattle.value_types.specs.Folds.{chain_of, entry_of, leaf_of, tree_of, ty_of}
use Rattle.value_types.proofs.FoldLaws.{chain_of-Array, chain_of-Distinct, chain_of-ForEach, chain_of-If, chain_of-Leaf, chain_of-MapOf, chain_of-Merge, chain_of-OrDefault, chain_of-OrNull, chain_of-Resample, chain_of-State}
use Rattle.agg_values.specs.declared.links.Peels.{Peels}
use Rattle.agg_values.specs.declared.links.Peels.TheVariants.{Whole, Element, Item}
use Rattle.agg_values.specs.Peels.{peeled, peeled_types}
use Rattle.agg_values.proofs.Inward.{front-map}
use Rattle.state_texts.specs.declared.version.Version.{Version}
use Rattle.state_texts.specs.Figures.{high}
use Rattle.state_texts.specs.proving.Writing.{entry_text}
use Rattle.state_texts.specs.Texts.{body, leaf_text, list_text, row_text}

peeled_types-Element : (outer : Bor Peels) (ts : List Ty) → map types.element (peeled_types outer.now ts) ≡ peeled_types (Element outer) ts
peeled_types-Element outer [] = refl
peeled_types-Element outer (t ∷ ts) = ap (λ us. types.element (peeled outer.now (ty_of t)) ∷ us) (peeled_types-Element outer ts)

module _ (v : Version) (c : Chain) (ts : List Ty) (peels : Peels) (t : family.Tree) where
  is_chain : (d : terms.Chain) → chain_of c ≡ d → body v (chain_of c) (peeled_types peels ts) t ≡ body v d (peeled_types peels ts) t
  is_chain d e = ap (λ c. body v c (peeled_types peels ts) t) e

  pub in_leaf : (f : Leaf) → c ≡ chain.Leaf f → body v (chain_of c) (peeled_types peels ts) t ≡ leaf_text v (leaf_of f) (peeled_types peels ts) t
  in_leaf f e = is_chain (terms.Of (leaf_of f)) (ap chain_of e ∙ chain_of-Leaf f)

  pub in_if : (of : Chain) → c ≡ chain.If of → body v (chain_of c) (peeled_types peels ts) t ≡ body v (chain_of of) (peeled_types peels (lists.front ts)) t
  in_if of e = is_chain (terms.If (chain_of of)) (ap chain_of e ∙ chain_of-If of) ∙ ap (λ us. body v (chain_of of) us t) (front-map (λ u. peeled peels (ty_of u)) ts)

  pub in_or_null : (of : Chain) → c ≡ chain.OrNull of → body v (chain_of c) (peeled_types peels ts) t ≡ body v (chain_of of) (peeled_types peels ts) t
  in_or_null of e = is_chain (terms.OrNull (chain_of of)) (ap chain_of e ∙ chain_of-OrNull of)

  pub in_or_default : (of : Chain) → c ≡ chain.OrDefault of → body v (chain_of c) (peeled_types peels ts) t ≡ body v (chain_of of) (peeled_types peels ts) t
  in_or_default of e = is_chain (terms.OrDefault (chain_of of)) (ap chain_of e ∙ chain_of-OrDefault of)

  pub in_state : (of : Chain) → c ≡ chain.State of → body v (chain_of c) (peeled_types peels ts) t ≡ body v (chain_of of) (peeled_types peels ts) t
  in_state of e = is_chain (terms.State (chain_of of)) (ap chain_of e ∙ chain_of-State of)

  pub in_distinct : (of : Chain) → c ≡ chain.Distinct of →
      body v (chain_of c) (peeled_types peels ts) t
      ≡ list_text (row_text (peeled_types peels ts)) (family.rows_of t)
  in_distinct of e = is_chain (terms.Distinct (chain_of of)) (ap chain_of e ∙ chain_of-Distinct of)

  pub in_merge : (of : Chain) (args : List Ty) → c ≡ chain.Merge of → map ty_of args ≡ types.state_args (types.first_type (peeled_types peels ts)) →
      body v (chain_of c) (peeled_types peels ts) t ≡ body v (chain_of of) (peeled_types Whole args) t
  in_merge of args e f = is_chain (terms.Merge (chain_of of)) (ap chain_of e ∙ chain_of-Merge of) ∙ ap (λ us. body v (chain_of of) us t) (sym f)

  pub in_resample : (start end : ℤ) (step : ℕ) (of : Chain) → c ≡ chain.Resample start end step of →
      body v (chain_of c) (peeled_types peels ts) t
      ≡ flat_map (body v (chain_of of) (peeled_types peels (lists.front ts))) (family.slots_of t)
  in_resample start end step of e =
      is_chain (terms.Resample start end step (chain_of of)) (ap chain_of e ∙ chain_of-Resample of start end step)
      ∙ ap (λ us. flat_map (body v (chain_of of) us) (family.slots_of t)) (front-map (λ u. peeled peels (ty_of u)) ts)

module _ (v : Version) (c of : Chain) (ts : List Ty) (outer : Bor Peels) (t : family.Tree) where
  pub in_array : c ≡ chain.Array of → body v (chain_of c) (peeled_types outer.now ts) t ≡ body v (chain_of of) (peeled_types (Element outer) ts) t
  in_array e = ap (λ c. body v c (peeled_types outer.now ts) t) (ap chain_of e ∙ chain_of-Array of) ∙ ap (λ us. body v (chain_of of) us t) (peeled_types-Element outer ts)

  pub in_for_each : c ≡ chain.ForEach of →
      body v (chain_of c) (peeled_types outer.now ts) t
      ≡ high 8 (length (family.slots_of t)) ++ flat_map (body v (chain_of of) (peeled_types (Element outer) ts)) (family.slots_of t)
  in_for_each e =
      ap (λ c. body v c (peeled_types outer.now ts) t) (ap chain_of e ∙ chain_of-ForEach of)
      ∙ ap (λ us. high 8 (length (family.slots_of t)) ++ flat_map (body v (chain_of of) us) (family.slots_of t)) (peeled_types-Element outer ts)

peeled_types-Item : (outer : Bor Peels) (ts : List Ty) → map types.map_part (peeled_types outer.now ts) ≡ peeled_types (Item outer) ts
peeled_types-Item outer [] = refl
peeled_types-Item outer (t ∷ ts) = ap (λ us. types.map_part (peeled outer.now (ty_of t)) ∷ us) (peeled_types-Item outer ts)

pub in_map : (v : Version) (c of : Chain) (ts : List Ty) (outer : Bor Peels) (t : family.Tree) (key : Ty) → c ≡ chain.MapOf of → ty_of key ≡ types.key_type (types.first_type (peeled_types outer.now ts)) →
    body v (chain_of c) (peeled_types outer.now ts) t
    ≡ high 8 (length (family.keyed_of t)) ++ flat_map (entry_text (ty_of key) (body v (chain_of of) (peeled_types (Item outer) ts))) (family.keyed_of t)
in_map v c of ts outer t key e k =
    ap (λ c. body v c (peeled_types outer.now ts) t) (ap chain_of e ∙ chain_of-MapOf of)
    ∙ ap₂ (λ u us. high 8 (length (family.keyed_of t)) ++ flat_map (entry_text u (body v (chain_of of) us)) (family.keyed_of t)) (sym k) (peeled_types-Item outer ts)

-- the pieces of a list of states, as the code has it
pub each_put : (v : Version) (c of : Chain) (ts : List Ty) (outer : Bor Peels) (t : family.Tree) (slots : List Tree) → c ≡ chain.ForEach of → map tree_of slots ≡ family.slots_of t →
    body v (chain_of c) (peeled_types outer.now ts) t ≡ high 8 (length slots) ++ flat_map (body v (chain_of of) (peeled_types (Element outer) ts)) (map tree_of slots)
each_put v c of ts outer t slots e same =
    in_for_each v c of ts outer t e
    ∙ sym (ap (λ l. high 8 (length l) ++ flat_map (body v (chain_of of) (peeled_types (Element outer) ts)) l) same)
    ∙ ap (λ n. high 8 n ++ flat_map (body v (chain_of of) (peeled_types (Element outer) ts)) (map tree_of slots)) (length-map slots tree_of)

pub keyed_put : (v : Version) (c of : Chain) (ts : List Ty) (outer : Bor Peels) (t : family.Tree) (key : Ty) (entries : List KeyedTree) → c ≡ chain.MapOf of →
    ty_of key ≡ types.key_type (types.first_type (peeled_types outer.now ts)) → map entry_of entries ≡ family.keyed_of t →
    body v (chain_of c) (peeled_types outer.now ts) t
    ≡ high 8 (length entries) ++ flat_map (entry_text (ty_of key) (body v (chain_of of) (peeled_types (Item outer) ts))) (map entry_of entries)
keyed_put v c of ts outer t key entries e k same =
    let text = entry_text (ty_of key) (body v (chain_of of) (peeled_types (Item outer) ts)) in
    in_map v c of ts outer t key e k
    ∙ sym (ap (λ l. high 8 (length l) ++ flat_map text l) same)
    ∙ ap (λ n. high 8 n ++ flat_map text (map entry_of entries)) (length-map entries entry_of)

pub ruleset link_laws = (in_leaf, in_if, in_or_null, in_or_default, in_state, in_distinct, in_merge, in_map, in_resample, in_array, in_for_each)
