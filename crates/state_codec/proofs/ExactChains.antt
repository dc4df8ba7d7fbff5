-- The body of every chain is read as it is spelled.
use Rattle.state_texts.specs.declared.version.Version.{Version}
use Rattle.std.proofs.Common.{◌≡◌, ℕ, ◌<◌, ◌^◌, Bool, true, List, [], ◌∷◌, ◌++◌, map, length, refl}
use Rattle.std.specs.Prelude.{flat_map}
use Rattle.agg_terms.proofs.Comparing.{rows_order}
use Rattle.agg_terms.proofs.Lists.{trees_back, keyed_back}
use Rattle.agg_terms.specs.Chains.{Chain, Of, If, Array, MapOf, ForEach, OrNull, OrDefault, Distinct, State, Merge, Resample, Ty}
use Rattle.agg_terms.specs.Lists.{Each, Rising}
use Rattle.agg_terms.specs.Order.{compare, compare_rows}
use Rattle.agg_terms.specs.Types.{intervals, first_type, inward, key_type}
use Rattle.agg_terms.specs.Values.{Value, Tree, keyed_tree, rows_tree, slots_tree, keyed_of, slots_of}
use Rattle.state_texts.specs.Spelled.{HasValueText, HasRowText, HasText, IsSpelledChain}
use Rattle.state_texts.specs.Texts.{list_text, value_text, row_text, body}
use Rattle.state_codec.specs.Reading.{kept_at, items_at, list_at, any_length, rises, is_new, value_at, row_at, entry_at, body_at}
use Rattle.state_codec.proofs.Exact.{IsExact, exact_as, exact_made, exact_kept, exact_both, exact_items, exact_list, AllAfter}
use Rattle.state_codec.proofs.Kept.{each_to, each_from, apart_to, apart_from, lt_is}
use Rattle.state_codec.proofs.ExactValues.{exact_value, exact_row}
use Rattle.state_codec.proofs.ExactLeaves.{exact_leaf, exact_rows}

-- ---- entries whose keys rise

abbrev key_of : Value × Tree → Value
key_of e = e.0

abbrev RisesByKey : List (Value × Tree) → Value × Tree → Bool
RisesByKey earlier e = rises compare (map key_of earlier) e.0

module _ (K : Value → Type 0) (V : Tree → Type 0) where
  abbrev Entry : List (Value × Tree) → Value × Tree → Type 0
  Entry earlier e = (K e.0 × (rises compare (map key_of earlier) e.0 ≡ true)) × V e.1

  abbrev Both : Value × Tree → Type 0
  Both e = K e.0 × V e.1

  keys_step : (y : Value × Tree) (ys es : List (Value × Tree)) → AllAfter Entry (y ∷ ys) es → Each Both es × Rising compare (y.0 ∷ map key_of es)
  keys_step y ys [] k = (tt, tt)
  keys_step y ys (e ∷ es) k = let r = keys_step e (y ∷ ys) es k.1 in (((k.0.0.0, k.0.1), r.0), (lt_is (compare y.0 e.0) k.0.0.1, r.1))

  keys_to : (es : List (Value × Tree)) → AllAfter Entry [] es → Each Both es × Rising compare (map key_of es)
  keys_to [] k = (tt, tt)
  keys_to (e ∷ es) k = let r = keys_step e [] es k.1 in (((k.0.0.0, k.0.1), r.0), r.1)

  keys_more : (y : Value × Tree) (ys es : List (Value × Tree)) → Each Both es → Rising compare (y.0 ∷ map key_of es) → AllAfter Entry (y ∷ ys) es
  keys_more y ys [] k s = tt
  keys_more y ys (e ∷ es) k s = (((k.0.0, rw (s.0) refl), k.0.1), keys_more e (y ∷ ys) es k.1 s.1)

  keys_from : (es : List (Value × Tree)) → Each Both es → Rising compare (map key_of es) → AllAfter Entry [] es
  keys_from [] k s = tt
  keys_from (e ∷ es) k s = (((k.0.0, refl), k.0.1), keys_more e [] es k.1 s)

pub exact_body : (v : Version) (whole : ℕ) (c : Chain) (ts : List Ty) → IsSpelledChain c ts → IsExact (body_at v whole c ts) (body v c ts) (HasText v c ts)
exact_body v whole (Of f) ts s = exact_leaf v whole f ts s
exact_body v whole (If c) ts s = exact_body v whole c (inward (If c) ts) s
exact_body v whole (Array c) ts s = exact_body v whole c (inward (Array c) ts) s
exact_body v whole (MapOf c) ts s =
    exact_as (body_at v whole (MapOf c) ts) (body v (MapOf c) ts) (λ t. (es : List (Value × Tree)) × (t ≡ keyed_tree es) × ((length es < 256 ^ 8) × (any_length (length es) ≡ true) × AllAfter (Entry K V) [] es)) (HasText v (MapOf c) ts)
    (λ t p. let k = keys_to K V p.0 p.2.2 in (p.0, p.1, k.0, k.1, p.2.0))
    (λ t p. (p.0, p.1, (p.4, refl, keys_from K V p.0 p.2 p.3)))
    (exact_made keyed_tree keyed_of (list_at whole any_length (entry_at whole key (body_at v whole c us))) (list_text (λ e. value_text key e.0 ++ body v c us e.1)) (λ es. (length es < 256 ^ 8) × (any_length (length es) ≡ true) × AllAfter (Entry K V) [] es)
    (λ es k. keyed_back es)
    (exact_list (entry_at whole key (body_at v whole c us)) (λ e. value_text key e.0 ++ body v c us e.1) (Entry K V)
    (λ e. exact_both (kept_at whole (rises compare (map key_of e)) (value_at whole key)) (value_text key) (λ v. K v × (rises compare (map key_of e) v ≡ true)) (body_at v whole c us) (body v c us) V
    (exact_kept whole (rises compare (map key_of e)) (value_at whole key) (value_text key) K (exact_value whole key s.0)) (exact_body v whole c us s.1))
    whole any_length))
  where
    key : Ty
    key = key_type (first_type ts)

    us : List Ty
    us = inward (MapOf c) ts

    K : Value → Type 0
    K = HasValueText key

    V : Tree → Type 0
    V = HasText v c us
exact_body v whole (ForEach c) ts s =
    exact_as (body_at v whole (ForEach c) ts) (body v (ForEach c) ts) (λ t. (xs : List Tree) × (t ≡ slots_tree xs) × ((length xs < 256 ^ 8) × (any_length (length xs) ≡ true) × AllAfter (λ e. V) [] xs)) (HasText v (ForEach c) ts)
    (λ t p. (p.0, p.1, each_to V [] p.0 p.2.2, p.2.0))
    (λ t p. (p.0, p.1, (p.3, refl, each_from V [] p.0 p.2)))
    (exact_made slots_tree slots_of (list_at whole any_length (λ e. body_at v whole c us)) (list_text (body v c us)) (λ xs. (length xs < 256 ^ 8) × (any_length (length xs) ≡ true) × AllAfter (λ e. V) [] xs)
    (λ xs k. trees_back xs) (exact_list (λ e. body_at v whole c us) (body v c us) (λ e. V) (λ e. exact_body v whole c us s) whole any_length))
  where
    us : List Ty
    us = inward (ForEach c) ts

    V : Tree → Type 0
    V = HasText v c us
exact_body v whole (OrNull c) ts s = exact_body v whole c ts s
exact_body v whole (OrDefault c) ts s = exact_body v whole c ts s
exact_body v whole (Distinct c) ts s =
    exact_as (body_at v whole (Distinct c) ts) (body v (Distinct c) ts) (λ t. (rs : List (List Value)) × (t ≡ rows_tree rs) × ((length rs < 256 ^ 8) × (any_length (length rs) ≡ true) × AllAfter (λ e r. HasRowText ts r × (is_new compare_rows e r ≡ true)) [] rs)) (HasText v (Distinct c) ts)
    (λ t p. let k = apart_to compare_rows rows_order (HasRowText ts) p.0 p.2.2 in (p.0, p.1, k.0, k.1, p.2.0))
    (λ t p. (p.0, p.1, (p.4, refl, apart_from compare_rows rows_order (HasRowText ts) p.0 p.2 p.3)))
    (exact_rows whole (λ e. kept_at whole (is_new compare_rows e) (row_at whole ts)) (row_text ts) (λ e r. HasRowText ts r × (is_new compare_rows e r ≡ true)) (λ e. exact_kept whole (is_new compare_rows e) (row_at whole ts) (row_text ts) (HasRowText ts) (exact_row whole ts s.0)))
exact_body v whole (State c) ts s = exact_body v whole c ts s
exact_body v whole (Merge c) ts s = exact_body v whole c (inward (Merge c) ts) s
exact_body v whole (Resample start end step c) ts s =
    exact_as (body_at v whole (Resample start end step c) ts) (body v (Resample start end step c) ts) (λ t. (xs : List Tree) × (t ≡ slots_tree xs) × ((length xs ≡ n) × AllAfter (λ e. V) [] xs)) (HasText v (Resample start end step c) ts)
    (λ t p. (p.0, p.1, each_to V [] p.0 p.2.1, p.2.0))
    (λ t p. (p.0, p.1, (p.3, each_from V [] p.0 p.2)))
    (exact_made slots_tree slots_of (items_at (λ e. body_at v whole c us) n []) (flat_map (body v c us)) (λ xs. (length xs ≡ n) × AllAfter (λ e. V) [] xs)
    (λ xs k. trees_back xs) (exact_items (λ e. body_at v whole c us) (body v c us) (λ e. V) (λ e. exact_body v whole c us s.1) n))
  where
    us : List Ty
    us = inward (Resample start end step c) ts

    n : ℕ
    n = intervals start end step

    V : Tree → Type 0
    V = HasText v c us
