-- Equal normal forms mean the same, and stay equal where equal ones are added.
use Rattle.std.proofs.Common.{◌≡◌, ℕ, max, Bool, cond, not, List, [], ◌∷◌, ◌++◌, map, length, refl, sym, ap, ap₂, ◌∙◌}
use Rattle.std.specs.Prelude.{flat_map, filter}
use Rattle.std.proofs.lemmas.List.Concat.{flat_map-append}
use Rattle.std.proofs.lemmas.List.Elements.{filter-append}
use Rattle.std.proofs.lemmas.List.{length-map}
use Rattle.agg_terms.specs.Values.{Value, Nil, Cell, Tree, slots_of, keyed_of, rows_of, slots_tree, keyed_tree, rows_tree, list_value, map_value}
use Rattle.agg_terms.specs.Chains.{Chain, Of, If, Array, MapOf, ForEach, OrNull, OrDefault, Distinct, State, Merge, Resample, Ty}
use Rattle.agg_meaning.specs.Feeds.{Feed}
use Rattle.agg_terms.specs.Lists.{places, some}
use Rattle.agg_meaning.specs.Picks.{when_met, at_place, width, in_interval}
use Rattle.agg_terms.specs.Types.{intervals}
use Rattle.agg_terms.specs.Order.{compare_rows, firsts, before_others}
use Rattle.agg_meaning.specs.Functions.{leaf_normal}
use Rattle.agg_meaning.specs.Results.{leaf_result}
use Rattle.agg_meaning.specs.Feeds.{no_null}
use Rattle.agg_terms.specs.Types.{inward}
use Rattle.agg_meaning.specs.Results.{default, result, can_be_null}
use Rattle.agg_meaning.specs.Suffixes.{at_key, keys_of, unfolded, normal, fed, meaning}
use Rattle.agg_meaning.specs.Feeds.{opened}
use Rattle.agg_meaning.specs.Lawful.{IsSound}
use Rattle.agg_terms.proofs.Generic.{joined_parts, through_parts, map_through}
use Rattle.agg_terms.proofs.Sorting.{steady_joins, firsts_steady}
use Rattle.agg_terms.proofs.Comparing.{rows_order}
use Rattle.agg_terms.proofs.Lists.{trees_back, keyed_back, table_back}
use Rattle.agg_meaning.proofs.LeafLaws.{leaf_joins, leaf_sound, leaf_fed}
use Rattle.agg_meaning.proofs.Links.{length-places, place_covered, width-append, key_covered, keys_joined, some-map, fixed_joined}

pub slots_same : (s t : List Tree) → slots_tree s ≡ slots_tree t → s ≡ t
slots_same s t e = sym (trees_back s) ∙ ap slots_of e ∙ trees_back t

pub keyed_same : (s t : List (Value × Tree)) → keyed_tree s ≡ keyed_tree t → s ≡ t
keyed_same s t e = sym (keyed_back s) ∙ ap keyed_of e ∙ keyed_back t

pub rows_same : (s t : List (List Value)) → rows_tree s ≡ rows_tree t → s ≡ t
rows_same s t e = sym (table_back s) ∙ ap rows_of e ∙ table_back t

-- tables of as many slots
places_same : {X : Type 0} (f g : ℕ → X) (a b : ℕ) → map f (places 0 a) ≡ map g (places 0 b) → places 0 a ≡ places 0 b
places_same f g a b e =
    ap (places 0) (sym (length-map (places 0 a) f ∙ length-places 0 a) ∙ ap length e ∙ (length-map (places 0 b) g ∙ length-places 0 b))

width_joined : {X : Type 0} (A A' B B' : List (List X)) → places 0 (width A) ≡ places 0 (width A') → places 0 (width B) ≡ places 0 (width B') → places 0 (width (A ++ B)) ≡ places 0 (width (A' ++ B'))
width_joined A A' B B' a b =
    ap (places 0) (width-append A B ∙ ap₂ max (one (width A) (width A') a) (one (width B) (width B') b) ∙ sym (width-append A' B'))
  where
    one : (m n : ℕ) → places 0 m ≡ places 0 n → m ≡ n
    one m n e = sym (length-places 0 m) ∙ ap length e ∙ length-places 0 n

-- tables of the same keys
abbrev pub paired : {X : Type 0} → (Value → X) → Value → Value × X
paired f k = (k, f k)

abbrev pub key_part : {X : Type 0} → Value × X → Value
key_part e = e.0

pub table_keys : {X : Type 0} (f : Value → X) (ks : List Value) → map key_part (map (paired f) ks) ≡ ks
table_keys f [] = refl
table_keys f (k ∷ ks) = ap (◌∷◌ k) (table_keys f ks)

pub keys_same : {X : Type 0} (f g : Value → X) (js ks : List Value) → map (paired f) js ≡ map (paired g) ks → js ≡ ks
keys_same f g js ks e = sym (table_keys f js) ∙ ap (map key_part) e ∙ table_keys g ks

pub joins : (c : Chain) (ts : List Ty) (A A' B B' : List (Feed c)) → normal c ts A ≡ normal c ts A' → normal c ts B ≡ normal c ts B' → normal c ts (A ++ B) ≡ normal c ts (A' ++ B')
joins (Of f) ts A A' B B' a b =
    ap (leaf_normal f ts) (filter-append no_null A B)
    ∙ leaf_joins f ts (filter no_null A) (filter no_null A') (filter no_null B) (filter no_null B') a b
    ∙ sym (ap (leaf_normal f ts) (filter-append no_null A' B'))
joins (If c) ts A A' B B' a b =
    ap (normal c (inward (If c) ts)) (flat_map-append when_met A B)
    ∙ joins c (inward (If c) ts) (flat_map when_met A) (flat_map when_met A') (flat_map when_met B) (flat_map when_met B') a b
    ∙ sym (ap (normal c (inward (If c) ts)) (flat_map-append when_met A' B'))
joins (Array c) ts A A' B B' a b =
    ap (normal c (inward (Array c) ts)) (flat_map-append (λ f. f) A B)
    ∙ joins c (inward (Array c) ts) (flat_map (λ f. f) A) (flat_map (λ f. f) A') (flat_map (λ f. f) B) (flat_map (λ f. f) B') a b
    ∙ sym (ap (normal c (inward (Array c) ts)) (flat_map-append (λ f. f) A' B'))
joins (MapOf c) ts A A' B B' a b =
    let a' : _ = keyed_same _ _ a in
    let b' : _ = keyed_same _ _ b in
    ap keyed_tree
    (joined_parts at_key keys_of (normal c (inward (MapOf c) ts)) (λ k t. (k, t)) (λ z. z.1) (λ k t. refl) key_covered
    (joins c (inward (MapOf c) ts))
    A A' B B' (keys_same _ _ _ _ a') (keys_same _ _ _ _ b') (keys_joined A A' B B' (keys_same _ _ _ _ a') (keys_same _ _ _ _ b')) a' b')
joins (ForEach c) ts A A' B B' a b =
    let a' : _ = slots_same _ _ a in
    let b' : _ = slots_same _ _ b in
    ap slots_tree
    (joined_parts at_place (λ L. places 0 (width L)) (normal c (inward (ForEach c) ts)) (λ k t. t) (λ z. z) (λ k t. refl) place_covered
    (joins c (inward (ForEach c) ts))
    A A' B B' (places_same _ _ _ _ a') (places_same _ _ _ _ b') (width_joined A A' B B' (places_same _ _ _ _ a') (places_same _ _ _ _ b')) a' b')
joins (OrNull c) ts A A' B B' a b = joins c ts A A' B B' a b
joins (OrDefault c) ts A A' B B' a b = joins c ts A A' B B' a b
joins (Distinct c) ts A A' B B' a b =
    ap rows_tree
    (ap (firsts compare_rows) (filter-append no_null A B)
    ∙ steady_joins (before_others compare_rows) (firsts_steady compare_rows rows_order) (filter no_null A) (filter no_null A') (filter no_null B) (filter no_null B') (rows_same _ _ a) (rows_same _ _ b)
    ∙ sym (ap (firsts compare_rows) (filter-append no_null A' B')))
joins (State c) ts A A' B B' a b = joins c ts A A' B B' a b
joins (Merge c) ts A A' B B' a b =
    ap (normal c (inward (Merge c) ts)) (flat_map-append (unfolded c (inward (Merge c) ts)) A B)
    ∙ joins c (inward (Merge c) ts) (flat_map (unfolded c (inward (Merge c) ts)) A) (flat_map (unfolded c (inward (Merge c) ts)) A') (flat_map (unfolded c (inward (Merge c) ts)) B) (flat_map (unfolded c (inward (Merge c) ts)) B') a b
    ∙ sym (ap (normal c (inward (Merge c) ts)) (flat_map-append (unfolded c (inward (Merge c) ts)) A' B'))
joins (Resample s e p c) ts A A' B B' a b =
    ap slots_tree
    (fixed_joined (in_interval s e p) (normal c (inward (Resample s e p c) ts)) (joins c (inward (Resample s e p c) ts)) A A' B B' (places 0 (intervals s e p)) (slots_same _ _ a) (slots_same _ _ b))

-- whether some index has a part that was fed
pub some_parts : {I : Type 0} (p q : I → Bool) (is js : List I) → map p is ≡ map q js → some p is ≡ some q js
some_parts p q is js e = sym (some-map p is) ∙ ap (some (λ b. b)) e ∙ some-map q js

pub fed_same : (c : Chain) (ts : List Ty) → IsSound c → (A B : List (Feed c)) → normal c ts A ≡ normal c ts B → fed c ts A ≡ fed c ts B
fed_same (Of f) ts k A B e = ap not (leaf_fed f ts k (filter no_null A) (filter no_null B) e)
fed_same (If c) ts k A B e = fed_same c (inward (If c) ts) k (flat_map when_met A) (flat_map when_met B) e
fed_same (Array c) ts k A B e = fed_same c (inward (Array c) ts) k (flat_map (λ f. f) A) (flat_map (λ f. f) B) e
fed_same (MapOf c) ts k A B e =
    let e' : _ = keyed_same _ _ e in
    some_parts _ _ _ _
    (through_parts at_key keys_of (normal c (inward (MapOf c) ts)) (λ k t. (k, t)) (λ z. z.1) (λ k t. refl) key_covered
    (fed c (inward (MapOf c) ts)) (λ k b. b) (fed_same c (inward (MapOf c) ts) k)
    A B (keys_same _ _ _ _ e') e')
fed_same (ForEach c) ts k A B e =
    let e' : _ = slots_same _ _ e in
    some_parts _ _ _ _
    (through_parts at_place (λ L. places 0 (width L)) (normal c (inward (ForEach c) ts)) (λ k t. t) (λ z. z) (λ k t. refl) place_covered
    (fed c (inward (ForEach c) ts)) (λ k b. b) (fed_same c (inward (ForEach c) ts) k)
    A B (places_same _ _ _ _ e') e')
fed_same (OrNull c) ts k A B e = fed_same c ts k A B e
fed_same (OrDefault c) ts k A B e = fed_same c ts k A B e
fed_same (Distinct c) ts k A B e = ap (λ rs. fed c ts (map (opened c) rs)) (rows_same _ _ e)
fed_same (State c) ts k A B e = fed_same c ts k A B e
fed_same (Merge c) ts k A B e =
    fed_same c (inward (Merge c) ts) k (flat_map (unfolded c (inward (Merge c) ts)) A) (flat_map (unfolded c (inward (Merge c) ts)) B) e
fed_same (Resample s e p c) ts k A B h =
    some_parts _ _ _ _
    (map_through
    (λ j. normal c (inward (Resample s e p c) ts) (flat_map (in_interval s e p j) A))
    (λ j. normal c (inward (Resample s e p c) ts) (flat_map (in_interval s e p j) B))
    (λ j. fed c (inward (Resample s e p c) ts) (flat_map (in_interval s e p j) A))
    (λ j. fed c (inward (Resample s e p c) ts) (flat_map (in_interval s e p j) B))
    (λ j. fed_same c (inward (Resample s e p c) ts) k.2 (flat_map (in_interval s e p j) A) (flat_map (in_interval s e p j) B))
    (places 0 (intervals s e p)) (slots_same _ _ h))

pub means_same : (c : Chain) (ts : List Ty) → IsSound c → (A B : List (Feed c)) → normal c ts A ≡ normal c ts B → meaning c ts A ≡ meaning c ts B
means_same (Of f) ts k A B e = leaf_sound f ts (default (leaf_result f ts)) (filter no_null A) (filter no_null B) e
means_same (If c) ts k A B e = means_same c (inward (If c) ts) k (flat_map when_met A) (flat_map when_met B) e
means_same (Array c) ts k A B e = means_same c (inward (Array c) ts) k (flat_map (λ f. f) A) (flat_map (λ f. f) B) e
means_same (MapOf c) ts k A B e =
    let e' : _ = keyed_same _ _ e in
    ap map_value
    (through_parts at_key keys_of (normal c (inward (MapOf c) ts)) (λ k t. (k, t)) (λ z. z.1) (λ k t. refl) key_covered
    (meaning c (inward (MapOf c) ts)) (λ k v. (k, v)) (means_same c (inward (MapOf c) ts) k)
    A B (keys_same _ _ _ _ e') e')
means_same (ForEach c) ts k A B e =
    let e' : _ = slots_same _ _ e in
    ap list_value
    (through_parts at_place (λ L. places 0 (width L)) (normal c (inward (ForEach c) ts)) (λ k t. t) (λ z. z) (λ k t. refl) place_covered
    (meaning c (inward (ForEach c) ts)) (λ k v. v) (means_same c (inward (ForEach c) ts) k)
    A B (places_same _ _ _ _ e') e')
means_same (OrNull c) ts k A B e =
    ap₂ (λ b v. cond b v (cond (can_be_null (result c ts)) Nil v)) (fed_same c ts k A B e) (means_same c ts k A B e)
means_same (OrDefault c) ts k A B e =
    ap₂ (λ b v. cond b v (default (result c ts))) (fed_same c ts k A B e) (means_same c ts k A B e)
means_same (Distinct c) ts k A B e = ap (λ rs. meaning c ts (map (opened c) rs)) (rows_same _ _ e)
means_same (State c) ts k A B e = ap Cell e
means_same (Merge c) ts k A B e =
    means_same c (inward (Merge c) ts) k (flat_map (unfolded c (inward (Merge c) ts)) A) (flat_map (unfolded c (inward (Merge c) ts)) B) e
means_same (Resample s e p c) ts k A B h =
    ap list_value
    (map_through
    (λ j. normal c (inward (Resample s e p c) ts) (flat_map (in_interval s e p j) A))
    (λ j. normal c (inward (Resample s e p c) ts) (flat_map (in_interval s e p j) B))
    (λ j. meaning c (inward (Resample s e p c) ts) (flat_map (in_interval s e p j) A))
    (λ j. meaning c (inward (Resample s e p c) ts) (flat_map (in_interval s e p j) B))
    (λ j. means_same c (inward (Resample s e p c) ts) k.2 (flat_map (in_interval s e p j) A) (flat_map (in_interval s e p j) B))
    (places 0 (intervals s e p)) (slots_same _ _ h))
