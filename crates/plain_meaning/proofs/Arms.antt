-- What a link answers over rows, from what its inner chain answers over the rows handed inward.
use Rattle.std.proofs.Common.{◌≡◌, ℕ, ℤ, Bool, true, cond, List, [], ◌∷◌, map, refl, ap, ap₂, ◌∙◌}
use Rattle.std.specs.Prelude.{filter, flat_map}
use Rattle.agg_terms.specs.Chains.{Array, Chain, Distinct, ForEach, If, MapOf, Resample, Ty}
use Rattle.agg_terms.specs.Lists.{places, some}
use Rattle.agg_terms.specs.Order.{compare_rows, firsts}
use Rattle.agg_terms.specs.Types.{intervals, inward}
use Rattle.agg_terms.specs.Values.{Value, keyed_tree, list_value, map_value, rows_tree, slots_tree}
use Rattle.agg_meaning.specs.Feeds.{no_null, opened}
use Rattle.agg_meaning.specs.Picks.{at_place, in_interval}
use Rattle.agg_meaning.specs.Suffixes.{at_key, fed, meaning, normal}
use Rattle.plain_meaning.specs.Inward.{element_rows, fed_of, first_live, meaning_of, met_rows, normal_of, place_count, row_keys, rows_at, rows_at_key, rows_inside}
use Rattle.plain_meaning.proofs.Picked.{array_feeds, as_they_are, if_feeds, interval_feeds, key_feeds, keys_feeds, place_feeds, width_feeds}

-- of one link, from the same of its inner chain
module _ (d : Chain) (ts : List Ty) (R : List (List Value)) where
  pub if_means : meaning_of (If d) ts R ≡ meaning_of d (inward (If d) ts) (met_rows R)
  if_means = ap (meaning d (inward (If d) ts)) (if_feeds d R)

  pub if_fed : fed_of (If d) ts R ≡ fed_of d (inward (If d) ts) (met_rows R)
  if_fed = ap (fed d (inward (If d) ts)) (if_feeds d R)

  pub if_normal : normal_of (If d) ts R ≡ normal_of d (inward (If d) ts) (met_rows R)
  if_normal = ap (normal d (inward (If d) ts)) (if_feeds d R)

  pub array_means : meaning_of (Array d) ts R ≡ meaning_of d (inward (Array d) ts) (element_rows R)
  array_means = ap (meaning d (inward (Array d) ts)) (array_feeds d R)

  pub array_fed : fed_of (Array d) ts R ≡ fed_of d (inward (Array d) ts) (element_rows R)
  array_fed = ap (fed d (inward (Array d) ts)) (array_feeds d R)

  pub array_normal : normal_of (Array d) ts R ≡ normal_of d (inward (Array d) ts) (element_rows R)
  array_normal = ap (normal d (inward (Array d) ts)) (array_feeds d R)

  distinct_feeds : firsts compare_rows (filter no_null (map (opened (Distinct d)) R)) ≡ first_live R
  distinct_feeds = ap (λ L. firsts compare_rows (filter no_null L)) (as_they_are R)

  pub distinct_means : meaning_of (Distinct d) ts R ≡ meaning_of d ts (first_live R)
  distinct_means = ap (λ L. meaning d ts (map (opened d) L)) distinct_feeds

  pub distinct_fed : fed_of (Distinct d) ts R ≡ fed_of d ts (first_live R)
  distinct_fed = ap (λ L. fed d ts (map (opened d) L)) distinct_feeds

  pub distinct_normal : normal_of (Distinct d) ts R ≡ rows_tree (first_live R)
  distinct_normal = ap rows_tree distinct_feeds

-- of a link that asks its inner chain once for each part
over_parts : {I X Y Z : Type 0} (n : List Y → Z) (sel : I → List Y) (inner : I → List X) (f : X → Y) →
    ((i : I) → sel i ≡ map f (inner i)) → (is : List I) → map (λ i. n (sel i)) is ≡ map (λ xs. n (map f xs)) (map inner is)
over_parts n sel inner f h [] = refl
over_parts n sel inner f h (i ∷ is) = ap₂ ◌∷◌ (ap n (h i)) (over_parts n sel inner f h is)

some_parts : {I X Y : Type 0} (n : List Y → Bool) (sel : I → List Y) (inner : I → List X) (f : X → Y) →
    ((i : I) → sel i ≡ map f (inner i)) → (is : List I) → some (λ i. n (sel i)) is ≡ some (λ xs. n (map f xs)) (map inner is)
some_parts n sel inner f h [] = refl
some_parts n sel inner f h (i ∷ is) = ap₂ (λ a b. cond a true b) (ap n (h i)) (some_parts n sel inner f h is)

module _ (d : Chain) (ts : List Ty) (R : List (List Value)) where
  pub each_means : meaning_of (ForEach d) ts R ≡ list_value (map (meaning_of d (inward (ForEach d) ts)) (map (λ i. rows_at i R) (places 0 (place_count R))))
  each_means =
      ap (λ n. list_value (map (λ i. meaning d (inward (ForEach d) ts) (flat_map (at_place i) (map (opened (ForEach d)) R))) (places 0 n))) (width_feeds d R)
      ∙ ap list_value (over_parts (meaning d (inward (ForEach d) ts)) (λ i. flat_map (at_place i) (map (opened (ForEach d)) R)) (λ i. rows_at i R) (opened d) (λ i. place_feeds d i R) (places 0 (place_count R)))

  pub each_fed : fed_of (ForEach d) ts R ≡ some (fed_of d (inward (ForEach d) ts)) (map (λ i. rows_at i R) (places 0 (place_count R)))
  each_fed =
      ap (λ n. some (λ i. fed d (inward (ForEach d) ts) (flat_map (at_place i) (map (opened (ForEach d)) R))) (places 0 n)) (width_feeds d R)
      ∙ some_parts (fed d (inward (ForEach d) ts)) (λ i. flat_map (at_place i) (map (opened (ForEach d)) R)) (λ i. rows_at i R) (opened d) (λ i. place_feeds d i R) (places 0 (place_count R))

  pub each_normal : normal_of (ForEach d) ts R ≡ slots_tree (map (normal_of d (inward (ForEach d) ts)) (map (λ i. rows_at i R) (places 0 (place_count R))))
  each_normal =
      ap (λ n. slots_tree (map (λ i. normal d (inward (ForEach d) ts) (flat_map (at_place i) (map (opened (ForEach d)) R))) (places 0 n))) (width_feeds d R)
      ∙ ap slots_tree (over_parts (normal d (inward (ForEach d) ts)) (λ i. flat_map (at_place i) (map (opened (ForEach d)) R)) (λ i. rows_at i R) (opened d) (λ i. place_feeds d i R) (places 0 (place_count R)))

module _ (start end : ℤ) (step : ℕ) (d : Chain) (ts : List Ty) (R : List (List Value)) where
  pub resample_means : meaning_of (Resample start end step d) ts R ≡ list_value (map (meaning_of d (inward (Resample start end step d) ts)) (map (λ j. rows_inside start end step j R) (places 0 (intervals start end step))))
  resample_means =
      ap list_value (over_parts (meaning d (inward (Resample start end step d) ts)) (λ j. flat_map (in_interval start end step j) (map (opened (Resample start end step d)) R)) (λ j. rows_inside start end step j R) (opened d) (λ j. interval_feeds start end step d j R) (places 0 (intervals start end step)))

  pub resample_fed : fed_of (Resample start end step d) ts R ≡ some (fed_of d (inward (Resample start end step d) ts)) (map (λ j. rows_inside start end step j R) (places 0 (intervals start end step)))
  resample_fed =
      some_parts (fed d (inward (Resample start end step d) ts)) (λ j. flat_map (in_interval start end step j) (map (opened (Resample start end step d)) R)) (λ j. rows_inside start end step j R) (opened d) (λ j. interval_feeds start end step d j R) (places 0 (intervals start end step))

  pub resample_normal : normal_of (Resample start end step d) ts R ≡ slots_tree (map (normal_of d (inward (Resample start end step d) ts)) (map (λ j. rows_inside start end step j R) (places 0 (intervals start end step))))
  resample_normal =
      ap slots_tree (over_parts (normal d (inward (Resample start end step d) ts)) (λ j. flat_map (in_interval start end step j) (map (opened (Resample start end step d)) R)) (λ j. rows_inside start end step j R) (opened d) (λ j. interval_feeds start end step d j R) (places 0 (intervals start end step)))

-- keys beside what stands at them
beside : {I X Y Z W : Type 0} (n : List Y → Z) (k : I → Z → W) (sel : I → List Y) (inner : I → List X) (f : X → Y) →
    ((i : I) → sel i ≡ map f (inner i)) → (is : List I) → map (λ i. k i (n (sel i))) is ≡ map (λ i. k i (n (map f (inner i)))) is
beside n k sel inner f h [] = refl
beside n k sel inner f h (i ∷ is) = ap₂ ◌∷◌ (ap (λ ys. k i (n ys)) (h i)) (beside n k sel inner f h is)

module _ (d : Chain) (ts : List Ty) (R : List (List Value)) where
  pub map_means : meaning_of (MapOf d) ts R ≡ map_value (map (λ k. (k, meaning_of d (inward (MapOf d) ts) (rows_at_key k R))) (row_keys R))
  map_means =
      ap (λ ks. map_value (map (λ k. (k, meaning d (inward (MapOf d) ts) (flat_map (at_key k) (map (opened (MapOf d)) R)))) ks)) (keys_feeds d R)
      ∙ ap map_value (beside (meaning d (inward (MapOf d) ts)) (λ k v. (k, v)) (λ k. flat_map (at_key k) (map (opened (MapOf d)) R)) (λ k. rows_at_key k R) (opened d) (λ k. key_feeds d k R) (row_keys R))

  pub map_fed : fed_of (MapOf d) ts R ≡ some (fed_of d (inward (MapOf d) ts)) (map (λ k. rows_at_key k R) (row_keys R))
  map_fed =
      ap (some (λ k. fed d (inward (MapOf d) ts) (flat_map (at_key k) (map (opened (MapOf d)) R)))) (keys_feeds d R)
      ∙ some_parts (fed d (inward (MapOf d) ts)) (λ k. flat_map (at_key k) (map (opened (MapOf d)) R)) (λ k. rows_at_key k R) (opened d) (λ k. key_feeds d k R) (row_keys R)

  pub map_normal : normal_of (MapOf d) ts R ≡ keyed_tree (map (λ k. (k, normal_of d (inward (MapOf d) ts) (rows_at_key k R))) (row_keys R))
  map_normal =
      ap (λ ks. keyed_tree (map (λ k. (k, normal d (inward (MapOf d) ts) (flat_map (at_key k) (map (opened (MapOf d)) R)))) ks)) (keys_feeds d R)
      ∙ ap keyed_tree (beside (normal d (inward (MapOf d) ts)) (λ k v. (k, v)) (λ k. flat_map (at_key k) (map (opened (MapOf d)) R)) (λ k. rows_at_key k R) (opened d) (λ k. key_feeds d k R) (row_keys R))
