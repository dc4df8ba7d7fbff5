-- From the words of the states in slots to those of -ForEach and -Resample; past the last slot stands the state of no
-- rows.
use Rattle.std.proofs.Common.{◌≡◌, ℕ, ◌+◌, ◌<◌, ◌≤◌, max, ℤ, Bool, false, List, [], ◌∷◌, ◌++◌, length, get_or, Option, ◌⊎◌, inl, inr, sym, ap, ◌∙◌, arith}
use Rattle.std.specs.Prelude.{flat_map}
use Rattle.std.proofs.lemmas.Bool.{cases_lt}
use Rattle.std.proofs.lemmas.List.{length-map}
use Rattle.agg_terms.specs.Values.{Nil, Tree, Value, list_value, slots_tree}
use Rattle.agg_terms.specs.Chains.{Chain, ForEach, Resample, Ty}
use Rattle.agg_terms.specs.Lists.{places, some}
use Rattle.agg_terms.specs.Types.{intervals, inward}
use Rattle.agg_meaning.specs.Feeds.{Feed, IsFeed}
use Rattle.agg_meaning.specs.Picks.{at_place, in_interval, width}
use Rattle.agg_meaning.specs.Laws.{AreFeeds}
use Rattle.agg_meaning.specs.Results.{blank}
use Rattle.agg_meaning.specs.States.{IsFedChain, Joins, MeansChain, StandsFor, TakesFeeds}
use Rattle.agg_meaning.specs.Suffixes.{fed, meaning, normal}
use Rattle.agg_meaning.proofs.Blank.{of_none}
use Rattle.agg_meaning.proofs.ChainLaws.{slots_same}
use Rattle.agg_meaning.proofs.Formed.{inside_here, place_here}
use Rattle.agg_meaning.proofs.Kept.{each_flat_map}
use Rattle.agg_meaning.proofs.Links.{length-places, past_width, some-map, width-append}
use Rattle.agg_meaning.proofs.Places.{by_places, get_or-past, get_or-places}
use Rattle.agg_meaning.proofs.Suffixed.{picked_takes, picked_joins}

module _ (c : Chain) (ts : List Ty) where
  abbrev each_ts : List Ty
  each_ts = inward (ForEach c) ts

  abbrev slot : List Tree → ℕ → Tree
  slot slots i = get_or slots i (blank c)

  abbrev at : ℕ → List (List (Option (Feed c))) → List (Feed c)
  at i L = flat_map (at_place i) L

  -- the slots of a state, and slots that make one
  pub slots_length : (L : List (List (Option (Feed c)))) (slots : List Tree) → StandsFor (ForEach c) ts L (slots_tree slots) → length slots ≡ width L
  slots_length L slots h =
      ap length (slots_same _ _ h) ∙ length-map (places 0 (width L)) (λ i. normal c each_ts (at i L)) ∙ length-places 0 (width L)

  pub slot_stands : (L : List (List (Option (Feed c)))) (slots : List Tree) → StandsFor (ForEach c) ts L (slots_tree slots) → (i : ℕ) → StandsFor c each_ts (at i L) (slot slots i)
  slot_stands L slots h i = go (cases_lt i (width L))
    where
      go : (i < width L) ⊎ (width L ≤ i) → StandsFor c each_ts (at i L) (slot slots i)
      go (inl k) =
          let z : 0 + i ≡ i = omega arith in
          ap (λ s. slot s i) (slots_same _ _ h) ∙ get_or-places (λ j. normal c each_ts (at j L)) (blank c) 0 (width L) i k ∙ ap (λ j. normal c each_ts (at j L)) z
      go (inr k) =
          get_or-past slots (blank c) i (omega (arith, slots_length L slots h, k))
          ∙ sym (ap (normal c each_ts) (past_width i L k) ∙ of_none c each_ts)

  pub slots_stand : (L : List (List (Option (Feed c)))) (slots : List Tree) → length slots ≡ width L → ((i : ℕ) → StandsFor c each_ts (at i L) (slot slots i)) → StandsFor (ForEach c) ts L (slots_tree slots)
  slots_stand L slots e h = ap slots_tree (by_places (λ i. normal c each_ts (at i L)) (blank c) slots 0 (width L) e (λ i k. let z : i ≡ 0 + i = omega arith in h i ∙ ap (λ j. normal c each_ts (at j L)) z))

  -- -ForEach: each slot takes what stands at its place
  pub for_each_takes : (f : List (Option (Feed c))) (slots after : List Tree) → length after ≡ max (length slots) (length f) →
      ((i : ℕ) → TakesFeeds c each_ts (at_place i f) (slot slots i) (slot after i)) → TakesFeeds (ForEach c) ts (f ∷ []) (slots_tree slots) (slots_tree after)
  for_each_takes f slots after e a = λ L l k h.
      slots_stand (L ++ f ∷ []) after (omega (arith, e, slots_length L slots h, width-append L (f ∷ [])))
      (λ i. picked_takes c each_ts (at_place i) L f (slot after i) (a i (at i L) l (place_here (IsFeed c each_ts) i f k.0) (slot_stands L slots h i)))

  pub for_each_joins : (ss us after : List Tree) → length after ≡ max (length ss) (length us) →
      ((i : ℕ) → Joins c each_ts (slot ss i) (slot us i) (slot after i)) → Joins (ForEach c) ts (slots_tree ss) (slots_tree us) (slots_tree after)
  for_each_joins ss us after e a = λ A B h k.
      slots_stand (A ++ B) after (omega (arith, e, slots_length A ss h, slots_length B us k, width-append A B))
      (λ i. picked_joins c each_ts (at_place i) A B (slot after i) (a i (at i A) (at i B) (slot_stands A ss h i) (slot_stands B us k i)))

  placed : (L : List (List (Option (Feed c)))) → AreFeeds (ForEach c) ts L → (i : ℕ) → AreFeeds c each_ts (at i L)
  placed L p i = each_flat_map (IsFeed (ForEach c) ts) (IsFeed c each_ts) (at_place i) (λ f q. place_here (IsFeed c each_ts) i f q) L p

  pub for_each_means : (slots : List Tree) (xs : List Value) → length xs ≡ length slots →
      ((i : ℕ) → i < length slots → MeansChain c each_ts (slot slots i) (get_or xs i Nil)) → MeansChain (ForEach c) ts (slots_tree slots) (list_value xs)
  for_each_means slots xs e a = λ L l p h.
      let n : length slots ≡ width L = slots_length L slots h in
      ap list_value (by_places (λ i. meaning c each_ts (at i L)) Nil xs 0 (width L) (e ∙ n)
      (λ i k. let z : i ≡ 0 + i = omega arith in a i (omega (arith, n, k)) (at i L) l (placed L p i) (slot_stands L slots h i) ∙ ap (λ j. meaning c each_ts (at j L)) z))

  pub for_each_fed : (slots : List Tree) (bs : List Bool) → length bs ≡ length slots →
      ((i : ℕ) → i < length slots → IsFedChain c each_ts (slot slots i) (get_or bs i false)) → IsFedChain (ForEach c) ts (slots_tree slots) (some (λ b. b) bs)
  for_each_fed slots bs e a = λ L l p h.
      let n : length slots ≡ width L = slots_length L slots h in
      ap (some (λ b. b)) (by_places (λ i. fed c each_ts (at i L)) false bs 0 (width L) (e ∙ n)
      (λ i k. let z : i ≡ 0 + i = omega arith in a i (omega (arith, n, k)) (at i L) l (placed L p i) (slot_stands L slots h i) ∙ ap (λ j. fed c each_ts (at j L)) z))
      ∙ some-map (λ i. fed c each_ts (at i L)) (places 0 (width L))

module _ (start end : ℤ) (step : ℕ) (c : Chain) (ts : List Ty) where
  abbrev part_ts : List Ty
  part_ts = inward (Resample start end step c) ts

  abbrev count : ℕ
  count = intervals start end step

  abbrev part : List Tree → ℕ → Tree
  part slots j = get_or slots j (blank c)

  abbrev inside : ℕ → List (Feed c × Option ℤ) → List (Feed c)
  inside j L = flat_map (in_interval start end step j) L

  pub parts_length : (L : List (Feed c × Option ℤ)) (slots : List Tree) → StandsFor (Resample start end step c) ts L (slots_tree slots) → length slots ≡ count
  parts_length L slots h = ap length (slots_same _ _ h) ∙ length-map (places 0 count) (λ j. normal c part_ts (inside j L)) ∙ length-places 0 count

  pub part_stands : (L : List (Feed c × Option ℤ)) (slots : List Tree) → StandsFor (Resample start end step c) ts L (slots_tree slots) → (j : ℕ) → j < count → StandsFor c part_ts (inside j L) (part slots j)
  part_stands L slots h j k =
      let z : 0 + j ≡ j = omega arith in
      ap (λ s. part s j) (slots_same _ _ h) ∙ get_or-places (λ i. normal c part_ts (inside i L)) (blank c) 0 count j k ∙ ap (λ i. normal c part_ts (inside i L)) z

  pub parts_stand : (L : List (Feed c × Option ℤ)) (slots : List Tree) → length slots ≡ count → ((j : ℕ) → j < count → StandsFor c part_ts (inside j L) (part slots j)) → StandsFor (Resample start end step c) ts L (slots_tree slots)
  parts_stand L slots e h = ap slots_tree (by_places (λ j. normal c part_ts (inside j L)) (blank c) slots 0 count e (λ j k. let z : j ≡ 0 + j = omega arith in h j k ∙ ap (λ i. normal c part_ts (inside i L)) z))

  -- -Resample: the slot of a key's interval takes the feed
  pub resample_takes : (f : Feed c × Option ℤ) (slots after : List Tree) → length after ≡ count →
      ((j : ℕ) → j < count → TakesFeeds c part_ts (in_interval start end step j f) (part slots j) (part after j)) → TakesFeeds (Resample start end step c) ts (f ∷ []) (slots_tree slots) (slots_tree after)
  resample_takes f slots after e a = λ L l k h.
      parts_stand (L ++ f ∷ []) after e
      (λ j q. picked_takes c part_ts (in_interval start end step j) L f (part after j) (a j q (inside j L) (l.0.2, l.1) (inside_here (IsFeed c part_ts) start end step j f k.0.0) (part_stands L slots h j q)))

  pub resample_joins : (ss us after : List Tree) → length after ≡ count →
      ((j : ℕ) → j < count → Joins c part_ts (part ss j) (part us j) (part after j)) → Joins (Resample start end step c) ts (slots_tree ss) (slots_tree us) (slots_tree after)
  resample_joins ss us after e a = λ A B h k.
      parts_stand (A ++ B) after e
      (λ j q. picked_joins c part_ts (in_interval start end step j) A B (part after j) (a j q (inside j A) (inside j B) (part_stands A ss h j q) (part_stands B us k j q)))

  contained : (L : List (Feed c × Option ℤ)) → AreFeeds (Resample start end step c) ts L → (j : ℕ) → AreFeeds c part_ts (inside j L)
  contained L p j =
      each_flat_map (IsFeed (Resample start end step c) ts) (IsFeed c part_ts) (in_interval start end step j) (λ f q. inside_here (IsFeed c part_ts) start end step j f q.0) L p

  pub resample_means : (slots : List Tree) (xs : List Value) → length xs ≡ count →
      ((j : ℕ) → j < count → MeansChain c part_ts (part slots j) (get_or xs j Nil)) → MeansChain (Resample start end step c) ts (slots_tree slots) (list_value xs)
  resample_means slots xs e a = λ L l p h.
      ap list_value (by_places (λ j. meaning c part_ts (inside j L)) Nil xs 0 count e
      (λ j k. let z : j ≡ 0 + j = omega arith in a j k (inside j L) (l.0.2, l.1) (contained L p j) (part_stands L slots h j k) ∙ ap (λ i. meaning c part_ts (inside i L)) z))

  pub resample_fed : (slots : List Tree) (bs : List Bool) → length bs ≡ count →
      ((j : ℕ) → j < count → IsFedChain c part_ts (part slots j) (get_or bs j false)) → IsFedChain (Resample start end step c) ts (slots_tree slots) (some (λ b. b) bs)
  resample_fed slots bs e a = λ L l p h.
      ap (some (λ b. b)) (by_places (λ j. fed c part_ts (inside j L)) false bs 0 count e
      (λ j k. let z : j ≡ 0 + j = omega arith in a j k (inside j L) (l.0.2, l.1) (contained L p j) (part_stands L slots h j k) ∙ ap (λ i. fed c part_ts (inside i L)) z))
      ∙ some-map (λ j. fed c part_ts (inside j L)) (places 0 count)
