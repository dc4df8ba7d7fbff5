-- The tables of two lists of contributions joined, and of tables that were loaded again.
use Rattle.std.proofs.Common.{◌≡◌, ◌≢◌, ℕ, zero, suc, ◌+◌, ◌<◌, Bool, true, false, cond, List, [], ◌∷◌, ◌++◌, map, length, get_or, ◌⊎◌, inl, inr, refl, sym, ap, ap₂, ◌∙◌, append-nil, arith, subst}
use Rattle.std.specs.Prelude.{flat_map}
use Rattle.std.specs.Ordering.{is_eq}
use Rattle.std.proofs.lemmas.List.Concat.{flat_map-append}
use Rattle.agg_terms.specs.Values.{Tree, Value, Empty}
use Rattle.agg_terms.specs.Chains.{Chain, Ty}
use Rattle.agg_terms.specs.Lists.{Apart, Each, is_empty, places}
use Rattle.agg_terms.specs.Order.{compare_rows, different}
use Rattle.agg_meaning.specs.Feeds.{Feed, IsFeed}
use Rattle.agg_meaning.specs.Laws.{AreFeeds, IsLegal}
use Rattle.agg_meaning.specs.Results.{blank}
use Rattle.agg_meaning.specs.Suffixes.{meaning, normal, unfolded}
use Rattle.agg_meaning.specs.Views.{AreContributions, Call, Contribution, IsLegalView, View, answer, call_at, feeds_of, groups, of_states, state_at, tables}
use Rattle.agg_terms.proofs.Generic.{Among, first_or, joined_parts, map_after, map_same, map_through, rest, through_parts}
use Rattle.agg_terms.proofs.Comparing.{rows_order}
use Rattle.agg_terms.proofs.Sorting.{itself}
use Rattle.agg_meaning.proofs.Blank.{of_none}
use Rattle.agg_meaning.proofs.ChainLaws.{joins, means_same}
use Rattle.agg_meaning.proofs.Formed.{again, law_joined}
use Rattle.agg_meaning.proofs.Groups.{among_apart, firsts_put, group_covered, groups_are, groups_ascend, groups_joined, key_of, of_group, put_groups}
use Rattle.agg_meaning.proofs.Kept.{each_flat_map, each_of_map}
use Rattle.agg_meaning.proofs.Places.{get_or-places, map-places}
use Rattle.agg_meaning.proofs.Spread.{index, spread_back}
use Rattle.agg_meaning.proofs.TreeLaws.{rising_apart, test_apart}

-- a call of a legal view is legal
each_call : (calls : List Call) → Each (λ c. IsLegal c.chain c.types) calls → (i : ℕ) → IsLegal (call_at calls i).chain (call_at calls i).types
each_call [] k i = (tt, tt)
each_call (c ∷ calls) k zero = k.0
each_call (c ∷ calls) k (suc i) = each_call calls k.1 i

-- The lists of feeds that a group picks, and all states of a call of them
module _ (v : View) where
  abbrev Lists : Type 0
  Lists = (i : ℕ) → List (Feed (call_at v.calls i).chain)

  abbrev chain_at : ℕ → Chain
  chain_at i = (call_at v.calls i).chain

  abbrev types_at : ℕ → List Ty
  types_at i = (call_at v.calls i).types

  abbrev joined_at : (i : ℕ) → List Lists → List (Feed (chain_at i))
  joined_at i fs = flat_map (λ f. f i) fs

  abbrev count : ℕ
  count = length v.calls

  abbrev states_of : List Lists → List Tree
  states_of fs = map (λ i. normal (chain_at i) (types_at i) (joined_at i fs)) (places 0 count)

  abbrev meanings_of : List Lists → List Value
  meanings_of fs = map (λ i. meaning (chain_at i) (types_at i) (joined_at i fs)) (places 0 count)

  picked : (g : List Value) (i : ℕ) (C : List (Contribution v)) → joined_at i (flat_map (of_group g) C) ≡ feeds_of v g i C
  picked g i [] = refl
  picked g i (c ∷ C) =
      flat_map-append (λ f. f i) (of_group g c) (flat_map (of_group g) C)
      ∙ ap₂ ◌++◌ (one (is_eq (compare_rows g c.0))) (picked g i C)
    where
      one : (b : Bool) → joined_at i (cond b (c.1 ∷ []) []) ≡ cond b (c.1 i) []
      one true = append-nil (c.1 i)
      one false = refl

  abbrev tabled : List (Contribution v) → List (List Value × List Tree)
  tabled C = map (λ g. (g, states_of (flat_map (of_group g) C))) (groups v C)

  tables_are : (C : List (Contribution v)) → tabled C ≡ tables v C
  tables_are C =
      map_same _ _ (λ g. ap (λ ts. (g, ts)) (map_same _ _ (λ i. ap (normal (chain_at i) (types_at i)) (picked g i C)) (places 0 count))) (groups v C)

  answer_is : (C : List (Contribution v)) → map (λ g. (g, meanings_of (flat_map (of_group g) C))) (groups v C) ≡ answer v C
  answer_is C =
      map_same _ _ (λ g. ap (λ ts. (g, ts)) (map_same _ _ (λ i. ap (meaning (chain_at i) (types_at i)) (picked g i C)) (places 0 count))) (groups v C)

  -- the groups of tables
  group_names : (f : List Value → List Tree) (gs : List (List Value)) → map key_of (map (λ g. (g, f g)) gs) ≡ gs
  group_names f [] = refl
  group_names f (g ∷ gs) = ap (◌∷◌ g) (group_names f gs)

  groups_same : (A B : List (Contribution v)) → tabled A ≡ tabled B → groups v A ≡ groups v B
  groups_same A B e =
      sym (group_names (λ g. states_of (flat_map (of_group g) A)) (groups v A))
      ∙ ap (map key_of) e
      ∙ group_names (λ g. states_of (flat_map (of_group g) B)) (groups v B)

  states_join : (P P' Q Q' : List Lists) → states_of P ≡ states_of P' → states_of Q ≡ states_of Q' → states_of (P ++ Q) ≡ states_of (P' ++ Q')
  states_join P P' Q Q' a b = go (places 0 count) a b
    where
      go : (is : List ℕ) → map (λ i. normal (chain_at i) (types_at i) (joined_at i P)) is ≡ map (λ i. normal (chain_at i) (types_at i) (joined_at i P')) is → map (λ i. normal (chain_at i) (types_at i) (joined_at i Q)) is ≡ map (λ i. normal (chain_at i) (types_at i) (joined_at i Q')) is → map (λ i. normal (chain_at i) (types_at i) (joined_at i (P ++ Q))) is ≡ map (λ i. normal (chain_at i) (types_at i) (joined_at i (P' ++ Q'))) is
      go [] a b = refl
      go (i ∷ is) a b =
          ap₂ ◌∷◌
          (ap (normal (chain_at i) (types_at i)) (flat_map-append (λ f. f i) P Q)
          ∙ joins (chain_at i) (types_at i) (joined_at i P) (joined_at i P') (joined_at i Q) (joined_at i Q') (ap (first_or Empty) a) (ap (first_or Empty) b)
          ∙ sym (ap (normal (chain_at i) (types_at i)) (flat_map-append (λ f. f i) P' Q')))
          (go is (ap rest a) (ap rest b))

  pub tables_join : (A A' B B' : List (Contribution v)) → tables v A ≡ tables v A' → tables v B ≡ tables v B' → tables v (A ++ B) ≡ tables v (A' ++ B')
  tables_join A A' B B' a b =
      let a' : tabled A ≡ tabled A' = tables_are A ∙ a ∙ sym (tables_are A') in
      let b' : tabled B ≡ tabled B' = tables_are B ∙ b ∙ sym (tables_are B') in
      let ga : groups v A ≡ groups v A' = groups_same A A' a' in
      let gb : groups v B ≡ groups v B' = groups_same B B' b' in
      sym (tables_are (A ++ B))
      ∙ joined_parts of_group (groups v) states_of (λ g t. (g, t)) (λ z. z.1) (λ g t. refl) (group_covered v) states_join A A' B B' ga gb
      (groups_joined v A B ∙ ap₂ (λ x y. different compare_rows (x ++ y)) ga gb ∙ sym (groups_joined v A' B')) a' b'
      ∙ tables_are (A' ++ B')

  means_alike : IsLegalView v → (P Q : List Lists) → states_of P ≡ states_of Q → meanings_of P ≡ meanings_of Q
  means_alike l P Q e =
      map_through
      (λ i. normal (chain_at i) (types_at i) (joined_at i P)) (λ i. normal (chain_at i) (types_at i) (joined_at i Q))
      (λ i. meaning (chain_at i) (types_at i) (joined_at i P)) (λ i. meaning (chain_at i) (types_at i) (joined_at i Q))
      (λ i. means_same (chain_at i) (types_at i) (each_call v.calls l i).0 (joined_at i P) (joined_at i Q)) (places 0 count) e

  pub same_answer : IsLegalView v → (A B : List (Contribution v)) → tables v A ≡ tables v B → answer v A ≡ answer v B
  same_answer l A B e =
      let e' : tabled A ≡ tabled B = tables_are A ∙ e ∙ sym (tables_are B) in
      sym (answer_is A)
      ∙ through_parts of_group (groups v) states_of (λ g t. (g, t)) (λ z. z.1) (λ g t. refl) (group_covered v) meanings_of (λ g t. (g, t)) (means_alike l) A B (groups_same A B e') e'
      ∙ answer_is B

  pub absent_blank : (C : List (Contribution v)) (g : List Value) (i : ℕ) → Each (λ h. g ≢ h) (groups v C) → state_at v C g i ≡ blank (chain_at i)
  absent_blank C g i k = go (group_covered v C g)
    where
      go : Among g (groups v C) ⊎ (flat_map (of_group g) C ≡ []) → state_at v C g i ≡ blank (chain_at i)
      go (inl a) = absurd (among_apart g (groups v C) k a)
      go (inr n) = ap (normal (chain_at i) (types_at i)) (sym (picked g i C) ∙ ap (joined_at i) n) ∙ of_none (chain_at i) (types_at i)

  -- what a group has of feeds are feeds
  feeds_here : (C : List (Contribution v)) (g : List Value) (i : ℕ) → i < count → AreContributions v C → AreFeeds (chain_at i) (types_at i) (feeds_of v g i C)
  feeds_here C g i h k =
      each_flat_map (λ c. (j : ℕ) → j < count → AreFeeds (chain_at j) (types_at j) (c.1 j)) (IsFeed (chain_at i) (types_at i)) (λ c. cond (is_eq (compare_rows g c.0)) (c.1 i) [])
      (λ c q. pick (is_eq (compare_rows g c.0)) (c.1 i) (q i h)) C k
    where
      pick : (b : Bool) (fs : List (Feed (chain_at i))) → AreFeeds (chain_at i) (types_at i) fs → AreFeeds (chain_at i) (types_at i) (cond b fs [])
      pick true fs q = q
      pick false fs q = tt

  pub tables_merged : (A B : List (Contribution v)) (g : List Value) (i : ℕ) → IsLegalView v → i < count → AreContributions v A → AreContributions v B →
      normal (chain_at i) (types_at i) (unfolded (chain_at i) (types_at i) (state_at v A g i) ++ unfolded (chain_at i) (types_at i) (state_at v B g i)) ≡ state_at v (A ++ B) g i
  tables_merged A B g i l h a b =
      law_joined (chain_at i) (types_at i) (each_call v.calls l i).0 (each_call v.calls l i).1 (feeds_of v g i A) (feeds_of v g i B) (feeds_here A g i h a) (feeds_here B g i h b)
      ∙ sym (ap (normal (chain_at i) (types_at i)) (flat_map-append (λ c. cond (is_eq (compare_rows g c.0)) (c.1 i) []) A B))

  -- tables loaded again
  abbrev unfold_all : List Tree → List Lists
  unfold_all ts = (λ i. unfolded (chain_at i) (types_at i) (get_or ts i Empty)) ∷ []

  abbrev nothing_more : List Value → List (Contribution v)
  nothing_more g = []

  abbrev put : List Value → Lists → Contribution v
  put g f = (g, f)

  own : (g : List Value) (f : Lists) → of_group g (put g f) ≡ f ∷ []
  own g f = rw (itself compare_rows rows_order g)

  other : (g h : List Value) (f : Lists) → g ≢ h → of_group g (put h f) ≡ []
  other g h f k = rw (test_apart compare_rows rows_order g h k)

  loaded : (lines : List (List Value × List Tree)) → flat_map (λ p. nothing_more p.0 ++ map (put p.0) (unfold_all p.1)) lines ≡ map (of_states v) lines
  loaded [] = refl
  loaded (p ∷ lines) = ap (◌∷◌ (of_states v p)) (loaded lines)

  line_back : IsLegalView v → (C : List (Contribution v)) → AreContributions v C → (g : List Value) → states_of (unfold_all (map (state_at v C g) (places 0 count))) ≡ map (state_at v C g) (places 0 count)
  line_back l C k g = map-places (λ i. normal (chain_at i) (types_at i) (joined_at i (unfold_all (map (state_at v C g) (places 0 count))))) (state_at v C g) 0 count each
    where
      each : (i : ℕ) → i < 0 + count → normal (chain_at i) (types_at i) (joined_at i (unfold_all (map (state_at v C g) (places 0 count)))) ≡ state_at v C g i
      each i h =
          let h' : i < count = omega (arith, h) in
          let z : 0 + i ≡ i = omega arith in
          ap (normal (chain_at i) (types_at i)) (append-nil (unfolded (chain_at i) (types_at i) (get_or (map (state_at v C g) (places 0 count)) i Empty)))
          ∙ ap (λ t. normal (chain_at i) (types_at i) (unfolded (chain_at i) (types_at i) t)) (get_or-places (state_at v C g) Empty 0 count i h' ∙ ap (state_at v C g) z)
          ∙ again (chain_at i) (types_at i) (each_call v.calls l i).0 (each_call v.calls l i).1 (feeds_of v g i C) (feeds_here C g i h' k)

  pub tables_reload : IsLegalView v → (C : List (Contribution v)) → AreContributions v C → tables v (map (of_states v) (tables v C)) ≡ tables v C
  tables_reload l C k =
      sym (tables_are (map (of_states v) lines))
      ∙ ap (map (λ g. (g, states_of (flat_map (of_group g) (map (of_states v) lines))))) (groups_back ∙ sym names)
      ∙ ap (λ F. map (λ g. (g, states_of (flat_map (of_group g) F))) (map index lines)) (sym (loaded lines))
      ∙ spread_back of_group put nothing_more unfold_all states_of (λ g t. (g, t)) (λ g. Unit {0}) (λ g f u. own g f) other (λ g h. refl) lines apart each_line
      ∙ same_pairs lines
    where
      lines : List (List Value × List Tree)
      lines = tables v C

      names : map index lines ≡ groups v C
      names = group_names (λ g. map (state_at v C g) (places 0 count)) (groups v C)

      groups_back : groups v (map (of_states v) lines) ≡ groups v C
      groups_back =
          groups_are v (map (of_states v) lines)
          ∙ ap (λ gs. firsts_put (is_empty v.keys) (different compare_rows gs)) (map_after key_of (of_states v) lines ∙ names)
          ∙ put_groups v C

      apart : Apart (map index lines)
      apart = subst Apart (sym names) (rising_apart compare_rows rows_order (groups v C) (groups_ascend v C))

      each_line : Each (λ p. Unit {0} × (states_of (unfold_all p.1) ≡ p.1)) lines
      each_line = each_of_map (λ p. Unit {0} × (states_of (unfold_all p.1) ≡ p.1)) (λ g. (g, map (state_at v C g) (places 0 count))) (λ g. (tt, line_back l C k g)) (groups v C)

      same_pairs : (ps : List (List Value × List Tree)) → map (λ p. (p.0, p.1)) ps ≡ ps
      same_pairs [] = refl
      same_pairs (p ∷ ps) = ap (◌∷◌ p) (same_pairs ps)
