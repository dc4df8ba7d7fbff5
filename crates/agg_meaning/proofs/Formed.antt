-- A state tree unfolds to feeds, the normal form of feeds is a state tree, and the laws.
use Rattle.std.proofs.Common.{◌≡◌, ℕ, zero, suc, ◌+◌, ℤ, pos, ◌*◌, ◌+ℤ◌, Bool, true, false, cond, nat_eq, List, [], ◌∷◌, ◌++◌, map, length, Option, Some, None, refl, sym, ap, ◌∙◌, subst}
use Rattle.std.specs.Prelude.{flat_map, filter, option_to_list}
use Rattle.std.specs.Ordering.{is_eq}
use Rattle.std.proofs.lemmas.List.{length-map}
use Rattle.std.proofs.lemmas.Int.{ints}
use mir.Syntax.{w64}
use Rattle.std.proofs.Common.{◌<◌, ◌≤◌, ◌-◌, ◌-ℤ◌, ◌<ℤ◌, nat_abs, FitsSigned, le-div_iff_mul-le, arith}
use Rattle.agg_terms.specs.Values.{Value, Tree, slots_of, keyed_of, slots_tree, keyed_tree}
use Rattle.agg_terms.specs.Chains.{Chain, Of, If, Array, MapOf, ForEach, OrNull, OrDefault, Distinct, State, Merge, Resample, Ty}
use Rattle.agg_meaning.specs.Feeds.{Feed}
use Rattle.agg_terms.specs.Lists.{places, numbered}
use Rattle.agg_meaning.specs.Picks.{when_met, at_place, width, after_holes, holes, in_interval, is_inside}
use Rattle.agg_terms.specs.Types.{intervals}
use Rattle.agg_terms.specs.Order.{compare, compare_rows, firsts}
use Rattle.agg_meaning.specs.Feeds.{no_null}
use Rattle.agg_terms.specs.Types.{first_type}
use Rattle.agg_terms.specs.Types.{inward, key_type}
use Rattle.agg_meaning.specs.Suffixes.{at_key, keys_of, unfolded, normal, fed, meaning}
use Rattle.agg_meaning.specs.Lawful.{IsSound}
use Rattle.agg_terms.specs.Lists.{Each, Rising}
use Rattle.agg_terms.specs.Trees.{IsPlain, IsRow, IsTree}
use Rattle.agg_meaning.specs.Feeds.{AreValues, IfHere, IsFeed, IsKey}
use Rattle.agg_meaning.specs.Lawful.{IsTyped}
use Rattle.agg_terms.proofs.Lists.{trees_back, keyed_back, table_back}
use Rattle.agg_terms.proofs.Comparing.{compare_order, rows_order}
use Rattle.agg_meaning.proofs.Links.{length-places}
use Rattle.agg_meaning.proofs.LeafTrees.{each_map, each_weaker}
use Rattle.agg_meaning.proofs.Kept.{each_flat_map, each_of_map, each_different, each_firsts, different_order, firsts_order}
use Rattle.agg_meaning.proofs.LeafFormed.{leaf_formed, leaf_unfolds, live_rows_of, row_values}
use Rattle.agg_meaning.proofs.ChainLaws.{joins, fed_same, means_same}
use Rattle.agg_meaning.proofs.TreeLaws.{back, each_numbered}

holes_here : {X : Type 0} (P : X → Type 0) (n : ℕ) → Each (IfHere P) (holes n)
holes_here P zero = tt
holes_here P (suc n) = (tt, holes_here P n)

after_holes_here : {X : Type 0} (P : X → Type 0) (i : ℕ) (x : X) → P x → Each (IfHere P) (after_holes i x)
after_holes_here P zero x k = (k, tt)
after_holes_here P (suc i) x k = (tt, after_holes_here P i x k)

each_numbered_content : {X : Type 0} (P : X → Type 0) (i : ℕ) (xs : List X) → Each P xs → Each (λ z. P z.1) (numbered i xs)
each_numbered_content P i [] k = tt
each_numbered_content P i (x ∷ xs) k = (k.0, each_numbered_content P (suc i) xs k.1)

key_between : (a b : ℤ) (m : ℕ) → (a <ℤ b) → m < nat_abs (b -ℤ a) → FitsSigned w64 a → FitsSigned w64 b → IsKey (a +ℤ pos m)
key_between a b m l n f g = (omega (arith, ints), omega (arith, ints))

-- the key that stands for an interval is one
start_is_key : (a b : ℤ) (p i : ℕ) → (a <ℤ b) → 0 < p → i < intervals a b p → FitsSigned w64 a → FitsSigned w64 b → IsKey (a +ℤ pos (i * p))
start_is_key a b p i l q h f g =
    let m : suc i * p ≤ nat_abs (b -ℤ a) + (p - 1) = (le-div_iff_mul-le q).0 h in
    let n : i * p < nat_abs (b -ℤ a) = omega (arith, m) in
    key_between a b (i * p) l n f g

pub unfolds : (c : Chain) (ts : List Ty) → IsSound c → IsTyped c ts → (t : Tree) → IsTree c ts t → Each (IsFeed c ts) (unfolded c ts t)
unfolds (Of f) ts g s t k = leaf_unfolds f ts s t k
unfolds (If c) ts g s t k =
    each_map (IsFeed c (inward (If c) ts)) (IsFeed (If c) ts) (λ f. (f, Some 1)) (λ f h. (h, omega arith)) (unfolded c (inward (If c) ts) t) (unfolds c (inward (If c) ts) g s t k)
unfolds (Array c) ts g s t k =
    each_map (IsFeed c (inward (Array c) ts)) (IsFeed (Array c) ts) (λ f. f ∷ []) (λ f h. (h, tt)) (unfolded c (inward (Array c) ts) t) (unfolds c (inward (Array c) ts) g s t k)
unfolds (MapOf c) ts g s t k =
    subst (λ u. Each (IsFeed (MapOf c) ts) (unfolded (MapOf c) ts u)) (sym k.1)
    (each_flat_map (λ e. IsPlain (key_type (first_type ts)) e.0 × IsTree c (inward (MapOf c) ts) e.1) (IsFeed (MapOf c) ts)
    (λ e. ((e.0, None) ∷ []) ∷ map (λ f. (e.0, Some f) ∷ []) (unfolded c (inward (MapOf c) ts) e.1))
    (λ e h. (((h.0, tt), tt), each_map (IsFeed c (inward (MapOf c) ts)) (IsFeed (MapOf c) ts) (λ f. (e.0, Some f) ∷ []) (λ f g. ((h.0, g), tt)) (unfolded c (inward (MapOf c) ts) e.1) (unfolds c (inward (MapOf c) ts) g s e.1 h.1)))
    (keyed_of (keyed_tree k.0))
    (subst (Each (λ e. IsPlain (key_type (first_type ts)) e.0 × IsTree c (inward (MapOf c) ts) e.1)) (sym (keyed_back k.0)) k.2))
unfolds (ForEach c) ts g s t k =
    subst (λ u. Each (IsFeed (ForEach c) ts) (unfolded (ForEach c) ts u)) (sym k.1) (
      holes_here (IsFeed c (inward (ForEach c) ts)) (length (slots_of (slots_tree k.0))),
      each_flat_map (λ z. IsTree c (inward (ForEach c) ts) z.1) (IsFeed (ForEach c) ts)
          (λ z. map (after_holes z.0) (unfolded c (inward (ForEach c) ts) z.1))
          (λ z h. each_map (IsFeed c (inward (ForEach c) ts)) (IsFeed (ForEach c) ts) (after_holes z.0) (after_holes_here (IsFeed c (inward (ForEach c) ts)) z.0) (unfolded c (inward (ForEach c) ts) z.1) (unfolds c (inward (ForEach c) ts) g s z.1 h))
          (numbered 0 (slots_of (slots_tree k.0)))
          (each_numbered_content (IsTree c (inward (ForEach c) ts)) 0 (slots_of (slots_tree k.0)) (subst (Each (IsTree c (inward (ForEach c) ts))) (sym (trees_back k.0)) k.2)),
    )
unfolds (OrNull c) ts g s t k = unfolds c ts g s t k
unfolds (OrDefault c) ts g s t k = unfolds c ts g s t k
unfolds (Distinct c) ts g s t k =
    subst (λ u. Each (AreValues ts) (unfolded (Distinct c) ts u)) (sym k.1)
    (subst (Each (AreValues ts)) (sym (table_back k.0)) (each_weaker (IsRow ts) (AreValues ts) (row_values ts) k.0 k.2))
unfolds (State c) ts g s t k = unfolds c ts g s t k
unfolds (Merge c) ts g s t k = (k, tt)
unfolds (Resample a b p c) ts g s t k =
    subst (λ u. Each (IsFeed (Resample a b p c) ts) (unfolded (Resample a b p c) ts u)) (sym k.1)
    (each_flat_map (λ z. IsTree c (inward (Resample a b p c) ts) z.1 × (z.0 < intervals a b p)) (IsFeed (Resample a b p c) ts)
    (λ z. map (λ f. (f, Some (a +ℤ pos (z.0 * p)))) (unfolded c (inward (Resample a b p c) ts) z.1))
    (λ z h. each_map (IsFeed c (inward (Resample a b p c) ts)) (IsFeed (Resample a b p c) ts) (λ f. (f, Some (a +ℤ pos (z.0 * p)))) (λ f q. (q, start_is_key a b p z.0 g.0 g.1 h.1 g.3 g.4)) (unfolded c (inward (Resample a b p c) ts) z.1) (unfolds c (inward (Resample a b p c) ts) g.2 s z.1 h.0))
    (numbered 0 (slots_of (slots_tree k.0)))
    (subst (λ l. Each {X = ℕ × Tree} (λ z. IsTree c (inward (Resample a b p c) ts) z.1 × (z.0 < intervals a b p)) (numbered 0 l)) (sym (trees_back k.0))
    (each_numbered (IsTree c (inward (Resample a b p c) ts)) (λ z. IsTree c (inward (Resample a b p c) ts) z.1 × (z.0 < intervals a b p)) (intervals a b p) 0 k.0 (omega (arith, k.3)) (λ i u l h. (h, l)) k.2)))

-- what a link picks out of feeds are feeds
pub met_here : {X : Type 0} (P : X → Type 0) (f : X × Option ℕ) → P f.0 → Each P (when_met f)
met_here P (x, None) k = tt
met_here P (x, Some n) k = pick (nat_eq n 0)
  where
    pick : (b : Bool) → Each P (cond b [] (x ∷ []))
    pick true = tt
    pick false = (k, tt)

pub inside_here : {X : Type 0} (P : X → Type 0) (a b : ℤ) (p j : ℕ) (f : X × Option ℤ) → P f.0 → Each P (in_interval a b p j f)
inside_here P a b p j (x, None) k = tt
inside_here P a b p j (x, Some z) k = pick (is_inside a b p j z)
  where
    pick : (b : Bool) → Each P (cond b (x ∷ []) [])
    pick true = (k, tt)
    pick false = tt

option_here : {X : Type 0} (P : X → Type 0) (o : Option X) → IfHere P o → Each P (option_to_list o)
option_here P None k = tt
option_here P (Some x) k = (k, tt)

pub place_here : {X : Type 0} (P : X → Type 0) (i : ℕ) (f : List (Option X)) → Each (IfHere P) f → Each P (at_place i f)
place_here P i [] k = tt
place_here P zero (h ∷ f) k = option_here P h k.0
place_here P (suc i) (h ∷ f) k = place_here P i f k.1

pub key_here : {X : Type 0} (K : Value → Type 0) (P : X → Type 0) (j : Value) (f : List (Value × Option X)) → Each (λ e. K e.0 × IfHere P e.1) f → Each P (at_key j f)
key_here K P j f k = each_flat_map (λ e. K e.0 × IfHere P e.1) P (λ e. cond (is_eq (compare j e.0)) (option_to_list e.1) []) (λ e h. pick e.1 h.1 (is_eq (compare j e.0))) f k
  where
    pick : (o : Option _) → IfHere P o → (b : Bool) → Each P (cond b (option_to_list o) [])
    pick o h true = option_here P o h
    pick o h false = tt

keys_here : {X : Type 0} (K : Value → Type 0) (P : X → Type 0) (L : List (List (Value × Option X))) → Each (Each (λ e. K e.0 × IfHere P e.1)) L → Each K (keys_of L)
keys_here K P L k =
    each_different K compare (flat_map (λ f. map (λ e. e.0) f) L)
    (each_flat_map (Each (λ e. K e.0 × IfHere P e.1)) K (λ f. map (λ e. e.0) f) (λ f h. each_map (λ e. K e.0 × IfHere P e.1) K (λ e. e.0) (λ e g. g.0) f h) L k)

table_here : {X : Type 0} (K : Value → Type 0) (Q : X → Type 0) (f : Value → X) → ((j : Value) → Q (f j)) → (js : List Value) → Each K js → Each {X = Value × X} (λ e. K e.0 × Q e.1) (map (λ j. (j, f j)) js)
table_here K Q f h [] k = tt
table_here K Q f h (j ∷ js) k = ((k.0, h j), table_here K Q f h js k.1)

abbrev with_tree : (Value → Tree) → Value → Value × Tree
with_tree f j = (j, f j)

abbrev its_key : Value × Tree → Value
its_key e = e.0

table_names : (f : Value → Tree) (js : List Value) → map its_key (map (with_tree f) js) ≡ js
table_names f [] = refl
table_names f (j ∷ js) = ap (◌∷◌ j) (table_names f js)

pub formed : (c : Chain) (ts : List Ty) → IsSound c → IsTyped c ts → (L : List (Feed c)) → Each (IsFeed c ts) L → IsTree c ts (normal c ts L)
formed (Of f) ts g s L k = leaf_formed f ts s L k
formed (If c) ts g s L k =
    formed c (inward (If c) ts) g s (flat_map when_met L) (each_flat_map (IsFeed (If c) ts) (IsFeed c (inward (If c) ts)) when_met (λ f h. met_here (IsFeed c (inward (If c) ts)) f h.0) L k)
formed (Array c) ts g s L k =
    formed c (inward (Array c) ts) g s (flat_map (λ f. f) L) (each_flat_map (IsFeed (Array c) ts) (IsFeed c (inward (Array c) ts)) (λ f. f) (λ f h. h) L k)
formed (MapOf c) ts g s L k = (
  map (with_tree (λ j. normal c (inward (MapOf c) ts) (flat_map (at_key j) L))) (keys_of L),
  refl,
  table_here (IsPlain (key_type (first_type ts))) (IsTree c (inward (MapOf c) ts)) (λ j. normal c (inward (MapOf c) ts) (flat_map (at_key j) L))
      (λ j. formed c (inward (MapOf c) ts) g s (flat_map (at_key j) L)
      (each_flat_map (IsFeed (MapOf c) ts) (IsFeed c (inward (MapOf c) ts)) (at_key j) (key_here (IsPlain (key_type (first_type ts))) (IsFeed c (inward (MapOf c) ts)) j) L k))
      (keys_of L) (keys_here (IsPlain (key_type (first_type ts))) (IsFeed c (inward (MapOf c) ts)) L k),
  subst (Rising compare) (sym (table_names (λ j. normal c (inward (MapOf c) ts) (flat_map (at_key j) L)) (keys_of L)))
      (different_order compare compare_order (flat_map (λ f. map (λ e. e.0) f) L)),
)
formed (ForEach c) ts g s L k = (
  map (λ i. normal c (inward (ForEach c) ts) (flat_map (at_place i) L)) (places 0 (width L)),
  refl,
  each_of_map (IsTree c (inward (ForEach c) ts)) (λ i. normal c (inward (ForEach c) ts) (flat_map (at_place i) L))
      (λ i. formed c (inward (ForEach c) ts) g s (flat_map (at_place i) L)
      (each_flat_map (IsFeed (ForEach c) ts) (IsFeed c (inward (ForEach c) ts)) (at_place i) (place_here (IsFeed c (inward (ForEach c) ts)) i) L k))
      (places 0 (width L)),
)
formed (OrNull c) ts g s L k = formed c ts g s L k
formed (OrDefault c) ts g s L k = formed c ts g s L k
formed (Distinct c) ts g s L k = (
  firsts compare_rows (filter no_null L),
  refl,
  each_firsts (IsRow ts) compare_rows (filter no_null L) (live_rows_of ts s.0 L k),
  firsts_order compare_rows rows_order (filter no_null L),
)
formed (State c) ts g s L k = formed c ts g s L k
formed (Merge c) ts g s L k =
    formed c (inward (Merge c) ts) g s (flat_map (unfolded c (inward (Merge c) ts)) L)
    (each_flat_map (IsFeed (Merge c) ts) (IsFeed c (inward (Merge c) ts)) (unfolded c (inward (Merge c) ts)) (unfolds c (inward (Merge c) ts) g s) L k)
formed (Resample a b p c) ts g s L k = (
  map (λ j. normal c (inward (Resample a b p c) ts) (flat_map (in_interval a b p j) L)) (places 0 (intervals a b p)),
  refl,
  each_of_map (IsTree c (inward (Resample a b p c) ts)) (λ j. normal c (inward (Resample a b p c) ts) (flat_map (in_interval a b p j) L))
      (λ j. formed c (inward (Resample a b p c) ts) g.2 s (flat_map (in_interval a b p j) L)
      (each_flat_map (IsFeed (Resample a b p c) ts) (IsFeed c (inward (Resample a b p c) ts)) (in_interval a b p j) (λ f h. inside_here (IsFeed c (inward (Resample a b p c) ts)) a b p j f h.0) L k))
      (places 0 (intervals a b p)),
  length-map (places 0 (intervals a b p)) (λ j. normal c (inward (Resample a b p c) ts) (flat_map (in_interval a b p j) L)) ∙ length-places 0 (intervals a b p),
)

-- the laws
pub again : (c : Chain) (ts : List Ty) → IsSound c → IsTyped c ts → (L : List (Feed c)) → Each (IsFeed c ts) L → normal c ts (unfolded c ts (normal c ts L)) ≡ normal c ts L
again c ts s t L k = back c ts s (normal c ts L) (formed c ts s t L k)

pub law_meaning : (c : Chain) (ts : List Ty) → IsSound c → IsTyped c ts → (L : List (Feed c)) → Each (IsFeed c ts) L → meaning c ts (unfolded c ts (normal c ts L)) ≡ meaning c ts L
law_meaning c ts s t L k = means_same c ts s (unfolded c ts (normal c ts L)) L (again c ts s t L k)

pub law_fed : (c : Chain) (ts : List Ty) → IsSound c → IsTyped c ts → (L : List (Feed c)) → Each (IsFeed c ts) L → fed c ts (unfolded c ts (normal c ts L)) ≡ fed c ts L
law_fed c ts s t L k = fed_same c ts s (unfolded c ts (normal c ts L)) L (again c ts s t L k)

pub law_joined : (c : Chain) (ts : List Ty) → IsSound c → IsTyped c ts → (A B : List (Feed c)) → Each (IsFeed c ts) A → Each (IsFeed c ts) B → normal c ts (unfolded c ts (normal c ts A) ++ unfolded c ts (normal c ts B)) ≡ normal c ts (A ++ B)
law_joined c ts s t A B h k = joins c ts (unfolded c ts (normal c ts A)) A (unfolded c ts (normal c ts B)) B (again c ts s t A h) (again c ts s t B k)
