-- What is kept of rows, and the normal form of a list of rows.
use Rattle.std.proofs.Common.{◌≡◌, ℕ, suc, ◌+◌, ◌-◌, ◌<◌, ◌≤◌, ◌%◌, ◌^◌, Bool, true, false, not, cond, ◌||◌, List, [], ◌∷◌, ◌++◌, map, length, pos, refl, sym, ap, ap₂, ◌∙◌, subst, arith, true≢false, inl, inr, mod-eq_of_lt, mod-lt, pow_pos}
use Rattle.std.specs.Prelude.{filter}
use Rattle.std.proofs.lemmas.List.{append-nil, map-append}
use Rattle.std.proofs.lemmas.List.Elements.{filter-append}
use Rattle.agg_terms.specs.Chains.{Nullable, Ty, Whole, Arr, MapTy, Signed, StateOf, Str}
use Rattle.agg_terms.specs.Lists.{Each, NotFalling, is_empty, rest_of}
use Rattle.agg_terms.specs.Order.{ascending}
use Rattle.agg_terms.specs.Trees.{IsEvent, IsEventTree, IsValue, IsPlain, by_time, is_one}
use Rattle.agg_terms.specs.Types.{conditions}
use Rattle.agg_terms.specs.Values.{Empty, Event, Events, Nil, Num, Tree, Value, is_null}
use Rattle.agg_meaning.specs.Events.{event, events, is_some_mask, mask_of, mets, time_of}
use Rattle.agg_meaning.specs.Feeds.{AreValues, no_null, widened, widened_first}
use Rattle.agg_meaning.specs.Functions.{unless_none}
use Rattle.agg_meaning.specs.Lawful.{IsTime, TakesTime}
use Rattle.agg_meaning.proofs.Kept.{each_ascending, each_filter, each_append}
use Rattle.agg_meaning.proofs.LeafTrees.{each_weaker}
use Rattle.window_funnel.specs.Conditions.{cut_to}
use Rattle.event_leaves.specs.Kept.{IsKept, Kept, event_tree, has_rows, joined, kept_of, stored_events, with_row}
use Rattle.event_leaves.specs.Rows.{event_read}
use Rattle.event_leaves.proofs.InOrder.{apart, in_order, ordered_is}

-- the events of two lists of rows

pub events_append : (n : ℕ) (A B : List (List Value)) → events n (A ++ B) ≡ ascending by_time (events n A ++ events n B)
events_append n A B =
    ap (λ l. ascending by_time (filter is_some_mask l)) (map-append (event n) A B)
    ∙ ap (ascending by_time) (filter-append is_some_mask (map (event n) A) (map (event n) B))
    ∙ sym (apart (filter is_some_mask (map (event n) A)) (filter is_some_mask (map (event n) B)))

-- a row with a time of 64 bits
pub timed_row : (ts : List Ty) (r : List Value) → TakesTime ts → AreValues (widened_first ts) r → no_null r ≡ true → time_of r < 2 ^ 64
timed_row [] r k v n = absurd k
timed_row (t ∷ ts) [] k v n = absurd v
timed_row (t ∷ ts) (w ∷ r) k v n = go t k.0 v.0
  where
    plain : (w : Value) (x : ℕ) → w ≡ Num (pos x) → x < 2 ^ 64 → time_of (w ∷ r) < 2 ^ 64
    plain w x e l = subst (λ z. time_of (z ∷ r) < 2 ^ 64) (sym e) l

    is_nil : w ≡ Nil → ⊥
    is_nil e = true≢false (sym n ∙ ap (λ z. no_null (z ∷ r)) e)

    go : (t : Ty) → IsTime t → IsValue (widened t) w → time_of (w ∷ r) < 2 ^ 64
    go (Whole m) i h = plain w h.0 h.1 h.2
    go (Nullable t) i (inl e) = absurd (is_nil e)
    go (Nullable t) i (inr h) = go t i h
    go _ i h = absurd i

pub read_is : (n : ℕ) (r : List Value) → time_of r < 2 ^ 64 → event_read n r ≡ event n r
read_is n r l = ap (λ t. record { time = t; mask = mask_of (mets n (rest_of r)) }) (mod-eq_of_lt l)

-- what a tree of rows says of them

rows_known : (n : ℕ) (L : List (List Value)) → has_rows (unless_none L (Events (events n L))) ≡ not (is_empty L)
rows_known n [] = refl
rows_known n (r ∷ L) = refl

events_known : (n : ℕ) (L : List (List Value)) → stored_events (unless_none L (Events (events n L))) ≡ events n L
events_known n [] = refl
events_known n (r ∷ L) = refl

tree_known : (b : Bool) (es : List Event) → (b ≡ false → es ≡ []) → (has_rows (event_tree b es) ≡ b) × (stored_events (event_tree b es) ≡ es)
tree_known true es k = (refl, refl)
tree_known false es k = (refl, sym (k refl))

pub fed_known : (n : ℕ) (L : List (List Value)) (b : Bool) (es : List Event) → (b ≡ false → es ≡ []) → event_tree b es ≡ unless_none L (Events (events n L)) → b ≡ not (is_empty L)
fed_known n L b es k e = sym (tree_known b es k).0 ∙ ap has_rows e ∙ rows_known n L

pub events_are : (n : ℕ) (L : List (List Value)) (b : Bool) (es : List Event) → (b ≡ false → es ≡ []) → event_tree b es ≡ unless_none L (Events (events n L)) → es ≡ events n L
events_are n L b es k e = sym (tree_known b es k).1 ∙ ap stored_events e ∙ events_known n L

pub tree_from : (L : List (List Value)) (es : List Event) → event_tree (not (is_empty L)) es ≡ unless_none L (Events es)
tree_from [] es = refl
tree_from (r ∷ L) es = refl

fed_append : (A B : List (List Value)) → not (is_empty A) || not (is_empty B) ≡ not (is_empty (A ++ B))
fed_append [] B = refl
fed_append (r ∷ A) B = refl

-- the tree of two lists of rows
pub tree_joined : (n : ℕ) (A B : List (List Value)) (b c : Bool) (es fs : List Event) → b ≡ not (is_empty A) → c ≡ not (is_empty B) → es ≡ events n A → fs ≡ events n B →
    event_tree (b || c) (ascending by_time (es ++ fs)) ≡ unless_none (A ++ B) (Events (events n (A ++ B)))
tree_joined n A B b c es fs e f g h =
    ap₂ event_tree (ap₂ ◌||◌ e f ∙ fed_append A B) (ap₂ (λ x y. ascending by_time (x ++ y)) g h ∙ sym (events_append n A B))
    ∙ tree_from (A ++ B) (events n (A ++ B))

-- the events of one row
pub events_one : (n : ℕ) (r : List Value) → filter is_some_mask (event n r ∷ []) ≡ events n (r ∷ [])
events_one n r = go (is_some_mask (event n r)) refl
  where
    go : (b : Bool) → is_some_mask (event n r) ≡ b → filter is_some_mask (event n r ∷ []) ≡ ascending by_time (filter is_some_mask (event n r ∷ []))
    go true e = rw e
    go false e = rw e

-- what is kept stays so
pub kept_fed : (k : Kept) (e : Event) (es : List Event) → IsKept k → e.mask < 2 ^ k.conditions → es ≡ ascending by_time (k.events ++ filter is_some_mask (e ∷ [])) →
    IsKept (record { conditions = k.conditions; is_fed = true; events = es })
kept_fed k e es s l h = record {
  some = s.some;
  most = s.most;
  ordered = subst (NotFalling by_time) (sym h) (in_order (k.events ++ filter is_some_mask (e ∷ [])));
  within =
      subst (Each (λ f. f.mask < 2 ^ k.conditions)) (sym h)
      (each_ascending (λ f. f.mask < 2 ^ k.conditions) by_time (k.events ++ filter is_some_mask (e ∷ []))
      (each_append (λ f. f.mask < 2 ^ k.conditions) k.events (filter is_some_mask (e ∷ [])) s.within
      (each_weaker (λ f. (f.mask < 2 ^ k.conditions) × (is_some_mask f ≡ true)) (λ f. f.mask < 2 ^ k.conditions) (λ f i. i.0) (filter is_some_mask (e ∷ []))
      (each_filter (λ f. f.mask < 2 ^ k.conditions) is_some_mask (e ∷ []) (l, tt)))));
  blank = λ i. absurd (true≢false i);
}

pub kept_joined : (k l : Kept) (es : List Event) → IsKept k → IsKept l → k.conditions ≡ l.conditions → es ≡ ascending by_time (k.events ++ l.events) →
    IsKept (record { conditions = k.conditions; is_fed = k.is_fed || l.is_fed; events = es })
kept_joined k l es s u c h = record {
  some = s.some;
  most = s.most;
  ordered = subst (NotFalling by_time) (sym h) (in_order (k.events ++ l.events));
  within =
      subst (Each (λ f. f.mask < 2 ^ k.conditions)) (sym h)
      (each_ascending (λ f. f.mask < 2 ^ k.conditions) by_time (k.events ++ l.events)
      (each_append (λ f. f.mask < 2 ^ k.conditions) k.events l.events s.within (subst (λ n. Each (λ f. f.mask < 2 ^ n) l.events) (sym c) u.within)));
  blank = λ i. h ∙ ap₂ (λ x y. ascending by_time (x ++ y)) (s.blank (first k.is_fed l.is_fed i)) (u.blank (second k.is_fed l.is_fed i));
}
  where
    first : (b c : Bool) → b || c ≡ false → b ≡ false
    first true c i = i
    first false c i = refl

    second : (b c : Bool) → b || c ≡ false → c ≡ false
    second true c i = absurd (true≢false i)
    second false c i = i

cut_fits : (n : ℕ) (es : List Event) → Each (λ f. f.mask < 2 ^ n) (map (cut_to n) es)
cut_fits n [] = tt
cut_fits n (e ∷ es) = (mod-lt e.mask (pow_pos n), cut_fits n es)

pub kept_stored : (n : ℕ) (t : Tree) (b : Bool) (es : List Event) → 1 ≤ n → n ≤ 32 → b ≡ has_rows t → es ≡ ascending by_time (map (cut_to n) (stored_events t)) →
    IsKept (record { conditions = n; is_fed = b; events = es })
kept_stored n t b es some most e h = record {
  some = some;
  most = most;
  ordered = subst (NotFalling by_time) (sym h) (in_order (map (cut_to n) (stored_events t)));
  within =
      subst (Each (λ f. f.mask < 2 ^ n)) (sym h)
      (each_ascending (λ f. f.mask < 2 ^ n) by_time (map (cut_to n) (stored_events t)) (cut_fits n (stored_events t)));
  blank = λ i. h ∙ ap (λ x. ascending by_time (map (cut_to n) x)) (none t (sym e ∙ i));
}
  where
    none : (t : Tree) → has_rows t ≡ false → stored_events t ≡ []
    none (Events es) i = absurd (true≢false i)
    none _ i = refl

-- a tree's events
within_is : (n : ℕ) (es : List Event) → Each (IsEvent n) es → map (cut_to n) es ≡ es
within_is n [] k = refl
within_is n (e ∷ es) k = ap₂ ◌∷◌ (ap (λ m. record { time = e.time; mask = m }) (mod-eq_of_lt k.0.2)) (within_is n es k.1)

pub stored : (n : ℕ) (t : Tree) → IsEventTree n t → event_tree (kept_of n t).is_fed (kept_of n t).events ≡ t
stored n t (inl e) = subst (λ u. event_tree (kept_of n u).is_fed (kept_of n u).events ≡ u) (sym e) refl
stored n t (inr k) =
    subst (λ u. event_tree (kept_of n u).is_fed (kept_of n u).events ≡ u) (sym k.1)
    (ap Events (ap (ascending by_time) (within_is n k.0 k.2) ∙ ordered_is k.0 k.3))
