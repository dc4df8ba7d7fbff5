-- The state of windowFunnel, and what it stands for.
use Rattle.std.proofs.Common.{◌≡◌, ℕ, suc, ◌+◌, ◌<◌, ◌≤◌, ◌^◌, Bool, true, false, not, ◌||◌, List, [], ◌∷◌, ◌++◌, map, length, pos, refl, sym, ap, ap₂, ◌∙◌, subst, arith}
use Rattle.std.specs.Prelude.{filter}
use Rattle.agg_terms.specs.Chains.{Leaf, Of, Ty, Whole, WindowFunnel}
use Rattle.agg_terms.specs.Lists.{is_empty}
use Rattle.agg_terms.specs.Order.{ascending}
use Rattle.agg_terms.specs.Trees.{IsEventTree, IsLeafTree, by_time}
use Rattle.agg_terms.specs.Types.{conditions}
use Rattle.agg_terms.specs.Values.{Event, Events, Num, Tree, Value}
use Rattle.agg_meaning.specs.Events.{events, funnel_level, is_some_mask, time_of}
use Rattle.agg_meaning.specs.Feeds.{IsLeafFeed, no_null}
use Rattle.agg_meaning.specs.Functions.{leaf_normal, unless_none}
use Rattle.agg_meaning.specs.Lawful.{TakesTypes}
use Rattle.agg_meaning.specs.States.{Held, IsFedBy, Means, Stands, TakesRow, TakesState, made_for}
use Rattle.agg_meaning.specs.Suffixes.{fed, meaning, normal}
use Rattle.window_funnel.specs.Conditions.{cut_to}
use Rattle.window_funnel.proofs.Cuts.{cut_same}
use Rattle.event_leaves.specs.Funnels.{funnel_held}
use Rattle.event_leaves.specs.Kept.{IsKept, Kept, event_tree, joined, kept_of, no_rows, with_row}
use Rattle.event_leaves.specs.Rows.{argument, event_read}
use Rattle.std.proofs.lemmas.Simd.{map-map}
use Rattle.value_types.specs.Folds.{value_of}
use Rattle.value_types.specs.declared.value.Value as coded
use Rattle.typed_columns.specs.Items.{item_value}
use Rattle.typed_columns.specs.declared.item.Item.{Item}
use Rattle.event_leaves.proofs.EventStates.{events_are, events_one, fed_known, read_is, stored, timed_row, tree_joined}
use Rattle.std.proofs.lemmas.List.Elements.{filter-append}

-- as many conditions as arguments after the time
conditions_are : (n : ℕ) (ts : List Ty) → n + 1 ≡ length ts → n ≡ conditions ts
conditions_are n [] e = absurd (omega arith)
conditions_are n (t ∷ ts) e = omega arith

made_is : (window : ℕ) (strict : Bool) (n : ℕ) (f : Leaf) (ts : List Ty) → WindowFunnel window strict ≡ f → n + 1 ≡ length ts →
    (funnel_held window strict (no_rows n)).made ≡ made_for f ts
made_is window strict n f ts e l =
    subst (λ g. (funnel_held window strict (no_rows n)).made ≡ made_for g ts) e
    (ap (λ m. record { leaf = WindowFunnel window strict; result = Whole 8; arguments = m }) l)

pub fresh_stands : (window : ℕ) (strict : Bool) (n : ℕ) (f : Leaf) (ts : List Ty) → WindowFunnel window strict ≡ f → n + 1 ≡ length ts →
    Stands f ts [] (funnel_held window strict (no_rows n))
fresh_stands window strict n f ts e l =
    subst (λ g. Stands g ts [] (funnel_held window strict (no_rows n))) e
    (ap (λ m. record { leaf = WindowFunnel window strict; result = Whole 8; arguments = m }) l, refl)

-- what a state that stands for rows has of them
at_events : (n : ℕ) (k : Kept) (L : List (List Value)) → IsKept k → event_tree k.is_fed k.events ≡ unless_none (filter no_null L) (Events (events n (filter no_null L))) →
    (k.is_fed ≡ not (is_empty (filter no_null L))) × (k.events ≡ events n (filter no_null L))
at_events n k L s e = (fed_known n (filter no_null L) k.is_fed k.events s.blank e, events_are n (filter no_null L) k.is_fed k.events s.blank e)

joined_stands : (window other : ℕ) (strict mode : Bool) (k l : Kept) → IsKept k → IsKept l →
    TakesState (funnel_held window strict k) (funnel_held other mode l) (funnel_held window strict (joined k l))
joined_stands window other strict mode k l s u f ts A B a b =
    (a.0, subst (λ g. event_tree (joined k l).is_fed (joined k l).events ≡ leaf_normal g ts (filter no_null (A ++ B))) (ap (λ m. m.leaf) a.0) whole)
  where
    tree_a : event_tree k.is_fed k.events ≡ leaf_normal (WindowFunnel window strict) ts (filter no_null A)
    tree_a = subst (λ g. event_tree k.is_fed k.events ≡ leaf_normal g ts (filter no_null A)) (sym (ap (λ m. m.leaf) a.0)) a.1

    tree_b : event_tree l.is_fed l.events ≡ leaf_normal (WindowFunnel other mode) ts (filter no_null B)
    tree_b = subst (λ g. event_tree l.is_fed l.events ≡ leaf_normal g ts (filter no_null B)) (sym (ap (λ m. m.leaf) b.0)) b.1

    whole : event_tree (joined k l).is_fed (joined k l).events ≡ leaf_normal (WindowFunnel window strict) ts (filter no_null (A ++ B))
    whole =
        tree_joined (conditions ts) (filter no_null A) (filter no_null B) k.is_fed l.is_fed k.events l.events
        (at_events (conditions ts) k A s tree_a).0 (at_events (conditions ts) l B u tree_b).0 (at_events (conditions ts) k A s tree_a).1 (at_events (conditions ts) l B u tree_b).1
        ∙ ap (leaf_normal (WindowFunnel window strict) ts) (sym (filter-append no_null A B))

row_stands : (window : ℕ) (strict : Bool) (k : Kept) (r : List Value) → IsKept k →
    TakesRow (funnel_held window strict k) r (funnel_held window strict (with_row k r))
row_stands window strict k r s f ts L g v live a =
    (a.0, subst (λ h. event_tree true (with_row k r).events ≡ leaf_normal h ts (filter no_null (L ++ r ∷ []))) (ap (λ m. m.leaf) a.0) whole)
  where
    typed : TakesTypes (WindowFunnel window strict) ts
    typed = subst (λ h. TakesTypes h ts) (sym (ap (λ m. m.leaf) a.0)) g

    values : IsLeafFeed (WindowFunnel window strict) ts r
    values = subst (λ h. IsLeafFeed h ts r) (sym (ap (λ m. m.leaf) a.0)) v

    count : k.conditions ≡ conditions ts
    count = conditions_are k.conditions ts (ap (λ m. m.arguments) a.0)

    tree : event_tree k.is_fed k.events ≡ leaf_normal (WindowFunnel window strict) ts (filter no_null L)
    tree = subst (λ h. event_tree k.is_fed k.events ≡ leaf_normal h ts (filter no_null L)) (sym (ap (λ m. m.leaf) a.0)) a.1

    read : filter is_some_mask (event_read k.conditions r ∷ []) ≡ events (conditions ts) (r ∷ [])
    read =
        ap (λ n. filter is_some_mask (event_read n r ∷ [])) count
        ∙ ap (λ e. filter is_some_mask (e ∷ [])) (read_is (conditions ts) r (timed_row ts r typed values live))
        ∙ events_one (conditions ts) r

    alive : filter no_null (r ∷ []) ≡ r ∷ []
    alive = rw live

    or_true : (b : Bool) → true ≡ b || true
    or_true true = refl
    or_true false = refl

    whole : event_tree true (with_row k r).events ≡ leaf_normal (WindowFunnel window strict) ts (filter no_null (L ++ r ∷ []))
    whole =
        ap (λ b. event_tree b (with_row k r).events) (or_true k.is_fed)
        ∙ tree_joined (conditions ts) (filter no_null L) (r ∷ []) k.is_fed true k.events (filter is_some_mask (event_read k.conditions r ∷ []))
        (at_events (conditions ts) k L s tree).0 refl (at_events (conditions ts) k L s tree).1 read
        ∙ ap (leaf_normal (WindowFunnel window strict) ts) (ap (λ l. filter no_null L ++ l) (sym alive) ∙ sym (filter-append no_null L (r ∷ [])))

-- as the code has it: what is kept is known by an equation
pub rows_taken : (window other : ℕ) (strict mode : Bool) (k l m : Kept) → IsKept k → IsKept l → m ≡ joined k l →
    TakesState (funnel_held window strict k) (funnel_held other mode l) (funnel_held window strict m)
rows_taken window other strict mode k l m s u e =
    subst (λ z. TakesState (funnel_held window strict k) (funnel_held other mode l) (funnel_held window strict z)) (sym e) (joined_stands window other strict mode k l s u)

pub row_taken : (window : ℕ) (strict : Bool) (k m : Kept) (r : List Value) → IsKept k → m ≡ with_row k r →
    TakesRow (funnel_held window strict k) r (funnel_held window strict m)
row_taken window strict k m r s e = subst (λ z. TakesRow (funnel_held window strict k) r (funnel_held window strict z)) (sym e) (row_stands window strict k r s)

-- a row of items is the row of their values
pub items_taken : (s t : Held) (items : List Item) (r : List coded.Value) → map item_value items ≡ r → TakesRow s (map argument items) t → TakesRow s (map value_of r) t
items_taken s t items r e h = subst (λ l. TakesRow s l t) (sym (map-map value_of item_value items) ∙ ap (map value_of) e) h

-- the level
pub level_means : (window : ℕ) (strict : Bool) (k : Kept) (v : Value) → IsKept k → v ≡ Num (pos (funnel_level window strict (map (cut_to k.conditions) k.events))) → Means (funnel_held window strict k) v
level_means window strict k v s e f ts L g a =
    e
    ∙ ap (λ es. Num (pos (funnel_level window strict es))) (cut_same k.conditions k.events s.within ∙ (at_events (conditions ts) k L s tree).1)
    ∙ ap (λ h. meaning (Of h) ts L) (ap (λ m. m.leaf) a.0)
  where
    tree : event_tree k.is_fed k.events ≡ leaf_normal (WindowFunnel window strict) ts (filter no_null L)
    tree = subst (λ h. event_tree k.is_fed k.events ≡ leaf_normal h ts (filter no_null L)) (sym (ap (λ m. m.leaf) a.0)) a.1

-- as the code has it: what is kept is known by equations
pub level_known : (window : ℕ) (strict : Bool) (k : Kept) (n level : ℕ) (es : List Event) (v : Value) → IsKept k → n ≡ k.conditions → es ≡ k.events → level ≡ funnel_level window strict (map (cut_to n) es) → v ≡ Num (pos level) →
    Means (funnel_held window strict k) v
level_known window strict k n level es v s c h l e =
    level_means window strict k v s (e ∙ ap (λ m. Num (pos m)) (l ∙ ap₂ (λ m fs. funnel_level window strict (map (cut_to m) fs)) c h))

pub fed_is : (window : ℕ) (strict : Bool) (k : Kept) → IsKept k → IsFedBy (funnel_held window strict k) k.is_fed
fed_is window strict k s f ts L a =
    (at_events (conditions ts) k L s tree).0
  where
    tree : event_tree k.is_fed k.events ≡ leaf_normal (WindowFunnel window strict) ts (filter no_null L)
    tree = subst (λ h. event_tree k.is_fed k.events ≡ leaf_normal h ts (filter no_null L)) (sym (ap (λ m. m.leaf) a.0)) a.1

-- a stored tree
tree_held : (window : ℕ) (strict : Bool) (n : ℕ) (f : Leaf) (ts : List Ty) (t : Tree) → WindowFunnel window strict ≡ f → n + 1 ≡ length ts → IsLeafTree f ts t →
    event_tree (kept_of n t).is_fed (kept_of n t).events ≡ t
tree_held window strict n f ts t e l k =
    stored n t (subst (λ m. IsEventTree m t) (sym (conditions_are n ts l)) (subst (λ h. IsLeafTree h ts t) (sym e) k))

pub tree_back : (window : ℕ) (strict : Bool) (n : ℕ) (f : Leaf) (ts : List Ty) (t : Tree) (k : Kept) → WindowFunnel window strict ≡ f → n + 1 ≡ length ts → k ≡ kept_of n t → IsLeafTree f ts t →
    event_tree k.is_fed k.events ≡ t
tree_back window strict n f ts t k e l h i = ap (λ z. event_tree z.is_fed z.events) h ∙ tree_held window strict n f ts t e l i
