-- A state tree of a function is the normal form of its feeds.
use Rattle.std.proofs.Common.{◌≡◌, ℕ, zero, suc, ◌%◌, ◌^◌, ◌<◌, ℤ, pos, Bool, true, false, inl, inr, List, [], ◌∷◌, map, length, take_all, replicate, Option, Some, None, refl, sym, ap, ap₂, ◌∙◌, subst, arith, true≢false, mod-eq_of_lt, Ordering, Less, Equal, Greater}
use Rattle.std.specs.Prelude.{filter}
use Rattle.std.specs.Ordering.{is_le}
use Rattle.std.proofs.lemmas.Int.{int_wrap_fits}
use Rattle.std.proofs.lemmas.List.{length-replicate, length-map}
use mir.Syntax.{w64}
use lib.IntN.{+ℤ_idr}
use Rattle.agg_terms.specs.Values.{Event, Value, Num, Bytes, Nil, Items, Pairs, Cell, Tree, Empty, Word, Events, values_tree, rows_tree, is_null}
use Rattle.agg_terms.specs.Chains.{Leaf, Count, Sum, Min, Max, ArgMin, ArgMax, GroupArray, UniqExact, QuantileExact, WindowFunnel, SequenceMatch, Retention, GroupBit, Ty, Whole, Signed, Str, Arr, MapTy, Nullable, StateOf}
use Rattle.agg_terms.specs.Order.{compare, compare_rows, ascending, different, best, into_sorted, into_set}
use Rattle.agg_terms.specs.Types.{conditions, is_signed, first_type, bare}
use Rattle.agg_meaning.specs.Functions.{event_feeds, unless_none, wrapped, counted, lower, higher, the_arg, at_most, leaf_normal, leaf_feeds, rounds, single, one_feed}
use Rattle.agg_terms.specs.Trees.{one_tree, pair_tree}
use Rattle.agg_meaning.specs.Feeds.{no_null}
use Rattle.agg_meaning.specs.Events.{event, events, event_row, is_some_mask, bools, flag}
use Rattle.agg_terms.specs.Trees.{is_one, by_time}
use Rattle.agg_meaning.proofs.EventLists.{event_back, event_back_blank, row_set}
use Rattle.agg_meaning.proofs.BitLists.{word_back}
use Rattle.agg_meaning.specs.Results.{default, plain_row}
use Rattle.agg_terms.specs.Lists.{Each, Rising, NotFalling}
use Rattle.agg_terms.specs.Trees.{IsPlain, IsRow, IsWord, IsUpTo, IsLeafTree, IsEvent}
use Rattle.agg_terms.proofs.Lists.{values_back, table_back}

-- no value of a type without Nullable is NULL
pub plain_live : (t : Ty) (v : Value) → IsPlain (bare t) v → is_null v ≡ false
plain_live (Whole n) v k = ap is_null k.1
plain_live (Signed n) v k = ap is_null k.1
plain_live Str v k = ap is_null k.1
plain_live (Arr t) v k = ap is_null k.1
plain_live (MapTy j t) v k = ap is_null k.1
plain_live (Nullable t) v k = plain_live t v k
plain_live (StateOf c ts) v k = absurd k

pub row_live : (ts : List Ty) (r : List Value) → IsRow ts r → no_null r ≡ true
row_live [] [] k = refl
row_live (t ∷ ts) (v ∷ vs) k = rw (plain_live t v k.0) (row_live ts vs k.1)
row_live [] (v ∷ vs) k = absurd k
row_live (t ∷ ts) [] k = absurd k

default_live : (t : Ty) → is_null (default (bare t)) ≡ false
default_live (Whole n) = refl
default_live (Signed n) = refl
default_live Str = refl
default_live (Arr t) = refl
default_live (MapTy j t) = refl
default_live (Nullable t) = default_live t
default_live (StateOf c ts) = refl

pub plain_row_live : (ts : List Ty) → no_null (plain_row ts) ≡ true
plain_row_live [] = refl
plain_row_live (t ∷ ts) = rw (default_live t) (plain_row_live ts)

-- a filter that keeps all
pub filter_all : {X : Type 0} (p : X → Bool) (xs : List X) → Each (λ x. p x ≡ true) xs → filter p xs ≡ xs
filter_all p [] k = refl
filter_all p (x ∷ xs) k = rw k.0 (ap (◌∷◌ x) (filter_all p xs k.1))

pub each_map : {X Y : Type 0} (P : X → Type 0) (Q : Y → Type 0) (f : X → Y) → ((x : X) → P x → Q (f x)) → (xs : List X) → Each P xs → Each Q (map f xs)
each_map P Q f h [] k = tt
each_map P Q f h (x ∷ xs) k = (h x k.0, each_map P Q f h xs k.1)

pub each_weaker : {X : Type 0} (P Q : X → Type 0) → ((x : X) → P x → Q x) → (xs : List X) → Each P xs → Each Q xs
each_weaker P Q h [] k = tt
each_weaker P Q h (x ∷ xs) k = (h x k.0, each_weaker P Q h xs k.1)

-- count: the length of a list of w feeds is only read modulo 2^64, and never made
filter_replicate : {X : Type 0} (p : X → Bool) (n : ℕ) (x : X) → p x ≡ true → filter p (replicate n x) ≡ replicate n x
filter_replicate p zero x e = refl
filter_replicate p (suc n) x e = rw e (ap (◌∷◌ x) (filter_replicate p n x e))

unless_none_replicate : {X : Type 0} (n : ℕ) (x : X) (t : Tree) → 0 < n → unless_none (replicate n x) t ≡ t
unless_none_replicate zero x t l = absurd (omega arith)
unless_none_replicate (suc n) x t l = refl

counts : (ts : List Ty) (n : ℕ) (r : List Value) → 0 < n → no_null r ≡ true → leaf_normal Count ts (filter no_null (replicate n r)) ≡ Word (pos (n % 2 ^ 64))
counts ts n r l e =
    ap (λ L. unless_none L (Word (counted L))) (filter_replicate no_null n r e)
    ∙ unless_none_replicate n r (Word (counted (replicate n r))) l
    ∙ ap (λ k. Word (pos (k % 2 ^ 64))) (length-replicate n r)

rounds_pos : (k : ℕ) → 0 < rounds k
rounds_pos zero = omega arith
rounds_pos (suc k) = omega arith

rounds_word : (k : ℕ) → k < 2 ^ 64 → rounds k % 2 ^ 64 ≡ k
rounds_word zero l = refl
rounds_word (suc k) l = mod-eq_of_lt l

-- sum
wrapped_word : (s : Bool) (z : ℤ) → IsWord s z → wrapped s z ≡ z
wrapped_word true z k = int_wrap_fits w64 z k
wrapped_word false z k = subst (λ y. wrapped false y ≡ y) (sym k.1) (ap pos (mod-eq_of_lt k.2))

-- one value
one_back : (beats : Value → Value → Bool) (v : Value) → is_null v ≡ false → one_tree (best beats (map the_arg (filter no_null (one_feed (one_tree (Some v)))))) ≡ one_tree (Some v)
one_back beats (Num n) e = refl
one_back beats (Bytes b) e = refl
one_back beats Nil e = absurd (true≢false e)
one_back beats (Items vs) e = refl
one_back beats (Pairs es) e = refl
one_back beats (Cell t) e = refl

-- lists
arg_single : (vs : List Value) → map the_arg (map single vs) ≡ vs
arg_single [] = refl
arg_single (v ∷ vs) = ap (◌∷◌ v) (arg_single vs)

singles_live : (t : Ty) (vs : List Value) → Each (IsPlain (bare t)) vs → filter no_null (map single vs) ≡ map single vs
singles_live t vs k =
    filter_all no_null (map single vs) (each_map (IsPlain (bare t)) (λ r. no_null r ≡ true) single (λ v h. rw (plain_live t v h)) vs k)

pub rows_live : (ts : List Ty) (rs : List (List Value)) → Each (IsRow ts) rs → filter no_null rs ≡ rs
rows_live ts rs k = filter_all no_null rs (each_weaker (IsRow ts) (λ r. no_null r ≡ true) (row_live ts) rs k)

at_most_all : (most : Option ℕ) (vs : List Value) → IsUpTo most (length vs) → at_most most vs ≡ vs
at_most_all None vs k = refl
at_most_all (Some n) vs k = take_all n vs k

pub rising_rest : {X : Type 0} (cmp : X → X → Ordering) (x : X) (xs : List X) → Rising cmp (x ∷ xs) → Rising cmp xs
rising_rest cmp x [] k = tt
rising_rest cmp x (y ∷ ys) k = k.1

pub into_set_first : {X : Type 0} (cmp : X → X → Ordering) (x : X) (xs : List X) → Rising cmp (x ∷ xs) → into_set cmp x xs ≡ x ∷ xs
into_set_first cmp x [] k = refl
into_set_first cmp x (y ∷ ys) k = rw k.0

pub different_rising : {X : Type 0} (cmp : X → X → Ordering) (xs : List X) → Rising cmp xs → different cmp xs ≡ xs
different_rising cmp [] k = refl
different_rising cmp (x ∷ xs) k = ap (into_set cmp x) (different_rising cmp xs (rising_rest cmp x xs k)) ∙ into_set_first cmp x xs k

not_falling_rest : {X : Type 0} (cmp : X → X → Ordering) (x : X) (xs : List X) → NotFalling cmp (x ∷ xs) → NotFalling cmp xs
not_falling_rest cmp x [] k = tt
not_falling_rest cmp x (y ∷ ys) k = k.1

into_sorted_first : {X : Type 0} (cmp : X → X → Ordering) (x : X) (xs : List X) → NotFalling cmp (x ∷ xs) → into_sorted cmp x xs ≡ x ∷ xs
into_sorted_first cmp x [] k = refl
into_sorted_first cmp x (y ∷ ys) k = go (cmp x y) refl
  where
    go : (o : Ordering) → cmp x y ≡ o → into_sorted cmp x (y ∷ ys) ≡ x ∷ y ∷ ys
    go Less e = rw e
    go Equal e = rw e
    go Greater e = absurd (true≢false (sym k.0 ∙ ap is_le e))

ascending_sorted : {X : Type 0} (cmp : X → X → Ordering) (xs : List X) → NotFalling cmp xs → ascending cmp xs ≡ xs
ascending_sorted cmp [] k = refl
ascending_sorted cmp (x ∷ xs) k = ap (into_sorted cmp x) (ascending_sorted cmp xs (not_falling_rest cmp x xs k)) ∙ into_sorted_first cmp x xs k

-- events and masks
pub flags_live : (bs : List Bool) → no_null (map flag bs) ≡ true
flags_live [] = refl
flags_live (b ∷ bs) = flags_live bs

filter_one : {X : Type 0} (p : X → Bool) (x : X) → p x ≡ false → filter p (x ∷ []) ≡ []
filter_one p x e = rw e

events_of_rows : (n : ℕ) (es : List Event) → Each (IsEvent n) es → map (event n) (map (event_row n) es) ≡ es
events_of_rows n [] k = refl
events_of_rows n (e ∷ es) k = ap₂ ◌∷◌ (event_back n e k.0) (events_of_rows n es k.1)

rows_of_events_live : (n : ℕ) (es : List Event) → Each (λ r. no_null r ≡ true) (map (event_row n) es)
rows_of_events_live n [] = tt
rows_of_events_live n (e ∷ es) = (flags_live (bools n e.mask), rows_of_events_live n es)

abbrev event_tree : ℕ → List (List Value) → Tree
event_tree n L = unless_none L (Events (events n L))

event_tree_back : (n : ℕ) (es : List Event) → Each (IsEvent n) es → NotFalling by_time es → event_tree n (filter no_null (event_feeds n (Events es))) ≡ Events es
event_tree_back n [] k o =
    ap (event_tree n) (filter_all no_null (event_row n (record { time = 0; mask = 0 }) ∷ []) (flags_live (bools n 0), tt))
    ∙ ap (λ l. Events (ascending by_time l)) (filter_one is_some_mask (event n (event_row n (record { time = 0; mask = 0 }))) (ap is_one (event_back_blank n)))
event_tree_back n (e ∷ es) k o =
    ap (event_tree n) (filter_all no_null (map (event_row n) (e ∷ es)) (rows_of_events_live n (e ∷ es)))
    ∙ ap Events
    (ap (λ l. ascending by_time (filter is_some_mask l)) (events_of_rows n (e ∷ es) k)
    ∙ ap (ascending by_time) (filter_all is_some_mask (e ∷ es) (each_weaker (IsEvent n) (λ x. is_some_mask x ≡ true) (λ x h. h.1) (e ∷ es) k))
    ∙ ascending_sorted by_time (e ∷ es) o)

pub conditions_plain : (ts : List Ty) → conditions (plain_row ts) ≡ conditions ts
conditions_plain [] = refl
conditions_plain (t ∷ ts) = length-map ts _

events_back : (ts : List Ty) (es : List Event) → Each (IsEvent (conditions ts)) es → NotFalling by_time es → event_tree (conditions ts) (filter no_null (event_feeds (conditions (plain_row ts)) (Events es))) ≡ Events es
events_back ts es k o =
    ap (λ m. event_tree (conditions ts) (filter no_null (event_feeds m (Events es)))) (conditions_plain ts)
    ∙ event_tree_back (conditions ts) es k o

mask_back : (ts : List Ty) (m : ℕ) → m < 2 ^ length ts → leaf_normal Retention ts (filter no_null (map flag (bools (length (plain_row ts)) m) ∷ [])) ≡ Word (pos m)
mask_back ts m l =
    ap (λ n. leaf_normal Retention ts (filter no_null (map flag (bools n m) ∷ []))) (length-map ts _)
    ∙ ap (leaf_normal Retention ts) (filter_all no_null (map flag (bools (length ts) m) ∷ []) (flags_live (bools (length ts) m), tt))
    ∙ ap (λ x. Word (pos x)) (row_set (length ts) m l)

-- the normal form of the feeds of a tree
abbrev again : Leaf → List Ty → Tree → Tree
again f ts t = leaf_normal f ts (filter no_null (leaf_feeds f (plain_row ts) t))

at_tree : (f : Leaf) (ts : List Ty) (t u : Tree) → t ≡ u → again f ts u ≡ u → again f ts t ≡ t
at_tree f ts t u e h = subst (λ x. again f ts x ≡ x) (sym e) h

pub leaf_back : (f : Leaf) (ts : List Ty) (t : Tree) → IsLeafTree f ts t → leaf_normal f ts (filter no_null (leaf_feeds f (plain_row ts) t)) ≡ t
leaf_back Count ts t (inl e) = at_tree Count ts t Empty e refl
leaf_back Count ts t (inr k) =
    at_tree Count ts t (Word (pos k.0)) k.1
    (counts ts (rounds k.0) (plain_row ts) (rounds_pos k.0) (plain_row_live ts) ∙ ap (λ n. Word (pos n)) (rounds_word k.0 k.2))
leaf_back Sum ts t (inl e) = at_tree Sum ts t Empty e refl
leaf_back Sum ts t (inr k) =
    at_tree Sum ts t (Word k.0) k.1
    (ap (λ z. Word (wrapped (is_signed (first_type ts)) z)) (+ℤ_idr k.0) ∙ ap Word (wrapped_word (is_signed (first_type ts)) k.0 k.2))
leaf_back Min ts t (inl e) = at_tree Min ts t Empty e refl
leaf_back Min ts t (inr k) = at_tree Min ts t (one_tree (Some k.0)) k.1 (one_back lower k.0 (plain_live (first_type ts) k.0 k.2))
leaf_back Max ts t (inl e) = at_tree Max ts t Empty e refl
leaf_back Max ts t (inr k) = at_tree Max ts t (one_tree (Some k.0)) k.1 (one_back higher k.0 (plain_live (first_type ts) k.0 k.2))
leaf_back ArgMin ts t (inl e) = at_tree ArgMin ts t Empty e refl
leaf_back ArgMin ts t (inr k) = at_tree ArgMin ts t (pair_tree (Some k.0)) k.1 (rw (row_live ts (k.0.0 ∷ k.0.1 ∷ []) k.2))
leaf_back ArgMax ts t (inl e) = at_tree ArgMax ts t Empty e refl
leaf_back ArgMax ts t (inr k) = at_tree ArgMax ts t (pair_tree (Some k.0)) k.1 (rw (row_live ts (k.0.0 ∷ k.0.1 ∷ []) k.2))
leaf_back (GroupArray most) ts t k =
    at_tree (GroupArray most) ts t (values_tree k.0) k.1
    (ap (λ L. values_tree (at_most most (map the_arg L))) (ap (λ vs. filter no_null (map single vs)) (values_back k.0) ∙ singles_live (first_type ts) k.0 k.2)
    ∙ ap (λ vs. values_tree (at_most most vs)) (arg_single k.0)
    ∙ ap values_tree (at_most_all most k.0 k.3))
leaf_back UniqExact ts t k =
    at_tree UniqExact ts t (rows_tree k.0) k.1
    (ap (λ L. rows_tree (different compare_rows (filter no_null L))) (table_back k.0)
    ∙ ap (λ L. rows_tree (different compare_rows L)) (rows_live ts k.0 k.2)
    ∙ ap rows_tree (different_rising compare_rows k.0 k.3))
leaf_back (QuantileExact level) ts t k =
    at_tree (QuantileExact level) ts t (values_tree k.0) k.1
    (ap (λ L. values_tree (ascending compare (map the_arg L))) (ap (λ vs. filter no_null (map single vs)) (values_back k.0) ∙ singles_live (first_type ts) k.0 k.2)
    ∙ ap (λ vs. values_tree (ascending compare vs)) (arg_single k.0)
    ∙ ap values_tree (ascending_sorted compare k.0 k.3))
leaf_back (WindowFunnel window strict) ts t (inl e) = at_tree (WindowFunnel window strict) ts t Empty e refl
leaf_back (WindowFunnel window strict) ts t (inr k) = at_tree (WindowFunnel window strict) ts t (Events k.0) k.1 (events_back ts k.0 k.2 k.3)
leaf_back (SequenceMatch pattern) ts t (inl e) = at_tree (SequenceMatch pattern) ts t Empty e refl
leaf_back (SequenceMatch pattern) ts t (inr k) = at_tree (SequenceMatch pattern) ts t (Events k.0) k.1 (events_back ts k.0 k.2 k.3)
leaf_back Retention ts t (inl e) = at_tree Retention ts t Empty e refl
leaf_back Retention ts t (inr k) = at_tree Retention ts t (Word (pos k.0)) k.1 (mask_back ts k.0 k.2)
leaf_back (GroupBit op) ts t (inl e) = at_tree (GroupBit op) ts t Empty e refl
leaf_back (GroupBit op) ts t (inr k) = at_tree (GroupBit op) ts t (Word k.0) k.1 (ap Word (word_back (first_type ts) k.0 k.2))
