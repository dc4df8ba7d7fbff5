-- The normal form of a function's feeds is a state tree, and a state tree unfolds to feeds.
use Rattle.std.proofs.Common.{◌≡◌, ℕ, zero, suc, ◌/◌, ◌%◌, ◌^◌, ◌<◌, ℤ, pos, negsuc, unsigned_abs, Bool, true, false, cond, ◌⊎◌, inl, inr, List, [], ◌∷◌, map, length, length-take, replicate, Option, Some, None, refl, sym, ap, ◌∙◌, subst, arith, true≢false, mod-lt}
use Rattle.std.specs.Prelude.{filter, FitsSigned}
use Rattle.std.specs.Int.{int_rem_euclid}
use Rattle.std.proofs.lemmas.Int.{SFits-int_wrap}
use native.Mathlib.Bridge.{le_by_compare, IsLe}
use mir.Syntax.{w64, Width}
use Rattle.std.proofs.Common.{pow_pos, rules}
use Rattle.std.proofs.lemmas.List.{length-replicate, length-map}
use Rattle.agg_terms.specs.Values.{Event, Value, Num, Bytes, Nil, Items, Pairs, Cell, Tree, Empty, Word, Events, values, values_list, is_null}
use Rattle.agg_terms.specs.Chains.{Leaf, Count, Sum, Min, Max, ArgMin, ArgMax, GroupArray, UniqExact, QuantileExact, WindowFunnel, SequenceMatch, Retention, GroupBit, Chain, Of, If, Array, MapOf, ForEach, OrNull, OrDefault, Distinct, State, Merge, Resample, Ty, Whole, Signed, Str, Arr, MapTy, Nullable, StateOf, tys_list}
use Rattle.agg_terms.specs.Types.{intervals}
use Rattle.agg_terms.specs.Order.{compare, compare_rows, ascending, different, best}
use Rattle.agg_terms.specs.Types.{conditions, is_signed, first_type, bare}
use Rattle.agg_meaning.specs.Functions.{event_feeds, unless_none, wrapped, total, lower, higher, lower_second, higher_second, arg_val, the_arg, at_most, leaf_normal, leaf_feeds, rounds, single, one_feed}
use Rattle.agg_terms.specs.Trees.{one_tree, pair_tree}
use Rattle.agg_meaning.specs.Results.{leaf_blank}
use Rattle.agg_meaning.specs.Feeds.{no_null}
use Rattle.agg_meaning.specs.Events.{mets, time_of, event, events, event_row, is_some_mask, mask_of, met_set, bools, bit, flag}
use Rattle.agg_terms.specs.Lists.{rest_of}
use Rattle.agg_terms.specs.Trees.{is_one, by_time}
use Rattle.agg_meaning.proofs.EventLists.{mask_lt, length-mets, length-met_set}
use Rattle.agg_meaning.proofs.LeafLaws.{time_ranking}
use Rattle.agg_meaning.specs.Functions.{bits_in, from_bits_in, bit_tree, bit_op, folded, bits_of_rows}
use Rattle.agg_meaning.proofs.BitLists.{folded_lt, bits_plain}
use Rattle.agg_meaning.proofs.LeafLaws.{rows_bits_lt}
use Rattle.agg_meaning.specs.Results.{default, plain_row, blank}
use Rattle.agg_terms.specs.Types.{inward}
use Rattle.agg_terms.specs.Lists.{Each}
use Rattle.agg_terms.specs.Trees.{IsPlain, IsRow, IsWord, IsUpTo, IsLeafTree, IsEvent, IsEventTree, IsTree, IsValue, IsStateless}
use Rattle.agg_meaning.specs.Lawful.{TakesTime, IsTime, IsCondition, IsNumber, TakesTypes}
use Rattle.agg_meaning.specs.Feeds.{widened_first, AreValues, widened, IsLeafFeed, IfHere}
use Rattle.agg_terms.proofs.Lists.{values_back, table_back}
use Rattle.agg_terms.proofs.Sorting.{ranking}
use Rattle.agg_terms.proofs.Comparing.{compare_order, rows_order}
use Rattle.agg_meaning.proofs.LeafTrees.{conditions_plain, each_map, each_weaker}
use Rattle.agg_meaning.proofs.Kept.{each_filter, each_take, each_ascending, each_different, best_has, ascending_order, different_order}

-- values of a type that holds no state
value_plain : (t : Ty) → IsStateless t → (v : Value) → IsValue t v → IsPlain t v
value_plain (Whole n) s v k = k
value_plain (Signed w) s v k = k
value_plain Str s v k = k
value_plain (Arr t) s v k = (k.0, k.1, each_weaker (IsValue t) (IsPlain t) (value_plain t s) k.0 k.2)
value_plain (MapTy j t) s v k =
    (k.0, k.1, each_weaker (λ e. IsPlain j e.0 × IsValue t e.1) (λ e. IsPlain j e.0 × IsPlain t e.1) (λ e h. (h.0, value_plain t s.1 e.1 h.1)) k.0 k.2)
value_plain (Nullable t) s v (inl e) = inl e
value_plain (Nullable t) s v (inr k) = inr (value_plain t s v k)
value_plain (StateOf c ts) s v k = absurd s

plain_value : (t : Ty) (v : Value) → IsPlain t v → IsValue t v
plain_value (Whole n) v k = k
plain_value (Signed w) v k = k
plain_value Str v k = k
plain_value (Arr t) v k = (k.0, k.1, each_weaker (IsPlain t) (IsValue t) (plain_value t) k.0 k.2)
plain_value (MapTy j t) v k =
    (k.0, k.1, each_weaker (λ e. IsPlain j e.0 × IsPlain t e.1) (λ e. IsPlain j e.0 × IsValue t e.1) (λ e h. (h.0, plain_value t e.1 h.1)) k.0 k.2)
plain_value (Nullable t) v (inl e) = inl e
plain_value (Nullable t) v (inr k) = inr (plain_value t v k)
plain_value (StateOf c ts) v k = absurd k

live_plain : (t : Ty) → IsStateless t → (v : Value) → IsValue t v → is_null v ≡ false → IsPlain (bare t) v
live_plain (Whole n) s v k h = k
live_plain (Signed w) s v k h = k
live_plain Str s v k h = k
live_plain (Arr t) s v k h = value_plain (Arr t) s v k
live_plain (MapTy j t) s v k h = value_plain (MapTy j t) s v k
live_plain (Nullable t) s v (inl e) h = absurd (true≢false (ap is_null (sym e) ∙ h))
live_plain (Nullable t) s v (inr k) h = live_plain t s v k h
live_plain (StateOf c ts) s v k h = absurd s

bare_value : (t : Ty) (v : Value) → IsPlain (bare t) v → IsValue t v
bare_value (Whole n) v k = k
bare_value (Signed w) v k = k
bare_value Str v k = k
bare_value (Arr t) v k = plain_value (Arr t) v k
bare_value (MapTy j t) v k = plain_value (MapTy j t) v k
bare_value (Nullable t) v k = inr (bare_value t v k)
bare_value (StateOf c ts) v k = absurd k

live_split : (a b : Bool) → cond a false b ≡ true → (a ≡ false) × (b ≡ true)
live_split true b e = absurd (true≢false (sym e))
live_split false b e = (refl, e)

pub live_row : (ts : List Ty) → Each IsStateless ts → (r : List Value) → AreValues ts r → no_null r ≡ true → IsRow ts r
live_row [] s [] k h = tt
live_row [] s (v ∷ vs) k h = absurd k
live_row (t ∷ ts) s [] k h = absurd k
live_row (t ∷ ts) s (v ∷ vs) k h =
    let l : (is_null v ≡ false) × (no_null vs ≡ true) = live_split (is_null v) (no_null vs) h in
    (live_plain t s.0 v k.0 l.0, live_row ts s.1 vs k.1 l.1)

pub row_values : (ts : List Ty) (r : List Value) → IsRow ts r → AreValues ts r
row_values [] [] k = tt
row_values [] (v ∷ vs) k = absurd k
row_values (t ∷ ts) [] k = absurd k
row_values (t ∷ ts) (v ∷ vs) k = (bare_value t v k.0, row_values ts vs k.1)

-- the rows that are live
live_rows : (ts : List Ty) → Each IsStateless ts → (L : List (List Value)) → Each (AreValues ts) L → Each (IsRow ts) (filter no_null L)
live_rows ts s L k = each_weaker (λ r. AreValues ts r × (no_null r ≡ true)) (IsRow ts) (λ r h. live_row ts s r h.0 h.1) (filter no_null L) (each_filter (AreValues ts) no_null L k)

pub live_rows_of : (ts : List Ty) → Each IsStateless ts → (L : List (List Value)) → Each (AreValues ts) L → Each (IsRow ts) (filter no_null L)
live_rows_of = live_rows

one_arg : (t : Ty) (r : List Value) → IsRow (t ∷ []) r → IsPlain (bare t) (the_arg r)
one_arg t [] k = absurd k
one_arg t (v ∷ vs) k = k.0

two_args : (t u : Ty) (r : List Value) → IsRow (t ∷ u ∷ []) r → IsRow (t ∷ u ∷ []) ((arg_val r).0 ∷ (arg_val r).1 ∷ [])
two_args t u [] k = absurd k
two_args t u (v ∷ []) k = absurd k.1
two_args t u (v ∷ w ∷ ws) k = (k.0, (k.1.0, tt))

the_args : (t : Ty) → IsStateless t → (L : List (List Value)) → Each (AreValues (t ∷ [])) L → Each (IsPlain (bare t)) (map the_arg (filter no_null L))
the_args t s L k = each_map (IsRow (t ∷ [])) (IsPlain (bare t)) the_arg (one_arg t) (filter no_null L) (live_rows (t ∷ []) (s, tt) L k)

the_pairs : (t u : Ty) → IsStateless t → IsStateless u → (L : List (List Value)) → Each (AreValues (t ∷ u ∷ [])) L → Each (λ p. IsRow (t ∷ u ∷ []) (p.0 ∷ p.1 ∷ [])) (map arg_val (filter no_null L))
the_pairs t u s r L k =
    each_map (IsRow (t ∷ u ∷ [])) (λ p. IsRow (t ∷ u ∷ []) (p.0 ∷ p.1 ∷ [])) arg_val (two_args t u) (filter no_null L) (live_rows (t ∷ u ∷ []) (s, (r, tt)) L k)

a_word : {X : Type 0} (P : ℤ → Type 0) (L : List X) (z : ℤ) → P z → (unless_none L (Word z) ≡ Empty) ⊎ ((y : ℤ) × (unless_none L (Word z) ≡ Word y) × P y)
a_word P [] z k = inl refl
a_word P (x ∷ L) z k = inr (z, refl, k)

a_count : {X : Type 0} (L : List X) (k : ℕ) → k < 2 ^ 64 → (unless_none L (Word (pos k)) ≡ Empty) ⊎ ((y : ℕ) × (unless_none L (Word (pos k)) ≡ Word (pos y)) × (y < 2 ^ 64))
a_count [] k l = inl refl
a_count (x ∷ L) k l = inr (k, refl, l)

a_value : (P : Value → Type 0) (o : Option Value) → IfHere P o → (one_tree o ≡ Empty) ⊎ ((v : Value) × (one_tree o ≡ one_tree (Some v)) × P v)
a_value P None k = inl refl
a_value P (Some v) k = inr (v, refl, k)

a_pair : (P : Value × Value → Type 0) (o : Option (Value × Value)) → IfHere P o → (pair_tree o ≡ Empty) ⊎ ((p : Value × Value) × (pair_tree o ≡ pair_tree (Some p)) × P p)
a_pair P None k = inl refl
a_pair P (Some p) k = inr (p, refl, k)

mod-fits : (n : ℕ) → n % 2 ^ 64 < 2 ^ 64
unfolding IsLe
mod-fits n = mod-lt n (le_by_compare 1 18446744073709551616 tt)

wrapped_fits : (s : Bool) (z : ℤ) → IsWord s (wrapped s z)
unfolding IsLe
wrapped_fits true z = SFits-int_wrap w64 z
wrapped_fits false (pos n) = (n % 2 ^ 64, refl, mod-fits n)
wrapped_fits false (negsuc n) = (unsigned_abs (int_rem_euclid (negsuc n) (pos (2 ^ 64))), refl, omega arith)

up_to : (most : Option ℕ) (vs : List Value) → IsUpTo most (length (at_most most vs))
up_to None vs = tt
up_to (Some n) vs = omega (arith, length-take n vs)

some_taken : (P : Value → Type 0) (most : Option ℕ) (vs : List Value) → Each P vs → Each P (at_most most vs)
some_taken P None vs k = k
some_taken P (Some n) vs k = each_take P n vs k

-- events and masks
time_fits : (t : Ty) → IsTime t → (v : Value) → IsValue (widened t) v → is_null v ≡ false → (k : ℕ) × (v ≡ Num (pos k)) × (k < 2 ^ 64)
time_fits (Whole n) s v k h = k
time_fits (Nullable t) s v (inl e) h = absurd (true≢false (ap is_null (sym e) ∙ h))
time_fits (Nullable t) s v (inr k) h = time_fits t s v k h
time_fits (Signed w) s v k h = absurd s
time_fits Str s v k h = absurd s
time_fits (Arr t) s v k h = absurd s
time_fits (MapTy j t) s v k h = absurd s
time_fits (StateOf c ts) s v k h = absurd s

row_time : (ts : List Ty) → TakesTime ts → (r : List Value) → AreValues (widened_first ts) r → no_null r ≡ true → time_of r < 2 ^ 64
row_time [] s r k h = absurd s
row_time (t ∷ ts) s [] k h = absurd k
row_time (t ∷ ts) s (v ∷ vs) k h =
    let f : (n : ℕ) × (v ≡ Num (pos n)) × (n < 2 ^ 64) = time_fits t s.0 v k.0 (live_split (is_null v) (no_null vs) h).0 in
    subst (λ w. time_of (w ∷ vs) < 2 ^ 64) (sym f.1) f.2

mask_fits : (n : ℕ) (r : List Value) → mask_of (mets n r) < 2 ^ n
mask_fits n r = subst (λ k. mask_of (mets n r) < 2 ^ k) (length-mets n r) (mask_lt (mets n r))

set_fits : (n : ℕ) (L : List (List Value)) → mask_of (met_set n L) < 2 ^ n
set_fits n L = subst (λ k. mask_of (met_set n L) < 2 ^ k) (length-met_set n L) (mask_lt (met_set n L))

events_formed : (n : ℕ) (L : List (List Value)) → Each (λ r. time_of r < 2 ^ 64) L → IsEventTree n (unless_none L (Events (events n L)))
events_formed n [] k = inl refl
events_formed n (r ∷ L) k =
    inr (
      events n (r ∷ L),
      refl,
      each_ascending (IsEvent n) by_time (filter is_some_mask (map (event n) (r ∷ L)))
          (each_weaker (λ e. ((e.time < 2 ^ 64) × (e.mask < 2 ^ n)) × (is_some_mask e ≡ true)) (IsEvent n) (λ e h. (h.0.0, h.1, h.0.1)) (filter is_some_mask (map (event n) (r ∷ L)))
          (each_filter (λ e. (e.time < 2 ^ 64) × (e.mask < 2 ^ n)) is_some_mask (map (event n) (r ∷ L))
          (each_map (λ x. time_of x < 2 ^ 64) (λ e. (e.time < 2 ^ 64) × (e.mask < 2 ^ n)) (event n) (λ x h. (h, mask_fits n (rest_of x))) (r ∷ L) k))),
      ascending_order by_time time_ranking (filter is_some_mask (map (event n) (r ∷ L))),
    )

event_rows : (ts : List Ty) → TakesTime ts → (L : List (List Value)) → Each (AreValues (widened_first ts)) L → IsEventTree (conditions ts) (unless_none (filter no_null L) (Events (events (conditions ts) (filter no_null L))))
event_rows ts s L k =
    events_formed (conditions ts) (filter no_null L)
    (each_weaker (λ r. AreValues (widened_first ts) r × (no_null r ≡ true)) (λ r. time_of r < 2 ^ 64) (λ r h. row_time ts s r h.0 h.1) (filter no_null L) (each_filter (AreValues (widened_first ts)) no_null L k))

a_mask : {X : Type 0} (n m : ℕ) (L : List X) → m < 2 ^ n → (unless_none L (Word (pos m)) ≡ Empty) ⊎ ((k : ℕ) × (unless_none L (Word (pos m)) ≡ Word (pos k)) × (k < 2 ^ n))
a_mask n m [] l = inl refl
a_mask n m (x ∷ L) l = inr (m, refl, l)

a_bit_word : (t : Ty) → IsNumber (bare t) → (o : Option ℕ) → IfHere (λ n. n < 2 ^ bits_in t) o → (bit_tree t o ≡ Empty) ⊎ ((z : ℤ) × (bit_tree t o ≡ Word z) × IsPlain (bare t) (Num z))
a_bit_word t s None h = inl refl
a_bit_word t s (Some b) h = inr (from_bits_in t b, refl, bits_plain t s b h)

abbrev Forms : Leaf → List Ty → Type 0
Forms f ts = (L : List (List Value)) → Each (IsLeafFeed f ts) L → IsLeafTree f ts (leaf_normal f ts (filter no_null L))

pub leaf_formed : (f : Leaf) (ts : List Ty) → TakesTypes f ts → (L : List (List Value)) → Each (IsLeafFeed f ts) L → IsLeafTree f ts (leaf_normal f ts (filter no_null L))
leaf_formed Count ts s L k = a_count (filter no_null L) (length (filter no_null L) % 2 ^ 64) (mod-fits (length (filter no_null L)))
leaf_formed Sum ts s L k =
    a_word (IsWord (is_signed (first_type ts))) (filter no_null L) (total ts (filter no_null L)) (wrapped_fits (is_signed (first_type ts)) _)
leaf_formed Min ts s L k = (subst (Forms Min) (sym s.1) (λ L k. a_value (IsPlain (bare s.0)) (best lower (map the_arg (filter no_null L))) (best_has (IsPlain (bare s.0)) lower (map the_arg (filter no_null L)) (the_args s.0 s.2 L k)))) L k
leaf_formed Max ts s L k = (subst (Forms Max) (sym s.1) (λ L k. a_value (IsPlain (bare s.0)) (best higher (map the_arg (filter no_null L))) (best_has (IsPlain (bare s.0)) higher (map the_arg (filter no_null L)) (the_args s.0 s.2 L k)))) L k
leaf_formed ArgMin ts s L k = (subst (Forms ArgMin) (sym s.2) (λ L k. a_pair (λ p. IsRow (s.0 ∷ s.1 ∷ []) (p.0 ∷ p.1 ∷ [])) (best lower_second (map arg_val (filter no_null L))) (best_has (λ p. IsRow (s.0 ∷ s.1 ∷ []) (p.0 ∷ p.1 ∷ [])) lower_second (map arg_val (filter no_null L)) (the_pairs s.0 s.1 s.3 s.4 L k)))) L k
leaf_formed ArgMax ts s L k = (subst (Forms ArgMax) (sym s.2) (λ L k. a_pair (λ p. IsRow (s.0 ∷ s.1 ∷ []) (p.0 ∷ p.1 ∷ [])) (best higher_second (map arg_val (filter no_null L))) (best_has (λ p. IsRow (s.0 ∷ s.1 ∷ []) (p.0 ∷ p.1 ∷ [])) higher_second (map arg_val (filter no_null L)) (the_pairs s.0 s.1 s.3 s.4 L k)))) L k
leaf_formed (GroupArray most) ts s L k =
    (subst (Forms (GroupArray most)) (sym s.1)
    (λ L k. (at_most most (map the_arg (filter no_null L)), refl, some_taken (IsPlain (bare s.0)) most (map the_arg (filter no_null L)) (the_args s.0 s.2 L k), up_to most (map the_arg (filter no_null L))))) L k
leaf_formed UniqExact ts s L k =
    (different compare_rows (filter no_null L), refl, each_different (IsRow ts) compare_rows (filter no_null L) (live_rows ts s L k), different_order compare_rows rows_order (filter no_null L))
leaf_formed (QuantileExact level) ts s L k =
    (subst (Forms (QuantileExact level)) (sym s.1)
    (λ L k. (ascending compare (map the_arg (filter no_null L)), refl, each_ascending (IsPlain (bare s.0)) compare (map the_arg (filter no_null L)) (the_args s.0 s.2 L k), ascending_order compare (ranking compare compare_order) (map the_arg (filter no_null L))))) L k
leaf_formed (WindowFunnel window strict) ts s L k = event_rows ts s L k
leaf_formed (SequenceMatch pattern) ts s L k = event_rows ts s L k
leaf_formed Retention ts s L k = a_mask (length ts) (mask_of (met_set (length ts) (filter no_null L))) (filter no_null L) (set_fits (length ts) (filter no_null L))
leaf_formed (GroupBit op) ts s L k =
    (subst (λ us. IsLeafTree (GroupBit op) us (leaf_normal (GroupBit op) us (filter no_null L))) (sym s.1)
    (a_bit_word s.0 s.2 (folded (bit_op op) (bits_of_rows s.0 (filter no_null L))) (folded_lt op (bits_in s.0) (bits_of_rows s.0 (filter no_null L)) (rows_bits_lt s.0 (filter no_null L)))))

-- what a tree of a function unfolds to
pub each_replicate : {X : Type 0} (P : X → Type 0) (n : ℕ) (x : X) → P x → Each P (replicate n x)
each_replicate P zero x k = tt
each_replicate P (suc n) x k = (k, each_replicate P n x k)

leaf_blank_tree : (f : Leaf) (ts : List Ty) → IsLeafTree f ts (leaf_blank f)
leaf_blank_tree Count ts = inl refl
leaf_blank_tree Sum ts = inl refl
leaf_blank_tree Min ts = inl refl
leaf_blank_tree Max ts = inl refl
leaf_blank_tree ArgMin ts = inl refl
leaf_blank_tree ArgMax ts = inl refl
leaf_blank_tree (GroupArray None) ts = ([], refl, tt, tt)
leaf_blank_tree (GroupArray (Some n)) ts = ([], refl, tt, omega arith)
leaf_blank_tree UniqExact ts = ([], refl, tt, tt)
leaf_blank_tree (QuantileExact level) ts = ([], refl, tt, tt)
leaf_blank_tree (WindowFunnel window strict) ts = inl refl
leaf_blank_tree (SequenceMatch pattern) ts = inl refl
leaf_blank_tree Retention ts = inl refl
leaf_blank_tree (GroupBit op) ts = inl refl

pub blank_tree : (c : Chain) (ts : List Ty) → IsTree c ts (blank c)
blank_tree (Of f) ts = leaf_blank_tree f ts
blank_tree (If c) ts = blank_tree c (inward (If c) ts)
blank_tree (Array c) ts = blank_tree c (inward (Array c) ts)
blank_tree (MapOf c) ts = ([], refl, tt, tt)
blank_tree (ForEach c) ts = ([], refl, tt)
blank_tree (OrNull c) ts = blank_tree c ts
blank_tree (OrDefault c) ts = blank_tree c ts
blank_tree (Distinct c) ts = ([], refl, tt, tt)
blank_tree (State c) ts = blank_tree c ts
blank_tree (Merge c) ts = blank_tree c (inward (Merge c) ts)
blank_tree (Resample s e p c) ts = (
  replicate (intervals s e p) (blank c),
  refl,
  each_replicate (IsTree c (inward (Resample s e p c) ts)) (intervals s e p) (blank c) (blank_tree c (inward (Resample s e p c) ts)),
  length-replicate (intervals s e p) (blank c),
)

zero_fits : (w : Width) → FitsSigned w (pos 0)
zero_fits w = search (rules, arith)

default_value : (t : Ty) → IsValue t (default (bare t))
default_value (Whole n) = (0, refl, pow_pos n)
default_value (Signed w) = (pos 0, refl, zero_fits w)
default_value Str = ([], refl, tt)
default_value (Arr t) = ([], refl, tt)
default_value (MapTy j t) = ([], refl, tt)
default_value (Nullable t) = inr (default_value t)
default_value (StateOf c ts) = (blank c, refl, blank_tree c (tys_list ts))

plain_row_values : (ts : List Ty) → AreValues ts (plain_row ts)
plain_row_values [] = tt
plain_row_values (t ∷ ts) = (default_value t, plain_row_values ts)

word_value : (t : Ty) → IsNumber (bare t) → (z : ℤ) → IsWord (is_signed t) z → IsValue (widened t) (Num z)
word_value (Whole n) s z k = (k.0, ap Num k.1, k.2)
word_value (Signed w) s z k = (z, refl, k)
word_value (Nullable t) s z k = inr (word_value t s z k)
word_value Str s z k = absurd s
word_value (Arr t) s z k = absurd s
word_value (MapTy j t) s z k = absurd s
word_value (StateOf c ts) s z k = absurd s

one_feed_values : (P : List Value → Type 0) (v : Value) → P (v ∷ []) → Each P (one_feed (one_tree (Some v)))
one_feed_values P (Num n) k = (k, tt)
one_feed_values P (Bytes b) k = (k, tt)
one_feed_values P Nil k = (k, tt)
one_feed_values P (Items vs) k = (k, tt)
one_feed_values P (Pairs es) k = (k, tt)
one_feed_values P (Cell t) k = (k, tt)

flag_value : (t : Ty) → IsCondition t → (b : Bool) → IsValue t (flag b)
flag_value (Whole n) s b = (bit b, refl, subst (λ m. bit b < 2 ^ m) (sym s) (small b))
  where
    small : (b : Bool) → bit b < 2 ^ 8
    small true = omega arith
    small false = omega arith
flag_value (Nullable t) s b = inr (flag_value t s b)
flag_value (Signed w) s b = absurd s
flag_value Str s b = absurd s
flag_value (Arr t) s b = absurd s
flag_value (MapTy j t) s b = absurd s
flag_value (StateOf c ts) s b = absurd s

flags_values : (ts : List Ty) → Each IsCondition ts → (m : ℕ) → AreValues ts (map flag (bools (length ts) m))
flags_values [] s m = tt
flags_values (t ∷ ts) s m = (flag_value t s.0 (is_one (m % 2)), flags_values ts s.1 (m / 2))

time_value : (t : Ty) → IsTime t → (k : ℕ) → k < 2 ^ 64 → IsValue (widened t) (Num (pos k))
time_value (Whole n) s k l = (k, refl, l)
time_value (Nullable t) s k l = inr (time_value t s k l)
time_value (Signed w) s k l = absurd s
time_value Str s k l = absurd s
time_value (Arr t) s k l = absurd s
time_value (MapTy j t) s k l = absurd s
time_value (StateOf c ts) s k l = absurd s

event_row_values : (ts : List Ty) → TakesTime ts → (e : Event) → e.time < 2 ^ 64 → AreValues (widened_first ts) (event_row (conditions ts) e)
event_row_values [] s e l = absurd s
event_row_values (t ∷ ts) s e l = (time_value t s.0 e.time l, flags_values ts s.1 e.mask)

event_feeds_values : (ts : List Ty) → TakesTime ts → (es : List Event) → Each (IsEvent (conditions ts)) es → Each (AreValues (widened_first ts)) (event_feeds (conditions ts) (Events es))
event_feeds_values ts s [] k = (event_row_values ts s (record { time = 0; mask = 0 }) (omega arith), tt)
event_feeds_values ts s (e ∷ es) k = each_map (IsEvent (conditions ts)) (AreValues (widened_first ts)) (event_row (conditions ts)) (λ x h. event_row_values ts s x h.0) (e ∷ es) k

events_unfold : (ts : List Ty) → TakesTime ts → (es : List Event) → Each (IsEvent (conditions ts)) es → Each (AreValues (widened_first ts)) (event_feeds (conditions (plain_row ts)) (Events es))
events_unfold ts s es k = subst (λ n. Each (AreValues (widened_first ts)) (event_feeds n (Events es))) (sym (conditions_plain ts)) (event_feeds_values ts s es k)

abbrev Unfolds : Leaf → List Ty → Tree → Type 0
Unfolds f ts t = Each (IsLeafFeed f ts) (leaf_feeds f (plain_row ts) t)

a_single : (t : Ty) (v : Value) → IsPlain (bare t) v → AreValues (t ∷ []) (single v)
a_single t v k = (bare_value t v k, tt)

singles : (t : Ty) (vs : List Value) → Each (IsPlain (bare t)) vs → Each (AreValues (t ∷ [])) (map single (values_list (values vs)))
singles t vs k = subst (λ x. Each (AreValues (t ∷ [])) (map single x)) (sym (values_back vs)) (each_map (IsPlain (bare t)) (AreValues (t ∷ [])) single (a_single t) vs k)

pub leaf_unfolds : (f : Leaf) (ts : List Ty) → TakesTypes f ts → (t : Tree) → IsLeafTree f ts t → Each (IsLeafFeed f ts) (leaf_feeds f (plain_row ts) t)
leaf_unfolds Count ts s t (inl e) = subst (Unfolds Count ts) (sym e) tt
leaf_unfolds Count ts s t (inr k) = subst (Unfolds Count ts) (sym k.1) (each_replicate (AreValues ts) (rounds k.0) (plain_row ts) (plain_row_values ts))
leaf_unfolds Sum ts s t (inl e) = subst (Unfolds Sum ts) (sym e) tt
leaf_unfolds Sum ts s t (inr k) =
    subst (Unfolds Sum ts) (sym k.1)
    (subst (λ us. Each (AreValues (map widened us)) ((Num k.0 ∷ []) ∷ [])) (sym s.1)
    ((word_value s.0 s.2 k.0 (subst (λ us. IsWord (is_signed (first_type us)) k.0) s.1 k.2), tt), tt))
leaf_unfolds Min ts s t (inl e) = subst (Unfolds Min ts) (sym e) tt
leaf_unfolds Min ts s t (inr k) =
    subst (Unfolds Min ts) (sym k.1)
    (one_feed_values (AreValues ts) k.0 (subst (λ us. AreValues us (k.0 ∷ [])) (sym s.1) (a_single s.0 k.0 (subst (λ us. IsPlain (bare (first_type us)) k.0) s.1 k.2))))
leaf_unfolds Max ts s t (inl e) = subst (Unfolds Max ts) (sym e) tt
leaf_unfolds Max ts s t (inr k) =
    subst (Unfolds Max ts) (sym k.1)
    (one_feed_values (AreValues ts) k.0 (subst (λ us. AreValues us (k.0 ∷ [])) (sym s.1) (a_single s.0 k.0 (subst (λ us. IsPlain (bare (first_type us)) k.0) s.1 k.2))))
leaf_unfolds ArgMin ts s t (inl e) = subst (Unfolds ArgMin ts) (sym e) tt
leaf_unfolds ArgMin ts s t (inr k) = subst (Unfolds ArgMin ts) (sym k.1) (row_values ts (k.0.0 ∷ k.0.1 ∷ []) k.2, tt)
leaf_unfolds ArgMax ts s t (inl e) = subst (Unfolds ArgMax ts) (sym e) tt
leaf_unfolds ArgMax ts s t (inr k) = subst (Unfolds ArgMax ts) (sym k.1) (row_values ts (k.0.0 ∷ k.0.1 ∷ []) k.2, tt)
leaf_unfolds (GroupArray most) ts s t k =
    subst (Unfolds (GroupArray most) ts) (sym k.1)
    (subst (λ us. Each (AreValues us) (map single (values_list (values k.0)))) (sym s.1) (singles s.0 k.0 (subst (λ us. Each (IsPlain (bare (first_type us))) k.0) s.1 k.2)))
leaf_unfolds UniqExact ts s t k =
    subst (Unfolds UniqExact ts) (sym k.1)
    (subst (Each (AreValues ts)) (sym (table_back k.0)) (each_weaker (IsRow ts) (AreValues ts) (row_values ts) k.0 k.2))
leaf_unfolds (QuantileExact level) ts s t k =
    subst (Unfolds (QuantileExact level) ts) (sym k.1)
    (subst (λ us. Each (AreValues us) (map single (values_list (values k.0)))) (sym s.1) (singles s.0 k.0 (subst (λ us. Each (IsPlain (bare (first_type us))) k.0) s.1 k.2)))
leaf_unfolds (WindowFunnel window strict) ts s t (inl e) = subst (Unfolds (WindowFunnel window strict) ts) (sym e) tt
leaf_unfolds (WindowFunnel window strict) ts s t (inr k) = subst (Unfolds (WindowFunnel window strict) ts) (sym k.1) (events_unfold ts s k.0 k.2)
leaf_unfolds (SequenceMatch pattern) ts s t (inl e) = subst (Unfolds (SequenceMatch pattern) ts) (sym e) tt
leaf_unfolds (SequenceMatch pattern) ts s t (inr k) = subst (Unfolds (SequenceMatch pattern) ts) (sym k.1) (events_unfold ts s k.0 k.2)
leaf_unfolds Retention ts s t (inl e) = subst (Unfolds Retention ts) (sym e) tt
leaf_unfolds Retention ts s t (inr k) =
    subst (Unfolds Retention ts) (sym k.1)
    (subst (λ n. AreValues ts (map flag (bools n k.0))) (sym (length-map ts _)) (flags_values ts s k.0), tt)
leaf_unfolds (GroupBit op) ts s t (inl e) = subst (Unfolds (GroupBit op) ts) (sym e) tt
leaf_unfolds (GroupBit op) ts s t (inr k) =
    subst (Unfolds (GroupBit op) ts) (sym k.1)
    (subst (λ us. AreValues us (Num k.0 ∷ [])) (sym s.1) (a_single s.0 (Num k.0) (subst (λ us. IsPlain (bare (first_type us)) (Num k.0)) s.1 k.2)), tt)
