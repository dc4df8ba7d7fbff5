-- The bodies of the functions are read as they are spelled.
use Rattle.state_texts.specs.declared.version.Version.{Version}
use Rattle.state_texts.specs.declared.version.Version.TheVariants.{One}
use Rattle.std.proofs.Common.{◌≡◌, ◌⊎◌, ℕ, ◌^◌, ◌<◌, ◌≤◌, ℤ, pos, ◌&&◌, pow_mono, ltb, Bool, true, false, List, [], ◌∷◌, ◌++◌, length, Option, Some, None, refl, sym, ap, subst, ◌∙◌, arith, inl, inr}
use Rattle.std.specs.Prelude.{FitsSigned, unsigned_abs}
use Rattle.std.specs.Int.{cast_signed, cast_unsigned}
use Rattle.std.proofs.lemmas.Int.{to_z-of_z}
use Rattle.std.proofs.lemmas.Bool.{and_parts, and_from, ltb-true, lt-ltb, leb-true, le-leb}
use mir.Syntax.{w64}
use Rattle.agg_meaning.specs.Feeds.{IfHere}
use Rattle.agg_meaning.specs.Lawful.{IsNumber}
use Rattle.agg_terms.proofs.Lists.{values_back, table_back}
use Rattle.agg_terms.specs.Chains.{Leaf, Count, Sum, Min, Max, ArgMin, ArgMax, GroupArray, UniqExact, QuantileExact, WindowFunnel, SequenceMatch, Retention, GroupBit, Ty, Whole, Signed, Str, Arr, MapTy, Nullable, StateOf}
use Rattle.agg_terms.specs.Order.{compare, compare_rows}
use Rattle.agg_terms.specs.Trees.{by_time, is_one, one_tree, pair_tree, IsWord, IsUpTo, IsEvent}
use Rattle.agg_terms.specs.Types.{conditions, bare, first_type, is_signed}
use Rattle.agg_terms.specs.Values.{Event, Events, Value, Num, Bytes, Nil, Items, Pairs, Cell, Tree, Empty, Word, tuple_tree, values_tree, rows_tree, values_of, rows_of}
use Rattle.state_texts.specs.Figures.{high, low, number_text}
use Rattle.state_texts.proofs.Figures.{low_pos, low_signed}
use Rattle.state_texts.specs.Spelled.{HasValueText, HasRowText, HasEvents, HasLeafText, HasQuantileText, IsSpelledType, AreSpelledTypes, IsSpelledLeaf}
use Rattle.state_texts.specs.Texts.{list_text, flag_text, value_text, row_text, event_text, word_of, one_of, row_of, events_of, quantile_text, leaf_text}
use Rattle.state_codec.specs.Reading.{Read, made, number_at, kept_at, both_at, flag_at, list_at, any_length, up_to, rises, holds_up, value_at, row_at, is_event, an_event, event_at, or_empty, word_at, events_at, one_at, quantile_at, leaf_at}
use Rattle.state_codec.proofs.Exact.{IsExact, exact_as, exact_text, exact_made, exact_number, exact_kept, exact_both, exact_flag, exact_list, AllAfter}
use Rattle.state_codec.proofs.Kept.{each_to, each_from, after_weaker, rising_to, rising_from, holding_to, holding_from}
use Rattle.state_codec.proofs.ExactValues.{exact_value, exact_row, signed_fits, unsigned_fits}

-- ---- a flag and one thing

maybe_to : {X : Type 0} (f : X → Tree) (P : X → Type 0) (t : Tree) → ((o : Option X) × (t ≡ or_empty f o) × IfHere P o) → (t ≡ Empty) ⊎ ((x : X) × (t ≡ f x) × P x)
maybe_to f P t (None, e, k) = inl e
maybe_to f P t (Some x, e, k) = inr (x, e, k)

maybe_from : {X : Type 0} (f : X → Tree) (P : X → Type 0) (t : Tree) → (t ≡ Empty) ⊎ ((x : X) × (t ≡ f x) × P x) → (o : Option X) × (t ≡ or_empty f o) × IfHere P o
maybe_from f P t (inl e) = (None, e, tt)
maybe_from f P t (inr p) = (Some p.0, p.1, p.2)

maybe_back : {X : Type 0} (f : X → Tree) (g : Tree → Option X) (P : X → Type 0) → g Empty ≡ None → ((x : X) → g (f x) ≡ Some x) → (o : Option X) → IfHere P o → g (or_empty f o) ≡ o
maybe_back f g P n h None k = n
maybe_back f g P n h (Some x) k = h x

exact_maybe : {X : Type 0} (f : X → Tree) (g : Tree → Option X) (whole : ℕ) (read : List ℕ → Read X) (text : X → List ℕ) (P : X → Type 0)
    → g Empty ≡ None → ((x : X) → g (f x) ≡ Some x) → IsExact read text P
    → IsExact (λ bytes. made (or_empty f) (flag_at whole read bytes)) (λ t. flag_text text (g t)) (λ t. (t ≡ Empty) ⊎ ((x : X) × (t ≡ f x) × P x))
exact_maybe {X = X} f g whole read text P n h r =
    exact_as (λ bytes. made (or_empty f) (flag_at whole read bytes)) (λ t. flag_text text (g t)) (λ t. (o : Option X) × (t ≡ or_empty f o) × IfHere P o) (λ t. (t ≡ Empty) ⊎ ((x : X) × (t ≡ f x) × P x))
    (maybe_to f P) (maybe_from f P)
    (exact_made (or_empty f) g (flag_at whole read) (flag_text text) (IfHere P) (maybe_back f g P n h) (exact_flag whole read text P r))

-- ---- words

exact_word : (signed : Bool) → IsExact (word_at signed) (number_text 8) (IsWord signed)
exact_word true =
    exact_as (word_at true) (number_text 8) (λ z. (k : ℕ) × (z ≡ cast_signed w64 k) × (k < 256 ^ 8)) (IsWord true)
    (λ z p. subst (FitsSigned w64) (sym p.1) (signed_fits w64 p.0 p.2))
    (λ z f. (cast_unsigned w64 z, sym (to_z-of_z w64 z f), unsigned_fits w64 z f))
    (exact_made (cast_signed w64) (low 8) (number_at 8) (high 8) (λ k. k < 256 ^ 8) (λ k l. low_signed w64 k l) (exact_number 8))
exact_word false =
    exact_made pos (low 8) (number_at 8) (high 8) (λ k. k < 256 ^ 8) (λ k l. low_pos 8 k l) (exact_number 8)

-- ---- one value

one_back : (o : Option Value) → one_of (one_tree o) ≡ o
one_back None = refl
one_back (Some (Num n)) = refl
one_back (Some (Bytes b)) = refl
one_back (Some Nil) = refl
one_back (Some (Items vs)) = refl
one_back (Some (Pairs es)) = refl
one_back (Some (Cell t)) = refl

one_to : (T : Ty) (t : Tree) → ((o : Option Value) × (t ≡ one_tree o) × IfHere (HasValueText T) o) → (t ≡ Empty) ⊎ ((v : Value) × (t ≡ one_tree (Some v)) × HasValueText T v)
one_to T t (None, e, k) = inl e
one_to T t (Some v, e, k) = inr (v, e, k)

one_from : (T : Ty) (t : Tree) → (t ≡ Empty) ⊎ ((v : Value) × (t ≡ one_tree (Some v)) × HasValueText T v) → (o : Option Value) × (t ≡ one_tree o) × IfHere (HasValueText T) o
one_from T t (inl e) = (None, e, tt)
one_from T t (inr p) = (Some p.0, p.1, p.2)

exact_one : (whole : ℕ) (ts : List Ty) → IsSpelledType (bare (first_type ts))
    → IsExact (one_at whole (bare (first_type ts))) (λ t. flag_text (value_text (bare (first_type ts))) (one_of t)) (λ t. (t ≡ Empty) ⊎ ((v : Value) × (t ≡ one_tree (Some v)) × HasValueText (bare (first_type ts)) v))
exact_one whole ts s =
    let T = bare (first_type ts) in
    exact_as (one_at whole (bare (first_type ts))) (λ t. flag_text (value_text T) (one_of t)) (λ t. (o : Option Value) × (t ≡ one_tree o) × IfHere (HasValueText T) o) (λ t. (t ≡ Empty) ⊎ ((v : Value) × (t ≡ one_tree (Some v)) × HasValueText T v))
    (one_to T) (one_from T)
    (exact_made one_tree one_of (flag_at whole (value_at whole T)) (flag_text (value_text T)) (IfHere (HasValueText T)) (λ o k. one_back o) (exact_flag whole (value_at whole T) (value_text T) (HasValueText T) (exact_value whole T s)))

-- a number is a word
num_of : (T : Ty) (v : Value) → IsNumber T → HasValueText T v → (z : ℤ) × (v ≡ Num z)
num_of (Whole n) v b k = (pos k.0, k.1)
num_of (Signed w) v b k = (k.0, k.1)
num_of Str v b k = absurd b
num_of (Arr t) v b k = absurd b
num_of (MapTy j t) v b k = absurd b
num_of (Nullable t) v b k = absurd b
num_of (StateOf c ts) v b k = absurd b

bits_to : (T : Ty) → IsNumber T → (t : Tree) → (t ≡ Empty) ⊎ ((v : Value) × (t ≡ one_tree (Some v)) × HasValueText T v) → (t ≡ Empty) ⊎ ((z : ℤ) × (t ≡ Word z) × HasValueText T (Num z))
bits_to T b t (inl e) = inl e
bits_to T b t (inr p) = let n = num_of T p.0 b p.2 in inr (n.0, p.1 ∙ ap (λ v. one_tree (Some v)) n.1, subst (HasValueText T) n.1 p.2)

bits_from : (T : Ty) (t : Tree) → (t ≡ Empty) ⊎ ((z : ℤ) × (t ≡ Word z) × HasValueText T (Num z)) → (t ≡ Empty) ⊎ ((v : Value) × (t ≡ one_tree (Some v)) × HasValueText T v)
bits_from T t (inl e) = inl e
bits_from T t (inr p) = inr (Num p.0, p.1, p.2)

-- ---- two values

two_to : (ts : List Ty) (t u : Ty) (r : List Value) → ts ≡ t ∷ u ∷ [] → HasRowText ts r → (p : Value × Value) × (r ≡ p.0 ∷ p.1 ∷ [])
two_to ts t u r e k = go r (subst (λ us. HasRowText us r) e k)
  where
    go : (r : List Value) → HasRowText (t ∷ u ∷ []) r → (p : Value × Value) × (r ≡ p.0 ∷ p.1 ∷ [])
    go [] k = absurd k
    go (v ∷ []) k = absurd k.1
    go (v ∷ w ∷ []) k = ((v, w), refl)
    go (v ∷ w ∷ x ∷ xs) k = absurd k.1.1

pairs_to : (ts : List Ty) (t u : Ty) → ts ≡ t ∷ u ∷ [] → (s : Tree) → (s ≡ Empty) ⊎ ((r : List Value) × (s ≡ tuple_tree r) × HasRowText ts r)
    → (s ≡ Empty) ⊎ ((p : Value × Value) × (s ≡ pair_tree (Some p)) × HasRowText ts (p.0 ∷ p.1 ∷ []))
pairs_to ts t u e s (inl k) = inl k
pairs_to ts t u e s (inr k) =
    let p = two_to ts t u k.0 e k.2 in
    inr (p.0, k.1 ∙ ap tuple_tree p.1, subst (HasRowText ts) p.1 k.2)

pairs_from : (ts : List Ty) (s : Tree) → (s ≡ Empty) ⊎ ((p : Value × Value) × (s ≡ pair_tree (Some p)) × HasRowText ts (p.0 ∷ p.1 ∷ []))
    → (s ≡ Empty) ⊎ ((r : List Value) × (s ≡ tuple_tree r) × HasRowText ts r)
pairs_from ts s (inl k) = inl k
pairs_from ts s (inr k) = inr (k.0.0 ∷ k.0.1 ∷ [], k.1, k.2)

exact_two : (whole : ℕ) (ts : List Ty) → ((t : Ty) × (u : Ty) × (ts ≡ t ∷ u ∷ []) × AreSpelledTypes ts)
    → IsExact (λ bytes. made (or_empty tuple_tree) (flag_at whole (row_at whole ts) bytes)) (λ t. flag_text (row_text ts) (row_of t)) (λ s. (s ≡ Empty) ⊎ ((p : Value × Value) × (s ≡ pair_tree (Some p)) × HasRowText ts (p.0 ∷ p.1 ∷ [])))
exact_two whole ts s =
    exact_as (λ bytes. made (or_empty tuple_tree) (flag_at whole (row_at whole ts) bytes)) (λ t. flag_text (row_text ts) (row_of t)) (λ q. (q ≡ Empty) ⊎ ((r : List Value) × (q ≡ tuple_tree r) × HasRowText ts r)) (λ q. (q ≡ Empty) ⊎ ((p : Value × Value) × (q ≡ pair_tree (Some p)) × HasRowText ts (p.0 ∷ p.1 ∷ [])))
    (pairs_to ts s.0 s.1 s.2) (pairs_from ts)
    (exact_maybe tuple_tree row_of whole (row_at whole ts) (row_text ts) (HasRowText ts) refl (λ r. ap (λ l. Some l) (values_back r)) (exact_row whole ts s.3))

-- ---- lists

exact_values : (whole : ℕ) (test : ℕ → Bool) (read : List Value → List ℕ → Read Value) (text : Value → List ℕ) (P : List Value → Value → Type 0) → ((e : List Value) → IsExact (read e) text (P e))
    → IsExact (λ bytes. made values_tree (list_at whole test read bytes)) (λ t. list_text text (values_of t)) (λ t. (vs : List Value) × (t ≡ values_tree vs) × ((length vs < 256 ^ 8) × (test (length vs) ≡ true) × AllAfter P [] vs))
exact_values whole test read text P r =
    exact_made values_tree values_of (list_at whole test read) (list_text text) (λ vs. (length vs < 256 ^ 8) × (test (length vs) ≡ true) × AllAfter P [] vs) (λ vs k. values_back vs) (exact_list read text P r whole test)

pub exact_rows : (whole : ℕ) (read : List (List Value) → List ℕ → Read (List Value)) (text : List Value → List ℕ) (P : List (List Value) → List Value → Type 0) → ((e : List (List Value)) → IsExact (read e) text (P e))
    → IsExact (λ bytes. made rows_tree (list_at whole any_length read bytes)) (λ t. list_text text (rows_of t)) (λ t. (rs : List (List Value)) × (t ≡ rows_tree rs) × ((length rs < 256 ^ 8) × (any_length (length rs) ≡ true) × AllAfter P [] rs))
exact_rows whole read text P r =
    exact_made rows_tree rows_of (list_at whole any_length read) (list_text text) (λ rs. (length rs < 256 ^ 8) × (any_length (length rs) ≡ true) × AllAfter P [] rs) (λ rs k. table_back rs) (exact_list read text P r whole any_length)

up_to_is : (most : Option ℕ) (n : ℕ) → up_to most n ≡ true → IsUpTo most n
up_to_is None n e = tt
up_to_is (Some m) n e = leb-true n m e

is_up_to : (most : Option ℕ) (n : ℕ) → IsUpTo most n → up_to most n ≡ true
is_up_to None n e = refl
is_up_to (Some m) n e = le-leb n m e

-- ---- events

abbrev FitsEvent : Event → Type 0
FitsEvent e = (e.time < 256 ^ 8) × (e.mask < 256 ^ 4)

exact_event : IsExact event_at event_text FitsEvent
exact_event =
    exact_as event_at event_text (λ e. (p : ℕ × ℕ) × (e ≡ an_event p) × ((p.0 < 256 ^ 8) × (p.1 < 256 ^ 4))) FitsEvent
    (λ e p. subst FitsEvent (sym p.1) p.2) (λ e k. ((e.time, e.mask), refl, k))
    (exact_made an_event (λ e. (e.time, e.mask)) (both_at (number_at 8) (number_at 4)) (λ p. high 8 p.0 ++ high 4 p.1) (λ p. (p.0 < 256 ^ 8) × (p.1 < 256 ^ 4)) (λ p k. refl)
    (exact_both (number_at 8) (high 8) (λ n. n < 256 ^ 8) (number_at 4) (high 4) (λ n. n < 256 ^ 4) (exact_number 8) (exact_number 4)))

event_to : (n : ℕ) (earlier : List Event) (e : Event) → FitsEvent e × (is_event n earlier e ≡ true) → IsEvent n e × (holds_up by_time earlier e ≡ true)
event_to n earlier e k =
    let a = and_parts (is_one e.mask) (ltb e.mask (2 ^ n) && holds_up by_time earlier e) k.1 in
    let b = and_parts (ltb e.mask (2 ^ n)) (holds_up by_time earlier e) a.1 in
    ((k.0.0, a.0, ltb-true e.mask (2 ^ n) b.0), b.1)

mask_fits : (n m : ℕ) → n ≤ 32 → m < 2 ^ n → m < 256 ^ 4
mask_fits n m l k = omega (arith, k, pow_mono l)

event_from : (n : ℕ) → n ≤ 32 → (earlier : List Event) (e : Event) → IsEvent n e × (holds_up by_time earlier e ≡ true) → FitsEvent e × (is_event n earlier e ≡ true)
event_from n l earlier e k =
    ((k.0.0, mask_fits n e.mask l k.0.2), and_from (is_one e.mask) (ltb e.mask (2 ^ n) && holds_up by_time earlier e) k.0.1 (and_from (ltb e.mask (2 ^ n)) (holds_up by_time earlier e) (lt-ltb e.mask (2 ^ n) k.0.2) k.1))

abbrev Listed : ℕ → List Event → Type 0
Listed n es = (length es < 256 ^ 8) × (any_length (length es) ≡ true) × AllAfter (λ earlier e. FitsEvent e × (is_event n earlier e ≡ true)) [] es

events_to : (n : ℕ) (t : Tree) → (t ≡ Empty) ⊎ ((es : List Event) × (t ≡ Events es) × Listed n es) → HasEvents n t
events_to n t (inl e) = inl e
events_to n t (inr p) =
    let k = holding_to (IsEvent n) by_time p.0 (after_weaker (λ earlier e. FitsEvent e × (is_event n earlier e ≡ true)) (λ earlier e. IsEvent n e × (holds_up by_time earlier e ≡ true)) (event_to n) [] p.0 p.2.2) in
    inr (p.0, p.1, k.0, k.1, p.2.0)

events_from : (n : ℕ) → n ≤ 32 → (t : Tree) → HasEvents n t → (t ≡ Empty) ⊎ ((es : List Event) × (t ≡ Events es) × Listed n es)
events_from n l t (inl e) = inl e
events_from n l t (inr p) =
    inr (p.0, p.1, (p.4, refl, after_weaker (λ earlier e. IsEvent n e × (holds_up by_time earlier e ≡ true)) (λ earlier e. FitsEvent e × (is_event n earlier e ≡ true)) (event_from n l) [] p.0 (holding_from (IsEvent n) by_time p.0 p.2 p.3)))

exact_events : (whole n : ℕ) → n ≤ 32 → IsExact (events_at whole n) (λ t. flag_text (list_text event_text) (events_of t)) (HasEvents n)
exact_events whole n l =
    exact_as (events_at whole n) (λ t. flag_text (list_text event_text) (events_of t)) (λ t. (t ≡ Empty) ⊎ ((es : List Event) × (t ≡ Events es) × Listed n es)) (HasEvents n) (events_to n) (events_from n l)
    (exact_maybe Events events_of whole (list_at whole any_length (λ earlier. kept_at whole (is_event n earlier) event_at)) (list_text event_text) (Listed n) refl (λ es. refl)
    (exact_list (λ earlier. kept_at whole (is_event n earlier) event_at) event_text (λ earlier e. FitsEvent e × (is_event n earlier e ≡ true)) (λ earlier. exact_kept whole (is_event n earlier) event_at event_text FitsEvent exact_event) whole any_length))

-- ---- masks

abbrev a_mask : ℕ → Tree
a_mask m = Word (pos m)

mask_to : (n : ℕ) (t : Tree) → (t ≡ Empty) ⊎ ((m : ℕ) × (t ≡ a_mask m) × ((m < 256 ^ 4) × (ltb m (2 ^ n) ≡ true))) → (t ≡ Empty) ⊎ ((m : ℕ) × (t ≡ Word (pos m)) × (m < 2 ^ n))
mask_to n t (inl e) = inl e
mask_to n t (inr p) = inr (p.0, p.1, ltb-true p.0 (2 ^ n) p.2.1)

mask_from : (n : ℕ) → n ≤ 32 → (t : Tree) → (t ≡ Empty) ⊎ ((m : ℕ) × (t ≡ Word (pos m)) × (m < 2 ^ n)) → (t ≡ Empty) ⊎ ((m : ℕ) × (t ≡ a_mask m) × ((m < 256 ^ 4) × (ltb m (2 ^ n) ≡ true)))
mask_from n l t (inl e) = inl e
mask_from n l t (inr p) = inr (p.0, p.1, (mask_fits n p.0 l p.2, lt-ltb p.0 (2 ^ n) p.2))

abbrev mask_in : Tree → Option ℕ
mask_in (Word z) = Some (unsigned_abs z)
mask_in _ = None

abbrev IsMask : ℕ → Tree → Type 0
IsMask n t = (t ≡ Empty) ⊎ ((m : ℕ) × (t ≡ Word (pos m)) × (m < 2 ^ n))

mask_text : (n : ℕ) → n ≤ 32 → (t : Tree) → IsMask n t → flag_text (high 4) (mask_in t) ≡ flag_text (number_text 4) (word_of t)
mask_text n l t (inl e) = rw e refl
mask_text n l t (inr p) = rw p.1 (ap (λ k. 1 ∷ high 4 k) (sym (low_pos 4 p.0 (mask_fits n p.0 l p.2))))

abbrev masks_at : ℕ → ℕ → List ℕ → Read Tree
masks_at whole n bytes = made (or_empty a_mask) (flag_at whole (kept_at whole (λ m. ltb m (2 ^ n)) (number_at 4)) bytes)

exact_mask : (whole n : ℕ) → n ≤ 32 → IsExact (masks_at whole n) (λ t. flag_text (number_text 4) (word_of t)) (IsMask n)
exact_mask whole n l =
    exact_text (masks_at whole n) (λ t. flag_text (high 4) (mask_in t)) (λ t. flag_text (number_text 4) (word_of t)) (IsMask n) (mask_text n l)
    (exact_as (masks_at whole n) (λ t. flag_text (high 4) (mask_in t)) (λ t. (t ≡ Empty) ⊎ ((m : ℕ) × (t ≡ a_mask m) × ((m < 256 ^ 4) × (ltb m (2 ^ n) ≡ true)))) (IsMask n)
    (mask_to n) (mask_from n l)
    (exact_maybe a_mask mask_in whole (kept_at whole (λ m. ltb m (2 ^ n)) (number_at 4)) (high 4) (λ m. (m < 256 ^ 4) × (ltb m (2 ^ n) ≡ true)) refl (λ m. refl)
    (exact_kept whole (λ m. ltb m (2 ^ n)) (number_at 4) (high 4) (λ m. m < 256 ^ 4) (exact_number 4))))

-- ---- every function

exact_quantile : (v : Version) (whole : ℕ) (T : Ty) → IsSpelledType T → IsExact (quantile_at v whole T) (quantile_text v T) (HasQuantileText v T)
exact_quantile One whole T s =
    exact_as (quantile_at One whole T) (quantile_text One T) (λ t. (vs : List Value) × (t ≡ values_tree vs) × ((length vs < 256 ^ 8) × (any_length (length vs) ≡ true) × AllAfter (λ e v. HasValueText T v × (holds_up compare e v ≡ true)) [] vs)) (HasQuantileText One T)
    (λ t p. let k = holding_to (HasValueText T) compare p.0 p.2.2 in (p.0, p.1, k.0, k.1, p.2.0))
    (λ t p. (p.0, p.1, (p.4, refl, holding_from (HasValueText T) compare p.0 p.2 p.3)))
    (exact_values whole any_length (λ e. kept_at whole (holds_up compare e) (value_at whole T)) (value_text T) (λ e v. HasValueText T v × (holds_up compare e v ≡ true)) (λ e. exact_kept whole (holds_up compare e) (value_at whole T) (value_text T) (HasValueText T) (exact_value whole T s)))

pub exact_leaf : (v : Version) (whole : ℕ) (f : Leaf) (ts : List Ty) → IsSpelledLeaf f ts → IsExact (leaf_at v whole f ts) (leaf_text v f ts) (HasLeafText v f ts)
exact_leaf v whole Count ts s = exact_maybe Word word_of whole (word_at false) (number_text 8) (IsWord false) refl (λ z. refl) (exact_word false)
exact_leaf v whole Sum ts s =
    let g = is_signed (first_type ts) in
    exact_maybe Word word_of whole (word_at g) (number_text 8) (IsWord g) refl (λ z. refl) (exact_word g)
exact_leaf v whole Min ts s = exact_one whole ts s
exact_leaf v whole Max ts s = exact_one whole ts s
exact_leaf v whole ArgMin ts s = exact_two whole ts s
exact_leaf v whole ArgMax ts s = exact_two whole ts s
exact_leaf v whole (GroupArray most) ts s =
    let T = bare (first_type ts) in
    exact_as (leaf_at v whole (GroupArray most) ts) (leaf_text v (GroupArray most) ts) (λ t. (vs : List Value) × (t ≡ values_tree vs) × ((length vs < 256 ^ 8) × (up_to most (length vs) ≡ true) × AllAfter (λ e. HasValueText T) [] vs)) (HasLeafText v (GroupArray most) ts)
    (λ t p. (p.0, p.1, each_to (HasValueText T) [] p.0 p.2.2, up_to_is most (length p.0) p.2.1, p.2.0))
    (λ t p. (p.0, p.1, (p.4, is_up_to most (length p.0) p.3, each_from (HasValueText T) [] p.0 p.2)))
    (exact_values whole (up_to most) (λ e. value_at whole T) (value_text T) (λ e. HasValueText T) (λ e. exact_value whole T s))
exact_leaf v whole UniqExact ts s =
    exact_as (leaf_at v whole UniqExact ts) (leaf_text v UniqExact ts) (λ t. (rs : List (List Value)) × (t ≡ rows_tree rs) × ((length rs < 256 ^ 8) × (any_length (length rs) ≡ true) × AllAfter (λ e r. HasRowText ts r × (rises compare_rows e r ≡ true)) [] rs)) (HasLeafText v UniqExact ts)
    (λ t p. let k = rising_to (HasRowText ts) compare_rows p.0 p.2.2 in (p.0, p.1, k.0, k.1, p.2.0))
    (λ t p. (p.0, p.1, (p.4, refl, rising_from (HasRowText ts) compare_rows p.0 p.2 p.3)))
    (exact_rows whole (λ e. kept_at whole (rises compare_rows e) (row_at whole ts)) (row_text ts) (λ e r. HasRowText ts r × (rises compare_rows e r ≡ true)) (λ e. exact_kept whole (rises compare_rows e) (row_at whole ts) (row_text ts) (HasRowText ts) (exact_row whole ts s.0)))
exact_leaf v whole (QuantileExact level) ts s = exact_quantile v whole (bare (first_type ts)) s
exact_leaf v whole (WindowFunnel window strict) ts s = exact_events whole (conditions ts) s
exact_leaf v whole (SequenceMatch pattern) ts s = exact_events whole (conditions ts) s
exact_leaf v whole Retention ts s = exact_mask whole (length ts) s
exact_leaf v whole (GroupBit op) ts s =
    let T = bare (first_type ts) in
    exact_as (one_at whole (bare (first_type ts))) (λ t. flag_text (value_text T) (one_of t)) (λ t. (t ≡ Empty) ⊎ ((v : Value) × (t ≡ one_tree (Some v)) × HasValueText T v)) (HasLeafText v (GroupBit op) ts)
    (bits_to T s.0) (bits_from T) (exact_one whole ts s.1)
