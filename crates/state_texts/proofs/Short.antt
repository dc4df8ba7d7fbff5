-- Each item takes a byte, so a tree whose text is shorter than 2^64 bytes has no longer list in it.
use Rattle.std.proofs.Common.{◌≡◌, ◌⊎◌, ℕ, ◌/◌, ◌^◌, ◌<◌, ◌≤◌, ℤ, pos, List, [], ◌∷◌, ◌++◌, length, Option, Some, None, refl, sym, ap, subst, ◌∙◌, arith, inl, inr}
use Rattle.std.specs.Prelude.{flat_map}
use Rattle.std.specs.Int.{byte_len}
use Rattle.std.proofs.lemmas.List.{length-append}
use mir.Syntax.{Width, w8, w16, w32, w64, w128}
use Rattle.agg_meaning.specs.Functions.{number}
use Rattle.agg_meaning.specs.Lawful.{IsNumber}
use Rattle.agg_terms.proofs.Lists.{values_back, entries_back, table_back, trees_back, keyed_back}
use Rattle.agg_terms.specs.Chains.{Leaf, Count, Sum, Min, Max, ArgMin, ArgMax, GroupArray, UniqExact, QuantileExact, WindowFunnel, SequenceMatch, Retention, GroupBit, Chain, Of, If, Array, MapOf, ForEach, OrNull, OrDefault, Distinct, State, Merge, Resample, Ty, Whole, Signed, Str, Arr, MapTy, Nullable, StateOf}
use Rattle.agg_terms.specs.Lists.{Each, NotFalling}
use Rattle.agg_terms.specs.Order.{compare}
use Rattle.agg_terms.specs.Trees.{one_tree, pair_tree, IsPlain, IsRow, IsTree, IsLeafTree, IsEventTree}
use Rattle.agg_terms.specs.Types.{bare, first_type, conditions, inward, key_type}
use Rattle.agg_terms.specs.Values.{Event, Value, Num, Bytes, Nil, Items, Pairs, Cell, Tree, Empty, values_tree, rows_tree, rows_of, slots_of, keyed_of, values_of}
use Rattle.state_texts.proofs.Figures.{length_high}
use Rattle.state_texts.specs.Figures.{high, low}
use Rattle.state_texts.specs.Spelled.{HasEvents, HasLeafText, HasQuantileText, HasValueText, HasRowText, HasText, IsBase, IsSpelledType, AreSpelledTypes, IsSpelledLeaf, IsSpelledChain}
use Rattle.state_texts.specs.declared.version.Version.{Version}
use Rattle.state_texts.specs.declared.version.Version.TheVariants.{One}
use Rattle.state_texts.specs.Texts.{list_text, flag_text, bytes_of, items_of, pairs_of, not_nil, value_text, row_text, event_text, one_of, row_of, events_of, leaf_text, quantile_text, body}

flag_long : {X : Type 0} (f : X → List ℕ) (o : Option X) → 0 < length (flag_text f o)
flag_long f None = omega arith
flag_long f (Some x) = omega arith

count_long : (n : ℕ) (rest : List ℕ) → 0 < length (high 8 n ++ rest)
count_long n rest = omega (arith, length-append (high 8 n) rest, length_high 8 n)

list_long : {X : Type 0} (f : X → List ℕ) (xs : List X) → 0 < length (list_text f xs)
list_long f xs = count_long (length xs) (flat_map f xs)

some_long : {X : Type 0} (f : X → List ℕ) (Q : X → Type 0) → ((x : X) → Q x → 0 < length (f x)) → (xs : List X) → Each Q xs → 0 < length xs → 0 < length (flat_map f xs)
some_long f Q h [] k l = absurd (omega (arith, l))
some_long f Q h (x ∷ xs) k l = omega (arith, h x k.0, length-append (f x) (flat_map f xs))

width_long : (w : Width) (n : ℕ) → 0 < length (high (byte_len w) n)
width_long w8 n = omega arith
width_long w16 n = omega arith
width_long w32 n = omega arith
width_long w64 n = omega arith
width_long w128 n = omega arith

pub value_long : (t : Ty) (v : Value) → IsSpelledType t → IsPlain t v → 0 < length (value_text t v)
value_long (Whole n) v s k = omega (arith, s.0, s.1, length_high (n / 8) (low (n / 8) (number v)))
value_long (Signed w) v s k = width_long w (low (byte_len w) (number v))
value_long Str v s k = count_long (length (bytes_of v)) (bytes_of v)
value_long (Arr t) v s k = count_long (length (items_of v)) (flat_map (value_text t) (items_of v))
value_long (MapTy j t) v s k = count_long (length (pairs_of v)) (flat_map (λ e. value_text j e.0 ++ value_text t e.1) (pairs_of v))
value_long (Nullable t) v s k = flag_long (value_text t) (not_nil v)
value_long (StateOf c ts) v s k = absurd k

pub row_long : (ts : List Ty) (r : List Value) → 0 < length ts → AreSpelledTypes ts → IsRow ts r → 0 < length (row_text ts r)
row_long [] r l s k = absurd (omega (arith, l))
row_long (t ∷ ts) [] l s k = absurd k
row_long (t ∷ ts) (v ∷ vs) l s k = omega (arith, value_long (bare t) v s.0 k.0, length-append (value_text (bare t) v) (row_text ts vs))

quantile_long : (v : Version) (ty : Ty) (t : Tree) → 0 < length (quantile_text v ty t)
quantile_long One ty t = list_long (value_text ty) (values_of t)

leaf_long : (v : Version) (f : Leaf) (ts : List Ty) (t : Tree) → 0 < length (leaf_text v f ts t)
leaf_long v Count ts t = flag_long _ _
leaf_long v Sum ts t = flag_long _ _
leaf_long v Min ts t = flag_long _ _
leaf_long v Max ts t = flag_long _ _
leaf_long v ArgMin ts t = flag_long _ _
leaf_long v ArgMax ts t = flag_long _ _
leaf_long v (GroupArray most) ts t = list_long (value_text (bare (first_type ts))) (values_of t)
leaf_long v UniqExact ts t = list_long (row_text ts) (rows_of t)
leaf_long v (QuantileExact level) ts t = quantile_long v (bare (first_type ts)) t
leaf_long v (WindowFunnel window strict) ts t = flag_long _ _
leaf_long v (SequenceMatch pattern) ts t = flag_long _ _
leaf_long v Retention ts t = flag_long _ _
leaf_long v (GroupBit op) ts t = flag_long _ _

-- no body is empty
pub body_long : (v : Version) (c : Chain) (ts : List Ty) (t : Tree) → IsSpelledChain c ts → IsTree c ts t → 0 < length (body v c ts t)
body_long v (Of f) ts t s k = leaf_long v f ts t
body_long v (If c) ts t s k = body_long v c (inward (If c) ts) t s k
body_long v (Array c) ts t s k = body_long v c (inward (Array c) ts) t s k
body_long v (MapOf c) ts t s k = list_long (λ e. value_text (key_type (first_type ts)) e.0 ++ body v c (inward (MapOf c) ts) e.1) (keyed_of t)
body_long v (ForEach c) ts t s k = list_long (body v c (inward (ForEach c) ts)) (slots_of t)
body_long v (OrNull c) ts t s k = body_long v c ts t s k
body_long v (OrDefault c) ts t s k = body_long v c ts t s k
body_long v (Distinct c) ts t s k = list_long (row_text ts) (rows_of t)
body_long v (State c) ts t s k = body_long v c ts t s k
body_long v (Merge c) ts t s k = body_long v c (inward (Merge c) ts) t s k
body_long v (Resample start end step c) ts t s k =
    let us = inward (Resample start end step c) ts in
    subst (λ l. 0 < length (flat_map (body v c us) l)) (sym (ap slots_of k.1 ∙ trees_back k.0)) (some_long (body v c us) (IsTree c us) (λ x q. body_long v c us x s.1 q) k.0 k.2 (subst (λ n. 0 < n) (sym k.3) s.0))

-- ---- short texts

module _ {X : Type 0} (text : X → List ℕ) (Q P : X → Type 0) (long : (x : X) → Q x → 0 < length (text x)) (short : (x : X) → Q x → length (text x) < 2 ^ 64 → P x) where
  pub short_items : (xs : List X) → Each Q xs → length (flat_map text xs) < 2 ^ 64 → Each P xs × (length xs ≤ length (flat_map text xs))
  short_items [] k l = (tt, omega arith)
  short_items (x ∷ xs) k l =
      let r = short_items xs k.1 (omega (arith, l, length-append (text x) (flat_map text xs))) in
      ((short x k.0 (omega (arith, l, length-append (text x) (flat_map text xs))), r.0), omega (arith, r.1, long x k.0, length-append (text x) (flat_map text xs)))

  pub short_list : (xs : List X) → Each Q xs → length (list_text text xs) < 2 ^ 64 → Each P xs × (length xs < 2 ^ 64)
  short_list xs k l =
      let m : length (flat_map text xs) < 2 ^ 64 = omega (arith, l, length-append (high 8 (length xs)) (flat_map text xs)) in
      let r = short_items xs k m in
      (r.0, omega (arith, m, r.1))

abbrev IsShort : List ℕ → Type 0
IsShort text = length text < 2 ^ 64

left_short : (x y : List ℕ) → IsShort (x ++ y) → IsShort x
left_short x y l = omega (arith, l, length-append x y)

right_short : (x y : List ℕ) → IsShort (x ++ y) → IsShort y
right_short x y l = omega (arith, l, length-append x y)

-- behind 01 stands the value
never_nil : (t : Ty) → IsBase t → IsPlain t Nil → ⊥
never_nil (Whole n) b k = absurd cc
never_nil (Signed w) b k = absurd cc
never_nil Str b k = absurd cc
never_nil (Arr t) b k = b
never_nil (MapTy j t) b k = b
never_nil (Nullable t) b k = b
never_nil (StateOf c ts) b k = b

nullable_short : (t : Ty) (v : Value) → IsBase t → IsPlain t v → IsShort (value_text (Nullable t) v) → IsShort (value_text t v)
nullable_short t (Num n) b k l = omega (arith, l)
nullable_short t (Bytes s) b k l = omega (arith, l)
nullable_short t Nil b k l = absurd (never_nil t b k)
nullable_short t (Items vs) b k l = omega (arith, l)
nullable_short t (Pairs es) b k l = omega (arith, l)
nullable_short t (Cell c) b k l = omega (arith, l)

pub value_short : (t : Ty) (v : Value) → IsSpelledType t → IsPlain t v → IsShort (value_text t v) → HasValueText t v
value_short (Whole n) v s k l = k
value_short (Signed w) v s k l = k
value_short Str v s k l = (k.0, k.1, k.2, right_short (high 8 (length k.0)) k.0 (subst (λ u. IsShort (value_text Str u)) k.1 l))
value_short (Arr t) v s k l =
    let m : IsShort (list_text (value_text t) k.0) = subst (λ vs. IsShort (list_text (value_text t) vs)) (ap items_of k.1 ∙ values_back k.0) l in
    let r = short_list (value_text t) (IsPlain t) (HasValueText t) (λ x q. value_long t x s q) (λ x q. value_short t x s q) k.0 k.2 m in
    (k.0, k.1, r.0, r.1)
value_short (MapTy j t) v s k l =
    let f : Value × Value → List ℕ = λ e. value_text j e.0 ++ value_text t e.1 in
    let m : IsShort (list_text f k.0) = subst (λ es. IsShort (list_text f es)) (ap pairs_of k.1 ∙ entries_back k.0) l in
    let r = short_list f (λ e. IsPlain j e.0 × IsPlain t e.1) (λ e. HasValueText j e.0 × HasValueText t e.1)
    (λ e q. omega (arith, value_long j e.0 s.0 q.0, length-append (value_text j e.0) (value_text t e.1)))
    (λ e q h. (value_short j e.0 s.0 q.0 (left_short (value_text j e.0) (value_text t e.1) h), value_short t e.1 s.1 q.1 (right_short (value_text j e.0) (value_text t e.1) h))) k.0 k.2 m in
    (k.0, k.1, r.0, r.1)
value_short (Nullable t) v s (inl e) l = inl e
value_short (Nullable t) v s (inr k) l = inr (value_short t v s.1 k (nullable_short t v s.0 k l))
value_short (StateOf c ts) v s k l = k

pub row_short : (ts : List Ty) (r : List Value) → AreSpelledTypes ts → IsRow ts r → IsShort (row_text ts r) → HasRowText ts r
row_short [] [] s k l = tt
row_short [] (v ∷ vs) s k l = k
row_short (t ∷ ts) [] s k l = k
row_short (t ∷ ts) (v ∷ vs) s k l =
    (value_short (bare t) v s.0 k.0 (left_short (value_text (bare t) v) (row_text ts vs) l), row_short ts vs s.1 k.1 (right_short (value_text (bare t) v) (row_text ts vs) l))

-- ---- trees

-- what stands behind the flag of a tree that is not empty
behind_flag : {X : Type 0} (f : X → List ℕ) (g : Tree → Option X) (t : Tree) (x : X) → g t ≡ Some x → IsShort (flag_text f (g t)) → IsShort (f x)
behind_flag f g t x e l = let m : IsShort (flag_text f (Some x)) = subst (λ o. IsShort (flag_text f o)) e l in omega (arith, m)

one_of_tree : (v : Value) → one_of (one_tree (Some v)) ≡ Some v
one_of_tree (Num n) = refl
one_of_tree (Bytes b) = refl
one_of_tree Nil = refl
one_of_tree (Items vs) = refl
one_of_tree (Pairs es) = refl
one_of_tree (Cell t) = refl

one_short : (T : Ty) (t : Tree) → IsSpelledType T → (t ≡ Empty) ⊎ ((v : Value) × (t ≡ one_tree (Some v)) × IsPlain T v) → IsShort (flag_text (value_text T) (one_of t)) → (t ≡ Empty) ⊎ ((v : Value) × (t ≡ one_tree (Some v)) × HasValueText T v)
one_short T t s (inl e) l = inl e
one_short T t s (inr p) l = inr (p.0, p.1, value_short T p.0 s p.2 (behind_flag (value_text T) one_of t p.0 (ap one_of p.1 ∙ one_of_tree p.0) l))

two_short : (ts : List Ty) (t : Tree) → AreSpelledTypes ts → (t ≡ Empty) ⊎ ((p : Value × Value) × (t ≡ pair_tree (Some p)) × IsRow ts (p.0 ∷ p.1 ∷ [])) → IsShort (flag_text (row_text ts) (row_of t)) → (t ≡ Empty) ⊎ ((p : Value × Value) × (t ≡ pair_tree (Some p)) × HasRowText ts (p.0 ∷ p.1 ∷ []))
two_short ts t s (inl e) l = inl e
two_short ts t s (inr p) l = inr (p.0, p.1, row_short ts (p.0.0 ∷ p.0.1 ∷ []) s p.2 (behind_flag (row_text ts) row_of t (p.0.0 ∷ p.0.1 ∷ []) (ap row_of p.1) l))

number_text : (T : Ty) (z : ℤ) → IsNumber T → IsPlain T (Num z) → HasValueText T (Num z)
number_text (Whole n) z b k = k
number_text (Signed w) z b k = k
number_text Str z b k = absurd b
number_text (Arr t) z b k = absurd b
number_text (MapTy j t) z b k = absurd b
number_text (Nullable t) z b k = absurd b
number_text (StateOf c ts) z b k = absurd b

event_items : (es : List Event) → length es ≤ length (flat_map event_text es)
event_items [] = omega arith
event_items (e ∷ es) = omega (arith, event_items es, length-append (event_text e) (flat_map event_text es), length-append (high 8 e.time) (high 4 e.mask), length_high 8 e.time)

events_short : (n : ℕ) (t : Tree) → IsEventTree n t → IsShort (flag_text (list_text event_text) (events_of t)) → HasEvents n t
events_short n t (inl e) l = inl e
events_short n t (inr p) l =
    let m = behind_flag (list_text event_text) events_of t p.0 (ap events_of p.1) l in
    inr (p.0, p.1, p.2, p.3, omega (arith, m, event_items p.0, length-append (high 8 (length p.0)) (flat_map event_text p.0)))

values_short : (T : Ty) (t : Tree) (vs : List Value) → IsSpelledType T → t ≡ values_tree vs → Each (IsPlain T) vs → IsShort (list_text (value_text T) (values_of t)) → Each (HasValueText T) vs × (length vs < 2 ^ 64)
values_short T t vs s e k l =
    short_list (value_text T) (IsPlain T) (HasValueText T) (λ x q. value_long T x s q) (λ x q. value_short T x s q) vs k (subst (λ us. IsShort (list_text (value_text T) us)) (ap values_of e ∙ values_back vs) l)

rows_short : (ts : List Ty) (t : Tree) (rs : List (List Value)) → AreSpelledTypes ts → 0 < length ts → t ≡ rows_tree rs → Each (IsRow ts) rs → IsShort (list_text (row_text ts) (rows_of t)) → Each (HasRowText ts) rs × (length rs < 2 ^ 64)
rows_short ts t rs s n e k l =
    short_list (row_text ts) (IsRow ts) (HasRowText ts) (λ x q. row_long ts x n s q) (λ x q. row_short ts x s q) rs k (subst (λ us. IsShort (list_text (row_text ts) us)) (ap rows_of e ∙ table_back rs) l)

quantile_short : (v : Version) (ty : Ty) (t : Tree) → IsSpelledType ty → ((vs : List Value) × (t ≡ values_tree vs) × Each (IsPlain ty) vs × NotFalling compare vs) → IsShort (quantile_text v ty t) → HasQuantileText v ty t
quantile_short One ty t s p l = let r = values_short ty t p.0 s p.1 p.2 l in (p.0, p.1, r.0, p.3, r.1)

leaf_short : (v : Version) (f : Leaf) (ts : List Ty) (t : Tree) → IsSpelledLeaf f ts → IsLeafTree f ts t → IsShort (leaf_text v f ts t) → HasLeafText v f ts t
leaf_short v Count ts t s (inl e) l = inl e
leaf_short v Count ts t s (inr p) l = inr (pos p.0, p.1, (p.0, refl, p.2))
leaf_short v Sum ts t s k l = k
leaf_short v Min ts t s k l = one_short (bare (first_type ts)) t s k l
leaf_short v Max ts t s k l = one_short (bare (first_type ts)) t s k l
leaf_short v ArgMin ts t s k l = two_short ts t s.3 k l
leaf_short v ArgMax ts t s k l = two_short ts t s.3 k l
leaf_short v (GroupArray most) ts t s p l = let r = values_short (bare (first_type ts)) t p.0 s p.1 p.2 l in (p.0, p.1, r.0, p.3, r.1)
leaf_short v UniqExact ts t s p l = let r = rows_short ts t p.0 s.0 s.1 p.1 p.2 l in (p.0, p.1, r.0, p.3, r.1)
leaf_short v (QuantileExact level) ts t s p l = quantile_short v (bare (first_type ts)) t s p l
leaf_short v (WindowFunnel window strict) ts t s k l = events_short (conditions ts) t k l
leaf_short v (SequenceMatch pattern) ts t s k l = events_short (conditions ts) t k l
leaf_short v Retention ts t s k l = k
leaf_short v (GroupBit op) ts t s (inl e) l = inl e
leaf_short v (GroupBit op) ts t s (inr p) l = inr (p.0, p.1, number_text (bare (first_type ts)) p.0 s.0 p.2)

-- a state tree whose text is shorter than 2^64 bytes has a text
pub tree_short : (v : Version) (c : Chain) (ts : List Ty) (t : Tree) → IsSpelledChain c ts → IsTree c ts t → IsShort (body v c ts t) → HasText v c ts t
tree_short v (Of f) ts t s k l = leaf_short v f ts t s k l
tree_short v (If c) ts t s k l = tree_short v c (inward (If c) ts) t s k l
tree_short v (Array c) ts t s k l = tree_short v c (inward (Array c) ts) t s k l
tree_short v (MapOf c) ts t s p l =
    let us = inward (MapOf c) ts in
    let key = key_type (first_type ts) in
    let f : Value × Tree → List ℕ = λ e. value_text key e.0 ++ body v c us e.1 in
    let m : IsShort (list_text f p.0) = subst (λ es. IsShort (list_text f es)) (ap keyed_of p.1 ∙ keyed_back p.0) l in
    let r = short_list f (λ e. IsPlain key e.0 × IsTree c us e.1) (λ e. HasValueText key e.0 × HasText v c us e.1)
    (λ e q. omega (arith, value_long key e.0 s.0 q.0, length-append (value_text key e.0) (body v c us e.1)))
    (λ e q h. (value_short key e.0 s.0 q.0 (left_short (value_text key e.0) (body v c us e.1) h), tree_short v c us e.1 s.1 q.1 (right_short (value_text key e.0) (body v c us e.1) h))) p.0 p.2 m in
    (p.0, p.1, r.0, p.3, r.1)
tree_short v (ForEach c) ts t s p l =
    let us = inward (ForEach c) ts in
    let m : IsShort (list_text (body v c us) p.0) = subst (λ xs. IsShort (list_text (body v c us) xs)) (ap slots_of p.1 ∙ trees_back p.0) l in
    let r = short_list (body v c us) (IsTree c us) (HasText v c us) (λ x q. body_long v c us x s q) (λ x q h. tree_short v c us x s q h) p.0 p.2 m in
    (p.0, p.1, r.0, r.1)
tree_short v (OrNull c) ts t s k l = tree_short v c ts t s k l
tree_short v (OrDefault c) ts t s k l = tree_short v c ts t s k l
tree_short v (Distinct c) ts t s p l = let r = rows_short ts t p.0 s.0 s.1 p.1 p.2 l in (p.0, p.1, r.0, p.3, r.1)
tree_short v (State c) ts t s k l = tree_short v c ts t s k l
tree_short v (Merge c) ts t s k l = tree_short v c (inward (Merge c) ts) t s k l
tree_short v (Resample start end step c) ts t s p l =
    let us = inward (Resample start end step c) ts in
    let m : IsShort (flat_map (body v c us) p.0) = subst (λ xs. IsShort (flat_map (body v c us) xs)) (ap slots_of p.1 ∙ trees_back p.0) l in
    let r = short_items (body v c us) (IsTree c us) (HasText v c us) (λ x q. body_long v c us x s.1 q) (λ x q h. tree_short v c us x s.1 q h) p.0 p.2 m in
    (p.0, p.1, r.0, p.3)
