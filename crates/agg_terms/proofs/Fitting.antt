-- What the tests of values and trees decide, form by form and link by link.
use Rattle.std.proofs.Common.{◌≡◌, ◌⊎◌, inl, inr, ℕ, ◌<◌, ◌≤◌, ◌^◌, ◌-◌, ℤ, pos, negsuc, Bool, true, false, ◌&&◌, List, [], ◌∷◌, Option, Some, None, length, map, refl, sym, ap, ap₂, ◌∙◌, subst, arith, Ordering, Less, Equal, Greater, FitsSigned, nat_lt, nat_le, nat_eq}
use Rattle.std.specs.Prelude.{int_le}
use Rattle.std.specs.List.{list_all}
use Rattle.std.proofs.lemmas.Bool.{eq-eqb, eqb-true, le-leb, leb-true, lt-ltb, ltb-true}
use Rattle.std.proofs.lemmas.Nat.{pow_pos}
use mir.Syntax.{Width, w64}
use mir.Val.{hbits}
use Rattle.std.specs.Ordering.{is_eq}
use Rattle.agg_terms.specs.Lists.{Apart, Each, NotFalling, Rising}
use Rattle.agg_terms.specs.Chains.{ArgMax, ArgMin, Arr, Array, Chain, Count, Distinct, ForEach, GroupArray, GroupBit, If, Leaf, MapOf, MapTy, Max, Merge, Min, Nullable, Of, OrDefault, OrNull, QuantileExact, Resample, Retention, SequenceMatch, Signed, State, StateOf, Str, Sum, Ty, UniqExact, Whole, WindowFunnel, tys_list}
use Rattle.agg_terms.specs.Values.{Bytes, Cell, Empty, Entries, Event, Events, Items, Keyed, KeyedTrees, Listed, Nil, Num, Pairs, Rows, Slots, Table, Tree, Trees, Tuple, Value, Values, Word, a_key, a_row, a_tree, a_value, an_entry, entries, entries_list, keyed_list, keyed_tree, keyed_trees, list_value, map_value, no_entries, no_keys, no_rows, no_trees, no_values, rows_tree, slots_tree, table, table_list, trees, trees_list, tuple_tree, values, values_list, values_tree}
use Rattle.agg_terms.specs.Types.{bare, conditions, first_type, intervals, inward, is_signed, key_type}
use Rattle.agg_terms.specs.Order.{compare, compare_rows}
use Rattle.agg_terms.specs.Trees.{IsEvent, IsEventTree, IsLeafTree, IsPlain, IsRow, IsTree, IsUpTo, IsValue, IsWord, by_time, is_one, one_tree, pair_tree}
use Rattle.agg_terms.specs.Fitting.{are_apart, are_events, fits_bits, fits_plain, fits_row, fits_value, fits_width, has_bytes, has_cell, has_entries, has_events, has_items, has_keyed, has_number, has_rows, has_slots, has_values, has_word, is_best, is_best_pair, is_event, is_leaf_tree, is_lone, is_nil, is_none, is_not_falling, is_rising, is_tree, is_up_to, is_word}
use Rattle.agg_terms.proofs.Lists.{entries_back, keyed_back, table_back, trees_back, values_back}
use Rattle.agg_terms.proofs.Sorting.{itself}
use Rattle.agg_terms.proofs.Comparing.{rows_order}
use Rattle.agg_terms.proofs.Deciding.{Exact, apart, both, each, no, not_falling, one_of, rising}

-- a list of the family, read and made again
pub values_there : (vs : Values) → values (values_list vs) ≡ vs
values_there no_values = refl
values_there (a_value v vs) = ap (a_value v) (values_there vs)

pub entries_there : (es : Entries) → entries (entries_list es) ≡ es
entries_there no_entries = refl
entries_there (an_entry k v es) = ap (an_entry k v) (entries_there es)

pub table_there : (rs : Table) → table (table_list rs) ≡ rs
table_there no_rows = refl
table_there (a_row r rs) = ap₂ a_row (values_there r) (table_there rs)

pub trees_there : (ts : Trees) → trees (trees_list ts) ≡ ts
trees_there no_trees = refl
trees_there (a_tree t ts) = ap (a_tree t) (trees_there ts)

pub keyed_there : (es : KeyedTrees) → keyed_trees (keyed_list es) ≡ es
keyed_there no_keys = refl
keyed_there (a_key k t es) = ap (a_key k t) (keyed_there es)

-- numbers
within_pos : (n k : ℕ) → k < 2 ^ n → fits_bits n (pos k) ≡ true
within_pos n k h = ap₂ ◌&&◌ (le-leb 0 k (omega arith)) (le-leb k (2 ^ n - 1) (omega arith))

second : (a b : Bool) → (a && b) ≡ true → b ≡ true
second true b e = e
second false b e = no e

pub bits : (n : ℕ) (z : ℤ) → Exact (fits_bits n z) ((k : ℕ) × (z ≡ pos k) × (k < 2 ^ n))
bits n (pos k) = (
  λ e. (k, refl, (let l : k ≤ 2 ^ n - 1 = leb-true k (2 ^ n - 1) (second (int_le (pos 0) (pos k)) (int_le (pos k) (pos (2 ^ n - 1))) e) in let m = pow_pos n in omega arith)),
  λ h. subst (λ z. fits_bits n z ≡ true) (sym h.1) (within_pos n h.0 h.2),
)
bits n (negsuc k) = (λ e. no e, λ h. subst (λ z. fits_bits n z ≡ true) (sym h.1) (within_pos n h.0 h.2))

below_top : (h k : ℕ) → Exact (nat_le k (2 ^ h - 1)) (k < 2 ^ h)
below_top h k = (λ e. (let l = leb-true k (2 ^ h - 1) e in let m = pow_pos h in omega arith), λ l. le-leb k (2 ^ h - 1) (omega arith))

pub width : (w : Width) (z : ℤ) → Exact (fits_width w z) (FitsSigned w z)
width w (pos k) = (λ e. record { sfits = (below_top (hbits w) k).0 e }, λ h. (below_top (hbits w) k).1 h.sfits)
width w (negsuc k) = (
  λ e. record { sfits = (below_top (hbits w) k).0 (first (nat_le k (2 ^ hbits w - 1)) e) },
  λ h. ap (λ b. b && true) ((below_top (hbits w) k).1 h.sfits),
)
  where
    first : (a : Bool) → (a && true) ≡ true → a ≡ true
    first true e = refl
    first false e = no e

below : (k n : ℕ) → Exact (nat_lt k n) (k < n)
below k n = (ltb-true k n, lt-ltb k n)

-- a value or a tree of one form, whose parts pass a test
pub of_number : (p : ℤ → Bool) (P : ℤ → Type 0) → ((x : ℤ) → Exact (p x) (P x)) → (v : Value) → Exact (has_number p v) ((x : ℤ) × (v ≡ Num x) × P x)
of_number p P f (Num x) = (
  λ e. (x, refl, (f (x)).0 e),
  λ h. subst (λ v. has_number p v ≡ true) (sym h.1) ((f h.0).1 h.2),
)
of_number p P f v = (λ e. no e, λ h. subst (λ v. has_number p v ≡ true) (sym h.1) ((f h.0).1 h.2))

pub of_bytes : (p : List ℕ → Bool) (P : List ℕ → Type 0) → ((x : List ℕ) → Exact (p x) (P x)) → (v : Value) → Exact (has_bytes p v) ((x : List ℕ) × (v ≡ Bytes x) × P x)
of_bytes p P f (Bytes x) = (
  λ e. (x, refl, (f (x)).0 e),
  λ h. subst (λ v. has_bytes p v ≡ true) (sym h.1) ((f h.0).1 h.2),
)
of_bytes p P f v = (λ e. no e, λ h. subst (λ v. has_bytes p v ≡ true) (sym h.1) ((f h.0).1 h.2))

pub of_cell : (p : Tree → Bool) (P : Tree → Type 0) → ((x : Tree) → Exact (p x) (P x)) → (v : Value) → Exact (has_cell p v) ((x : Tree) × (v ≡ Cell x) × P x)
of_cell p P f (Cell x) = (
  λ e. (x, refl, (f (x)).0 e),
  λ h. subst (λ v. has_cell p v ≡ true) (sym h.1) ((f h.0).1 h.2),
)
of_cell p P f v = (λ e. no e, λ h. subst (λ v. has_cell p v ≡ true) (sym h.1) ((f h.0).1 h.2))

pub of_word : (p : ℤ → Bool) (P : ℤ → Type 0) → ((x : ℤ) → Exact (p x) (P x)) → (v : Tree) → Exact (has_word p v) ((x : ℤ) × (v ≡ Word x) × P x)
of_word p P f (Word x) = (
  λ e. (x, refl, (f (x)).0 e),
  λ h. subst (λ v. has_word p v ≡ true) (sym h.1) ((f h.0).1 h.2),
)
of_word p P f v = (λ e. no e, λ h. subst (λ v. has_word p v ≡ true) (sym h.1) ((f h.0).1 h.2))

pub of_events : (p : List Event → Bool) (P : List Event → Type 0) → ((x : List Event) → Exact (p x) (P x)) → (v : Tree) → Exact (has_events p v) ((x : List Event) × (v ≡ Events x) × P x)
of_events p P f (Events x) = (
  λ e. (x, refl, (f (x)).0 e),
  λ h. subst (λ v. has_events p v ≡ true) (sym h.1) ((f h.0).1 h.2),
)
of_events p P f v = (λ e. no e, λ h. subst (λ v. has_events p v ≡ true) (sym h.1) ((f h.0).1 h.2))

pub of_items : (p : List Value → Bool) (P : List Value → Type 0) → ((x : List Value) → Exact (p x) (P x)) → (v : Value) → Exact (has_items p v) ((x : List Value) × (v ≡ list_value x) × P x)
of_items p P f (Items x) = (
  λ e. (values_list x, sym (ap Items (values_there x)), (f (values_list x)).0 e),
  λ h. subst (λ v. has_items p v ≡ true) (sym h.1) (subst (λ l. p l ≡ true) (sym (values_back h.0)) ((f h.0).1 h.2)),
)
of_items p P f v = (λ e. no e, λ h. subst (λ v. has_items p v ≡ true) (sym h.1) (subst (λ l. p l ≡ true) (sym (values_back h.0)) ((f h.0).1 h.2)))

pub of_entries : (p : List (Value × Value) → Bool) (P : List (Value × Value) → Type 0) → ((x : List (Value × Value)) → Exact (p x) (P x)) → (v : Value) → Exact (has_entries p v) ((x : List (Value × Value)) × (v ≡ map_value x) × P x)
of_entries p P f (Pairs x) = (
  λ e. (entries_list x, sym (ap Pairs (entries_there x)), (f (entries_list x)).0 e),
  λ h. subst (λ v. has_entries p v ≡ true) (sym h.1) (subst (λ l. p l ≡ true) (sym (entries_back h.0)) ((f h.0).1 h.2)),
)
of_entries p P f v = (λ e. no e, λ h. subst (λ v. has_entries p v ≡ true) (sym h.1) (subst (λ l. p l ≡ true) (sym (entries_back h.0)) ((f h.0).1 h.2)))

pub of_values : (p : List Value → Bool) (P : List Value → Type 0) → ((x : List Value) → Exact (p x) (P x)) → (v : Tree) → Exact (has_values p v) ((x : List Value) × (v ≡ values_tree x) × P x)
of_values p P f (Listed x) = (
  λ e. (values_list x, sym (ap Listed (values_there x)), (f (values_list x)).0 e),
  λ h. subst (λ v. has_values p v ≡ true) (sym h.1) (subst (λ l. p l ≡ true) (sym (values_back h.0)) ((f h.0).1 h.2)),
)
of_values p P f v = (λ e. no e, λ h. subst (λ v. has_values p v ≡ true) (sym h.1) (subst (λ l. p l ≡ true) (sym (values_back h.0)) ((f h.0).1 h.2)))

pub of_rows : (p : List (List Value) → Bool) (P : List (List Value) → Type 0) → ((x : List (List Value)) → Exact (p x) (P x)) → (v : Tree) → Exact (has_rows p v) ((x : List (List Value)) × (v ≡ rows_tree x) × P x)
of_rows p P f (Rows x) = (
  λ e. (table_list x, sym (ap Rows (table_there x)), (f (table_list x)).0 e),
  λ h. subst (λ v. has_rows p v ≡ true) (sym h.1) (subst (λ l. p l ≡ true) (sym (table_back h.0)) ((f h.0).1 h.2)),
)
of_rows p P f v = (λ e. no e, λ h. subst (λ v. has_rows p v ≡ true) (sym h.1) (subst (λ l. p l ≡ true) (sym (table_back h.0)) ((f h.0).1 h.2)))

pub of_slots : (p : List Tree → Bool) (P : List Tree → Type 0) → ((x : List Tree) → Exact (p x) (P x)) → (v : Tree) → Exact (has_slots p v) ((x : List Tree) × (v ≡ slots_tree x) × P x)
of_slots p P f (Slots x) = (
  λ e. (trees_list x, sym (ap Slots (trees_there x)), (f (trees_list x)).0 e),
  λ h. subst (λ v. has_slots p v ≡ true) (sym h.1) (subst (λ l. p l ≡ true) (sym (trees_back h.0)) ((f h.0).1 h.2)),
)
of_slots p P f v = (λ e. no e, λ h. subst (λ v. has_slots p v ≡ true) (sym h.1) (subst (λ l. p l ≡ true) (sym (trees_back h.0)) ((f h.0).1 h.2)))

pub of_keyed : (p : List (Value × Tree) → Bool) (P : List (Value × Tree) → Type 0) → ((x : List (Value × Tree)) → Exact (p x) (P x)) → (v : Tree) → Exact (has_keyed p v) ((x : List (Value × Tree)) × (v ≡ keyed_tree x) × P x)
of_keyed p P f (Keyed x) = (
  λ e. (keyed_list x, sym (ap Keyed (keyed_there x)), (f (keyed_list x)).0 e),
  λ h. subst (λ v. has_keyed p v ≡ true) (sym h.1) (subst (λ l. p l ≡ true) (sym (keyed_back h.0)) ((f h.0).1 h.2)),
)
of_keyed p P f v = (λ e. no e, λ h. subst (λ v. has_keyed p v ≡ true) (sym h.1) (subst (λ l. p l ≡ true) (sym (keyed_back h.0)) ((f h.0).1 h.2)))

pub nil : (v : Value) → Exact (is_nil v) (v ≡ Nil)
nil Nil = (λ e. refl, λ h. refl)
nil v = (λ e. no e, λ h. ap is_nil h)

pub none : (t : Tree) → Exact (is_none t) (t ≡ Empty)
none Empty = (λ e. refl, λ h. refl)
none t = (λ e. no e, λ h. ap is_none h)

-- values without a state
pub plain : (t : Ty) (v : Value) → Exact (fits_plain t v) (IsPlain t v)
plain (Whole n) v =
    let k = of_number (fits_bits n) (λ z. (k : ℕ) × (z ≡ pos k) × (k < 2 ^ n)) (bits n) v in (
      λ e. let h = k.0 e in (h.2.0, h.1 ∙ ap Num h.2.1, h.2.2),
      λ h. k.1 (pos h.0, h.1, (h.0, refl, h.2)),
    )
plain (Signed w) v = of_number (fits_width w) (FitsSigned w) (width w) v
plain Str v = of_bytes (list_all (λ b. nat_lt b (2 ^ 8))) (Each (λ b. b < 2 ^ 8)) (each (λ b. nat_lt b (2 ^ 8)) (λ b. b < 2 ^ 8) (λ b. below b (2 ^ 8))) v
plain (Arr t) v = of_items (list_all (fits_plain t)) (Each (IsPlain t)) (each (fits_plain t) (IsPlain t) (plain t)) v
plain (MapTy k t) v =
    of_entries (list_all (λ e. fits_plain k e.0 && fits_plain t e.1)) (Each (λ e. IsPlain k e.0 × IsPlain t e.1))
    (each (λ e. fits_plain k e.0 && fits_plain t e.1) (λ e. IsPlain k e.0 × IsPlain t e.1) (λ e. both (fits_plain k e.0) (fits_plain t e.1) (plain k e.0) (plain t e.1))) v
plain (Nullable t) v = one_of (is_nil v) (fits_plain t v) (nil v) (plain t v)
plain (StateOf c ts) v = (λ e. no e, λ h. absurd h)

pub row : (ts : List Ty) (vs : List Value) → Exact (fits_row ts vs) (IsRow ts vs)
row [] [] = (λ e. tt, λ h. refl)
row [] (v ∷ vs) = (λ e. no e, λ h. absurd h)
row (t ∷ ts) [] = (λ e. no e, λ h. absurd h)
row (t ∷ ts) (v ∷ vs) = both (fits_plain (bare t) v) (fits_row ts vs) (plain (bare t) v) (row ts vs)

-- trees of functions
pub up_to : (most : Option ℕ) (n : ℕ) → Exact (is_up_to most n) (IsUpTo most n)
up_to None n = (λ e. tt, λ h. refl)
up_to (Some most) n = (leb-true n most, le-leb n most)

pub word : (s : Bool) (z : ℤ) → Exact (is_word s z) (IsWord s z)
word true z = width w64 z
word false z = bits 64 z

best_there : (ty : Ty) (v : Value) → fits_plain ty v ≡ true → is_best ty (one_tree (Some v)) ≡ true
best_there ty (Num z) h = h
best_there ty v h = h

pub best_tree : (ty : Ty) (t : Tree) → Exact (is_best ty t) ((t ≡ Empty) ⊎ ((v : Value) × (t ≡ one_tree (Some v)) × IsPlain ty v))
best_tree ty t = (there t, back)
  where
    back : (t ≡ Empty) ⊎ ((v : Value) × (t ≡ one_tree (Some v)) × IsPlain ty v) → is_best ty t ≡ true
    back (inl e) = ap (is_best ty) e
    back (inr h) = subst (λ t. is_best ty t ≡ true) (sym h.1) (best_there ty h.0 ((plain ty h.0).1 h.2))

    lone : (v : Value) → is_lone (fits_plain ty) (v ∷ []) ≡ true → (tuple_tree (v ∷ []) ≡ one_tree (Some v)) × IsPlain ty v
    lone (Num z) e = no e
    lone v e = (refl, (plain ty v).0 e)

    there : (t : Tree) → is_best ty t ≡ true → (t ≡ Empty) ⊎ ((v : Value) × (t ≡ one_tree (Some v)) × IsPlain ty v)
    there Empty e = inl refl
    there (Word z) e = inr (Num z, refl, (plain ty (Num z)).0 e)
    there (Tuple no_values) e = no e
    there (Tuple (a_value v no_values)) e = let h = lone v e in inr (v, h.0, h.1)
    there (Tuple (a_value v (a_value w vs))) e = no e
    there t e = no e

pub pair_of : (ts : List Ty) (t : Tree) → Exact (is_best_pair ts t) ((t ≡ Empty) ⊎ ((p : Value × Value) × (t ≡ pair_tree (Some p)) × IsRow ts (p.0 ∷ p.1 ∷ [])))
pair_of ts t = (there t, back)
  where
    back : (t ≡ Empty) ⊎ ((p : Value × Value) × (t ≡ pair_tree (Some p)) × IsRow ts (p.0 ∷ p.1 ∷ [])) → is_best_pair ts t ≡ true
    back (inl e) = ap (is_best_pair ts) e
    back (inr h) = subst (λ t. is_best_pair ts t ≡ true) (sym h.1) ((row ts (h.0.0 ∷ h.0.1 ∷ [])).1 h.2)

    there : (t : Tree) → is_best_pair ts t ≡ true → (t ≡ Empty) ⊎ ((p : Value × Value) × (t ≡ pair_tree (Some p)) × IsRow ts (p.0 ∷ p.1 ∷ []))
    there Empty e = inl refl
    there (Tuple no_values) e = no e
    there (Tuple (a_value v no_values)) e = no e
    there (Tuple (a_value v (a_value w no_values))) e = inr ((v, w), refl, (row ts (v ∷ w ∷ [])).0 e)
    there (Tuple (a_value v (a_value w (a_value x vs)))) e = no e
    there t e = no e

pub event : (n : ℕ) (e : Event) → Exact (is_event n e) (IsEvent n e)
event n e =
    let k = both (nat_lt e.time (2 ^ 64)) (is_one e.mask && nat_lt e.mask (2 ^ n)) (below e.time (2 ^ 64)) (both (is_one e.mask) (nat_lt e.mask (2 ^ n)) (λ h. h, λ h. h) (below e.mask (2 ^ n))) in
    (λ h. let a = k.0 h in (a.0, a.1.0, a.1.1), λ h. k.1 (h.0, (h.1, h.2)))

pub events : (n : ℕ) (t : Tree) → Exact (are_events n t) (IsEventTree n t)
events n t =
    let k = of_events (λ es. list_all (is_event n) es && is_not_falling by_time es) (λ es. Each (IsEvent n) es × NotFalling by_time es)
    (λ es. both (list_all (is_event n) es) (is_not_falling by_time es) (each (is_event n) (IsEvent n) (event n) es) (not_falling by_time es)) t in
    one_of (is_none t) _ (none t) (λ e. let h = k.0 e in (h.0, h.1, h.2.0, h.2.1), λ h. k.1 (h.0, h.1, (h.2, h.3)))

a_count : (n : ℕ) (t : Tree) → Exact (has_word (fits_bits n) t) ((k : ℕ) × (t ≡ Word (pos k)) × (k < 2 ^ n))
a_count n t =
    let k = of_word (fits_bits n) (λ z. (k : ℕ) × (z ≡ pos k) × (k < 2 ^ n)) (bits n) t in (
      λ e. let h = k.0 e in (h.2.0, h.1 ∙ ap Word h.2.1, h.2.2),
      λ h. k.1 (pos h.0, h.1, (h.0, refl, h.2)),
    )

pub leaf_tree : (f : Leaf) (ts : List Ty) (t : Tree) → Exact (is_leaf_tree f ts t) (IsLeafTree f ts t)
leaf_tree Count ts t = one_of (is_none t) (has_word (fits_bits 64) t) (none t) (a_count 64 t)
leaf_tree Sum ts t =
    one_of (is_none t) (has_word (is_word (is_signed (first_type ts))) t) (none t) (of_word (is_word (is_signed (first_type ts))) (IsWord (is_signed (first_type ts))) (word (is_signed (first_type ts))) t)
leaf_tree Min ts t = best_tree (bare (first_type ts)) t
leaf_tree Max ts t = best_tree (bare (first_type ts)) t
leaf_tree ArgMin ts t = pair_of ts t
leaf_tree ArgMax ts t = pair_of ts t
leaf_tree (GroupArray most) ts t =
    let ty = bare (first_type ts) in
    let k = of_values (λ vs. list_all (fits_plain (bare (first_type ts))) vs && is_up_to most (length vs)) (λ vs. Each (IsPlain (bare (first_type ts))) vs × IsUpTo most (length vs))
    (λ vs. both (list_all (fits_plain ty) vs) (is_up_to most (length vs)) (each (fits_plain ty) (IsPlain ty) (plain ty) vs) (up_to most (length vs))) t in
    (λ e. let h = k.0 e in (h.0, h.1, h.2.0, h.2.1), λ h. k.1 (h.0, h.1, (h.2, h.3)))
leaf_tree UniqExact ts t =
    let k = of_rows (λ rs. list_all (fits_row ts) rs && is_rising compare_rows rs) (λ rs. Each (IsRow ts) rs × Rising compare_rows rs)
    (λ rs. both (list_all (fits_row ts) rs) (is_rising compare_rows rs) (each (fits_row ts) (IsRow ts) (row ts) rs) (rising compare_rows rs)) t in
    (λ e. let h = k.0 e in (h.0, h.1, h.2.0, h.2.1), λ h. k.1 (h.0, h.1, (h.2, h.3)))
leaf_tree (QuantileExact level) ts t =
    let ty = bare (first_type ts) in
    let k = of_values (λ vs. list_all (fits_plain (bare (first_type ts))) vs && is_not_falling compare vs) (λ vs. Each (IsPlain (bare (first_type ts))) vs × NotFalling compare vs)
    (λ vs. both (list_all (fits_plain ty) vs) (is_not_falling compare vs) (each (fits_plain ty) (IsPlain ty) (plain ty) vs) (not_falling compare vs)) t in
    (λ e. let h = k.0 e in (h.0, h.1, h.2.0, h.2.1), λ h. k.1 (h.0, h.1, (h.2, h.3)))
leaf_tree (WindowFunnel window strict) ts t = events (conditions ts) t
leaf_tree (SequenceMatch pattern) ts t = events (conditions ts) t
leaf_tree (GroupBit op) ts t =
    one_of (is_none t) (has_word (λ z. fits_plain (bare (first_type ts)) (Num z)) t) (none t)
    (of_word (λ z. fits_plain (bare (first_type ts)) (Num z)) (λ z. IsPlain (bare (first_type ts)) (Num z)) (λ z. plain (bare (first_type ts)) (Num z)) t)
leaf_tree Retention ts t = one_of (is_none t) (has_word (fits_bits (length ts)) t) (none t) (a_count (length ts) t)

-- trees of chains
same_number : (a b : ℕ) → Exact (nat_eq a b) (a ≡ b)
same_number a b = (eqb-true a b, eq-eqb a b)

row_equal : (a b : List Value) → Exact (is_eq (compare_rows a b)) (a ≡ b)
row_equal a b = (there (compare_rows a b) refl, λ e. subst (λ z. is_eq (compare_rows a z) ≡ true) e (ap is_eq (itself compare_rows rows_order a)))
  where
    there : (o : Ordering) → compare_rows a b ≡ o → is_eq (compare_rows a b) ≡ true → a ≡ b
    there Less e h = no (sym (ap is_eq e) ∙ h)
    there Equal e h = rows_order.same a b e
    there Greater e h = no (sym (ap is_eq e) ∙ h)

pub tree : (c : Chain) (ts : List Ty) (t : Tree) → Exact (is_tree c ts t) (IsTree c ts t)
tree (Of f) ts t = leaf_tree f ts t
tree (If c) ts t = tree c (inward (If c) ts) t
tree (Array c) ts t = tree c (inward (Array c) ts) t
tree (MapOf c) ts t =
    let key = key_type (first_type ts) in
    let inner = inward (MapOf c) ts in
    let k = of_keyed (λ es. list_all (λ e. fits_plain key e.0 && is_tree c inner e.1) es && is_rising compare (map (λ e. e.0) es))
    (λ es. Each (λ e. IsPlain key e.0 × IsTree c inner e.1) es × Rising compare (map (λ e. e.0) es))
    (λ es. both (list_all (λ e. fits_plain key e.0 && is_tree c inner e.1) es) (is_rising compare (map (λ e. e.0) es))
    (each (λ e. fits_plain key e.0 && is_tree c inner e.1) (λ e. IsPlain key e.0 × IsTree c inner e.1)
    (λ e. both (fits_plain key e.0) (is_tree c inner e.1) (plain key e.0) (tree c inner e.1)) es)
    (rising compare (map (λ e. e.0) es))) t in
    (λ e. let h = k.0 e in (h.0, h.1, h.2.0, h.2.1), λ h. k.1 (h.0, h.1, (h.2, h.3)))
tree (ForEach c) ts t = of_slots (list_all (is_tree c (inward (ForEach c) ts))) (Each (IsTree c (inward (ForEach c) ts))) (each (is_tree c (inward (ForEach c) ts)) (IsTree c (inward (ForEach c) ts)) (tree c (inward (ForEach c) ts))) t
tree (OrNull c) ts t = tree c ts t
tree (OrDefault c) ts t = tree c ts t
tree (Distinct c) ts t =
    let k = of_rows (λ rs. list_all (fits_row ts) rs && are_apart compare_rows rs) (λ rs. Each (IsRow ts) rs × Apart rs)
    (λ rs. both (list_all (fits_row ts) rs) (are_apart compare_rows rs) (each (fits_row ts) (IsRow ts) (row ts) rs) (apart compare_rows row_equal rs)) t in
    (λ e. let h = k.0 e in (h.0, h.1, h.2.0, h.2.1), λ h. k.1 (h.0, h.1, (h.2, h.3)))
tree (State c) ts t = tree c ts t
tree (Merge c) ts t = tree c (inward (Merge c) ts) t
tree (Resample start end step c) ts t =
    let inner = inward (Resample start end step c) ts in
    let k = of_slots (λ slots. list_all (is_tree c inner) slots && nat_eq (length slots) (intervals start end step))
    (λ slots. Each (IsTree c inner) slots × (length slots ≡ intervals start end step))
    (λ slots. both (list_all (is_tree c inner) slots) (nat_eq (length slots) (intervals start end step))
    (each (is_tree c inner) (IsTree c inner) (tree c inner) slots) (same_number (length slots) (intervals start end step))) t in
    (λ e. let h = k.0 e in (h.0, h.1, h.2.0, h.2.1), λ h. k.1 (h.0, h.1, (h.2, h.3)))

-- values of any type
pub value : (t : Ty) (v : Value) → Exact (fits_value t v) (IsValue t v)
value (Whole n) v = plain (Whole n) v
value (Signed w) v = plain (Signed w) v
value Str v = plain Str v
value (Arr t) v = of_items (list_all (fits_value t)) (Each (IsValue t)) (each (fits_value t) (IsValue t) (value t)) v
value (MapTy k t) v =
    of_entries (list_all (λ e. fits_plain k e.0 && fits_value t e.1)) (Each (λ e. IsPlain k e.0 × IsValue t e.1))
    (each (λ e. fits_plain k e.0 && fits_value t e.1) (λ e. IsPlain k e.0 × IsValue t e.1) (λ e. both (fits_plain k e.0) (fits_value t e.1) (plain k e.0) (value t e.1))) v
value (Nullable t) v = one_of (is_nil v) (fits_value t v) (nil v) (value t v)
value (StateOf c ts) v = of_cell (is_tree c (tys_list ts)) (IsTree c (tys_list ts)) (tree c (tys_list ts)) v
