-- The columns of states of all calls, one call after another.
use Rattle.std.proofs.Common.{◌≡◌, ◌⊎◌, ℕ, ◌+◌, ◌-◌, ◌<◌, ◌≤◌, List, [], ◌∷◌, ◌++◌, length, map, get_or, set, replicate, refl, ap, sym, ◌∙◌, subst, arith, inl, inr}
use Rattle.std.proofs.lemmas.Bool.{cases_eq, cases_lt}
use Rattle.std.proofs.lemmas.List.{get_or-append_right, get_or-map, get_or-replicate, get_or-set_other, get_or-set_same, get_or_append_left, get_or_default, get_or_past, get_or_push, length-append, length-replicate, length-set, length_push}
use Rattle.std.specs.Prelude.{OnOk, Result, Ok, Err}
use Rattle.agg_terms.specs.Values.{Empty, Tree, Value}
use Rattle.agg_meaning.specs.Feeds.{opened}
use Rattle.agg_meaning.specs.Results.{blank}
use Rattle.agg_meaning.specs.States.{TakesFeeds}
use Rattle.agg_meaning.proofs.Blank.{of_none}
use Rattle.typed_columns.specs.TypedValues.{TypedValues}
use Rattle.chain_states.specs.Calls.{argument_rows, chain_in, types_in}
use Rattle.state_columns.specs.Trees.{IsColumnOf, JoinAt, TakeAt, blank_in, trees_in}
use Rattle.state_columns.specs.declared.column.StateColumn.{StateColumn}
use Rattle.table_words.specs.KeyLists.{reaching}
use Rattle.table_words.specs.Laws.{JoinsAll}
use Rattle.group_tables.specs.proving.Fed.{AreFresh, IsFed, IsFresh}
use Rattle.group_tables.specs.proving.Joined.{IsJoined}
use Rattle.group_tables.specs.Tables.{AreColumns}
use Rattle.group_tables.specs.declared.grouping.GroupCall.{GroupCall}

pub ok_then : {X E : Type 0} (r : Result X E) {P Q : Type 0} → OnOk r P → (P → Q) → OnOk r Q
ok_then (Ok x) p f = f p
ok_then (Err e) p f = tt

-- a list with a place has an element
pub some_of : {X : Type 0} (xs : List X) (i : ℕ) → i < length xs → X
some_of [] i h = absurd (omega (arith, h))
some_of (x ∷ xs) i h = x

pub trees-at : (columns : List StateColumn) (i : ℕ) (d : StateColumn) → i < length columns → get_or (map trees_in columns) i [] ≡ trees_in (get_or columns i d)
trees-at columns i d h = get_or-map trees_in columns i d [] h

-- ---- one call
-- trees with blank ones behind, as far as the count
module _ (call : GroupCall) (count : ℕ) (old mid : List Tree) (room : length old ≤ count) (wide : mid ≡ old ++ replicate (count - length old) (blank_in call.ready)) where
  pub mid-long : length mid ≡ count
  mid-long =
      omega (arith, ap length wide, length-append old (replicate (count - length old) (blank_in call.ready)), length-replicate (count - length old) (blank_in call.ready), room)

  pub mid-at : (g : ℕ) → g < count → get_or mid g Empty ≡ get_or old g (blank (chain_in call.ready))
  mid-at g h = ap (λ l. get_or l g Empty) wide ∙ by (cases_lt g (length old))
    where
      by : (g < length old) ⊎ (length old ≤ g) → get_or (old ++ replicate (count - length old) (blank_in call.ready)) g Empty ≡ get_or old g (blank (chain_in call.ready))
      by (inl l) = get_or_append_left old (replicate (count - length old) (blank_in call.ready)) Empty g l ∙ get_or_default old g Empty (blank (chain_in call.ready)) l
      by (inr l) =
          get_or-append_right old (replicate (count - length old) (blank_in call.ready)) (length old) g Empty refl l
          ∙ get_or-replicate (count - length old) (g - length old) (blank_in call.ready) Empty (omega (arith, h, l))
          ∙ of_none (chain_in call.ready) (types_in call.ready)
          ∙ sym (get_or_past old g (blank (chain_in call.ready)) l)

  pub fed-call : (ps : List ℕ) (rs : List (List Value)) (new : List Tree) → TakeAt call.ready ps rs mid new → IsFed call count ps rs old new
  fed-call ps rs new t = record {
    long = t.long ∙ mid-long;
    at = λ g h.
        subst (λ x. TakesFeeds (chain_in call.ready) (types_in call.ready) (map (opened (chain_in call.ready)) (reaching g ps rs)) x (get_or new g Empty)) (mid-at g h)
        (t.at g (subst (λ m. g < m) (sym mid-long) h));
  }

  pub joined-call : (ps : List ℕ) (us new : List Tree) → JoinAt call.ready ps us mid new → IsJoined call count ps us old new
  joined-call ps us new t = record {
    long = t.long ∙ mid-long;
    at = λ g h.
        subst (λ x. JoinsAll (chain_in call.ready) (types_in call.ready) (reaching g ps us) x (get_or new g Empty)) (mid-at g h)
        (t.at g (subst (λ m. g < m) (sym mid-long) h));
  }

-- ---- columns made so far
pub record MadeSoFar (calls : List GroupCall) (count : ℕ) (columns : List StateColumn) (i : ℕ) : Type 0 where
  pub many : length columns ≡ i
  pub shape : (j : ℕ) (call : GroupCall) (column : StateColumn) → j < i → IsColumnOf (get_or calls j call).ready (get_or columns j column)
  pub fresh : (j : ℕ) (call : GroupCall) (column : StateColumn) → j < i → IsFresh (get_or calls j call) count (trees_in (get_or columns j column))

pub made_none : (calls : List GroupCall) (count : ℕ) (columns : List StateColumn) → columns ≡ [] → MadeSoFar calls count columns 0
made_none calls count columns e = record {
  many = ap length e;
  shape = λ j call column h. absurd (omega (arith, h));
  fresh = λ j call column h. absurd (omega (arith, h));
}

pub made_more : (calls : List GroupCall) (count : ℕ) (columns new : List StateColumn) (i : ℕ) (c : GroupCall) (x : StateColumn) → MadeSoFar calls count columns i → i < length calls →
    c ≡ get_or calls i c → IsColumnOf c.ready x → IsFresh c count (trees_in x) → new ≡ columns ++ x ∷ [] → MadeSoFar calls count new (i + 1)
made_more calls count columns new i c x m lt is column fresh e = record {
  many = omega (arith, ap length e, length_push columns x, m.many);
  shape = λ j call d h. subst (λ l. IsColumnOf (get_or calls j call).ready (get_or l j d)) (sym e) (at-shape j call d h (cases_lt j i));
  fresh = λ j call d h. subst (λ l. IsFresh (get_or calls j call) count (trees_in (get_or l j d))) (sym e) (at-fresh j call d h (cases_lt j i));
}
  where
    call-is : (j : ℕ) (call : GroupCall) → j ≡ i → c ≡ get_or calls j call
    call-is j call e = is ∙ get_or_default calls i c call lt ∙ ap (λ n. get_or calls n call) (sym e)

    last-is : (j : ℕ) (d : StateColumn) → j ≡ i → x ≡ get_or (columns ++ x ∷ []) j d
    last-is j d e = sym (get_or_push columns x d j (m.many ∙ sym e))

    front-is : (j : ℕ) (d : StateColumn) → j < i → get_or columns j d ≡ get_or (columns ++ x ∷ []) j d
    front-is j d h = sym (get_or_append_left columns (x ∷ []) d j (subst (λ n. j < n) (sym m.many) h))

    at-shape : (j : ℕ) (call : GroupCall) (d : StateColumn) → j < i + 1 → (j < i) ⊎ (i ≤ j) → IsColumnOf (get_or calls j call).ready (get_or (columns ++ x ∷ []) j d)
    at-shape j call d h (inl l) = subst (λ y. IsColumnOf (get_or calls j call).ready y) (front-is j d l) (m.shape j call d l)
    at-shape j call d h (inr l) =
        let here : j ≡ i = omega (arith, h, l) in
        subst (λ y. IsColumnOf (get_or calls j call).ready y) (last-is j d here) (subst (λ k. IsColumnOf k.ready x) (call-is j call here) column)

    at-fresh : (j : ℕ) (call : GroupCall) (d : StateColumn) → j < i + 1 → (j < i) ⊎ (i ≤ j) → IsFresh (get_or calls j call) count (trees_in (get_or (columns ++ x ∷ []) j d))
    at-fresh j call d h (inl l) = subst (λ y. IsFresh (get_or calls j call) count (trees_in y)) (front-is j d l) (m.fresh j call d l)
    at-fresh j call d h (inr l) =
        let here : j ≡ i = omega (arith, h, l) in
        subst (λ y. IsFresh (get_or calls j call) count (trees_in y)) (last-is j d here) (subst (λ k. IsFresh k count (trees_in x)) (call-is j call here) fresh)

module _ (calls : List GroupCall) (count : ℕ) (columns : List StateColumn) (m : MadeSoFar calls count columns (length calls)) where
  pub made_shape : AreColumns calls columns
  made_shape = record { many = m.many; each = m.shape }

  pub made_fresh : AreFresh calls count (map trees_in columns)
  made_fresh = record {
    each = λ i call h.
        let there : i < length columns = subst (λ n. i < n) (sym m.many) h in
        let d = some_of columns i there in
        subst (IsFresh (get_or calls i call) count) (sym (trees-at columns i d there)) (m.fresh i call d h);
  }

-- ---- columns changed so far, each as the number of its call asks
pub record ChangedSoFar (calls : List GroupCall) (P : ℕ → GroupCall → List Tree → List Tree → Type 0) (start states : List StateColumn) (i : ℕ) : Type 0 where
  pub many : length states ≡ length start
  pub same : (j : ℕ) (d : StateColumn) → i ≤ j → get_or states j d ≡ get_or start j d
  pub shape : (j : ℕ) (call : GroupCall) (d : StateColumn) → j < i → IsColumnOf (get_or calls j call).ready (get_or states j d)
  pub done : (j : ℕ) (call : GroupCall) (d : StateColumn) → j < i → P j (get_or calls j call) (trees_in (get_or start j d)) (trees_in (get_or states j d))

module _ (calls : List GroupCall) (P : ℕ → GroupCall → List Tree → List Tree → Type 0) (start : List StateColumn) where
  pub changed_none : ChangedSoFar calls P start start 0
  changed_none = record {
    many = refl;
    same = λ j d h. refl;
    shape = λ j call d h. absurd (omega (arith, h));
    done = λ j call d h. absurd (omega (arith, h));
  }

  pub changed_more : (states : List StateColumn) (i : ℕ) (c : GroupCall) (s x : StateColumn) → ChangedSoFar calls P start states i → i < length calls → length start ≡ length calls →
      c ≡ get_or calls i c → s ≡ get_or states i s → IsColumnOf c.ready x → P i c (trees_in s) (trees_in x) → ChangedSoFar calls P start (set states i x) (i + 1)
  changed_more states i c s x f lt long is s-is column done = record {
    many = length-set states i x ∙ f.many;
    same = λ j d h. get_or-set_other states i j x d (λ e. absurd (omega (arith, e, h))) ∙ f.same j d (omega (arith, h));
    shape = λ j call d h. at-shape j call d h (cases_eq i j);
    done = λ j call d h. at-done j call d h (cases_eq i j);
  }
    where
      within : i < length states
      within = omega (arith, lt, long, f.many)

      call-is : (j : ℕ) (call : GroupCall) → i ≡ j → c ≡ get_or calls j call
      call-is j call e = is ∙ get_or_default calls i c call lt ∙ ap (λ m. get_or calls m call) e

      set-is : (j : ℕ) (d : StateColumn) → i ≡ j → x ≡ get_or (set states i x) j d
      set-is j d e = sym (ap (λ m. get_or (set states i x) m d) (sym e) ∙ get_or-set_same states i x d within)

      start-is : (j : ℕ) (d : StateColumn) → i ≡ j → s ≡ get_or start j d
      start-is j d e = s-is ∙ get_or_default states i s d within ∙ f.same i d (omega arith) ∙ ap (λ m. get_or start m d) e

      before : (j : ℕ) → j < i + 1 → (i ≡ j → ⊥) → j < i
      before j h other = by (cases_lt j i)
        where
          by : (j < i) ⊎ (i ≤ j) → j < i
          by (inl l) = l
          by (inr l) = absurd (other (omega (arith, h, l)))

      at-shape : (j : ℕ) (call : GroupCall) (d : StateColumn) → j < i + 1 → (i ≡ j) ⊎ (i ≡ j → ⊥) → IsColumnOf (get_or calls j call).ready (get_or (set states i x) j d)
      at-shape j call d h (inl e) = subst (λ y. IsColumnOf (get_or calls j call).ready y) (set-is j d e) (subst (λ k. IsColumnOf k.ready x) (call-is j call e) column)
      at-shape j call d h (inr other) =
          subst (λ y. IsColumnOf (get_or calls j call).ready y) (sym (get_or-set_other states i j x d (λ q. other (sym q)))) (f.shape j call d (before j h other))

      at-done : (j : ℕ) (call : GroupCall) (d : StateColumn) → j < i + 1 → (i ≡ j) ⊎ (i ≡ j → ⊥) → P j (get_or calls j call) (trees_in (get_or start j d)) (trees_in (get_or (set states i x) j d))
      at-done j call d h (inl e) =
          subst (λ m. P m (get_or calls j call) (trees_in (get_or start j d)) (trees_in (get_or (set states i x) j d))) e
          (subst (λ y. P i (get_or calls j call) (trees_in (get_or start j d)) (trees_in y)) (set-is j d e)
          (subst (λ y. P i (get_or calls j call) (trees_in y) (trees_in x)) (start-is j d e)
          (subst (λ k. P i k (trees_in s) (trees_in x)) (call-is j call e) done)))
      at-done j call d h (inr other) =
          subst (λ y. P j (get_or calls j call) (trees_in (get_or start j d)) (trees_in y))
          (sym (get_or-set_other states i j x d (λ q. other (sym q)))) (f.done j call d (before j h other))

  module _ (states : List StateColumn) (long : length start ≡ length calls) (f : ChangedSoFar calls P start states (length calls)) where
    pub changed_shape : AreColumns calls states
    changed_shape = record { many = f.many ∙ long; each = f.shape }

    pub changed_all : (i : ℕ) (call : GroupCall) → i < length calls → P i (get_or calls i call) (get_or (map trees_in start) i []) (get_or (map trees_in states) i [])
    changed_all i call h =
        let here : i < length start = subst (λ m. i < m) (sym long) h in
        let there : i < length states = subst (λ m. i < m) (sym f.many) here in
        let d = some_of start i here in
        subst (λ y. P i (get_or calls i call) y (get_or (map trees_in states) i [])) (sym (trees-at start i d here))
        (subst (λ y. P i (get_or calls i call) (trees_in (get_or start i d)) y) (sym (trees-at states i d there))
        (f.done i call d h))

-- ---- what becomes of each call's trees
abbrev pub Fed : ℕ → List ℕ → List TypedValues → ℕ → ℕ → ℕ → GroupCall → List Tree → List Tree → Type 0
Fed count ps columns from n i c old new = IsFed c count ps (argument_rows columns c.columns from n) old new

abbrev pub Joined : ℕ → List ℕ → List (List Tree) → ℕ → GroupCall → List Tree → List Tree → Type 0
Joined count ps later i c old new = IsJoined c count ps (get_or later i []) old new
