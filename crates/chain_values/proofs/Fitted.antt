-- Rows of values of some types as rows of a batch, and a state that takes them from there.
use Rattle.std.proofs.Common.{◌≡◌, ◌≤◌, ℕ, zero, suc, ◌+◌, ◌<◌, Bool, true, false, ◌&&◌, true≢false, List, [], ◌∷◌, ◌++◌, map, take, length, get_or, Some, refl, sym, ap, ◌∙◌, subst, arith}
use Rattle.std.specs.List.{slice_get}
use Rattle.std.proofs.lemmas.List.{length-map, map-append, take_all, take_more}
use Rattle.std.proofs.lemmas.Option.{get_or_from_slice_get}
use Rattle.agg_terms.specs.Chains as terms
use Rattle.agg_terms.specs.Fitting.{fits_value}
use Rattle.agg_terms.specs.Lists.{Each}
use Rattle.agg_terms.specs.Values as family
use Rattle.agg_terms.proofs.Fitting as fitting
use Rattle.agg_meaning.specs.Feeds.{AreValues, opened}
use Rattle.agg_meaning.specs.Results.{blank}
use Rattle.agg_meaning.specs.States.{TakesFeeds}
use Rattle.agg_meaning.proofs.Suffixed.{takes_none, takes_then}
use Rattle.columns.specs.Rows.{RowFits, Rows, with_row}
use Rattle.int_leaves.specs.Rows.{argument}
use Rattle.typed_columns.specs.Items.{item_value}
use Rattle.typed_columns.specs.declared.item.Item.{Item}
use Rattle.value_types.specs.Folds.{ty_of, value_of}
use Rattle.value_types.specs.declared.ty.Ty.{Ty}
use Rattle.value_types.specs.declared.value.Value.{Value}
use Rattle.running_states.specs.declared.running.Running.{Running}
use Rattle.running_states.specs.Trees.{tree_in}
use Rattle.running_states.specs.Words.{Feeds}
use Rattle.chain_links.specs.proving.Words.{FeedsAll}
use Rattle.chain_values.specs.proving.Fitting.{HasRows, IsRefed, are_values, rows_of}

both : (a b : Bool) → (a && b) ≡ true → (a ≡ true) × (b ≡ true)
both true b h = (refl, h)
both false b h = cc

-- a row that has a value of each type
pub values_fit : (ts : List Ty) (row : List Value) → are_values (map ty_of ts) (map value_of row) ≡ true → RowFits ts row
values_fit [] [] h = tt
values_fit [] (v ∷ row) h = cc
values_fit (t ∷ ts) [] h = cc
values_fit (t ∷ ts) (v ∷ row) h = let k = both (fits_value (ty_of t) (value_of v)) (are_values (map ty_of ts) (map value_of row)) h in (k.0, values_fit ts row k.1)

pub values_fit_in : (ts us : List Ty) (row : List Value) → us ≡ ts → are_values (map ty_of ts) (map value_of row) ≡ true → RowFits us row
values_fit_in ts us row e h = subst (λ z. RowFits z row) (sym e) (values_fit ts row h)

-- and one of values of the types
fit_values : (ts : List terms.Ty) (row : List family.Value) → AreValues ts row → are_values ts row ≡ true
fit_values [] [] k = refl
fit_values [] (v ∷ row) k = absurd k
fit_values (t ∷ ts) [] k = absurd k
fit_values (t ∷ ts) (v ∷ row) k = rw ((fitting.value t v).1 k.0) (fit_values ts row k.1)

pub fits_long : (ts : List Ty) (row : List Value) → RowFits ts row → length row ≡ length ts
fits_long [] [] k = refl
fits_long [] (v ∷ row) k = absurd k
fits_long (t ∷ ts) [] k = absurd k
fits_long (t ∷ ts) (v ∷ row) k = ap suc (fits_long ts row k.1)

each_front : {X : Type 0} (P : X → Type 0) (xs ys : List X) → Each P (xs ++ ys) → Each P xs
each_front P [] ys k = tt
each_front P (x ∷ xs) ys k = (k.0, each_front P xs ys k.1)

each_last : {X : Type 0} (P : X → Type 0) (xs : List X) (x : X) → Each P (xs ++ x ∷ []) → P x
each_last P [] x k = k.0
each_last P (y ∷ xs) x k = each_last P xs x k.1

-- the rows of a batch, one after another
module _ (ts : List Ty) (rs : List (List family.Value)) where
  pub rows_none : (batch : Rows) → batch.rows ≡ [] → HasRows (map ty_of ts) (take 0 rs) batch
  rows_none batch e = record { rows = λ k. ap (map (map value_of)) e }

  pub rows_more : (batch : Rows) (i : ℕ) (row : List Value) → i < length rs → map value_of row ≡ get_or rs i [] → HasRows (map ty_of ts) (take i rs) batch → HasRows (map ty_of ts) (take (i + 1) rs) (with_row batch row)
  rows_more batch i row l e a = record {
    rows = λ k.
        let n = take_more rs i [] l in
        map-append (map value_of) batch.rows (row ∷ [])
        ∙ ap (λ z. z ++ map value_of row ∷ []) (a.rows (each_front (AreValues (map ty_of ts)) (take i rs) (get_or rs i [] ∷ []) (subst (Each (AreValues (map ty_of ts))) n k)))
        ∙ ap (λ r. take i rs ++ r ∷ []) e ∙ sym n;
  }

  pub rows_left : (batch : Rows) (i : ℕ) (row : List Value) → i < length rs → map value_of row ≡ get_or rs i [] → are_values (map ty_of ts) (map value_of row) ≡ false → HasRows (map ty_of ts) (take (i + 1) rs) batch
  rows_left batch i row l e h = record {
    rows = λ k.
        let n = take_more rs i [] l in
        let v : AreValues (map ty_of ts) (get_or rs i []) = each_last (AreValues (map ty_of ts)) (take i rs) (get_or rs i []) (subst (Each (AreValues (map ty_of ts))) n k) in
        absurd (true≢false (sym (fit_values (map ty_of ts) (get_or rs i []) v) ∙ ap (are_values (map ty_of ts)) (sym e) ∙ h));
  }

  pub rows_all : (batch : Rows) (n : ℕ) → length rs ≤ n → HasRows (map ty_of ts) (take n rs) batch → HasRows (map ty_of ts) rs batch
  rows_all batch n l a = subst (λ z. HasRows (map ty_of ts) z batch) (take_all n rs l) a

pub ruleset batch_laws = (values_fit_in, rows_none, rows_more, rows_left, rows_all)

-- one value more of a row that is lent
pub lent : {X : Type 0} (view row : List X) (i : ℕ) (x : X) → slice_get view i ≡ Some x → row ≡ take i view → (row ++ x ∷ []) ≡ take (i + 1) view
lent view row i x g e = ap (λ z. z ++ x ∷ []) e ∙ next view i g
  where
    one : (n : ℕ) → suc n ≡ n + 1
    one n = omega arith

    here : {X : Type 0} (view : List X) (i : ℕ) (x : X) → slice_get view i ≡ Some x → (take i view ++ x ∷ []) ≡ take (suc i) view
    here [] i x g = cc
    here (v ∷ view) zero x g = cc
    here (v ∷ view) (suc i) x g = ap (◌∷◌ v) (here view i x g)

    next : (view : List _) (i : ℕ) → slice_get view i ≡ Some x → (take i view ++ x ∷ []) ≡ take (i + 1) view
    next view i g = here view i x g ∙ ap (λ n. take n view) (one i)

-- fed to a state, one after another
module _ (c : terms.Chain) (us : List terms.Ty) where
  pub feeds_none : (rs : List (List family.Value)) (s : Running) → FeedsAll c us (take 0 rs) s s
  feeds_none rs s = record { over = λ ts n. takes_none c ts (tree_in s) }

  one_more : (rs : List (List family.Value)) (r : List family.Value) (s u v : Running) → FeedsAll c us rs s u → Feeds c us r u v → FeedsAll c us (rs ++ r ∷ []) s v
  one_more rs r s u v a b = record {
    over = λ ts n.
        subst (λ fs. TakesFeeds c ts fs (tree_in s) (tree_in v)) (sym (map-append (opened c) rs (r ∷ [])))
        (takes_then c ts (map (opened c) rs) (opened c r ∷ []) (tree_in s) (tree_in u) (tree_in v) (a.over ts n) (b.over ts n));
  }

  arguments_are : (items : List Item) → map argument items ≡ map value_of (map item_value items)
  arguments_are [] = refl
  arguments_are (i ∷ items) = ap (◌∷◌ (argument i)) (arguments_are items)

  pub feeds_more : (batch : Rows) (i : ℕ) (view : List Value) (items : List Item) (s u v : Running) → i < length batch.rows → slice_get batch.rows i ≡ Some view → map item_value items ≡ view →
      FeedsAll c us (take i (rows_of batch)) s u → Feeds c us (map argument items) u v → FeedsAll c us (take (i + 1) (rows_of batch)) s v
  feeds_more batch i view items s u v l g e a b =
      let here : get_or (rows_of batch) i [] ≡ map argument items = at batch.rows i view g ∙ ap (map value_of) (sym e) ∙ sym (arguments_are items) in
      subst (λ z. FeedsAll c us z s v) (ap (λ r. take i (rows_of batch) ++ r ∷ []) (sym here) ∙ sym (take_more (rows_of batch) i [] (subst (λ n. i < n) (sym (length-map batch.rows (map value_of))) l)))
      (one_more (take i (rows_of batch)) (map argument items) s u v a b)
    where
      at : (rows : List (List Value)) (i : ℕ) (view : List Value) → slice_get rows i ≡ Some view → get_or (map (map value_of) rows) i [] ≡ map value_of view
      at [] i view g = cc
      at (row ∷ rows) zero view g = cc
      at (row ∷ rows) (suc i) view g = at rows i view g

  pub feeds_all : (batch : Rows) (n : ℕ) (s v : Running) → length batch.rows ≤ n → FeedsAll c us (take n (rows_of batch)) s v → FeedsAll c us (rows_of batch) s v
  feeds_all batch n s v l a = subst (λ z. FeedsAll c us z s v) (take_all n (rows_of batch) (subst (λ k. k ≤ n) (sym (length-map batch.rows (map value_of))) l)) a

  -- a state of no rows that took the rows of a batch
  pub refed : (ts : List terms.Ty) (rs : List (List family.Value)) (batch : Rows) (s v : Running) → tree_in s ≡ blank c → HasRows ts rs batch → FeedsAll c us (rows_of batch) s v → IsRefed c us ts rs v
  refed ts rs batch s v e a b = record {
    over = λ k ys n.
        subst (λ t. TakesFeeds c ys (map (opened c) rs) t (tree_in v)) e
        (subst (λ z. TakesFeeds c ys (map (opened c) z) (tree_in s) (tree_in v)) (a.rows k) (b.over ys n));
  }

pub ruleset feed_laws = (fits_long, feeds_none, feeds_more, feeds_all)

pub ruleset refed_laws = (refed)
