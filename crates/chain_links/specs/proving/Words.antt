-- The words of the links: what a suffix does of lists of trees, of states and of rows.
use Rattle.std.specs.Prelude.{◌≡◌, ◌<◌, ◌≤◌, ℕ, suc, max, List, [], ◌++◌, map, length, get_or, slice_set, take, Some}
use Rattle.agg_terms.specs.Chains.{Chain, Ty}
use Rattle.agg_terms.specs.Lists.{Each, Rising}
use Rattle.agg_terms.specs.Order.{compare, different, into_set}
use Rattle.agg_terms.specs.Trees.{IsTree}
use Rattle.agg_terms.specs.Values.{Tree, Value}
use Rattle.agg_meaning.specs.Feeds.{opened}
use Rattle.agg_meaning.specs.Results.{blank}
use Rattle.agg_meaning.specs.States.{Joins, Takes, TakesFeeds}
use Rattle.agg_meaning.specs.Suffixes.{at_key}
use Rattle.agg_meaning.proofs.Keys.{found}
use Rattle.value_types.specs.declared.value.Value.{Value as Valued}
use Rattle.running_states.specs.declared.running.Running.{Running}
use Rattle.running_states.specs.Entries.{IsFoundAt, entries_in, keys_in}
use Rattle.running_states.specs.Shapes.{AreEntries, IsState}
use Rattle.running_states.specs.Trees.{tree_in}
use Rattle.running_states.specs.Words.{Feeds, Over}

-- states with these trees
pub record HasTrees (c : Chain) (us : List Ty) (tt : List Tree) (ss : List Running) : Type 0 where
  pub over : Over c us (λ ts. Each (IsTree c ts) tt → map tree_in ss ≡ tt)

-- rows behind those that a state stood for
pub record FeedsAll (c : Chain) (us : List Ty) (rs : List (List Value)) (s v : Running) : Type 0 where
  pub over : Over c us (λ ts. TakesFeeds c ts (map (opened c) rs) (tree_in s) (tree_in v))

-- the rows behind that a stored state of the chain stands for
pub record FeedsTree (c : Chain) (us : List Ty) (t : Tree) (s v : Running) : Type 0 where
  pub over : Over c us (λ ts. IsTree c ts t → Joins c ts (tree_in s) t (tree_in v))

-- Trees place by place: below n each has R of what stood there, and the others stand as before; b stands where nothing does.
pub record IsWalked (R : ℕ → Tree → Tree → Type 0) (b : Tree) (tt : List Tree) (n : ℕ) (vv : List Tree) : Type 0 where
  pub long : length vv ≡ max (length tt) n
  pub done : (j : ℕ) → j < n → R j (get_or tt j b) (get_or vv j b)
  pub left : (j : ℕ) → n ≤ j → get_or vv j b ≡ get_or tt j b

-- the first n rows, each at its place
pub record FeedsPlaces (c : Chain) (us : List Ty) (rs : List (List Value)) (n : ℕ) (ss vv : List Running) : Type 0 where
  pub over : Over c us (λ ts. IsWalked (λ j t v. Takes c ts (get_or rs j []) t v) (blank c) (map tree_in ss) n (map tree_in vv))

-- a row behind those of the state at a place; every other state is as it was
pub record FeedsPart (c : Chain) (us : List Ty) (r : List Value) (i : ℕ) (ss vv : List Running) : Type 0 where
  pub before : Running
  pub after : Running
  pub there : before ≡ get_or ss i before
  pub put : vv ≡ slice_set ss i after
  pub row : Feeds c us r before after

-- the first n of the later states, each at its place
pub record JoinsPlaces (c : Chain) (us : List Ty) (ss uu : List Running) (n : ℕ) (vv : List Running) : Type 0 where
  pub long : length vv ≡ max (length ss) n
  pub over : Over c us (λ ts. IsWalked (λ j t v. Joins c ts t (get_or (map tree_in uu) j (blank c)) v) (blank c) (map tree_in ss) n (map tree_in vv))

-- slots that reach a place; what was added stands for no rows
pub record HasRoom (c : Chain) (us : List Ty) (ss : List Running) (i : ℕ) (rr : List Running) : Type 0 where
  pub shape : Each (IsState c us) ss → Each (IsState c us) rr
  pub long : length rr ≡ max (length ss) (suc i)
  pub same : (j : ℕ) → get_or (map tree_in rr) j (blank c) ≡ get_or (map tree_in ss) j (blank c)

-- entries with one at the key; if it was added, it stands for no rows
pub record HasEntry (c : Chain) (us : List Ty) (k : Value) (es : List (Valued × Running)) (p : ℕ) (rr : List (Valued × Running)) : Type 0 where
  pub shape : AreEntries (IsState c us) es → AreEntries (IsState c us) rr
  pub keys : keys_in rr ≡ into_set compare k (keys_in es)
  pub here : IsFoundAt k (keys_in rr) p
  pub same : (j : Value) → found (blank c) (entries_in rr) j ≡ found (blank c) (entries_in es) j

-- rows at keys: each key has the rows that came at it behind those that it stood for
pub record FeedsKeys (c : Chain) (us : List Ty) (rs : List (Value × List Value)) (ss vv : List (Valued × Running)) : Type 0 where
  pub keys : keys_in vv ≡ different compare (keys_in ss ++ map (λ e. e.0) rs)
  pub over : Over c us (λ ts. (k : Value) →
      TakesFeeds c ts (at_key k (map (λ e. (e.0, Some (opened c e.1))) rs)) (found (blank c) (entries_in ss) k) (found (blank c) (entries_in vv) k))

-- the first n of the later entries, each at its key
pub record JoinsKeys (c : Chain) (us : List Ty) (ss uu : List (Valued × Running)) (n : ℕ) (vv : List (Valued × Running)) : Type 0 where
  pub keys : keys_in vv ≡ different compare (keys_in ss ++ take n (keys_in uu))
  pub over : Over c us (λ ts. (k : Value) →
      Joins c ts (found (blank c) (entries_in ss) k) (found (blank c) (entries_in (take n uu)) k) (found (blank c) (entries_in vv) k))

-- entries by rising keys with these trees, where they are such
pub record StoresKeys (c : Chain) (us : List Ty) (tt : List (Value × Tree)) (vv : List (Valued × Running)) : Type 0 where
  pub over : Over c us (λ ts. Each (λ e. IsTree c ts e.1) tt → Rising compare (map (λ e. e.0) tt) → entries_in vv ≡ tt)
