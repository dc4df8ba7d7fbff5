-- Entries at their keys, one more at a time, and the arms of -Map.
use Rattle.std.proofs.Common.{◌≡◌, ◌≢◌, ℕ, zero, suc, ◌+◌, ◌<◌, ◌≤◌, Bool, true, false, cond, true≢false, List, [], ◌∷◌, ◌++◌, map, length, get_or, take, Option, Some, ◌⊎◌, inl, inr, refl, sym, ap, ap₂, ◌∙◌, subst, append-nil, append_assoc, arith, Ordering, Less, Equal, Greater, Result, Vec, Global}
use Rattle.std.specs.List.{insert}
use Rattle.std.specs.Ordering.{is_eq}
use Rattle.std.specs.Prelude.{flat_map, option_to_list}
use Rattle.std.proofs.lemmas.Bool.{cases_lt}
use Rattle.std.specs.Result.{OnOk}
use Rattle.std.proofs.Math.ListN.{set}
use Rattle.std.proofs.lemmas.List.Concat.{flat_map-append}
use Rattle.std.proofs.lemmas.List.{length-map, map-append, take-map, take_all}
use Rattle.agg_terms.specs.Chains.{Chain, MapOf, Ty}
use Rattle.agg_terms.specs.Lists.{Apart, Each, Rising}
use Rattle.agg_terms.specs.Order.{compare, different, into_set}
use Rattle.agg_terms.specs.Types.{inward}
use Rattle.agg_terms.specs.Values.{Nil, Tree, Value, keyed_tree}
use Rattle.agg_terms.proofs.Comparing.{compare_order}
use Rattle.agg_terms.proofs.Sorting.{itself}
use Rattle.agg_meaning.specs.Feeds.{Feed, entries_of, last, opened}
use Rattle.agg_meaning.specs.Results.{blank}
use Rattle.agg_meaning.specs.States.{Joins, StandsFor, Takes, TakesFeeds}
use Rattle.agg_meaning.specs.Suffixes.{at_key, keys_of}
use Rattle.agg_meaning.proofs.Blank.{of_none}
use Rattle.agg_meaning.proofs.Keys.{found, keys, map_joins, map_takes}
use Rattle.agg_meaning.proofs.Kept.{different_order}
use Rattle.agg_meaning.proofs.LeafTrees.{different_rising}
use Rattle.agg_meaning.proofs.Suffixed.{takes_none, takes_then}
use Rattle.agg_meaning.proofs.TreeLaws.{rising_apart}
use Rattle.set_leaves.proofs.SetLaws.{set_last, sets_join}
use Rattle.value_types.specs.Folds.{value_of}
use Rattle.value_types.specs.declared.value.Value.{Value as Valued}
use Rattle.running_states.specs.declared.running.Running.{Running}
use Rattle.running_states.specs.declared.running.Running.TheVariants.{Keyed}
use Rattle.running_states.specs.declared.running.Running.TheViews.{out-Running}
use Rattle.row_parts.specs.Rows.{pair_rows}
use Rattle.link_types.specs.Links.{inner_types}
use Rattle.running_states.specs.Shapes.{AreEntries, AreKeyed, IsState, key_in}
use Rattle.running_states.specs.Trees.{tree_in}
use Rattle.running_states.specs.Words.{Feeds, JoinsAll}
use Rattle.running_states.specs.Entries.{IsFoundAt, IsMissingAt, entries_in, keys_in}
use Rattle.chain_links.specs.proving.Words.{FeedsKeys, HasEntry, JoinsKeys}
use Rattle.running_states.proofs.KeyOrder.{compare_full, set_found, set_missing, set_rises}
use Rattle.running_states.proofs.Layers.{out_Keyed, tree_Keyed}
use Rattle.running_states.proofs.Outcomes.{on_ok}
use Rattle.chain_links.proofs.SlotLists.{each_get, each_set, map_set}
use Rattle.row_parts.proofs.Tuples.{map_twice}
use Rattle.chain_links.proofs.Walked.{joins_blank}

-- lists with an element put in
pub map_insert : {X Y : Type 0} (f : X → Y) (xs : List X) (p : ℕ) (x : X) → map f (insert xs p x) ≡ insert (map f xs) p (f x)
map_insert f xs zero x = refl
map_insert f [] (suc p) x = refl
map_insert f (y ∷ xs) (suc p) x = ap (◌∷◌ (f y)) (map_insert f xs p x)

pub each_insert : {X : Type 0} (P : X → Type 0) (xs : List X) (p : ℕ) (x : X) → Each P xs → P x → Each P (insert xs p x)
each_insert P xs zero x k h = (h, k)
each_insert P [] (suc p) x k h = (h, tt)
each_insert P (y ∷ xs) (suc p) x k h = (k.0, each_insert P xs p x k.1 h)

insert_at : {X : Type 0} (xs : List X) (p : ℕ) (x d : X) → p ≤ length xs → get_or (insert xs p x) p d ≡ x
insert_at xs zero x d l = refl
insert_at [] (suc p) x d l = absurd (omega arith)
insert_at (y ∷ xs) (suc p) x d l = insert_at xs p x d (omega arith)

insert_long : {X : Type 0} (xs : List X) (p : ℕ) (x : X) → p < length (insert xs p x) ⊎ (length xs < p)
insert_long xs zero x = inl (omega arith)
insert_long [] (suc p) x = inr (omega arith)
insert_long (y ∷ xs) (suc p) x = go (insert_long xs p x)
  where
    go : (p < length (insert xs p x)) ⊎ (length xs < p) → (suc p < length (y ∷ insert xs p x)) ⊎ (length (y ∷ xs) < suc p)
    go (inl l) = inl (omega (arith, l))
    go (inr l) = inr (omega (arith, l))

set_get : {X : Type 0} (xs : List X) (p : ℕ) (x d : X) → p < length xs → get_or xs p d ≡ x → set xs p x ≡ xs
set_get [] p x d l e = absurd (omega arith)
set_get (y ∷ xs) zero x d l e = ap (λ z. z ∷ xs) (sym e)
set_get (y ∷ xs) (suc p) x d l e = ap (◌∷◌ y) (set_get xs p x d (omega arith) e)

-- what is found at a key
module _ (d : Tree) where
  found_missing : (es : List (Value × Tree)) (k : Value) → Each (λ q. compare k q ≢ Equal) (keys es) → found d es k ≡ d
  found_missing [] k a = refl
  found_missing (e ∷ es) k a = go (compare k e.0) refl (found_missing es k a.1)
    where
      go : (o : Ordering) → compare k e.0 ≡ o → found d es k ≡ d → cond (is_eq o) e.1 (found d es k) ≡ d
      go Less h r = r
      go Equal h r = absurd (a.0 h)
      go Greater h r = r

  found_at : (es : List (Value × Tree)) (k : Value) (p : ℕ) (t : Tree) → Apart (keys es) → p < length es → get_or es p (Nil, d) ≡ (k, t) → found d es k ≡ t
  found_at [] k p t a l e = absurd (omega arith)
  found_at (x ∷ es) k zero t a l e =
      ap (λ z. cond (is_eq (compare k z.0)) z.1 (found d es k)) e ∙ ap (λ o. cond (is_eq o) t (found d es k)) (itself compare compare_order k)
  found_at (x ∷ es) k (suc p) t a l e = go (compare k x.0) refl (found_at es k p t a.1 (omega (arith, l)) e)
    where
      among : (ks : List Value) (q : Value) (P : Value → Type 0) → (es : List (Value × Tree)) (p : ℕ) → p < length es → get_or es p (Nil, d) ≡ (q, t) → Each P (keys es) → P q
      among ks q P [] p l e b = absurd (omega arith)
      among ks q P (y ∷ es) zero l e b = subst P (ap (λ z. z.0) e) b.0
      among ks q P (y ∷ es) (suc p) l e b = among ks q P es p (omega arith) e b.1

      go : (o : Ordering) → compare k x.0 ≡ o → found d es k ≡ t → cond (is_eq o) x.1 (found d es k) ≡ t
      go Less h r = r
      go Equal h r = absurd (among [] k (λ q. x.0 ≢ q) es p (omega (arith, l)) e a.0 (sym (compare_order.same k x.0 h)))
      go Greater h r = r

  found_set : (es : List (Value × Tree)) (k : Value) (p : ℕ) (t : Tree) (j : Value) → Apart (keys es) → p < length es → get_or (keys es) p Nil ≡ k → found d (set es p (k, t)) j ≡ cond (is_eq (compare j k)) t (found d es j)
  found_set [] k p t j a l e = absurd (omega arith)
  found_set (x ∷ es) k zero t j a l e = go (is_eq (compare j k)) (ap (λ z. is_eq (compare j z)) e)
    where
      go : (b : Bool) → is_eq (compare j x.0) ≡ b → cond b t (found d es j) ≡ cond b t (cond (is_eq (compare j x.0)) x.1 (found d es j))
      go true h = refl
      go false h = ap (λ b. cond b x.1 (found d es j)) (sym h)
  found_set (x ∷ es) k (suc p) t j a l e =
      ap (cond (is_eq (compare j x.0)) x.1) (found_set es k p t j a.1 (omega arith) e) ∙ go (compare j x.0) refl (compare j k) refl
    where
      among : (q : Value) (P : Value → Type 0) (ks : List Value) (p : ℕ) → p < length ks → get_or ks p Nil ≡ q → Each P ks → P q
      among q P [] p l e b = absurd (omega arith)
      among q P (y ∷ ks) zero l e b = subst P e b.0
      among q P (y ∷ ks) (suc p) l e b = among q P ks p (omega arith) e b.1

      apart : x.0 ≢ k
      apart = among k (λ q. x.0 ≢ q) (keys es) p (omega (arith, l, length-map es (λ z. z.0))) e a.0

      go : (o : Ordering) → compare j x.0 ≡ o → (i : Ordering) → compare j k ≡ i → cond (is_eq o) x.1 (cond (is_eq i) t (found d es j)) ≡ cond (is_eq i) t (cond (is_eq o) x.1 (found d es j))
      go Equal h Equal g = absurd (apart (sym (compare_order.same j x.0 h) ∙ compare_order.same j k g))
      go Equal h Less g = refl
      go Equal h Greater g = refl
      go Less h i g = refl
      go Greater h i g = refl

  found_insert : (es : List (Value × Tree)) (k : Value) (p : ℕ) (j : Value) → Each (λ q. compare k q ≢ Equal) (keys es) → found d (insert es p (k, d)) j ≡ found d es j
  found_insert es k zero j a = go (compare j k) refl
    where
      go : (o : Ordering) → compare j k ≡ o → cond (is_eq o) d (found d es j) ≡ found d es j
      go Less h = refl
      go Equal h = sym (ap (found d es) (compare_order.same j k h) ∙ found_missing es k a)
      go Greater h = refl
  found_insert [] k (suc p) j a = go (is_eq (compare j k))
    where
      go : (b : Bool) → cond b d d ≡ d
      go true = refl
      go false = refl
  found_insert (x ∷ es) k (suc p) j a = ap (cond (is_eq (compare j x.0)) x.1) (found_insert es k p j a.1)

  found_last : (es : List (Value × Tree)) (k : Value) (t : Tree) (j : Value) → Each (λ q. compare k q ≢ Equal) (keys es) → found d (es ++ (k, t) ∷ []) j ≡ cond (is_eq (compare j k)) t (found d es j)
  found_last [] k t j a = refl
  found_last (x ∷ es) k t j a = ap (cond (is_eq (compare j x.0)) x.1) (found_last es k t j a.1) ∙ go (compare j x.0) refl (compare j k) refl
    where
      go : (o : Ordering) → compare j x.0 ≡ o → (i : Ordering) → compare j k ≡ i → cond (is_eq o) x.1 (cond (is_eq i) t (found d es j)) ≡ cond (is_eq i) t (cond (is_eq o) x.1 (found d es j))
      go Equal h Equal g = absurd (a.0 (ap (compare k) (sym (compare_order.same j x.0 h) ∙ compare_order.same j k g) ∙ itself compare compare_order k))
      go Equal h Less g = refl
      go Equal h Greater g = refl
      go Less h i g = refl
      go Greater h i g = refl

-- keys and entries of a list
keys_of_entries : (es : List (Valued × Running)) → keys (entries_in es) ≡ keys_in es
keys_of_entries es = map_twice (λ e. e.0) (λ e. (value_of e.0, tree_in e.1)) es

other_than : (k : Value) (ks : List Value) (p : ℕ) → IsMissingAt k ks p → Each (λ q. compare k q ≢ Equal) ks
other_than k ks p m = go ks (λ j l. here j l (cases_lt j p))
  where
    here : (j : ℕ) → j < length ks → (j < p) ⊎ (p ≤ j) → compare k (get_or ks j Nil) ≢ Equal
    here j l (inl h) e = less (sym e ∙ m.above j h)
      where
        less : Equal ≡ Greater → ⊥
        less x = cc
    here j l (inr h) e = more (sym e ∙ m.below j h l)
      where
        more : Equal ≡ Less → ⊥
        more x = cc

    go : (qs : List Value) → ((j : ℕ) → j < length qs → compare k (get_or qs j Nil) ≢ Equal) → Each (λ q. compare k q ≢ Equal) qs
    go [] h = tt
    go (q ∷ qs) h = (h 0 (omega arith), go qs (λ j l. h (suc j) (omega (arith, l))))

-- the entry of a key: there, or made
module _ (c : Chain) (us : List Ty) (k : Value) (es : List (Valued × Running)) (p : ℕ) where
  pub entry_there : Rising compare (keys_in es) → IsFoundAt k (keys_in es) p → HasEntry c us k es p es
  entry_there h f = record { shape = λ a. a; keys = sym (set_found k (keys_in es) p h f); here = f; same = λ j. refl }

  pub entry_made : (key : Valued) (s : Running) → value_of key ≡ k → IsMissingAt k (keys_in es) p → IsState c us s → tree_in s ≡ blank c → HasEntry c us k es p (insert es p (key, s))
  entry_made key s e m h b = record {
    shape = λ a. (each_insert (λ z. IsState c us z.1) es p (key, s) a.0 h, subst (Rising compare) names (set_rises k (keys_in es) a.1));
    keys = sym names;
    here = record { within = subst (λ z. p < length z) (sym put) (inside (insert_long (keys_in es) p k)); here = ap (λ z. get_or z p Nil) put ∙ insert_at (keys_in es) p k Nil m.within };
    same = λ j. ap (λ z. found (blank c) z j) (map_insert (λ z. (value_of z.0, tree_in z.1)) es p (key, s) ∙ ap₂ (λ x y. insert (entries_in es) p (x, y)) e b)
        ∙ found_insert (blank c) (entries_in es) k p j (subst (Each (λ q. compare k q ≢ Equal)) (sym (keys_of_entries es)) (other_than k (keys_in es) p m));
  }
    where
      put : keys_in (insert es p (key, s)) ≡ insert (keys_in es) p k
      put = map_insert key_in es p (key, s) ∙ ap (insert (keys_in es) p) e

      names : into_set compare k (keys_in es) ≡ keys_in (insert es p (key, s))
      names = set_missing k (keys_in es) p m ∙ sym put

      inside : (p < length (insert (keys_in es) p k)) ⊎ (length (keys_in es) < p) → p < length (insert (keys_in es) p k)
      inside (inl l) = l
      inside (inr l) = absurd (let w = m.within in omega (arith, l, w))

-- an entry written
module _ (c : Chain) (us : List Ty) (k : Value) (es rr : List (Valued × Running)) (p : ℕ) (x : Valued × Running) (w : Running)
    (entry : HasEntry c us k es p rr) (rises : Rising compare (keys_in es)) (there : x ≡ get_or rr p x) where
  abbrev after : List (Valued × Running)
  after = set rr p (x.0, w)

  long : p < length rr
  long = let l = entry.here.within in omega (arith, l, length-map rr key_in)

  own_key : value_of x.0 ≡ k
  own_key = sym (get rr p long there) ∙ entry.here.here
    where
      get : (qs : List (Valued × Running)) (p : ℕ) → p < length qs → x ≡ get_or qs p x → get_or (keys_in qs) p Nil ≡ value_of x.0
      get [] p l e = absurd (omega arith)
      get (q ∷ qs) zero l e = ap key_in (sym e)
      get (q ∷ qs) (suc p) l e = get qs p (omega arith) e

  pub same_keys : keys_in after ≡ into_set compare k (keys_in es)
  same_keys = map_set key_in rr p (x.0, w) ∙ set_get (keys_in rr) p (value_of x.0) Nil entry.here.within (entry.here.here ∙ sym own_key) ∙ entry.keys

  pub entry_kept : AreEntries (IsState c us) es → IsState c us w → AreEntries (IsState c us) after
  entry_kept a h = (each_set (λ z. IsState c us z.1) rr p (x.0, w) (entry.shape a).0 h, subst (Rising compare) (sym same_keys) (set_rises k (keys_in es) a.1))

  pub entry_state : AreEntries (IsState c us) es → IsState c us x.1
  entry_state a = each_get (λ z. IsState c us z.1) rr p x (entry.shape a).0 long there

  rr_apart : Apart (keys (entries_in rr))
  rr_apart = subst Apart (sym (keys_of_entries rr)) (rising_apart compare compare_order (keys_in rr) (subst (Rising compare) (sym entry.keys) (set_rises k (keys_in es) rises)))

  long_entries : p < length (entries_in rr)
  long_entries = omega (arith, long, length-map {B = Value × Tree} rr (λ e. (value_of e.0, tree_in e.1)))

  pub found_after : (j : Value) → found (blank c) (entries_in after) j ≡ cond (is_eq (compare j k)) (tree_in w) (found (blank c) (entries_in es) j)
  found_after j =
      ap (λ z. found (blank c) z j) (map_set (λ e. (value_of e.0, tree_in e.1)) rr p (x.0, w) ∙ ap (λ z. set (entries_in rr) p (z, tree_in w)) own_key)
      ∙ found_set (blank c) (entries_in rr) k p (tree_in w) j rr_apart long_entries (ap (λ z. get_or z p Nil) (keys_of_entries rr) ∙ entry.here.here)
      ∙ ap (cond (is_eq (compare j k)) (tree_in w)) (entry.same j)

  pub found_before : found (blank c) (entries_in es) k ≡ tree_in x.1
  found_before = sym (entry.same k) ∙ found_at (blank c) (entries_in rr) k p (tree_in x.1) rr_apart long_entries (get rr p long there ∙ ap (λ z. (z, tree_in x.1)) own_key)
    where
      get : (qs : List (Valued × Running)) (p : ℕ) → p < length qs → x ≡ get_or qs p x → get_or (entries_in qs) p (Nil, blank c) ≡ (value_of x.0, tree_in x.1)
      get [] p l e = absurd (omega arith)
      get (q ∷ qs) zero l e = ap (λ z. (value_of z.0, tree_in z.1)) (sym e)
      get (q ∷ qs) (suc p) l e = get qs p (omega arith) e

  -- a row at the key
  pub fed_entry : (rs : List (Value × List Value)) (r : List Value) (ss : List (Valued × Running)) → FeedsKeys c us rs ss es → Feeds c us r x.1 w → FeedsKeys c us (rs ++ (k, r) ∷ []) ss after
  fed_entry rs r ss h a = record {
    keys = same_keys ∙ ap (into_set compare k) h.keys ∙ sym (set_last compare compare_full k (keys_in ss ++ map (λ e. e.0) rs))
        ∙ ap (different compare) (append_assoc (keys_in ss) (map (λ e. e.0) rs) (k ∷ []) ∙ ap (λ z. keys_in ss ++ z) (sym (map-append (λ e. e.0) rs ((k, r) ∷ []))));
    over = λ ts n j.
        subst (λ fs. TakesFeeds c ts fs (found (blank c) (entries_in ss) j) (found (blank c) (entries_in after) j))
        (sym (ap (at_key j) (map-append row_feed rs ((k, r) ∷ [])) ∙ flat_map-append (at_entry j) (map row_feed rs) (row_feed (k, r) ∷ [])))
        (takes_then c ts (at_key j (map row_feed rs)) (at_key j (row_feed (k, r) ∷ [])) (found (blank c) (entries_in ss) j) (found (blank c) (entries_in es) j) (found (blank c) (entries_in after) j)
        (h.over ts n j)
        (subst (TakesFeeds c ts (at_key j (row_feed (k, r) ∷ [])) (found (blank c) (entries_in es) j)) (sym (found_after j)) (here ts n j (compare j k) refl)));
  }
    where
      row_feed : Value × List Value → Value × Option (Feed c)
      row_feed e = (e.0, Some (opened c e.1))

      at_entry : Value → Value × Option (Feed c) → List (Feed c)
      at_entry j e = cond (is_eq (compare j e.0)) (option_to_list e.1) []

      here : (ts : List Ty) → inner_types c ts ≡ us → (j : Value) → (o : Ordering) → compare j k ≡ o → TakesFeeds c ts (at_key j (row_feed (k, r) ∷ [])) (found (blank c) (entries_in es) j) (cond (is_eq o) (tree_in w) (found (blank c) (entries_in es) j))
      here ts n j Less e = subst (λ fs. TakesFeeds c ts fs (found (blank c) (entries_in es) j) (found (blank c) (entries_in es) j)) (sym (ap (λ o. cond (is_eq o) (opened c r ∷ []) [] ++ []) e)) (takes_none c ts (found (blank c) (entries_in es) j))
      here ts n j Greater e = subst (λ fs. TakesFeeds c ts fs (found (blank c) (entries_in es) j) (found (blank c) (entries_in es) j)) (sym (ap (λ o. cond (is_eq o) (opened c r ∷ []) [] ++ []) e)) (takes_none c ts (found (blank c) (entries_in es) j))
      here ts n j Equal e = subst (λ fs. TakesFeeds c ts fs (found (blank c) (entries_in es) j) (tree_in w)) (sym (ap (λ o. cond (is_eq o) (opened c r ∷ []) [] ++ []) e))
          (subst (λ t. TakesFeeds c ts (opened c r ∷ []) t (tree_in w)) (sym (ap (found (blank c) (entries_in es)) (compare_order.same j k e) ∙ found_before)) (a.over ts n))

  -- a later state at the key
  pub joined_entry : (ss uu : List (Valued × Running)) (i : ℕ) (y : Valued × Running) → Rising compare (keys_in uu) → i < length uu → y ≡ get_or uu i y → value_of y.0 ≡ k → JoinsKeys c us ss uu i es → JoinsAll c us x.1 y.1 w → JoinsKeys c us ss uu (i + 1) after
  joined_entry ss uu i y rise l e q h a = record {
    keys = same_keys ∙ ap (into_set compare k) h.keys ∙ sym (set_last compare compare_full k (keys_in ss ++ take i (keys_in uu)))
        ∙ ap (different compare) (append_assoc (keys_in ss) (take i (keys_in uu)) (k ∷ []) ∙ ap (λ z. keys_in ss ++ z) (sym more_keys));
    over = λ ts n j.
        subst (λ t. Joins c ts (found (blank c) (entries_in ss) j) t (found (blank c) (entries_in after) j)) (sym (more_found j))
        (subst (Joins c ts (found (blank c) (entries_in ss) j) (cond (is_eq (compare j k)) (tree_in y.1) (found (blank c) (entries_in (take i uu)) j))) (sym (found_after j))
        (here ts n j (compare j k) refl));
  }
    where
      next : {X : Type 0} (qs : List X) (i : ℕ) (q : X) → i < length qs → q ≡ get_or qs i q → take (i + 1) qs ≡ take i qs ++ q ∷ []
      next {X = X} qs i q l e = let n : i + 1 ≡ suc i = omega arith in ap (λ m. take m qs) n ∙ go qs i l e
        where
          go : (qs : List X) (i : ℕ) → i < length qs → q ≡ get_or qs i q → take (suc i) qs ≡ take i qs ++ q ∷ []
          go [] i l e = absurd (omega arith)
          go (z ∷ qs) zero l e = ap (λ v. v ∷ []) (sym e)
          go (z ∷ qs) (suc i) l e = ap (◌∷◌ z) (go qs i (omega arith) e)

      key_at : (qs : List (Valued × Running)) (i : ℕ) → i < length qs → y ≡ get_or qs i y → k ≡ get_or (keys_in qs) i k
      key_at [] i l e = absurd (omega arith)
      key_at (z ∷ qs) zero l e = sym q ∙ ap key_in e
      key_at (z ∷ qs) (suc i) l e = key_at qs i (omega arith) e

      more_keys : take (i + 1) (keys_in uu) ≡ take i (keys_in uu) ++ k ∷ []
      more_keys = next (keys_in uu) i k (omega (arith, l, length-map uu key_in)) (key_at uu i l e)

      others : (ks : List Value) (i : ℕ) → Rising compare ks → i < length ks → k ≡ get_or ks i k → Each (λ q. compare k q ≢ Equal) (take i ks)
      others ks i r l e = go ks i (rising_apart compare compare_order ks r) l e
        where
          go : (ks : List Value) (i : ℕ) → Apart ks → i < length ks → k ≡ get_or ks i k → Each (λ q. compare k q ≢ Equal) (take i ks)
          go [] i b l e = absurd (omega arith)
          go (z ∷ ks) zero b l e = tt
          go (z ∷ ks) (suc i) b l e = (λ h. among ks i (omega (arith, l)) e b.0 (sym (compare_order.same k z h)), go ks i b.1 (omega (arith, l)) e)
            where
              among : (ks : List Value) (i : ℕ) → i < length ks → k ≡ get_or ks i k → Each (λ v. z ≢ v) ks → z ≢ k
              among [] i l e c = absurd (omega arith)
              among (v ∷ ks) zero l e c = λ h. c.0 (h ∙ e)
              among (v ∷ ks) (suc i) l e c = among ks i (omega arith) e c.1

      apart : Each (λ q. compare k q ≢ Equal) (keys (entries_in (take i uu)))
      apart = subst (Each (λ q. compare k q ≢ Equal)) (take-map key_in i uu ∙ sym (keys_of_entries (take i uu))) (others (keys_in uu) i rise (omega (arith, l, length-map uu key_in)) (key_at uu i l e))

      more_found : (j : Value) → found (blank c) (entries_in (take (i + 1) uu)) j ≡ cond (is_eq (compare j k)) (tree_in y.1) (found (blank c) (entries_in (take i uu)) j)
      more_found j = ap (λ z. found (blank c) z j) (ap entries_in (next uu i y l e) ∙ map-append (λ z. (value_of z.0, tree_in z.1)) (take i uu) (y ∷ []) ∙ ap (λ z. entries_in (take i uu) ++ (z, tree_in y.1) ∷ []) q)
          ∙ found_last (blank c) (entries_in (take i uu)) k (tree_in y.1) j apart

      here : (ts : List Ty) → inner_types c ts ≡ us → (j : Value) → (o : Ordering) → compare j k ≡ o →
          Joins c ts (found (blank c) (entries_in ss) j) (cond (is_eq o) (tree_in y.1) (found (blank c) (entries_in (take i uu)) j)) (cond (is_eq o) (tree_in w) (found (blank c) (entries_in es) j))
      here ts n j Less g = h.over ts n j
      here ts n j Greater g = h.over ts n j
      here ts n j Equal g = subst (λ z. Joins c ts (found (blank c) (entries_in ss) z) (tree_in y.1) (tree_in w)) (sym (compare_order.same j k g))
          (λ A B m b.
          let v : StandsFor c ts A (found (blank c) (entries_in es) k) =
          subst (λ L. StandsFor c ts L (found (blank c) (entries_in es) k)) (append-nil A)
          (h.over ts n k A [] m (ap (λ t. t) (found_missing (blank c) (entries_in (take i uu)) k apart) ∙ sym (of_none c ts))) in
          a.over ts n A B (subst (StandsFor c ts A) found_before v) b)

-- none yet, and the whole
pub fed_no_keys : (c : Chain) (us : List Ty) (ss : List (Valued × Running)) → Rising compare (keys_in ss) → FeedsKeys c us [] ss ss
fed_no_keys c us ss r = record { keys = sym (ap (different compare) (append-nil (keys_in ss)) ∙ different_rising compare (keys_in ss) r); over = λ ts n k. takes_none c ts (found (blank c) (entries_in ss) k) }

module _ (c : Chain) (us : List Ty) where
  -- the rows of a list of entries, so far and one more
  pub fed_pair : (es : List (Value × Value)) (i : ℕ) (k x : Value) (ss vv ww : List (Valued × Running)) → i < length es → (k, x) ≡ get_or es i (k, x) → FeedsKeys c us (pair_rows (take i es) ++ (k, x ∷ []) ∷ []) ss ww → FeedsKeys c us (pair_rows (take (i + 1) es)) ss ww
  fed_pair es i k x ss vv ww l e h = subst (λ z. FeedsKeys c us z ss ww) (sym (ap pair_rows (next es i l e) ∙ map-append (λ z. (z.0, z.1 ∷ [])) (take i es) ((k, x) ∷ []))) h
    where
      go : (qs : List (Value × Value)) (i : ℕ) → i < length qs → (k, x) ≡ get_or qs i (k, x) → take (suc i) qs ≡ take i qs ++ (k, x) ∷ []
      go [] i l e = absurd (omega arith)
      go (z ∷ qs) zero l e = ap (λ v. v ∷ []) (sym e)
      go (z ∷ qs) (suc i) l e = ap (◌∷◌ z) (go qs i (omega arith) e)

      next : (qs : List (Value × Value)) (i : ℕ) → i < length qs → (k, x) ≡ get_or qs i (k, x) → take (i + 1) qs ≡ take i qs ++ (k, x) ∷ []
      next qs i l e = let n : i + 1 ≡ suc i = omega arith in ap (λ m. take m qs) n ∙ go qs i l e

  keys_take : (r : List Value) (es : List (Value × Value)) (p w : Vec (Valued × Running) Global) → entries_of (last Nil r) ≡ es → FeedsKeys c us (pair_rows es) p.items w.items → Feeds (MapOf c) us r (Keyed p) (Keyed w)
  keys_take r es p w e h = record {
    over = λ ts n.
        subst (λ t. Takes (MapOf c) ts r t (tree_in (Keyed w))) (sym (tree_Keyed p))
        (subst (λ t. Takes (MapOf c) ts r (keyed_tree (entries_in p.items)) t) (sym (tree_Keyed w))
        (subst (λ f. TakesFeeds (MapOf c) ts (f ∷ []) (keyed_tree (entries_in p.items)) (keyed_tree (entries_in w.items))) (sym rows)
        (map_takes c ts feed (entries_in p.items) (entries_in w.items) names (λ k. h.over (inward (MapOf c) ts) n k))));
  }
    where
      feed : List (Value × Option (Feed c))
      feed = map (λ z. (z.0, Some (opened c z.1))) (pair_rows es)

      rows : opened (MapOf c) r ≡ feed
      rows = ap (map (λ z. (z.0, Some (opened c (z.1 ∷ []))))) e ∙ sym (map_twice (λ z. (z.0, Some (opened c z.1))) (λ z. (z.0, z.1 ∷ [])) es)

      fed_keys : keys_of (feed ∷ []) ≡ different compare (map (λ z. z.0) (pair_rows es))
      fed_keys = ap (different compare) (append-nil (map (λ z. z.0) feed) ∙ map_twice (λ z. z.0) (λ z. (z.0, Some (opened c z.1))) (pair_rows es))

      again : (A : List Value) → different compare (different compare A) ≡ different compare A
      again A = different_rising compare (different compare A) (different_order compare compare_order A)

      names : keys (entries_in w.items) ≡ different compare (keys (entries_in p.items) ++ keys_of (feed ∷ []))
      names = keys_of_entries w.items ∙ h.keys
          ∙ sets_join compare compare_full (keys_in p.items) (keys (entries_in p.items)) (map (λ z. z.0) (pair_rows es)) (keys_of (feed ∷ []))
          (ap (different compare) (sym (keys_of_entries p.items))) (sym (ap (different compare) fed_keys ∙ again (map (λ z. z.0) (pair_rows es))))

  keys_join : (p q w : Vec (Valued × Running) Global) → JoinsKeys c us p.items q.items (length q.items) w.items → JoinsAll (MapOf c) us (Keyed p) (Keyed q) (Keyed w)
  keys_join p q w h = record {
    over = λ ts n.
        subst (λ t. Joins (MapOf c) ts t (tree_in (Keyed q)) (tree_in (Keyed w))) (sym (tree_Keyed p))
        (subst (λ t. Joins (MapOf c) ts (keyed_tree (entries_in p.items)) t (tree_in (Keyed w))) (sym (tree_Keyed q))
        (subst (λ t. Joins (MapOf c) ts (keyed_tree (entries_in p.items)) (keyed_tree (entries_in q.items)) t) (sym (tree_Keyed w))
        (map_joins c ts (entries_in p.items) (entries_in q.items) (entries_in w.items)
        (keys_of_entries w.items ∙ h.keys ∙ ap₂ (λ x y. different compare (x ++ y)) (sym (keys_of_entries p.items)) (take_all (length q.items) (keys_in q.items) (omega (arith, length-map q.items key_in)) ∙ sym (keys_of_entries q.items)))
        (λ k. subst (λ z. Joins c (inward (MapOf c) ts) (found (blank c) (entries_in p.items) k) (found (blank c) (entries_in z) k) (found (blank c) (entries_in w.items) k)) (take_all (length q.items) q.items (omega arith)) (h.over (inward (MapOf c) ts) n k)))));
  }

  -- the arms of -Map
  pub entries_are : (s : Running) (v : Vec (Valued × Running) Global) → s ≡ Keyed v → IsState (MapOf c) us s → AreEntries (IsState c us) v.items
  entries_are s v e k = subst (AreKeyed (IsState c us)) (ap out-Running e ∙ out_Keyed v) k

  pub are_entries : (s : Running) (v : Vec (Valued × Running) Global) → s ≡ Keyed v → AreEntries (IsState c us) v.items → IsState (MapOf c) us s
  are_entries s v e k = subst (AreKeyed (IsState c us)) (sym (ap out-Running e ∙ out_Keyed v)) k

  module _ {A E : Type 0} (x : Result A E) where
    pub keys_kept : (v : Running) (w : Vec (Valued × Running) Global) → v ≡ Keyed w → OnOk x (AreEntries (IsState c us) w.items) → OnOk x (IsState (MapOf c) us v)
    keys_kept v w e h = on_ok x (are_entries v w e) h

    pub keys_fed : (r : List Value) (es : List (Value × Value)) (s v : Running) (p w : Vec (Valued × Running) Global) → entries_of (last Nil r) ≡ es → s ≡ Keyed p → v ≡ Keyed w → OnOk x (FeedsKeys c us (pair_rows es) p.items w.items) → OnOk x (Feeds (MapOf c) us r s v)
    keys_fed r es s v p w m e g h = on_ok x (λ a. subst (λ s. Feeds (MapOf c) us r s v) (sym e) (subst (Feeds (MapOf c) us r (Keyed p)) (sym g) (keys_take r es p w m a))) h

    pub keys_joined : (s u v : Running) (p q w : Vec (Valued × Running) Global) → s ≡ Keyed p → u ≡ Keyed q → v ≡ Keyed w → OnOk x (JoinsKeys c us p.items q.items (length q.items) w.items) → OnOk x (JoinsAll (MapOf c) us s u v)
    keys_joined s u v p q w e g i h = on_ok x (λ a.
        subst (λ s. JoinsAll (MapOf c) us s u v) (sym e) (subst (λ u. JoinsAll (MapOf c) us (Keyed p) u v) (sym g) (subst (JoinsAll (MapOf c) us (Keyed p) (Keyed q)) (sym i) (keys_join p q w a)))) h

  -- no entry of a map, and no later one
  pub no_pairs : (r : List Value) (s : Running) (p : Vec (Valued × Running) Global) → entries_of (last Nil r) ≡ [] → s ≡ Keyed p → AreEntries (IsState c us) p.items → Feeds (MapOf c) us r s s
  no_pairs r s p m e a = subst (λ s. Feeds (MapOf c) us r s s) (sym e) (keys_take r [] p p m (fed_no_keys c us p.items a.1))

  pub joined_no_keys : (ss uu : List (Valued × Running)) → Rising compare (keys_in ss) → JoinsKeys c us ss uu 0 ss
  joined_no_keys ss uu r = record { keys = sym (ap (different compare) (append-nil (keys_in ss)) ∙ different_rising compare (keys_in ss) r); over = λ ts n k. joins_blank c ts (found (blank c) (entries_in ss) k) }
