-- A table of no rows, and a table that was fed rows.
use Rattle.std.proofs.Common.{◌≡◌, ℕ, zero, suc, ◌+◌, ◌<◌, ◌≤◌, cond, List, [], ◌∷◌, ◌++◌, length, map, get_or, refl, ap, ap₂, sym, ◌∙◌, subst, arith}
use Rattle.std.specs.List.{All}
use Rattle.std.proofs.lemmas.List.{get_or-map, get_or-replicate, length-map, length-replicate, length_push}
use Rattle.indexmap.specs.IndexSet.{insert_key}
use Rattle.agg_terms.specs.Chains as terms
use Rattle.agg_terms.specs.Lists.{Each, is_empty}
use Rattle.agg_terms.specs.Values.{Empty, Value}
use Rattle.agg_terms.specs.Widths.{IsNarrow}
use Rattle.agg_meaning.specs.Feeds.{opened}
use Rattle.agg_meaning.specs.Laws.{AreFeeds, IsLegal}
use Rattle.agg_meaning.specs.Results.{blank}
use Rattle.agg_meaning.specs.States.{TakesFeeds}
use Rattle.agg_meaning.specs.Suffixes.{normal}
use Rattle.agg_meaning.specs.Views.{AreContributions, Call, Contribution, IsLegalView, View, call_at, items_at, of_row}
use Rattle.agg_typing.specs.Promises.{LegalIsLawful}
use Rattle.agg_typing.specs.Views.{IsCallOver}
use Rattle.value_types.specs.Folds.{ty_of}
use Rattle.value_types.specs.Images.{TypesAreNarrow}
use Rattle.value_types.specs.declared.ty.Ty.{Ty}
use Rattle.typed_columns.specs.TypedValues.{TypedValues}
use Rattle.key_columns.specs.Words.{key_tuple, key_tuples}
use Rattle.chain_states.specs.Calls.{chain_in, types_in}
use Rattle.state_columns.specs.Trees.{blank_in, trees_in}
use Rattle.state_columns.specs.declared.column.StateColumn.{StateColumn}
use Rattle.group_keys.specs.Sets.{Holds, IsSetOf, Places, count_in, first_keys}
use Rattle.group_keys.specs.declared.key_set.KeySet.{KeySet}
use Rattle.group_keys.specs.declared.key_set.KeySet.TheVariants.{One, Words, Wide, Texts}
use Rattle.group_keys.proofs.KeyLists.{length-places_of}
use Rattle.table_words.specs.KeyLists.{keys_with, places_of, reaching}
use Rattle.table_words.specs.Laws.{TakesRows, row_keys}
use Rattle.table_words.specs.Tables.{IsTable, same_tuple}
use Rattle.table_words.proofs.Fed.{rows_are_fed, tuples}
use Rattle.table_words.proofs.KeysWith.{length-keys_with, place_within}
use Rattle.group_tables.specs.Calls.{call_of, calls_of}
use Rattle.group_tables.specs.proving.Fed.{AreFed, AreFresh}
use Rattle.group_tables.specs.Groupings.{view_of}
use Rattle.group_tables.specs.Tables.{AreColumns, AreTables, IsTableOf, TakesRowsOf, trees_of}
use Rattle.group_tables.specs.proving.Rows.{rows_between}
use Rattle.group_tables.specs.declared.grouping.GroupCall.{GroupCall}
use Rattle.group_tables.specs.declared.grouping.Grouping.{Grouping}
use Rattle.group_tables.specs.declared.table.GroupTable.{GroupTable}
use Rattle.group_tables.proofs.Agreeing.{arguments-are, each-all, each-append, each-weaker, keys-are, rows_in}
use Rattle.group_tables.proofs.CallColumns.{some_of}

-- ---- the calls of a view
calls-legal : LegalIsLawful → (types : List terms.Ty) (calls : List Call) → Each (IsCallOver types) calls → Each (λ c. IsLegal c.chain c.types) calls
calls-legal law types [] h = tt
calls-legal law types (c ∷ cs) h = (law c.chain c.types h.0.0, calls-legal law types cs h.1)

pub view-legal : LegalIsLawful → (types : List terms.Ty) (v : View) → Each (IsCallOver types) v.calls → IsLegalView v
view-legal law types v h = calls-legal law types v.calls h

pub all-narrow : TypesAreNarrow → (types : List Ty) → Each IsNarrow (map ty_of types)
all-narrow law [] = tt
all-narrow law (t ∷ ts) = (law t, all-narrow law ts)

pub call-there : (calls : List GroupCall) (i : ℕ) (c : GroupCall) → i < length calls → call_at (calls_of calls) i ≡ call_of (get_or calls i c)
call-there calls i c h = get_or-map call_of calls i c _ h

-- ---- keys and places
pub count-held : (types : List Ty) (s : KeySet) (ks : List (List Value)) → Holds types s ks → count_in s ≡ length ks
count-held types One ks h = sym (ap length h.keys.1)
count-held types (Words set) ks h = ap length h.keys.1 ∙ length-map ks _
count-held types (Wide set) ks h = ap length h.keys.1 ∙ length-map ks _
count-held types (Texts set) ks h = sym (length-map set.keys _) ∙ ap length h.keys.1 ∙ length-map ks _

places-below : (ks more : List (List Value)) → Each (λ p. p < length (keys_with same_tuple ks more)) (places_of same_tuple ks more)
places-below ks [] = tt
places-below ks (k ∷ more) = (
  let a = place_within same_tuple tuples ks k in let b = length-keys_with same_tuple (insert_key same_tuple ks k) more in omega (arith, a, b),
  places-below (insert_key same_tuple ks k) more,
)

pub length-tuples : (columns : List TypedValues) (keys : List ℕ) (from n : ℕ) → length (key_tuples columns keys from n) ≡ n
length-tuples columns keys from zero = refl
length-tuples columns keys from (suc n) = omega (arith, length_push (key_tuples columns keys from n) (key_tuple columns keys (from + n)), length-tuples columns keys from n)

module _ (types : List Ty) (old new : KeySet) (rows : List (List Value)) (ps : List ℕ) (set : IsSetOf types old) (placed : Places types old new rows ps) where
  within : Each (λ p. p < count_in new) ps
  within =
      subst (Each (λ p. p < count_in new)) (sym (placed.at set.0 set.1))
      (subst (λ m. Each (λ p. p < m) (places_of same_tuple set.0 rows)) (sym (count-held types new _ (placed.holds set.0 set.1))) (places-below set.0 rows))

  pub places-within : (count : ℕ) → count ≡ count_in new → All (λ p. p < count) ps
  places-within count count-is = subst (λ n. All (λ p. p < n) ps) (sym count-is) (each-all (λ p. p < count_in new) ps within)

  pub places-many : length ps ≡ length rows
  places-many = ap length (placed.at set.0 set.1) ∙ length-places_of same_tuple set.0 rows

  pub count-grows : count_in old ≤ count_in new
  count-grows =
      let a = length-keys_with same_tuple set.0 rows in
      omega (arith, a, count-held types old set.0 set.1, count-held types new _ (placed.holds set.0 set.1))

-- ---- the columns of a table have a state for each group
pub columns-long : (g : Grouping) (t : GroupTable) → IsTableOf g t → (columns : List StateColumn) → columns ≡ t.columns.items → Each (λ s. length (trees_in s) ≡ count_in t.keys) columns
columns-long g t made columns is =
    subst (Each (λ s. length (trees_in s) ≡ count_in t.keys)) (sym is) (all t.columns.items (λ i h. at i h))
  where
    at : (i : ℕ) → i < length t.columns.items → length (get_or (map trees_in t.columns.items) i []) ≡ count_in t.keys
    at i h =
        made.1.table.long i (subst (λ n. i < n) (made.1.shape.many ∙ sym (length-map g.calls call_of)) h) ∙ sym (count-held g.key_types t.keys made.1.keys made.1.held)

    all : (cs : List StateColumn) → ((i : ℕ) → i < length cs → length (get_or (map trees_in cs) i []) ≡ count_in t.keys) → Each (λ s. length (trees_in s) ≡ count_in t.keys) cs
    all [] f = tt
    all (c ∷ cs) f = (f 0 (omega arith), all cs (λ i h. f (suc i) (omega (arith, h))))

-- and room for those that are new
pub room-for : (g : Grouping) (t : GroupTable) → IsTableOf g t → (new : KeySet) (rows : List (List Value)) (ps : List ℕ) → Places g.key_types t.keys new rows ps → (count : ℕ) → count ≡ count_in new →
    All (λ s. length (trees_in s) ≤ count) t.columns.items
room-for g t made new rows ps placed count count-is =
    let grows = count-grows g.key_types t.keys new rows ps (made.1.keys, made.1.held) placed in
    each-all (λ s. length (trees_in s) ≤ count) t.columns.items
    (each-weaker (λ s. length (trees_in s) ≡ count_in t.keys) (λ s. length (trees_in s) ≤ count) (λ s e. omega (arith, e, grows, count-is)) t.columns.items
    (columns-long g t made t.columns.items refl))

-- ---- no rows
same-empty : (f : ℕ → Ty) (keys : List ℕ) (types : List Ty) → types ≡ map f keys → is_empty types ≡ is_empty keys
same-empty f [] types e = ap is_empty e
same-empty f (k ∷ keys) types e = ap is_empty e

module _ (g : Grouping) (t : GroupTable) (f : ℕ → Ty) (types-are : g.key_types ≡ map f g.keys) where
  pub fresh-tables : Holds g.key_types t.keys (first_keys g.key_types) → AreColumns g.calls t.columns.items → AreFresh g.calls (count_in t.keys) (map trees_in t.columns.items) → AreTables g t []
  fresh-tables held shape fresh = record {
    feeds = tt;
    keys = first_keys g.key_types;
    held = held;
    shape = shape;
    table = record {
      keys = ap (λ b. cond b ([] ∷ []) []) (same-empty f g.keys g.key_types types-are);
      long = λ i hi.
          let there = subst (λ n. i < n) (length-map g.calls call_of) hi in
          let c = some_of g.calls i there in
          ap length (fresh.each i c there) ∙ length-replicate (count_in t.keys) (blank_in (get_or g.calls i c).ready) ∙ count-held g.key_types t.keys (first_keys g.key_types) held;
      trees = λ i hi j hj.
          let there = subst (λ n. i < n) (length-map g.calls call_of) hi in
          let c = some_of g.calls i there in
          ap (λ l. get_or l j Empty) (fresh.each i c there)
          ∙ get_or-replicate (count_in t.keys) j (blank_in (get_or g.calls i c).ready) Empty (subst (λ n. j < n) (sym (count-held g.key_types t.keys (first_keys g.key_types) held)) hj)
          ∙ ap (λ (k : Call). normal k.chain k.types []) (sym (call-there g.calls i c there));
    };
  }

-- ---- rows
module _ (g : Grouping) (old new : GroupTable) (columns : List TypedValues) (from n : ℕ) (ps : List ℕ)
    (placed : Places g.key_types old.keys new.keys (key_tuples columns g.keys from n) ps)
    (fed : AreFed g.calls (count_in new.keys) ps columns from n (map trees_in old.columns.items) (map trees_in new.columns.items))
    (shape : AreColumns g.calls new.columns.items) (below : Each (λ k. k < length columns) g.keys)
    (legal : IsLegalView (view_of g)) (brought : AreContributions (view_of g) (map (of_row (view_of g)) (rows_in columns from n))) where
  module _ (C : List (Contribution (view_of g))) (a : AreTables g old C) where
    places-are : ps ≡ places_of same_tuple a.keys (row_keys (view_of g) (rows_in columns from n))
    places-are = placed.at a.keys a.held ∙ ap (places_of same_tuple a.keys) (keys-are columns g.keys from n below)

    count-is : count_in new.keys ≡ length (keys_with same_tuple a.keys (row_keys (view_of g) (rows_in columns from n)))
    count-is = count-held g.key_types new.keys _ (placed.holds a.keys a.held) ∙ ap (λ ks. length (keys_with same_tuple a.keys ks)) (keys-are columns g.keys from n below)

    takes : TakesRows (view_of g) (rows_in columns from n) (places_of same_tuple a.keys (row_keys (view_of g) (rows_in columns from n)))
        (length (keys_with same_tuple a.keys (row_keys (view_of g) (rows_in columns from n)))) (trees_of old.columns.items) (trees_of new.columns.items)
    takes = record {
      long = λ i hi.
          let there = subst (λ m. i < m) (length-map g.calls call_of) hi in
          (fed.each i (some_of g.calls i there) there).long ∙ count-is;
      trees = λ i hi j hj.
          let there = subst (λ m. i < m) (length-map g.calls call_of) hi in
          let c = some_of g.calls i there in
          let call = get_or g.calls i c in
          let here = (fed.each i c there).at j (subst (λ m. j < m) (sym count-is) hj) in
          subst (λ (k : Call). TakesFeeds k.chain k.types (map (opened k.chain) (reaching j (places_of same_tuple a.keys (row_keys (view_of g) (rows_in columns from n))) (map (items_at k.columns) (rows_in columns from n))))
          (get_or (trees_of old.columns.items i) j (blank k.chain)) (get_or (trees_of new.columns.items i) j Empty)) (sym (call-there g.calls i c there))
          (subst (λ xs. TakesFeeds (chain_in call.ready) (types_in call.ready) (map (opened (chain_in call.ready)) xs)
          (get_or (trees_of old.columns.items i) j (blank (chain_in call.ready))) (get_or (trees_of new.columns.items i) j Empty))
          (ap₂ (reaching j) places-are (arguments-are columns call.columns from n)) here);
    }

    fed-tables : AreTables g new (C ++ map (of_row (view_of g)) (rows_in columns from n))
    fed-tables = record {
      feeds = each-append (λ (c : Contribution (view_of g)). (i : ℕ) → i < length (view_of g).calls → AreFeeds (call_at (view_of g).calls i).chain (call_at (view_of g).calls i).types (c.1 i)) C _ a.feeds brought;
      keys = keys_with same_tuple a.keys (key_tuples columns g.keys from n);
      held = placed.holds a.keys a.held;
      shape = shape;
      table =
          subst (λ ks. IsTable (view_of g) (C ++ map (of_row (view_of g)) (rows_in columns from n)) (keys_with same_tuple a.keys ks) (trees_of new.columns.items))
          (sym (keys-are columns g.keys from n below))
          (rows_are_fed (view_of g) C a.keys (rows_in columns from n) (trees_of old.columns.items) (trees_of new.columns.items) legal brought a.table takes);
    }

  pub takes-rows : TakesRowsOf g (rows_between columns from n) old new
  takes-rows = record { tables = fed-tables }
