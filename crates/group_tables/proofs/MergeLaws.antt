-- A table that a later table, or a line of stored states, was merged into.
use Rattle.std.proofs.Common.{◌≡◌, ℕ, zero, suc, ◌<◌, false, cond, List, [], ◌∷◌, ◌++◌, ◌||◌, length, map, get_or, refl, ap, sym, ◌∙◌, subst, arith}
use Rattle.std.proofs.lemmas.List.{append-nil, get_or-map, length-map}
use Rattle.indexmap.specs.IndexSet.{insert_key}
use Rattle.agg_terms.specs.Lists.{is_empty}
use Rattle.agg_terms.specs.Trees.{IsTree}
use Rattle.agg_terms.specs.Values.{Empty, Tree, Value}
use Rattle.agg_meaning.specs.Feeds.{AreValues}
use Rattle.agg_meaning.specs.Laws.{AreFeeds, TreesAreNormal, TreesUnfold}
use Rattle.agg_meaning.specs.Results.{blank}
use Rattle.agg_meaning.specs.Suffixes.{normal, unfolded}
use Rattle.agg_meaning.specs.Views.{AreContributions, Call, Contribution, IsLegalView, View, call_at, feeds_of, first_groups, of_states, state_at}
use Rattle.value_types.specs.Folds.{tree_of, ty_of}
use Rattle.value_types.specs.declared.ty.Ty.{Ty}
use Rattle.value_types.specs.declared.value.Tree as rust
use Rattle.chain_states.specs.Calls.{chain_in, types_in}
use Rattle.state_columns.specs.Trees.{trees_in}
use Rattle.group_keys.specs.Sets.{Places, PlacesKeysOf, count_in}
use Rattle.table_words.specs.KeyLists.{keys_with, places_of, reaching}
use Rattle.table_words.specs.Laws.{JoinsAll, TakesTrees}
use Rattle.table_words.specs.Tables.{IsTable, same_tuple}
use Rattle.table_words.proofs.Fed.{legal-at, tuples}
use Rattle.table_words.proofs.KeysWith.{insert_key-present}
use Rattle.table_words.proofs.Merged.{tables_are_merged}
use Rattle.group_tables.specs.Calls.{call_of, calls_of}
use Rattle.group_tables.specs.Groupings.{view_of}
use Rattle.group_tables.specs.Merging.{AreTreesOf, IsStoredLine, TakesLine, TakesTable}
use Rattle.group_tables.specs.Tables.{AreColumns, AreTables, trees_of}
use Rattle.group_tables.specs.proving.Joined.{AreJoined}
use Rattle.group_tables.specs.declared.grouping.GroupCall.{GroupCall}
use Rattle.group_tables.specs.declared.grouping.Grouping.{Grouping}
use Rattle.group_tables.specs.declared.table.GroupTable.{GroupTable}
use Rattle.group_tables.proofs.Agreeing.{each-append}
use Rattle.group_tables.proofs.CallColumns.{some_of}
use Rattle.group_tables.proofs.TableLaws.{call-there, count-held}

-- ---- two tables
module _ (g : Grouping) (old new : GroupTable) (ls : List (List Value)) (later : List (List Tree)) (ps : List ℕ) (placed : Places g.key_types old.keys new.keys ls ps)
    (joined : AreJoined g.calls (count_in new.keys) ps later (map trees_in old.columns.items) (map trees_in new.columns.items)) (shape : AreColumns g.calls new.columns.items) where
  module _ (D : List (Contribution (view_of g))) (feeds : AreContributions (view_of g) D) (second : IsTable (view_of g) D ls (λ i. get_or later i []))
      (C : List (Contribution (view_of g))) (a : AreTables g old C) where
    count-is : count_in new.keys ≡ length (keys_with same_tuple a.keys ls)
    count-is = count-held g.key_types new.keys _ (placed.holds a.keys a.held)

    takes : TakesTrees (view_of g) (λ i. get_or later i []) (places_of same_tuple a.keys ls) (length (keys_with same_tuple a.keys ls)) (trees_of old.columns.items) (trees_of new.columns.items)
    takes = record {
      long = λ i hi.
          let there = subst (λ m. i < m) (length-map g.calls call_of) hi in
          (joined.each i (some_of g.calls i there) there).long ∙ count-is;
      trees = λ i hi j hj.
          let there = subst (λ m. i < m) (length-map g.calls call_of) hi in
          let c = some_of g.calls i there in
          let call = get_or g.calls i c in
          let here = (joined.each i c there).at j (subst (λ m. j < m) (sym count-is) hj) in
          subst (λ (k : Call). JoinsAll k.chain k.types (reaching j (places_of same_tuple a.keys ls) (get_or later i []))
          (get_or (trees_of old.columns.items i) j (blank k.chain)) (get_or (trees_of new.columns.items i) j Empty)) (sym (call-there g.calls i c there))
          (subst (λ qs. JoinsAll (chain_in call.ready) (types_in call.ready) (reaching j qs (get_or later i []))
          (get_or (trees_of old.columns.items i) j (blank (chain_in call.ready))) (get_or (trees_of new.columns.items i) j Empty)) (placed.at a.keys a.held) here);
    }

    pub joined-tables : AreTables g new (C ++ D)
    joined-tables = record {
      feeds = each-append (λ (c : Contribution (view_of g)). (i : ℕ) → i < length (view_of g).calls → AreFeeds (call_at (view_of g).calls i).chain (call_at (view_of g).calls i).types (c.1 i)) C D a.feeds feeds;
      keys = keys_with same_tuple a.keys ls;
      held = placed.holds a.keys a.held;
      shape = shape;
      table = tables_are_merged (view_of g) C D a.keys ls (trees_of old.columns.items) (λ i. get_or later i []) (trees_of new.columns.items) a.table second takes;
    }

-- ---- a later table
pub takes-table : (g : Grouping) (old new later : GroupTable) (ps : List ℕ) → PlacesKeysOf g.key_types old.keys new.keys later.keys ps →
    AreJoined g.calls (count_in new.keys) ps (map trees_in later.columns.items) (map trees_in old.columns.items) (map trees_in new.columns.items) → AreColumns g.calls new.columns.items →
    TakesTable g later old new
takes-table g old new later ps placed joined shape = record {
  tables = λ C D a b. joined-tables g old new b.keys (map trees_in later.columns.items) ps (placed.each b.keys b.held) joined shape D b.feeds b.table C a;
}

-- ---- a line
empty-key : (key : List Value) → AreValues [] key → key ∷ [] ≡ insert_key same_tuple ([] ∷ []) key
empty-key [] fits = sym (insert_key-present same_tuple tuples ([] ∷ []) [] (ap (λ b. b || false) (tuples.refl [])))
empty-key (v ∷ vs) fits = absurd fits

line-key : (f : ℕ → Ty) (keys : List ℕ) (types : List Ty) (key : List Value) → types ≡ map f keys → AreValues (map ty_of types) key →
    key ∷ [] ≡ insert_key same_tuple (cond (is_empty keys) ([] ∷ []) []) key
line-key f [] types key e fits = empty-key key (subst (λ ts. AreValues (map ty_of ts) key) e fits)
line-key f (k ∷ keys) types key e fits = refl

module _ (v : View) (legal : IsLegalView v) (key : List Value) (trees : List Tree) (states : AreTreesOf v.calls trees) (law : TreesAreNormal) where
  line-feeds : TreesUnfold → AreContributions v (of_states v (key, trees) ∷ [])
  line-feeds unfold-law = (
    λ i h. unfold-law (call_at v.calls i).chain (call_at v.calls i).types (get_or trees i Empty) (legal-at v.calls i h legal) (states.each i h),
    tt,
  )

  feeds-are : (i : ℕ) → feeds_of v key i (of_states v (key, trees) ∷ []) ≡ unfolded (call_at v.calls i).chain (call_at v.calls i).types (get_or trees i Empty)
  feeds-are i =
      let fs = unfolded (call_at v.calls i).chain (call_at v.calls i).types (get_or trees i Empty) in
      ap (λ b. cond b fs [] ++ []) (tuples.refl key) ∙ append-nil fs

  state-is : (i : ℕ) → i < length v.calls → get_or trees i Empty ≡ state_at v (of_states v (key, trees) ∷ []) key i
  state-is i h =
      sym (law (call_at v.calls i).chain (call_at v.calls i).types (get_or trees i Empty) (legal-at v.calls i h legal) (states.each i h))
      ∙ ap (normal (call_at v.calls i).chain (call_at v.calls i).types) (sym (feeds-are i))

  line-table : (later : ℕ → List Tree) → ((i : ℕ) → i < length v.calls → later i ≡ get_or trees i Empty ∷ []) → key ∷ [] ≡ keys_with same_tuple (first_groups v) (key ∷ []) →
      IsTable v (of_states v (key, trees) ∷ []) (key ∷ []) later
  line-table later later-is keys-are = record {
    keys = keys-are;
    long = λ i h. ap length (later-is i h);
    trees = at;
  }
    where
      at : (i : ℕ) → i < length v.calls → (g : ℕ) → g < 1 → get_or (later i) g Empty ≡ state_at v (of_states v (key, trees) ∷ []) (get_or (key ∷ []) g []) i
      at i h zero hg = ap (λ l. get_or l 0 Empty) (later-is i h) ∙ state-is i h
      at i h (suc g) hg = absurd (omega (arith, hg))

-- ---- the trees of a line, by their calls
module _ (calls : List GroupCall) (trees : List rust.Tree) (are : AreTreesOf (calls_of calls) (map tree_of trees)) (i : ℕ) where
  pub trees-long : i < length calls → i < length trees
  trees-long h = omega (arith, h, are.many, length-map trees tree_of, length-map calls call_of)

  pub tree-there : (c : GroupCall) (t : rust.Tree) → i < length calls → c ≡ get_or calls i c → t ≡ get_or trees i t → IsTree (chain_in c.ready) (types_in c.ready) (tree_of t)
  tree-there c t h c-is t-is =
      subst (λ x. IsTree (chain_in c.ready) (types_in c.ready) x) (get_or-map tree_of trees i t Empty (trees-long h) ∙ ap tree_of (sym t-is))
      (subst (λ (k : Call). IsTree k.chain k.types (get_or (map tree_of trees) i Empty)) (call-there calls i c h ∙ ap call_of (sym c-is))
      (are.each i (subst (λ n. i < n) (sym (length-map calls call_of)) h)))

alone : (ts : List rust.Tree) (i : ℕ) → i < length ts → get_or (map (λ t. tree_of t ∷ []) ts) i [] ≡ get_or (map tree_of ts) i Empty ∷ []
alone [] i h = absurd (omega (arith, h))
alone (t ∷ ts) zero h = refl
alone (t ∷ ts) (suc i) h = alone ts i (omega (arith, h))

pub takes-line : (g : Grouping) (f : ℕ → Ty) → g.key_types ≡ map f g.keys → IsLegalView (view_of g) → TreesAreNormal → TreesUnfold → (old new : GroupTable) (key : List Value) (ts : List rust.Tree) (place : ℕ) →
    IsStoredLine g key (map tree_of ts) → Places g.key_types old.keys new.keys (key ∷ []) (place ∷ []) →
    AreJoined g.calls (count_in new.keys) (place ∷ []) (map (λ t. tree_of t ∷ []) ts) (map trees_in old.columns.items) (map trees_in new.columns.items) → AreColumns g.calls new.columns.items →
    TakesLine g key (map tree_of ts) old new
takes-line g f types-are legal law unfold-law old new key ts place line placed joined shape = record {
  tables =
      joined-tables g old new (key ∷ []) (map (λ t. tree_of t ∷ []) ts) (place ∷ []) placed joined shape (of_states (view_of g) (key, map tree_of ts) ∷ [])
      (line-feeds (view_of g) legal key (map tree_of ts) line.states law unfold-law)
      (line-table (view_of g) legal key (map tree_of ts) line.states law (λ i. get_or (map (λ t. tree_of t ∷ []) ts) i [])
      (λ i h. alone ts i (subst (λ n. i < n) (sym line.states.many ∙ length-map ts tree_of) h))
      (line-key f g.keys g.key_types key types-are line.fits));
}
