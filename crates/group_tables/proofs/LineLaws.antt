-- What a line of the answer is made of, one call after another, and that it is the line of its group.
use Rattle.std.proofs.Common.{◌≡◌, ◌⊎◌, ℕ, ◌+◌, ◌<◌, ◌≤◌, List, [], ◌∷◌, ◌++◌, length, map, get_or, refl, ap, ap₂, sym, ◌∙◌, subst, arith, inl, inr, append_assoc}
use Rattle.std.specs.List.{All}
use Rattle.std.specs.Ordering.{is_eq}
use Rattle.std.proofs.lemmas.Bool.{cases_lt, cond_both}
use Rattle.std.proofs.lemmas.List.{get_or-map, get_or_append_left, get_or_default, get_or_push, length-map, length_push}
use Rattle.agg_terms.specs.Chains as terms
use Rattle.agg_terms.specs.Lists.{Each, places}
use Rattle.agg_terms.specs.Order.{compare_rows}
use Rattle.agg_terms.specs.Values.{Empty, Nil, Value}
use Rattle.agg_meaning.specs.Feeds.{IsFeed}
use Rattle.agg_meaning.specs.Laws.{AreFeeds}
use Rattle.agg_meaning.specs.Results.{result}
use Rattle.agg_meaning.specs.States.{MeansChain}
use Rattle.agg_meaning.specs.Views.{AreContributions, Call, Contribution, View, call_at, feeds_of, meaning_at}
use Rattle.agg_meaning.proofs.Places.{by_places}
use Rattle.agg_typing.specs.Promises.{LegalIsLawful}
use Rattle.agg_typing.specs.Views.{IsKeyOver}
use Rattle.table_words.proofs.Fed.{legal-at}
use Rattle.value_types.specs.Folds.{ty_of}
use Rattle.value_types.specs.declared.ty.Ty.{Ty}
use Rattle.value_types.specs.declared.ty.Ty.TheVariants as rust
use Rattle.chain_states.specs.Calls.{chain_in, types_in}
use Rattle.group_keys.specs.Sets.{count_in}
use Rattle.group_keys.specs.Tuples.{IsTupleAt}
use Rattle.state_columns.specs.Trees.{trees_in}
use Rattle.state_columns.specs.declared.column.StateColumn.{StateColumn}
use Rattle.group_tables.specs.Calls.{call_of, calls_of}
use Rattle.group_tables.specs.Groupings.{IsReady, answer_types, view_of}
use Rattle.group_tables.specs.Reading.{IsLineOf, IsPlaced, key_at}
use Rattle.group_tables.specs.Tables.{AreColumns, AreTables, IsTableOf}
use Rattle.group_tables.specs.proving.Lines.{AddsValues, result_of}
use Rattle.group_tables.specs.declared.grouping.GroupCall.{GroupCall}
use Rattle.group_tables.specs.declared.grouping.Grouping.{Grouping}
use Rattle.group_tables.specs.declared.table.GroupTable.{GroupTable}
use Rattle.group_tables.proofs.Agreeing.{each-all, each-append, each-weaker}
use Rattle.group_tables.proofs.CallColumns.{some_of, trees-at}
use Rattle.group_tables.proofs.TableLaws.{call-there, columns-long, count-held, view-legal}

-- ---- types
key-types-are : (types : List Ty) (keys : List ℕ) → Each (IsKeyOver (map ty_of types)) keys →
    map ty_of (map (λ k. get_or types k rust.Str) keys) ≡ map (λ k. get_or (map ty_of types) k terms.Str) keys
key-types-are types [] e = refl
key-types-are types (k ∷ keys) e =
    ap₂ ◌∷◌ (sym (get_or-map ty_of types k rust.Str terms.Str (subst (λ n. k < n) (length-map types ty_of) e.0.0))) (key-types-are types keys e.1)

results-are : (calls : List GroupCall) → map result_of calls ≡ map (λ (c : Call). result c.chain c.types) (calls_of calls)
results-are [] = refl
results-are (c ∷ calls) = ap (λ l. result_of c ∷ l) (results-are calls)

pub types-are : (g : Grouping) → IsReady g → (keys types : List Ty) (calls : List GroupCall) → keys ≡ g.key_types → calls ≡ g.calls →
    map ty_of types ≡ map ty_of keys ++ map result_of calls → map ty_of types ≡ answer_types (map ty_of g.types) (view_of g)
types-are g ready keys types calls ks cs e =
    e
    ∙ ap₂ (λ a b. map ty_of a ++ map result_of b) (ks ∙ ready.key_types_are) cs
    ∙ ap₂ ◌++◌ (key-types-are g.types g.keys ready.fits.keys) (results-are g.calls)

-- ---- values added so far
module _ (calls : List GroupCall) (columns : List StateColumn) (place : ℕ) where
  pub one-more-value : (old now new : List Value) (n : ℕ) (c : GroupCall) (s : StateColumn) (x : Value) → AddsValues calls columns place n old now → n < length calls → n < length columns →
      c ≡ get_or calls n c → s ≡ get_or columns n s → MeansChain (chain_in c.ready) (types_in c.ready) (get_or (trees_in s) place Empty) x → new ≡ now ++ x ∷ [] →
      AddsValues calls columns place (n + 1) old new
  one-more-value old now new n c s x so hc hs c-is s-is means e = record {
    added = so.added ++ x ∷ [];
    behind = e ∙ ap (λ l. l ++ x ∷ []) so.behind ∙ append_assoc old so.added (x ∷ []);
    many = omega (arith, length_push so.added x, so.many);
    each = λ i call column h. at i call column h (cases_lt i n);
  }
    where
      Meant : GroupCall → StateColumn → Value → Type 0
      Meant k d y = MeansChain (chain_in k.ready) (types_in k.ready) (get_or (trees_in d) place Empty) y

      at : (i : ℕ) (call : GroupCall) (column : StateColumn) → i < n + 1 → (i < n) ⊎ (n ≤ i) → Meant (get_or calls i call) (get_or columns i column) (get_or (so.added ++ x ∷ []) i Nil)
      at i call column h (inl l) =
          subst (Meant (get_or calls i call) (get_or columns i column)) (sym (get_or_append_left so.added (x ∷ []) Nil i (subst (λ m. i < m) (sym so.many) l))) (so.each i call column l)
      at i call column h (inr l) =
          let here : n ≡ i = omega (arith, h, l) in
          subst (Meant (get_or calls i call) (get_or columns i column)) (sym (get_or_push so.added x Nil i (so.many ∙ here)))
          (subst (λ d. Meant (get_or calls i call) d x) (s-is ∙ get_or_default columns n s column hs ∙ ap (λ m. get_or columns m column) here)
          (subst (λ k. Meant k s x) (c-is ∙ get_or_default calls n c call hc ∙ ap (λ m. get_or calls m call) here) means))

-- ---- the line of a group
-- what a group has of feeds are feeds
feeds-here : (v : View) (C : List (Contribution v)) (g : List Value) (i : ℕ) → i < length v.calls → AreContributions v C →
    AreFeeds (call_at v.calls i).chain (call_at v.calls i).types (feeds_of v g i C)
feeds-here v [] g i h all = tt
feeds-here v (c ∷ C) g i h all =
    each-append (IsFeed (call_at v.calls i).chain (call_at v.calls i).types) _ (feeds_of v g i C)
    (cond_both (is_eq (compare_rows g c.0)) (c.1 i) [] (λ l. AreFeeds (call_at v.calls i).chain (call_at v.calls i).types l) (λ _. all.0 i h) (λ _. tt))
    (feeds-here v C g i h all.1)

module _ (g : Grouping) (t : GroupTable) (place : ℕ) (placed : IsPlaced g t place) where
  pub ask-tuple : IsTableOf g t → place < count_in t.keys
  ask-tuple made = subst (λ n. place < n) (sym (count-held g.key_types t.keys made.1.keys made.1.held)) (placed.within made.0 made.1)

  pub ask-place : IsTableOf g t → (columns : List StateColumn) → columns ≡ t.columns.items → All (λ s. place < length (trees_in s)) columns
  ask-place made columns is =
      let within = ask-tuple made in
      each-all (λ s. place < length (trees_in s)) columns
      (each-weaker (λ s. length (trees_in s) ≡ count_in t.keys) (λ s. place < length (trees_in s)) (λ s long. omega (arith, long, within)) columns (columns-long g t made columns is))

  pub ask-columns : IsTableOf g t → (calls : List GroupCall) (columns : List StateColumn) → calls ≡ g.calls → columns ≡ t.columns.items → AreColumns calls columns
  ask-columns made calls columns cs is = subst (λ l. AreColumns l columns) (sym cs) (subst (AreColumns g.calls) (sym is) made.1.shape)

  module _ (ready : IsReady g) (law : LegalIsLawful) (key values : List Value) (tuple : IsTupleAt g.key_types t.keys place key)
      (adds : AddsValues g.calls t.columns.items place (length g.calls) key values) (C : List (Contribution (view_of g))) (a : AreTables g t C) where
    meant : (i : ℕ) → i < length (view_of g).calls → get_or adds.added i Nil ≡ meaning_at (view_of g) C (key_at a.keys place) i
    meant i h =
        let there = subst (λ n. i < n) (length-map g.calls call_of) h in
        let c = some_of g.calls i there in
        let in-columns = subst (λ n. i < n) (sym a.shape.many) there in
        let d = some_of t.columns.items i in-columns in
        let k = key_at a.keys place in
        let means = subst (λ (q : Call). MeansChain q.chain q.types (get_or (trees_in (get_or t.columns.items i d)) place Empty) (get_or adds.added i Nil)) (sym (call-there g.calls i c there))
        (adds.each i c d there) in
        means (feeds_of (view_of g) k i C)
        (legal-at (view_of g).calls i h (view-legal law (map ty_of g.types) (view_of g) ready.fits.calls))
        (feeds-here (view_of g) C k i h a.feeds)
        (ap (λ l. get_or l place Empty) (sym (trees-at t.columns.items i d in-columns)) ∙ a.table.trees i h place (placed.within C a))

    line-means : values ≡ key_at a.keys place ++ map (meaning_at (view_of g) C (key_at a.keys place)) (places 0 (length (view_of g).calls))
    line-means =
        let k = key_at a.keys place in
        adds.behind
        ∙ ap₂ ◌++◌ (tuple.at a.keys a.held)
        (by_places (meaning_at (view_of g) C k) Nil adds.added 0 (length (view_of g).calls) (adds.many ∙ sym (length-map g.calls call_of))
        (λ i h. let z : i ≡ 0 + i = omega arith in meant i h ∙ ap (meaning_at (view_of g) C k) z))

  pub line-is : IsReady g → LegalIsLawful → (calls : List GroupCall) (columns : List StateColumn) → calls ≡ g.calls → columns ≡ t.columns.items → (key values : List Value) →
      IsTupleAt g.key_types t.keys place key → AddsValues calls columns place (length calls) key values → IsLineOf g t place values
  line-is ready law calls columns cs is key values tuple adds = record {
    means =
        line-means ready law key values tuple
        (subst (λ l. AddsValues g.calls l place (length g.calls) key values) is
        (subst (λ l. AddsValues l columns place (length l) key values) cs adds));
  }
