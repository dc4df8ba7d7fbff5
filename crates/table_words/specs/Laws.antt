-- What a table becomes: with rows fed by the places of their keys it is the table of its contributions and the rows, and with a
-- later table merged by the places of its keys the table of the contributions of both.
use Rattle.std.specs.Prelude.{◌≡◌, ◌<◌, ◌++◌, ℕ, List, [], ◌∷◌, get_or, length, map}
use Rattle.agg_terms.specs.Chains.{Chain, Ty}
use Rattle.agg_terms.specs.Values.{Empty, Tree, Value}
use Rattle.agg_meaning.specs.Feeds.{opened}
use Rattle.agg_meaning.specs.States.{Joins, TakesFeeds}
use Rattle.agg_meaning.specs.Views.{AreContributions, Contribution, IsLegalView, View, call_at, items_at, of_row}
use Rattle.table_words.specs.KeyLists.{keys_with, places_of, reaching}
use Rattle.table_words.specs.Tables.{IsTable, same_tuple, tree_at}

-- the keys of rows
abbrev pub row_keys : View → List (List Value) → List (List Value)
row_keys v rows = map (items_at v.keys) rows

-- the arguments of a call in rows
abbrev pub arguments_of : View → ℕ → List (List Value) → List (List Value)
arguments_of v i rows = map (items_at (call_at v.calls i).columns) rows

-- each tree with the rows of its place behind those that it stood for; a new key's tree begins as that of no rows
pub record TakesRows (v : View) (rows : List (List Value)) (ps : List ℕ) (count : ℕ) (old new : ℕ → List Tree) : Type 0 where
  pub long : (i : ℕ) → i < length v.calls → length (new i) ≡ count
  pub trees : (i : ℕ) → i < length v.calls → (g : ℕ) → g < count →
      TakesFeeds (call_at v.calls i).chain (call_at v.calls i).types (map (opened (call_at v.calls i).chain) (reaching g ps (arguments_of v i rows)))
      (tree_at v i (old i) g) (get_or (new i) g Empty)

abbrev pub RowsAreFed : Type 0
RowsAreFed = (v : View) (C : List (Contribution v)) (ks : List (List Value)) (rows : List (List Value)) (old new : ℕ → List Tree) →
    IsLegalView v → AreContributions v (map (of_row v) rows) → IsTable v C ks old →
    TakesRows v rows (places_of same_tuple ks (row_keys v rows)) (length (keys_with same_tuple ks (row_keys v rows))) old new →
    IsTable v (C ++ map (of_row v) rows) (keys_with same_tuple ks (row_keys v rows)) new

-- later trees joined behind, one after another
abbrev pub JoinsAll : Chain → List Ty → List Tree → Tree → Tree → Type 0
JoinsAll c ts [] t v = t ≡ v
JoinsAll c ts (u ∷ us) t v = (w : Tree) × Joins c ts t u w × JoinsAll c ts us w v

-- each tree with the later trees of its place joined behind; a new key's tree begins as that of no rows
pub record TakesTrees (v : View) (later : ℕ → List Tree) (ps : List ℕ) (count : ℕ) (old new : ℕ → List Tree) : Type 0 where
  pub long : (i : ℕ) → i < length v.calls → length (new i) ≡ count
  pub trees : (i : ℕ) → i < length v.calls → (g : ℕ) → g < count →
      JoinsAll (call_at v.calls i).chain (call_at v.calls i).types (reaching g ps (later i)) (tree_at v i (old i) g) (get_or (new i) g Empty)

abbrev pub TablesAreMerged : Type 0
TablesAreMerged = (v : View) (C D : List (Contribution v)) (ks ls : List (List Value)) (old later new : ℕ → List Tree) →
    IsTable v C ks old → IsTable v D ls later →
    TakesTrees v later (places_of same_tuple ks ls) (length (keys_with same_tuple ks ls)) old new →
    IsTable v (C ++ D) (keys_with same_tuple ks ls) new
