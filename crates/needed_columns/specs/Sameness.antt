-- Rows with their marked fields alone bring to a view over these what the whole rows bring to the view.
use Rattle.std.specs.Prelude.{◌≡◌, ℕ, Bool, List, length, map}
use Rattle.agg_terms.specs.Lists.{Each}
use Rattle.agg_terms.specs.Values.{Value}
use Rattle.agg_meaning.specs.Views.{View, answer, call_at, items_at, of_row, tables}
use Rattle.quick_rows.specs.Keeping.{kept}

-- For rows of so many fields: the key tuple and the arguments of each call are the same, and so are the answer and the tables.
pub record AreSame (columns : ℕ) (marks : List Bool) (v few : View) : Type 0 where
  pub same_keys : (row : List Value) → length row ≡ columns → items_at few.keys (kept marks row) ≡ items_at v.keys row
  pub same_number : length few.calls ≡ length v.calls
  pub same_arguments : (row : List Value) (i : ℕ) → length row ≡ columns → items_at (call_at few.calls i).columns (kept marks row) ≡ items_at (call_at v.calls i).columns row
  pub same_answer : (rows : List (List Value)) → Each (λ row. length row ≡ columns) rows → answer few (map (of_row few) (map (kept marks) rows)) ≡ answer v (map (of_row v) rows)
  pub same_tables : (rows : List (List Value)) → Each (λ row. length row ≡ columns) rows → tables few (map (of_row few) (map (kept marks) rows)) ≡ tables v (map (of_row v) rows)
