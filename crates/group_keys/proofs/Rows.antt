-- One row more whose key is bytes.
use Rattle.std.proofs.Common.{◌≡◌, ℕ, ◌+◌, ◌-◌, ◌<◌, ◌≤◌, List, [], ◌∷◌, ◌++◌, length, map, get_or, ap, sym, subst, ◌∙◌, arith}
use Rattle.std.specs.List.{All, position_or_len, slice_get}
use Rattle.std.specs.Prelude.{Some}
use Rattle.std.proofs.lemmas.List.{get_or_default, map_push}
use Rattle.std.proofs.lemmas.Option.{get_or_from_slice_get}
use Rattle.indexmap.specs.IndexSet.{insert_key}
use Rattle.agg_terms.specs.Lists.{Each}
use Rattle.agg_terms.specs.Values as family
use Rattle.typed_columns.specs.TypedValues.{TypedValues}
use Rattle.value_types.specs.Folds.{value_of}
use Rattle.value_types.specs.declared.value.Value.{Value}
use Rattle.value_types.specs.declared.value.Value.TheVariants as value
use Rattle.key_methods.specs.KeyBytes.{AreShort, IsShort, only_text, text_of}
use Rattle.key_columns.specs.Words.{key_tuple, key_tuples}
use Rattle.key_columns.proofs.KeyRows.{tuples_more}
use Rattle.group_keys.specs.proving.Texts.{same_bytes}
use Rattle.group_keys.proofs.KeyLists.{Placed, each-push, placed-more}

module _ (f : List family.Value → List ℕ) (columns : List TypedValues) (keys : List ℕ) (from row : ℕ) (text : List ℕ) {start old new : List (List ℕ)} {places more : List ℕ} {p : ℕ} where
  pub row-placed : from ≤ row → Placed same_bytes start (map f (key_tuples columns keys from (row - from))) old places → Each AreShort (key_tuples columns keys from (row - from)) →
      text ≡ f (key_tuple columns keys row) → AreShort (key_tuple columns keys row) → new ≡ insert_key same_bytes old text → p ≡ position_or_len (same_bytes text) old → more ≡ places ++ p ∷ [] →
      Placed same_bytes start (map f (key_tuples columns keys from (row + 1 - from))) new more × Each AreShort (key_tuples columns keys from (row + 1 - from))
  row-placed h before shorts is short n at on =
      let rows = key_tuples columns keys from (row - from) in (
        subst (λ l. Placed same_bytes start l new more)
            (ap (λ t. map f rows ++ t ∷ []) is ∙ sym (map_push f rows (key_tuple columns keys row)) ∙ ap (map f) (sym (tuples_more columns keys from row h)))
            (placed-more same_bytes start (map f rows) old new text places more p before n at on),
        subst (Each AreShort) (sym (tuples_more columns keys from row h)) (each-push AreShort rows (key_tuple columns keys row) shorts short),
      )

-- a key of one String
module _ (columns : List TypedValues) (keys : List ℕ) (from row : ℕ) (c : TypedValues) (v : Value) {start old new : List (List ℕ)} {text places more : List ℕ} {p : ℕ} where
  pub string-placed : length keys ≡ 1 → All (λ k. k < length columns) keys → c ≡ get_or columns (get_or keys 0 0) c → slice_get c.values row ≡ Some v → from ≤ row →
      Placed same_bytes start (map only_text (key_tuples columns keys from (row - from))) old places → Each AreShort (key_tuples columns keys from (row - from)) →
      text ≡ text_of (value_of v) → IsShort (value_of v) → new ≡ insert_key same_bytes old text → p ≡ position_or_len (same_bytes text) old → more ≡ places ++ p ∷ [] →
      Placed same_bytes start (map only_text (key_tuples columns keys from (row + 1 - from))) new more × Each AreShort (key_tuples columns keys from (row + 1 - from))
  string-placed one below is here h before shorts says short n at on =
      row-placed only_text columns keys from row text h before shorts
      (says ∙ ap only_text (alone keys one below is)) (subst AreShort (alone keys one below is) (short, tt)) n at on
    where
      alone : (ks : List ℕ) → length ks ≡ 1 → All (λ k. k < length columns) ks → c ≡ get_or columns (get_or ks 0 0) c → value_of v ∷ [] ≡ key_tuple columns ks row
      alone [] e b i = absurd (omega (arith, e))
      alone (k ∷ j ∷ ks) e b i = absurd (omega (arith, e))
      alone (k ∷ []) e b i =
          ap (λ u. value_of u ∷ [])
          (sym (get_or_from_slice_get c.values row v value.Nil here)
          ∙ ap (λ d. get_or d.values row value.Nil) (i ∙ get_or_default columns k c _ (b 0 0 (omega arith))))
