-- The lines of a table's groups are its answer, and each of them is written.
use Rattle.std.proofs.Common.{◌≡◌, ℕ, zero, suc, ◌<◌, List, [], ◌∷◌, ◌++◌, length, map, get_or, refl, sym, ap, ◌∙◌, subst, arith}
use Rattle.agg_terms.specs.Chains.{Ty}
use Rattle.agg_terms.specs.Lists.{Each, places}
use Rattle.agg_terms.specs.Values.{Value}
use Rattle.agg_meaning.specs.Feeds.{AreValues}
use Rattle.agg_meaning.specs.Views.{Contribution, View, groups, meaning_at}
use Rattle.result_laws.specs.ResultLaws.{MeaningsFit}
use Rattle.scalar_texts.specs.States.{AllStates}
use Rattle.tsv_values.specs.Writing.{WritesStates}
use Rattle.value_types.specs.Folds.{ty_of, value_of}
use Rattle.value_types.specs.Images.{TypesHaveWidths}
use Rattle.value_types.specs.declared.ty.Ty as rust
use Rattle.value_types.specs.declared.ty.Ty.TheVariants as rust_types
use Rattle.value_types.specs.declared.value.Value as rust_values
use Rattle.answer_texts.specs.Lines.{AreWritten, answer_text, with_results}
use Rattle.key_methods.specs.Tuples.{IsTuple}
use Rattle.group_tables.specs.Groupings.{IsReady, answer_types, view_of}
use Rattle.group_tables.specs.Reading.{AreInOrder, IsLineOf, IsPlaced, key_at}
use Rattle.group_tables.specs.Tables.{IsTableOf}
use Rattle.group_tables.specs.declared.grouping.Grouping.{Grouping}
use Rattle.group_tables.specs.declared.table.GroupTable.{GroupTable}
use Rattle.group_answers.specs.Answers.{AddsAnswer}
use Rattle.group_answers.specs.proving.Lines.{AddsLines, values_at}
use Rattle.group_answers.proofs.WrittenLines.{Fit, fit-written, line-fits}

-- ---- the answer
lines-are : (v : View) (C : List (Contribution v)) (keys : List (List Value))
    → map with_results (map (λ key. (key, map (meaning_at v C key) (places 0 (length v.calls)))) keys) ≡ map (values_at v C) keys
lines-are v C [] = refl
lines-are v C (key ∷ keys) = ap (λ lines. values_at v C key ∷ lines) (lines-are v C keys)

-- the lines of the groups in order are the answer
pub all-lines : (writes : WritesStates) (g : Grouping) (t : GroupTable) (order old new : List ℕ) → AreInOrder g t order
    → AddsLines writes g t order old new → AddsAnswer writes g t old new
all-lines writes g t order old new put lines = record {
  adds = λ C a.
      let types = answer_types (map ty_of g.types) (view_of g) in
      lines.adds C a ∙ ap (λ keys. old ++ answer_text writes types (map (values_at (view_of g) C) keys)) (put.groups_are C a)
      ∙ ap (λ ls. old ++ answer_text writes types ls) (sym (lines-are (view_of g) C (groups (view_of g) C)));
}

-- ---- a line
tuple-at : (types : List rust.Ty) (keys : List (List Value)) (i : ℕ) → i < length keys → Each (IsTuple types) keys → AreValues (map ty_of types) (get_or keys i [])
tuple-at types [] i h all = absurd (omega (arith, h))
tuple-at types (k ∷ keys) zero h all = all.0.fits
tuple-at types (k ∷ keys) (suc i) h all = tuple-at types keys i (omega (arith, h)) all.1

module _ (fit : MeaningsFit) (widths : TypesHaveWidths) (g : Grouping) (t : GroupTable) (ready : IsReady g) (table : IsTableOf g t) where
  key-fits : (place : ℕ) → IsPlaced g t place → AreValues (map ty_of (map (λ k. get_or g.types k rust_types.Str) g.keys)) (key_at table.1.keys place)
  key-fits place placed =
      let a = table.1 in
      subst (λ ts. AreValues (map ty_of ts) (key_at a.keys place)) ready.key_types_are (tuple-at g.key_types a.keys place (placed.within table.0 a) a.held.tuples)

  pub line-written : (takes : Ty → Type 0) (types : List rust.Ty) (values : List rust_values.Value) (place : ℕ)
      → map ty_of types ≡ answer_types (map ty_of g.types) (view_of g) → Each (AllStates takes) (answer_types (map ty_of g.types) (view_of g))
      → IsPlaced g t place → IsLineOf g t place (map value_of values) → AreWritten takes types values
  line-written takes types values place types-are states placed line =
      fit-written takes types values (subst (Each (AllStates takes)) (sym types-are) states)
      (subst (λ ts. Fit ts (map value_of values)) (sym types-are)
      (subst (Fit (answer_types (map ty_of g.types) (view_of g))) (sym (line.means table.0 table.1))
      (line-fits fit widths g.types (view_of g) ready.fits table.0 table.1.feeds (key_at table.1.keys place) (key-fits place placed))))
