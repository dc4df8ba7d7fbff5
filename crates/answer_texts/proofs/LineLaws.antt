-- Lines that are written one by one.
use Rattle.std.proofs.Common.{◌≡◌, add-one, ℕ, zero, suc, ◌+◌, ◌<◌, List, [], ◌∷◌, ◌++◌, length, map, take, get_or, ap, sym, subst, ◌∙◌, refl, arith, append_assoc}
use Rattle.std.proofs.lemmas.List.{append-nil}
use Rattle.agg_terms.specs.Chains as terms
use Rattle.agg_terms.specs.Lists.{Each}
use Rattle.tsv_values.specs.Writing.{WritesStates}
use Rattle.value_types.specs.Folds.{value_of}
use Rattle.value_types.specs.declared.ty.Ty.{Ty}
use Rattle.value_types.specs.declared.value.Value.{Value}
use Rattle.answer_texts.specs.Lines.{AreWritten, answer_text, line_text}

-- one line more
pub lines_more : (writes : WritesStates) (types : List terms.Ty) (old now next : List ℕ) (lines : List (List Value)) (i : ℕ) (line : List Value) → now ≡ old ++ answer_text writes types (map (map value_of) (take i lines)) → i < length lines
    → line ≡ get_or lines i line → next ≡ now ++ line_text writes types (map value_of line) → next ≡ old ++ answer_text writes types (map (map value_of) (take (i + 1) lines))
lines_more writes types old now next lines i line so within is added =
    added ∙ ap (λ front. front ++ line_text writes types (map value_of line)) so
    ∙ append_assoc old (answer_text writes types (map (map value_of) (take i lines))) (line_text writes types (map value_of line))
    ∙ ap (λ more. old ++ more) (sym (behind lines i within is)) ∙ ap (λ n. old ++ answer_text writes types (map (map value_of) (take n lines))) (sym (add-one i))
  where
    behind : (lines : List (List Value)) (i : ℕ) → i < length lines → line ≡ get_or lines i line
        → answer_text writes types (map (map value_of) (take (suc i) lines)) ≡ answer_text writes types (map (map value_of) (take i lines)) ++ line_text writes types (map value_of line)
    behind [] i within is = absurd (omega arith)
    behind (l ∷ lines) zero within is = append-nil (line_text writes types (map value_of l)) ∙ ap (λ m. line_text writes types (map value_of m)) (sym is)
    behind (l ∷ lines) (suc i) within is =
        ap (λ more. line_text writes types (map value_of l) ++ more) (behind lines i (omega (arith, within)) is)
        ∙ sym (append_assoc (line_text writes types (map value_of l)) (answer_text writes types (map (map value_of) (take i lines))) (line_text writes types (map value_of line)))

pub lines_done : (writes : WritesStates) (types : List terms.Ty) (old now : List ℕ) (lines : List (List Value)) (i : ℕ) → now ≡ old ++ answer_text writes types (map (map value_of) (take i lines)) → i ≡ length lines
    → now ≡ old ++ answer_text writes types (map (map value_of) lines)
lines_done writes types old now lines i so end = so ∙ ap (λ n. old ++ answer_text writes types (map (map value_of) (take n lines))) end ∙ ap (λ ls. old ++ answer_text writes types (map (map value_of) ls)) (all lines)
  where
    all : (ls : List (List Value)) → take (length ls) ls ≡ ls
    all [] = refl
    all (l ∷ ls) = ap (◌∷◌ l) (all ls)

pub written_at : (takes : terms.Ty → Type 0) (types : List Ty) (lines : List (List Value)) (i : ℕ) (line : List Value) → Each (AreWritten takes types) lines → i < length lines → line ≡ get_or lines i line → AreWritten takes types line
written_at takes types [] i line h within is = absurd (omega arith)
written_at takes types (l ∷ lines) zero line h within is = subst (AreWritten takes types) (sym is) h.0
written_at takes types (l ∷ lines) (suc i) line h within is = written_at takes types lines i line h.1 (omega (arith, within)) is

pub ruleset line_laws = (lines_more, lines_done, written_at)
