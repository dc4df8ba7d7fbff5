-- The first line of a text.
use Rattle.std.proofs.Common.{◌≡◌, ℕ, suc, ◌+◌, ◌<◌, Bool, true, false, List, [], ◌∷◌, Some, None, length, take, drop, get_or, cond, refl, ◌∙◌, ap, arith}
use Rattle.std.specs.List.{slice_split, onto_first}
use Rattle.std.proofs.lemmas.Bool.Decides.{nat_tests}
use Rattle.memchr.specs.Find.{IsFirstByte, is_byte}
use Rattle.tsv_text.specs.Lines.{is_newline, lines_of, without_empty_last}
use Rattle.quick_rows.specs.Taking.{Fails}
use Rattle.quick_rows.proofs.Fronts.{fails_by, split-front, split-whole, split_here}

-- a list of parts is never empty, so that the part before it is kept
part-kept : (x : List ℕ) (text : List ℕ) → without_empty_last (x ∷ slice_split is_newline text) ≡ x ∷ without_empty_last (slice_split is_newline text)
part-kept x [] = refl
part-kept x (y ∷ ys) =
    elim (is_newline y) as (λ b. without_empty_last (x ∷ cond b ([] ∷ slice_split is_newline ys) (onto_first y (slice_split is_newline ys))) ≡ x ∷ without_empty_last (cond b ([] ∷ slice_split is_newline ys) (onto_first y (slice_split is_newline ys)))) [
      | true ↦ refl
      | false ↦ elim (slice_split is_newline ys) as (λ parts. without_empty_last (x ∷ onto_first y parts) ≡ x ∷ without_empty_last (onto_first y parts)) [ [] ↦ refl | part ∷ parts ↦ refl ]
    ]

not_true : (b : Bool) → (b ≡ true → ⊥) → b ≡ false
not_true true h = absurd (h refl)
not_true false h = refl

pub lines_of-newline : (text : List ℕ) (at : ℕ) → IsFirstByte (is_byte 10) text (Some at) → lines_of text ≡ take at text ∷ lines_of (drop (at + 1) text)
unfolding lines_of
lines_of-newline text at found =
    let plain = fails_by is_newline text at (omega (arith, found.0.high)) (λ k less. not_true _ (found.0.before k (omega arith) less)) in
    ap lines_of (split_here text at found.0.high) ∙ ap without_empty_last (split-front is_newline (take at text) (get_or text at 0) (drop (at + 1) text) plain found.1) ∙ part-kept (take at text) (drop (at + 1) text)

fails_whole : (text : List ℕ) → ((k : ℕ) → k < length text → is_newline (get_or text k 0) ≡ false) → Fails is_newline text
fails_whole [] f = tt
fails_whole (b ∷ text) f = (f 0 (omega arith), fails_whole text (λ k less. f (suc k) (omega arith)))

pub lines_of-none : (text : List ℕ) → IsFirstByte (is_byte 10) text None → 0 < length text → lines_of text ≡ text ∷ []
unfolding lines_of
lines_of-none text found some =
    ap without_empty_last (split-whole is_newline text (fails_whole text (λ k less. not_true _ (found k (omega arith) less)))) ∙ grind (arith, nat_tests)
