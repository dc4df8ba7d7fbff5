-- The first line of a text.
use Rattle.std.proofs.Common.{◌≡◌, ℕ, ◌+◌, ◌<◌, ◌≤◌, Bool, true, false, List, [], ◌∷◌, Option, None, Some, length, take, drop, cond, refl, ◌∙◌, ap, arith}
use Rattle.std.specs.List.{slice_split, onto_first, position, position_or_len}
use Rattle.std.proofs.lemmas.Grind.{common_steps}
use Rattle.std.proofs.lemmas.List.Splits.{slice_split_first, slice_split_none}
use Rattle.std.proofs.lemmas.Bool.Decides.{nat_tests}
use Rattle.std.proofs.lemmas.List.Sums.{fails_before_first}
use Rattle.tsv_text.proofs.First.{found-first, nowhere}
use Rattle.tsv_text.specs.Lines.{is_newline, without_empty_last, lines_of}

-- a list of parts is never empty, so that the part before it is kept
front-kept : (x : List ℕ) (p : ℕ → Bool) (ys : List ℕ) → without_empty_last (x ∷ slice_split p ys) ≡ x ∷ without_empty_last (slice_split p ys)
front-kept x p [] = refl
front-kept x p (y ∷ ys) =
    elim (p y) as (λ b. without_empty_last (x ∷ cond b ([] ∷ slice_split p ys) (onto_first y (slice_split p ys))) ≡ x ∷ without_empty_last (cond b ([] ∷ slice_split p ys) (onto_first y (slice_split p ys)))) [
      | true ↦ refl
      | false ↦ elim (slice_split p ys) as (λ parts. without_empty_last (x ∷ onto_first y parts) ≡ x ∷ without_empty_last (onto_first y parts)) [ [] ↦ refl | part ∷ parts ↦ refl ]
    ]

-- up to the first such byte, and behind it
pub split-found : (p : ℕ → Bool) (xs : List ℕ) (at : ℕ) → position p xs ≡ Some at → slice_split p xs ≡ take at xs ∷ slice_split p (drop (at + 1) xs)
split-found p xs at found = let first = found-first p xs at found in rw (first.1) at (slice_split_first p xs 0 first.0)

-- where there is none
pub split-none : (p : ℕ → Bool) (xs : List ℕ) → position p xs ≡ None → slice_split p xs ≡ xs ∷ []
split-none p xs found =
    let none : length xs ≤ position_or_len p xs = nowhere p xs found in
    slice_split_none p xs (λ k d within. fails_before_first p xs k d (omega arith))

pub lines_of-newline : (text : List ℕ) (at : ℕ) → position is_newline text ≡ Some at → lines_of text ≡ take at text ∷ lines_of (drop (at + 1) text)
unfolding lines_of
lines_of-newline text at found =
    ap without_empty_last (split-found is_newline text at found) ∙ front-kept (take at text) is_newline (drop (at + 1) text)

pub lines_of-none : (text : List ℕ) → position is_newline text ≡ None → 0 < length text → lines_of text ≡ text ∷ []
unfolding lines_of
lines_of-none text found some = ap without_empty_last (split-none is_newline text found) ∙ grind (arith, nat_tests)
