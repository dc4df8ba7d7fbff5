-- The first line of bytes where more come behind them.
use Rattle.std.proofs.Common.{◌≡◌, ℕ, ◌+◌, ◌≤◌, ◌<◌, true, false, not, cond, List, [], ◌∷◌, ◌++◌, length, sym, ap, ◌∙◌, arith, length-append}
use mathlib.Core.Logic.{inl, inr}
use Rattle.std.proofs.lemmas.List.{length-take-le}
use Rattle.std.proofs.lemmas.Bool.{cases_lt}
use Rattle.std.specs.List.{position_or_len}
use Rattle.tsv_text.specs.Lines.{is_newline}
use Rattle.line_reader.specs.Limits.{next_of, bytes_to_end, IsTooLong, IsTooLarge}
use Rattle.line_reader.proofs.Lines.{Kind, newline, other, kind_of}

abbrev pub place : List ℕ → ℕ
place bytes = position_or_len is_newline bytes

pub place-newline : (b : ℕ) (bs : List ℕ) → is_newline b ≡ true → place (b ∷ bs) ≡ 0
place-newline b bs e = ap (λ t. cond (not t) (1 + place bs) 0) e

pub place-other : (b : ℕ) (bs : List ℕ) → is_newline b ≡ false → place (b ∷ bs) ≡ 1 + place bs
place-other b bs e = ap (λ t. cond (not t) (1 + place bs) 0) e

within-step : (b : ℕ) (bs : List ℕ) → Kind b → place bs ≤ length bs → place (b ∷ bs) ≤ length (b ∷ bs)
within-step b bs (newline e) h = omega (arith, place-newline b bs e)
within-step b bs (other e) h = omega (arith, place-other b bs e)

place-within : (bytes : List ℕ) → place bytes ≤ length bytes
place-within [] = omega arith
place-within (b ∷ bs) = within-step b bs (kind_of b) (place-within bs)

pub length-next : (bytes : List ℕ) → length (next_of bytes) ≡ place bytes
length-next bytes = length-take-le (place bytes) bytes (place-within bytes)

grows-step : (b : ℕ) (bs more : List ℕ) → Kind b → place bs ≤ place (bs ++ more) → place (b ∷ bs) ≤ place (b ∷ bs ++ more)
grows-step b bs more (newline e) h = omega (arith, place-newline b bs e)
grows-step b bs more (other e) h = omega (arith, place-other b bs e, place-other b (bs ++ more) e)

place-grows : (bytes more : List ℕ) → place bytes ≤ place (bytes ++ more)
place-grows [] more = omega arith
place-grows (b ∷ bs) more = grows-step b bs more (kind_of b) (place-grows bs more)

stays-step : (b : ℕ) (bs more : List ℕ) → Kind b → place (b ∷ bs) < length (b ∷ bs) → (place bs < length bs → place (bs ++ more) ≡ place bs) → place (b ∷ bs ++ more) ≡ place (b ∷ bs)
stays-step b bs more (newline e) within h = place-newline b (bs ++ more) e ∙ sym (place-newline b bs e)
stays-step b bs more (other e) within h =
    place-other b (bs ++ more) e ∙ ap (λ (n : ℕ). 1 + n) (h (omega (arith, within, place-other b bs e))) ∙ sym (place-other b bs e)

-- where there is a newline it stays the first
pub place-stays : (bytes more : List ℕ) → place bytes < length bytes → place (bytes ++ more) ≡ place bytes
place-stays [] more within = absurd (omega arith)
place-stays (b ∷ bs) more within = stays-step b bs more (kind_of b) within (place-stays bs more)

pub long-grows : (m r : ℕ) (bytes more : List ℕ) → IsTooLong m r bytes → IsTooLong m r (bytes ++ more)
long-grows m r bytes more long = (omega (arith, long.0, length-next bytes, length-next (bytes ++ more), place-grows bytes more), long.1)

pub large-grows : (m r : ℕ) (bytes more : List ℕ) → IsTooLarge m r bytes → IsTooLarge m r (bytes ++ more)
large-grows m r bytes more large =
    let more_bytes : r < bytes_to_end (bytes ++ more) = omega (arith, large.0, length-next bytes, length-next (bytes ++ more), place-grows bytes more, length-append bytes more) in (
      more_bytes,
      elim large.1 [
        | inl few ↦ elim (cases_lt (place bytes) (length bytes)) [
          | inl cut ↦ inl (omega (arith, few, length-next bytes, length-next (bytes ++ more), place-stays bytes more cut))
          | inr whole ↦ inr (omega (arith, few, large.0, length-next bytes, place-within bytes, whole))
        ]
        | inr small ↦ inr small
      ],
    )
