-- The whole lines of a block that grows.
use Rattle.std.proofs.Common.{◌≡◌, ℕ, ◌+◌, ◌-◌, ◌≤◌, true, List, [], ◌++◌, Option, None, Some, length, take, drop, min, refl, sym, ap, ◌∙◌, arith, subst, append_assoc, length-append, length-drop, length-take}
use Rattle.std.proofs.lemmas.List.{take_all, drop-drop, take-take, drop-take, take-append-le, length-take-le}
use Rattle.std.proofs.lemmas.Bool.{cases_lt}
use mathlib.Core.Logic.{inl, inr}
use Rattle.std.proofs.Math.Seq.{take-add}
use Rattle.std.specs.List.{slice_range}
use Rattle.std.specs.Io.KnownBytes.{Consumes, Keeps}
use Rattle.tsv_text.specs.Lines.{lines_of}
use Rattle.line_reader.specs.Limits.{IsUnbroken, ends_line, AreShort}
use Rattle.line_reader.specs.Filling.{HasCut}
use Rattle.line_reader.proofs.Lines.{lines_of-append, lines_of-nil, ends_line-append, short-append, short-ended}

-- no line is whole yet
pub no-cut : (m r : ℕ) (bytes : List ℕ) → length bytes ≤ m + 1 → length bytes ≤ r + 1 → HasCut m r bytes 0
no-cut m r bytes line input = record {
  within = omega arith;
  whole = refl;
  short = subst (AreShort m) (sym lines_of-nil) tt;
  below = omega arith;
  line = omega arith;
  input = input;
}

-- a front of a run is a front of what the run begins
front-of-run : (bytes : List ℕ) (cut end w : ℕ) → w ≤ end - cut → take w (slice_range bytes cut end) ≡ take w (drop cut bytes)
front-of-run bytes cut end w within = take-take w (end - cut) (drop cut bytes) within

-- more whole lines behind those that are known
pub further-cut : (m r : ℕ) (bytes : List ℕ) (cut end w : ℕ) → HasCut m r bytes cut → end ≤ length bytes → end ≤ r → w ≤ end - cut → cut ≤ end
    → ends_line (take w (slice_range bytes cut end)) ≡ true → HasCut m r bytes (cut + w)
further-cut m r bytes cut end w known within below fits order ends =
    let more_is = front-of-run bytes cut end w fits in
    let more_ends : ends_line (take w (drop cut bytes)) ≡ true = sym (ap ends_line more_is) ∙ ends in
    let split = take-add cut w bytes in
    let few : length (take w (drop cut bytes)) ≡ w = length-take-le w (drop cut bytes) (omega (arith, length-drop cut bytes)) in
    record {
      within = omega arith;
      whole = ap ends_line split ∙ ends_line-append (take cut bytes) (take w (drop cut bytes)) known.whole more_ends;
      short = subst (λ (text : List ℕ). AreShort m (lines_of text)) (sym split)
          (subst (AreShort m) (sym (lines_of-append (take cut bytes) (take w (drop cut bytes)) known.whole))
          (short-append m (lines_of (take cut bytes)) (lines_of (take w (drop cut bytes))) known.short (short-ended m (take w (drop cut bytes)) more_ends (omega (arith, few, known.line)))));
      below = omega arith;
      line = omega (arith, known.line);
      input = known.input;
    }

take-enough : (xs : List ℕ) (a b : ℕ) → length xs ≤ a → length xs ≤ b → take a xs ≡ take b xs
take-enough xs a b p q = take_all a xs p ∙ sym (take_all b xs q)

-- behind the last whole line there is no newline
pub open-behind : (bytes : List ℕ) (cut end w r : ℕ) → w ≤ end - cut → cut ≤ end → end ≡ min (length bytes) r
    → IsUnbroken (drop w (slice_range bytes cut end)) → IsUnbroken (take (r - (cut + w)) (drop (cut + w) bytes))
open-behind bytes cut end w r fits order end_is unbroken =
    let width : w + (end - (cut + w)) ≡ end - cut = omega arith in
    let behind : drop w (slice_range bytes cut end) ≡ take (end - (cut + w)) (drop (cut + w) bytes) =
    ap (λ (k : ℕ). drop w (take k (drop cut bytes))) (sym width) ∙ drop-take w (end - (cut + w)) (drop cut bytes) ∙ ap (take (end - (cut + w))) (drop-drop w cut bytes) in
    let here = subst IsUnbroken behind unbroken in
    let same : take (end - (cut + w)) (drop (cut + w) bytes) ≡ take (r - (cut + w)) (drop (cut + w) bytes) = elim (cases_lt r (length bytes)) [
      | inl less ↦ ap (λ (k : ℕ). take (k - (cut + w)) (drop (cut + w) bytes)) (omega arith)
      | inr more ↦ take-enough (drop (cut + w) bytes) (end - (cut + w)) (r - (cut + w)) (omega (arith, length-drop (cut + w) bytes, more)) (omega (arith, length-drop (cut + w) bytes, more))
    ] in
    subst IsUnbroken same here

pub consumes-none : (left : Option (List ℕ)) → Consumes left left []
consumes-none None = tt
consumes-none (Some xs) = refl

pub consumes-more : (first left rest : Option (List ℕ)) (xs ys : List ℕ) → Consumes first left xs → Consumes left rest ys → Consumes first rest (xs ++ ys)
consumes-more None left rest xs ys a b = tt
consumes-more (Some first) None rest xs ys a b = absurd a
consumes-more (Some first) (Some left) None xs ys a b = b
consumes-more (Some first) (Some left) (Some rest) xs ys a b = a ∙ ap (λ (t : List ℕ). xs ++ t) b ∙ sym (append_assoc xs ys rest)

pub keeps-consumed : (first left rest : Option (List ℕ)) (xs : List ℕ) → Consumes first left xs → Keeps left rest → Consumes first rest xs
keeps-consumed None left rest xs a b = tt
keeps-consumed (Some first) None rest xs a b = absurd a
keeps-consumed (Some first) (Some left) None xs a b = b
keeps-consumed (Some first) (Some left) (Some rest) xs a b = a ∙ ap (λ (t : List ℕ). xs ++ t) (sym b)

-- whole lines stay where bytes come behind them
pub cut-kept : (m r : ℕ) (bytes piece all : List ℕ) (cut most : ℕ) → HasCut m r bytes cut → all ≡ bytes ++ piece → length piece ≤ most
    → length bytes + most ≤ cut + m + 1 → length bytes + most ≤ r + 1 → HasCut m r all cut
cut-kept m r bytes piece all cut most known all_is few line input =
    let front : take cut all ≡ take cut bytes = ap (take cut) all_is ∙ take-append-le cut bytes piece known.within in
    let long : length all ≡ length bytes + length piece = ap length all_is ∙ length-append bytes piece in
    record {
      within = omega (arith, known.within, long);
      whole = ap ends_line front ∙ known.whole;
      short = subst (λ (text : List ℕ). AreShort m (lines_of text)) (sym front) known.short;
      below = known.below;
      line = omega (arith, long);
      input = omega (arith, long);
    }

-- no front of a run is longer than the run
pub run-few : (bytes : List ℕ) (cut end w : ℕ) → w ≤ length (slice_range bytes cut end) → w ≤ end - cut
run-few bytes cut end w h = omega (arith, h, length-take (end - cut) (drop cut bytes))
