-- Texts that are cut at the ends of lines.
use Rattle.std.proofs.Common.{◌≡◌, ℕ, zero, suc, ◌+◌, ◌<◌, true, List, [], ◌∷◌, ◌++◌, length, take, drop, get_or, refl, sym, ap, ◌∙◌, arith, subst, append_assoc}
use Rattle.std.proofs.lemmas.List.{append-nil, take-append-drop}
use Rattle.tsv_text.specs.Lines.{is_newline, lines_of}
use Rattle.line_reader.specs.Limits.{ends_line}
use Rattle.line_reader.proofs.Lines.{lines_of-append, lines_of-nil}
use denote.Ref.{Bor}
use Rattle.batch_reader.specs.proving.Pieces.{lines_in}
use Rattle.batch_reader.proofs.Lanes.{lines_in-append}

-- up to a newline
ends-at : (text : List ℕ) (end : ℕ) → end < length text → get_or text end 0 ≡ 10 → ends_line (take (suc end) text) ≡ true
ends-at [] end within newline = absurd (omega (arith, within))
ends-at (b ∷ bs) zero within newline = ap is_newline newline
ends-at (b ∷ []) (suc end) within newline = absurd (omega (arith, within))
ends-at (b ∷ c ∷ bs) (suc zero) within newline = ap is_newline newline
ends-at (b ∷ c ∷ bs) (suc (suc end)) within newline = ends-at (c ∷ bs) (suc end) (omega (arith, within)) newline

-- behind a newline
pub lines-split : (text : List ℕ) (end : ℕ) → end < length text → get_or text end 0 ≡ 10 → lines_of text ≡ lines_of (take (end + 1) text) ++ lines_of (drop (end + 1) text)
lines-split text end within newline =
    let next : suc end ≡ end + 1 = omega arith in
    let ends = subst (λ (k : ℕ). ends_line (take k text) ≡ true) next (ends-at text end within newline) in
    ap lines_of (sym (take-append-drop (end + 1) text)) ∙ lines_of-append (take (end + 1) text) (drop (end + 1) text) ends

-- one piece more
pub cut-more : (pieces : List (Bor (List ℕ))) (piece : Bor (List ℕ)) (text left rest : List ℕ) → lines_in pieces ++ lines_of left ≡ lines_of text → lines_of left ≡ lines_of piece.now ++ lines_of rest
    → lines_in (pieces ++ piece ∷ []) ++ lines_of rest ≡ lines_of text
cut-more pieces piece text left rest so_far cut =
    ap (λ (l : List (List ℕ)). l ++ lines_of rest) (lines_in-append pieces (piece ∷ []) ∙ ap (λ (l : List (List ℕ)). lines_in pieces ++ l) (append-nil (lines_of piece.now)))
    ∙ append_assoc (lines_in pieces) (lines_of piece.now) (lines_of rest) ∙ ap (λ (l : List (List ℕ)). lines_in pieces ++ l) (sym cut) ∙ so_far

nothing-left : (xs : List ℕ) → length xs ≡ 0 → xs ≡ []
nothing-left [] e = refl
nothing-left (x ∷ xs) e = absurd (omega (arith, e))

-- all pieces
pub cut-done : (pieces : List (Bor (List ℕ))) (text left : List ℕ) → lines_in pieces ++ lines_of left ≡ lines_of text → length left ≡ 0 → lines_in pieces ≡ lines_of text
cut-done pieces text left so_far empty =
    sym (ap (λ (xs : List ℕ). lines_in pieces ++ lines_of xs) (nothing-left left empty) ∙ ap (λ (l : List (List ℕ)). lines_in pieces ++ l) lines_of-nil ∙ append-nil (lines_in pieces)) ∙ so_far
