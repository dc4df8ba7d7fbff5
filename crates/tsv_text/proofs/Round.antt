-- What is written is read again: written bytes are pieces that stand for them.
use Rattle.std.proofs.Common.{◌≡◌, ℕ, suc, Bool, true, false, cond, List, [], ◌∷◌, ◌++◌, take, drop, get_or, Ok, Option, Some, None, refl, sym, ap, ◌∙◌, append_assoc, append-nil, eqb, inl, inr, ◌⊎◌}
use Rattle.std.specs.List.{position}
use Rattle.std.proofs.lemmas.Bool.{eqb-true}
use Rattle.std.proofs.lemmas.Bool.Decides.{eqb_tells}
use Rattle.std.proofs.lemmas.List.Concat.{flat_map-cons}
use Rattle.tsv_text.specs.Escapes.{Piece, plain, letter, piece_text, piece_byte, IsPiece, ArePieces, pieces_then, pieces_bytes, meaning_of, is_escaped, letter_of, escaped_byte, escaped, IsUnescaped}
use Rattle.tsv_text.proofs.First.{Fails, IsFirst, first_found, all_fail}

escaped-cons : (b : ℕ) (bs : List ℕ) → escaped (b ∷ bs) ≡ escaped_byte b ++ escaped bs
escaped-cons b bs = flat_map-cons escaped_byte b bs

-- bytes that are written as they are
escaped-front : (front rest : List ℕ) → Fails is_escaped front → escaped (front ++ rest) ≡ front ++ escaped rest
escaped-front [] rest fails = refl
escaped-front (b ∷ front) rest fails =
    escaped-cons b (front ++ rest) ∙ ap (λ t. cond t (92 ∷ letter_of b ∷ []) (b ∷ []) ++ escaped (front ++ rest)) fails.0 ∙ ap (λ x. b ∷ x) (escaped-front front rest fails.1)

-- up to the first byte that has an escape, and its escape
pub escaped-step : (rest : List ℕ) (at : ℕ) → position is_escaped rest ≡ Some at → escaped rest ≡ take at rest ++ (92 ∷ letter_of (get_or rest at 0) ∷ escaped (drop (suc at) rest))
escaped-step rest at found =
    let f = first_found is_escaped rest at found in
    let b = get_or rest at 0 in
    ap escaped f.whole ∙ escaped-front (take at rest) (b ∷ drop (suc at) rest) f.fails
    ∙ ap (λ x. take at rest ++ x) (escaped-cons b (drop (suc at) rest) ∙ ap (λ t. cond t (92 ∷ letter_of b ∷ []) (b ∷ []) ++ escaped (drop (suc at) rest)) f.passes)

pub escaped-end : (rest : List ℕ) → position is_escaped rest ≡ None → escaped rest ≡ rest
escaped-end rest none = ap escaped (sym (append-nil rest)) ∙ escaped-front rest [] (all_fail is_escaped rest none) ∙ append-nil rest

-- the piece that is written for a byte
record IsWritten (b : ℕ) : Type 0 where
  piece : Piece
  fits : IsPiece piece
  text : escaped_byte b ≡ piece_text piece
  byte : b ≡ piece_byte piece

-- a byte that has an escape
by_letter : (b c l : ℕ) → eqb b c ≡ true → escaped_byte c ≡ 92 ∷ l ∷ [] → eqb l 120 ≡ false → meaning_of l ≡ c → IsWritten b
by_letter b c l e text fits means = let is : b ≡ c = eqb-true b c e in record {
  piece = letter l;
  fits = fits;
  text = ap escaped_byte is ∙ text;
  byte = is ∙ sym means;
}

written_is : (b : ℕ) → IsWritten b
written_is b =
    elim (eqb_tells b 8) [
      | inl e ↦ by_letter b 8 98 e.0 refl refl refl
      | inr n8 ↦
          elim (eqb_tells b 12) [
            | inl e ↦ by_letter b 12 102 e.0 refl refl refl
            | inr n12 ↦
                elim (eqb_tells b 13) [
                  | inl e ↦ by_letter b 13 114 e.0 refl refl refl
                  | inr n13 ↦
                      elim (eqb_tells b 10) [
                        | inl e ↦ by_letter b 10 110 e.0 refl refl refl
                        | inr n10 ↦
                            elim (eqb_tells b 9) [
                              | inl e ↦ by_letter b 9 116 e.0 refl refl refl
                              | inr n9 ↦
                                  elim (eqb_tells b 0) [
                                    | inl e ↦ by_letter b 0 48 e.0 refl refl refl
                                    | inr n0 ↦
                                        elim (eqb_tells b 39) [
                                          | inl e ↦ by_letter b 39 39 e.0 refl refl refl
                                          | inr n39 ↦
                                              elim (eqb_tells b 92) [
                                                | inl e ↦ by_letter b 92 92 e.0 refl refl refl
                                                | inr n92 ↦
                                                    record { piece = plain b; fits = n92.0; text = rw (n8.0, n12.0, n13.0, n10.0, n9.0, n0.0, n39.0, n92.0) refl; byte = refl }
                                              ]
                                        ]
                                  ]
                            ]
                      ]
                ]
          ]
    ]

pub round_trip : (bytes : List ℕ) → IsUnescaped (escaped bytes) (Ok bytes)
round_trip [] = ([], tt, refl, refl)
round_trip (b ∷ bytes) =
    let r = round_trip bytes in
    let w = written_is b in
    (w.piece ∷ r.0, (w.fits, r.1), escaped-cons b bytes ∙ ap (λ x. x ++ escaped bytes) w.text ∙ ap (λ x. piece_text w.piece ++ x) r.2, ap (λ x. x ∷ bytes) w.byte ∙ ap (λ x. piece_byte w.piece ∷ x) r.3)

-- ---- the loop of the writer

pub escape-more : (field rest front behind text : List ℕ) (at sign : ℕ) → position is_escaped rest ≡ Some at → front ≡ take at rest → behind ≡ drop at rest → text ≡ drop 1 behind
    → sign ≡ letter_of (get_or behind 0 0) → field ++ escaped rest ≡ ((field ++ front) ++ 92 ∷ []) ++ sign ∷ [] ++ escaped text
escape-more field rest front behind text at sign found front_is behind_is text_is sign_is =
    let f = first_found is_escaped rest at found in
    let text_at : text ≡ drop (suc at) rest = text_is ∙ ap (drop 1) (behind_is ∙ f.behind) in
    let sign_at : sign ≡ letter_of (get_or rest at 0) = sign_is ∙ ap (λ (t : List ℕ). letter_of (get_or t 0 0)) (behind_is ∙ f.behind) in
    ap (λ x. field ++ x) (escaped-step rest at found) ∙ rw (text_at, sign_at, front_is) (simp append_assoc)

pub escape-end : (field rest : List ℕ) → position is_escaped rest ≡ None → field ++ escaped rest ≡ field ++ rest
escape-end field rest none = ap (λ x. field ++ x) (escaped-end rest none)
