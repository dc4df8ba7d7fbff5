-- A field has one answer: it is read from the left, and what is found there is all that it can be.
use Rattle.std.proofs.Common.{◌≡◌, ℕ, suc, ◌+◌, ◌*◌, Bool, true, false, cond, List, [], ◌∷◌, ◌++◌, length, Result, Ok, Err, refl, sym, ap, ◌∙◌, arith, eqb, ◌&&◌}
use Rattle.tsv_text.specs.declared.fault.TextFault.{TextFault}
use Rattle.tsv_text.specs.declared.fault.TextFault.TheVariants.{LoneBackslash, BadHex, OutOfMemory}
use Rattle.tsv_text.specs.Escapes.{Piece, plain, letter, hexed, piece_text, piece_byte, IsPiece, ArePieces, pieces_then, pieces_bytes, is_hex_digit, hex_value, meaning_of, begins_with_hex, IsUnescaped, IsSameUnescaped}

abbrev Answer : Type 0
Answer = Result (List ℕ) TextFault

data Mode : Type 0 where
  plainly : Mode
  slashed : Mode
  hexing : Mode
  half : ℕ → Mode

abbrev onto : ℕ → Answer → Answer
onto b (Ok bytes) = Ok (b ∷ bytes)
onto b (Err fault) = Err fault

-- the text from its left; the place is that of the last backslash, or of the byte to come
abbrev read : ℕ → Mode → List ℕ → Answer
read at plainly [] = Ok []
read at slashed [] = Err (LoneBackslash at)
read at hexing [] = Err (BadHex at)
read at (half high) [] = Err (BadHex at)
read at plainly (b ∷ text) = cond (eqb b 92) (read at slashed text) (onto b (read (1 + at) plainly text))
read at slashed (c ∷ text) = cond (eqb c 120) (read at hexing text) (onto (meaning_of c) (read (2 + at) plainly text))
read at hexing (high ∷ text) = read at (half high) text
read at (half high) (low ∷ text) = cond (is_hex_digit high && is_hex_digit low) (onto (hex_value high * 16 + hex_value low) (read (4 + at) plainly text)) (Err (BadHex at))

abbrev all_onto : List Piece → Answer → Answer
all_onto [] r = r
all_onto (p ∷ ps) r = onto (piece_byte p) (all_onto ps r)

all_ok : (ps : List Piece) → all_onto ps (Ok []) ≡ Ok (pieces_bytes ps)
all_ok [] = refl
all_ok (p ∷ ps) = ap (onto (piece_byte p)) (all_ok ps)

all_err : (ps : List Piece) (f : TextFault) → all_onto ps (Err f) ≡ Err f
all_err [] f = refl
all_err (p ∷ ps) f = ap (onto (piece_byte p)) (all_err ps f)

-- how long the pieces are
abbrev size : List Piece → ℕ
size [] = 0
size (p ∷ ps) = length (piece_text p) + size ps

length-then : (ps : List Piece) (end : List ℕ) → length (pieces_then ps end) ≡ size ps + length end
length-then [] end = omega arith
length-then (plain b ∷ ps) end = omega (arith, length-then ps end)
length-then (letter c ∷ ps) end = omega (arith, length-then ps end)
length-then (hexed high low ∷ ps) end = omega (arith, length-then ps end)

read-then : (ps : List Piece) (at : ℕ) (end : List ℕ) → ArePieces ps → read at plainly (pieces_then ps end) ≡ all_onto ps (read (size ps + at) plainly end)
read-then [] at end fits = ap (λ n. read n plainly end) (omega arith)
read-then (plain b ∷ ps) at end fits =
    let place : size ps + (1 + at) ≡ 1 + size ps + at = omega arith in
    ap (λ t. cond t (read at slashed (pieces_then ps end)) (onto b (read (1 + at) plainly (pieces_then ps end)))) fits.0
    ∙ ap (onto b) (read-then ps (1 + at) end fits.1 ∙ ap (λ n. all_onto ps (read n plainly end)) place)
read-then (letter c ∷ ps) at end fits =
    let place : size ps + (2 + at) ≡ 2 + size ps + at = omega arith in
    ap (λ t. cond t (read at hexing (pieces_then ps end)) (onto (meaning_of c) (read (2 + at) plainly (pieces_then ps end)))) fits.0
    ∙ ap (onto (meaning_of c)) (read-then ps (2 + at) end fits.1 ∙ ap (λ n. all_onto ps (read n plainly end)) place)
read-then (hexed high low ∷ ps) at end fits =
    let place : size ps + (4 + at) ≡ 4 + size ps + at = omega arith in
    ap (λ t. cond t (onto (hex_value high * 16 + hex_value low) (read (4 + at) plainly (pieces_then ps end))) (Err (BadHex at))) fits.0
    ∙ ap (onto (hex_value high * 16 + hex_value low)) (read-then ps (4 + at) end fits.1 ∙ ap (λ n. all_onto ps (read n plainly end)) place)

behind_x_bad : (at : ℕ) (rest : List ℕ) → begins_with_hex rest ≡ false → read at hexing rest ≡ Err (BadHex at)
behind_x_bad at [] bad = refl
behind_x_bad at (high ∷ []) bad = refl
behind_x_bad at (high ∷ low ∷ more) bad = ap (λ t. cond t (onto (hex_value high * 16 + hex_value low) (read (4 + at) plainly more)) (Err (BadHex at))) bad

read_ok : (field bytes : List ℕ) → IsUnescaped field (Ok bytes) → read 0 plainly field ≡ Ok bytes
read_ok field bytes h = ap (read 0 plainly) h.2 ∙ read-then h.0 0 [] h.1 ∙ all_ok h.0 ∙ sym (ap Ok h.3)

read_lone : (field : List ℕ) (at : ℕ) → IsUnescaped field (Err (LoneBackslash at)) → read 0 plainly field ≡ Err (LoneBackslash at)
read_lone field at h =
    let place : size h.0 + 0 ≡ at = omega (arith, h.3, ap length h.2, length-then h.0 (92 ∷ [])) in
    ap (read 0 plainly) h.2 ∙ read-then h.0 0 (92 ∷ []) h.1 ∙ all_err h.0 (LoneBackslash (size h.0 + 0)) ∙ ap (λ n. Err (LoneBackslash n)) place

read_bad : (field : List ℕ) (at : ℕ) → IsUnescaped field (Err (BadHex at)) → read 0 plainly field ≡ Err (BadHex at)
read_bad field at h =
    let place : size h.0 + 0 ≡ at = omega (arith, h.5, ap length h.3, length-then h.0 (92 ∷ 120 ∷ h.1)) in
    ap (read 0 plainly) h.3 ∙ read-then h.0 0 (92 ∷ 120 ∷ h.1) h.2 ∙ ap (all_onto h.0) (behind_x_bad (size h.0 + 0) h.1 h.4) ∙ all_err h.0 (BadHex (size h.0 + 0)) ∙ ap (λ n. Err (BadHex n)) place

pub one_answer : (field : List ℕ) (one other : Answer) → IsUnescaped field one → IsUnescaped field other → IsSameUnescaped one other
one_answer field (Err OutOfMemory) other h k = tt
one_answer field (Ok a) (Err OutOfMemory) h k = tt
one_answer field (Err (LoneBackslash m)) (Err OutOfMemory) h k = tt
one_answer field (Err (BadHex m)) (Err OutOfMemory) h k = tt
one_answer field (Ok a) (Ok b) h k = sym (read_ok field a h) ∙ read_ok field b k
one_answer field (Ok a) (Err (LoneBackslash n)) h k = sym (read_ok field a h) ∙ read_lone field n k
one_answer field (Ok a) (Err (BadHex n)) h k = sym (read_ok field a h) ∙ read_bad field n k
one_answer field (Err (LoneBackslash m)) (Ok b) h k = sym (read_lone field m h) ∙ read_ok field b k
one_answer field (Err (LoneBackslash m)) (Err (LoneBackslash n)) h k = sym (read_lone field m h) ∙ read_lone field n k
one_answer field (Err (LoneBackslash m)) (Err (BadHex n)) h k = sym (read_lone field m h) ∙ read_bad field n k
one_answer field (Err (BadHex m)) (Ok b) h k = sym (read_bad field m h) ∙ read_ok field b k
one_answer field (Err (BadHex m)) (Err (LoneBackslash n)) h k = sym (read_bad field m h) ∙ read_lone field n k
one_answer field (Err (BadHex m)) (Err (BadHex n)) h k = sym (read_bad field m h) ∙ read_bad field n k
