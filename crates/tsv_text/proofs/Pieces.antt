-- A field read piece by piece.
use Rattle.std.proofs.Common.{◌≡◌, ℕ, suc, ◌+◌, ◌*◌, ◌-◌, ◌<◌, ◌≤◌, Bool, true, false, cond, List, [], ◌∷◌, ◌++◌, length, take, drop, get_or, Option, Some, None, Result, Ok, Err, refl, sym, ap, subst, ◌∙◌, append_assoc, append-nil, arith, eqb, ◌&&◌}
use Rattle.std.specs.List.{position}
use Rattle.std.proofs.lemmas.Bool.{eqb-true}
use Rattle.tsv_text.specs.declared.fault.TextFault.{TextFault}
use Rattle.tsv_text.specs.declared.fault.TextFault.TheVariants.{LoneBackslash, BadHex, OutOfMemory}
use Rattle.tsv_text.specs.Escapes.{Piece, plain, letter, hexed, piece_text, piece_byte, IsPiece, ArePieces, pieces_then, pieces_bytes, is_hex_digit, hex_value, meaning_of, begins_with_hex, IsUnescaped}
use Rattle.tsv_text.specs.proving.Behind.{behind_x, behind_backslash, is_backslash}
use Rattle.tsv_text.proofs.First.{Fails, first_found, all_fail}

-- what was read so far is pieces
pub record IsSoFar (field rest out : List ℕ) : Type 0 where
  pub pieces : List Piece
  pub fits : ArePieces pieces
  pub text : field ≡ pieces_then pieces rest
  pub bytes : out ≡ pieces_bytes pieces

pub none_yet : (field : List ℕ) → IsSoFar field field []
none_yet field = record { pieces = []; fits = tt; text = refl; bytes = refl }

then-append : (ps qs : List Piece) (rest : List ℕ) → pieces_then (ps ++ qs) rest ≡ pieces_then ps (pieces_then qs rest)
then-append [] qs rest = refl
then-append (p ∷ ps) qs rest = ap (λ x. piece_text p ++ x) (then-append ps qs rest)

bytes-append : (ps qs : List Piece) → pieces_bytes (ps ++ qs) ≡ pieces_bytes ps ++ pieces_bytes qs
bytes-append [] qs = refl
bytes-append (p ∷ ps) qs = ap (λ x. piece_byte p ∷ x) (bytes-append ps qs)

fits-append : (ps qs : List Piece) → ArePieces ps → ArePieces qs → ArePieces (ps ++ qs)
fits-append [] qs f g = g
fits-append (p ∷ ps) qs f g = (f.0, fits-append ps qs f.1 g)

-- more pieces were read
pub more_pieces : (field text rest out more : List ℕ) (qs : List Piece) → ArePieces qs → text ≡ pieces_then qs rest → more ≡ pieces_bytes qs → IsSoFar field text out → IsSoFar field rest (out ++ more)
more_pieces field text rest out more qs fits spelled means s = record {
  pieces = s.pieces ++ qs;
  fits = fits-append s.pieces qs s.fits fits;
  text = s.text ∙ ap (pieces_then s.pieces) spelled ∙ sym (then-append s.pieces qs rest);
  bytes = ap (λ o. o ++ more) s.bytes ∙ ap (λ m. pieces_bytes s.pieces ++ m) means ∙ sym (bytes-append s.pieces qs);
}

-- bytes that stand for themselves
plains : List ℕ → List Piece
plains [] = []
plains (b ∷ bs) = plain b ∷ plains bs

plains_then : (bs rest : List ℕ) → bs ++ rest ≡ pieces_then (plains bs) rest
unfolding plains
plains_then [] rest = refl
plains_then (b ∷ bs) rest = ap (λ x. b ∷ x) (plains_then bs rest)

plains_bytes : (bs : List ℕ) → bs ≡ pieces_bytes (plains bs)
unfolding plains
plains_bytes [] = refl
plains_bytes (b ∷ bs) = ap (λ x. b ∷ x) (plains_bytes bs)

plains_fit : (bs : List ℕ) → Fails is_backslash bs → ArePieces (plains bs)
unfolding plains
plains_fit [] f = tt
plains_fit (b ∷ bs) f = (f.0, plains_fit bs f.1)

pub more_plain : (field text front rest out : List ℕ) → text ≡ front ++ rest → Fails is_backslash front → IsSoFar field text out → IsSoFar field rest (out ++ front)
more_plain field text front rest out whole fails s =
    more_pieces field text rest out front (plains front) (plains_fit front fails) (whole ∙ plains_then front rest) (plains_bytes front) s

pub all_read : (field rest out : List ℕ) → IsSoFar field rest out → position is_backslash rest ≡ None → IsUnescaped field (Ok (out ++ rest))
all_read field rest out s none =
    let t = more_plain field rest rest [] out (sym (append-nil rest)) (all_fail is_backslash rest none) s in
    (t.pieces, t.fits, t.text, t.bytes)

-- up to a backslash
pub record AtBackslash (field out front behind text : List ℕ) : Type 0 where
  pub read : IsSoFar field (92 ∷ text) (out ++ front)
  pub size : suc (length text) ≡ length behind

pub at_backslash : (field rest out front behind text : List ℕ) (at : ℕ) → IsSoFar field rest out → position is_backslash rest ≡ Some at
    → front ≡ take at rest → behind ≡ drop at rest → text ≡ drop 1 behind → AtBackslash field out front behind text
at_backslash field rest out front behind text at s found front_is behind_is text_is =
    let f = first_found is_backslash rest at found in
    let slash : get_or rest at 0 ≡ 92 = eqb-true (get_or rest at 0) 92 f.passes in
    let text_at : text ≡ drop (suc at) rest = text_is ∙ ap (drop 1) (behind_is ∙ f.behind) in
    let cut : rest ≡ front ++ (92 ∷ text) = f.whole ∙ ap (λ x. x ++ (get_or rest at 0 ∷ drop (suc at) rest)) (sym front_is) ∙ ap (λ b. front ++ (b ∷ drop (suc at) rest)) slash ∙ ap (λ t. front ++ (92 ∷ t)) (sym text_at) in
    record {
      read = more_plain field rest front (92 ∷ text) out cut (subst (Fails is_backslash) (sym front_is) f.fails) s;
      size = ap (λ (t : List ℕ). suc (length t)) text_at ∙ sym (ap length (behind_is ∙ f.behind));
    }

-- ---- behind a backslash

-- a piece at the front
pub record IsEscape (text : List ℕ) (byte : ℕ) (rest : List ℕ) : Type 0 where
  pub piece : Piece
  pub fits : IsPiece piece
  pub spelled : 92 ∷ text ≡ piece_text piece ++ rest
  pub means : byte ≡ piece_byte piece
  pub less : length rest < length text

chosen : {A : Type 0} (t : Bool) (x y z : A) (P : Type 0) → cond t x y ≡ z → (t ≡ true → x ≡ z → P) → (t ≡ false → y ≡ z → P) → P
chosen true x y z P e f g = f refl e
chosen false x y z P e f g = g refl e

abbrev Answer : Type 0
Answer = Result (ℕ × List ℕ) TextFault

abbrev pub answered : ℕ → List ℕ → Answer
answered x r = Ok (x, r)

abbrev pub refused : TextFault → Answer
refused fault = Err fault

byte_is : (x y : ℕ) (r s : List ℕ) → answered x r ≡ answered y s → (y ≡ x) × (s ≡ r)
byte_is x y r s e =
    let p : ℕ × List ℕ = (x, r) in
    let q : ℕ × List ℕ = (y, s) in
    let f : q ≡ p = cc in
    (ap (λ (t : ℕ × List ℕ). t.0) f, ap (λ (t : ℕ × List ℕ). t.1) f)

by_letter : (c x : ℕ) (rest r : List ℕ) → eqb c 120 ≡ false → answered (meaning_of c) rest ≡ answered x r → IsEscape (c ∷ rest) x r
by_letter c x rest r u e =
    let p = byte_is (meaning_of c) x rest r e in
    record { piece = letter c; fits = u; spelled = ap (λ s. 92 ∷ c ∷ s) (sym p.1); means = p.0; less = rw (p.1) (omega arith) }

pub escape_read : (at : ℕ) (text : List ℕ) (x : ℕ) (r : List ℕ) → behind_backslash at text ≡ answered x r → IsEscape text x r
escape_read at [] x r e = absurd cc
escape_read at (c ∷ []) x r e = chosen (eqb c 120) _ _ _ _ e (λ u g. absurd cc) (λ u g. by_letter c x [] r u g)
escape_read at (c ∷ high ∷ []) x r e = chosen (eqb c 120) _ _ _ _ e (λ u g. absurd cc) (λ u g. by_letter c x (high ∷ []) r u g)
escape_read at (c ∷ high ∷ low ∷ more) x r e = chosen (eqb c 120) _ _ _ _ e
    (λ u g. chosen (is_hex_digit high && is_hex_digit low) _ _ _ _ g
    (λ v k. let p = byte_is (hex_value high * 16 + hex_value low) x more r k in
    record { piece = hexed high low; fits = v; spelled = ap (λ c. 92 ∷ c ∷ high ∷ low ∷ more) (eqb-true c 120 u) ∙ ap (λ s. 92 ∷ 120 ∷ high ∷ low ∷ s) (sym p.1); means = p.0; less = rw (p.1) (omega arith) })
    (λ v k. absurd cc))
    (λ u g. by_letter c x (high ∷ low ∷ more) r u g)

pub more_escape : (field text rest out : List ℕ) (x : ℕ) → IsEscape text x rest → IsSoFar field (92 ∷ text) out → IsSoFar field rest (out ++ x ∷ [])
more_escape field text rest out x f s = more_pieces field (92 ∷ text) rest out (x ∷ []) (f.piece ∷ []) (f.fits, tt) f.spelled (ap (λ y. y ∷ []) f.means) s

-- ---- faults

fault_is : (f g : TextFault) → refused f ≡ refused g → f ≡ g
fault_is f g e = cc

-- the fault behind a backslash
record IsBad (at : ℕ) (text : List ℕ) (f : TextFault) : Type 0 where
  lone : (n : ℕ) → f ≡ LoneBackslash n → (text ≡ []) × (n ≡ at)
  hex : (n : ℕ) → f ≡ BadHex n → (rest : List ℕ) × (text ≡ 120 ∷ rest) × (begins_with_hex rest ≡ false) × (n ≡ at)

lone_bad : (at : ℕ) (f : TextFault) → LoneBackslash at ≡ f → IsBad at [] f
lone_bad at f e = record {
  lone = λ n g. let h : LoneBackslash at ≡ LoneBackslash n = e ∙ g in (refl, cc);
  hex = λ n g. let h : LoneBackslash at ≡ BadHex n = e ∙ g in absurd cc;
}

hex_bad : (at c : ℕ) (rest : List ℕ) (f : TextFault) → eqb c 120 ≡ true → begins_with_hex rest ≡ false → BadHex at ≡ f → IsBad at (c ∷ rest) f
hex_bad at c rest f u v e = record {
  lone = λ n g. let h : BadHex at ≡ LoneBackslash n = e ∙ g in absurd cc;
  hex = λ n g. let h : BadHex at ≡ BadHex n = e ∙ g in (rest, ap (λ c. c ∷ rest) (eqb-true c 120 u), v, cc);
}

escape_bad : (at : ℕ) (text : List ℕ) (f : TextFault) → behind_backslash at text ≡ refused f → IsBad at text f
escape_bad at [] f e = lone_bad at f (fault_is _ f e)
escape_bad at (c ∷ []) f e = chosen (eqb c 120) _ _ _ _ e (λ u h. hex_bad at c [] f u refl (fault_is _ f h)) (λ u h. absurd cc)
escape_bad at (c ∷ high ∷ []) f e = chosen (eqb c 120) _ _ _ _ e (λ u k. hex_bad at c (high ∷ []) f u refl (fault_is _ f k)) (λ u k. absurd cc)
escape_bad at (c ∷ high ∷ low ∷ more) f e = chosen (eqb c 120) _ _ _ _ e
    (λ u k. chosen (is_hex_digit high && is_hex_digit low) _ _ _ _ k (λ v m. absurd cc) (λ v m. hex_bad at c (high ∷ low ∷ more) f u v (fault_is _ f m))) (λ u k. absurd cc)

rest_within : (ps : List Piece) (rest : List ℕ) → length rest ≤ length (pieces_then ps rest)
rest_within [] rest = omega arith
rest_within (plain b ∷ ps) rest = omega (arith, rest_within ps rest)
rest_within (letter c ∷ ps) rest = omega (arith, rest_within ps rest)
rest_within (hexed high low ∷ ps) rest = omega (arith, rest_within ps rest)

pub within : (field rest out : List ℕ) → IsSoFar field rest out → length rest ≤ length field
within field rest out s = subst (λ f. length rest ≤ length f) (sym s.text) (rest_within s.pieces rest)

pub failed : (field text out : List ℕ) (f : TextFault) (at : ℕ) → IsSoFar field (92 ∷ text) out → at ≡ length field - suc (length text) → behind_backslash at text ≡ refused f → IsUnescaped field (Err f)
failed field text out (LoneBackslash n) at s place e =
    let b = (escape_bad at text (LoneBackslash n) e).lone n refl in
    let small = within field (92 ∷ text) out s in
    let one : length text ≡ 0 = ap (λ (t : List ℕ). length t) b.0 in
    (s.pieces, s.fits, s.text ∙ ap (λ t. pieces_then s.pieces (92 ∷ t)) b.0, omega (arith, b.1, one, small, place))
failed field text out (BadHex n) at s place e =
    let b = (escape_bad at text (BadHex n) e).hex n refl in
    let small = within field (92 ∷ text) out s in
    let long : length text ≡ suc (length b.0) = ap (λ (t : List ℕ). length t) b.1 in
    (s.pieces, b.0, s.fits, s.text ∙ ap (λ t. pieces_then s.pieces (92 ∷ t)) b.1, b.2, omega (arith, b.3, long, small, place))
failed field text out OutOfMemory at s place e = tt
