-- What stands between quotes is made of whole escapes.
use Rattle.std.proofs.Common.{◌≡◌, ℕ, suc, Bool, true, false, cond, ◌&&◌, List, [], ◌∷◌, take, Option, Some, None, Ok, refl, sym, ap, subst, arith}
use Rattle.std.specs.Prelude.{◌==◌}
use Rattle.std.proofs.lemmas.Bool.Decides.{nat_tests}
use Rattle.tsv_text.specs.Escapes.{is_hex_digit, Piece, plain, letter, hexed, ArePieces, pieces_then, pieces_bytes, IsUnescaped}
use Rattle.line_tokens.specs.Tokens.{quoted_length, as_next, one_more}
use Rattle.line_tokens.specs.declared.quote.Within.TheVariants.{Plain, Backslash, Hex, HalfHex}
use Rattle.line_tokens.specs.declared.quote.Next.TheVariants.{Closed, Broken, Goes}

-- the text is made of pieces
abbrev HasPieces : List ℕ → Type 0
HasPieces text = (ps : List Piece) × ArePieces ps × (text ≡ pieces_then ps [])

same_some : (m n : ℕ) → (let o : Option ℕ = Some m in o) ≡ Some n → m ≡ n
same_some m n e = cc

-- one byte more was taken
one_more_is : (o : Option ℕ) (n : ℕ) → one_more o ≡ Some n → (m : ℕ) × (o ≡ Some m) × (suc m ≡ n)
one_more_is (Some m) n e = (m, refl, same_some (suc m) n e)
one_more_is None n e = absurd cc

is_byte : (b c : ℕ) → (b == c) ≡ true → b ≡ c
is_byte b c e = grind (arith, nat_tests)

both : (x y : Bool) → x ≡ true → y ≡ true → (x && y) ≡ true
both x y e f = rw (e, f) refl

plain_byte : (quote escape : Bool) (b : ℕ) (bs : List ℕ) (n : ℕ) → (b == 39) ≡ quote → (b == 92) ≡ escape
    → ((m : ℕ) → quoted_length Plain bs ≡ Some m → HasPieces (take m bs)) → ((m : ℕ) → quoted_length Backslash bs ≡ Some m → HasPieces (92 ∷ take m bs))
    → as_next (λ next. quoted_length next bs) (cond quote Closed (cond escape (Goes Backslash) (Goes Plain))) ≡ Some n → HasPieces (take n (b ∷ bs))
plain_byte true escape b bs n q s plainly escaped e = subst (λ n. HasPieces (take n (b ∷ bs))) (same_some 0 n e) ([], tt, refl)
plain_byte false true b bs n q s plainly escaped e =
    let o = one_more_is (quoted_length Backslash bs) n e in
    subst (λ n. HasPieces (take n (b ∷ bs))) o.2 (subst (λ c. HasPieces (c ∷ take o.0 bs)) (sym (is_byte b 92 s)) (escaped o.0 o.1))
plain_byte false false b bs n q s plainly escaped e =
    let o = one_more_is (quoted_length Plain bs) n e in
    let h = plainly o.0 o.1 in
    subst (λ n. HasPieces (take n (b ∷ bs))) o.2 (plain b ∷ h.0, (s, h.1), ap (λ t. b ∷ t) h.2)

backslash_byte : (hex : Bool) (b : ℕ) (bs : List ℕ) (n : ℕ) → (b == 120) ≡ hex
    → ((m : ℕ) → quoted_length Plain bs ≡ Some m → HasPieces (take m bs)) → ((m : ℕ) → quoted_length Hex bs ≡ Some m → HasPieces (92 ∷ 120 ∷ take m bs))
    → as_next (λ next. quoted_length next bs) (cond hex (Goes Hex) (Goes Plain)) ≡ Some n → HasPieces (92 ∷ take n (b ∷ bs))
backslash_byte true b bs n s plainly hexly e =
    let o = one_more_is (quoted_length Hex bs) n e in
    subst (λ n. HasPieces (92 ∷ take n (b ∷ bs))) o.2 (subst (λ c. HasPieces (92 ∷ c ∷ take o.0 bs)) (sym (is_byte b 120 s)) (hexly o.0 o.1))
backslash_byte false b bs n s plainly hexly e =
    let o = one_more_is (quoted_length Plain bs) n e in
    let h = plainly o.0 o.1 in
    subst (λ n. HasPieces (92 ∷ take n (b ∷ bs))) o.2 (letter b ∷ h.0, (s, h.1), ap (λ t. 92 ∷ b ∷ t) h.2)

hex_byte : (digit : Bool) (b : ℕ) (bs : List ℕ) (n : ℕ) → is_hex_digit b ≡ digit
    → ((m : ℕ) → quoted_length HalfHex bs ≡ Some m → is_hex_digit b ≡ true → HasPieces (92 ∷ 120 ∷ b ∷ take m bs))
    → as_next (λ next. quoted_length next bs) (cond digit (Goes HalfHex) Broken) ≡ Some n → HasPieces (92 ∷ 120 ∷ take n (b ∷ bs))
hex_byte true b bs n s halfly e =
    let o = one_more_is (quoted_length HalfHex bs) n e in
    subst (λ n. HasPieces (92 ∷ 120 ∷ take n (b ∷ bs))) o.2 (halfly o.0 o.1 s)
hex_byte false b bs n s halfly e = absurd cc

half_byte : (digit : Bool) (high b : ℕ) (bs : List ℕ) (n : ℕ) → is_hex_digit high ≡ true → is_hex_digit b ≡ digit
    → ((m : ℕ) → quoted_length Plain bs ≡ Some m → HasPieces (take m bs))
    → as_next (λ next. quoted_length next bs) (cond digit (Goes Plain) Broken) ≡ Some n → HasPieces (92 ∷ 120 ∷ high ∷ take n (b ∷ bs))
half_byte true high b bs n t s plainly e =
    let o = one_more_is (quoted_length Plain bs) n e in
    let h = plainly o.0 o.1 in
    subst (λ n. HasPieces (92 ∷ 120 ∷ high ∷ take n (b ∷ bs))) o.2 (hexed high b ∷ h.0, (both _ _ t s, h.1), ap (λ r. 92 ∷ 120 ∷ high ∷ b ∷ r) h.2)
half_byte false high b bs n t s plainly e = absurd cc

mutual
  in_plain : (bs : List ℕ) (n : ℕ) → quoted_length Plain bs ≡ Some n → HasPieces (take n bs)
  in_plain [] n e = absurd cc
  in_plain (b ∷ bs) n e = plain_byte (b == 39) (b == 92) b bs n refl refl (in_plain bs) (in_backslash bs) e

  in_backslash : (bs : List ℕ) (n : ℕ) → quoted_length Backslash bs ≡ Some n → HasPieces (92 ∷ take n bs)
  in_backslash [] n e = absurd cc
  in_backslash (b ∷ bs) n e = backslash_byte (b == 120) b bs n refl (in_plain bs) (in_hex bs) e

  in_hex : (bs : List ℕ) (n : ℕ) → quoted_length Hex bs ≡ Some n → HasPieces (92 ∷ 120 ∷ take n bs)
  in_hex [] n e = absurd cc
  in_hex (b ∷ bs) n e = hex_byte (is_hex_digit b) b bs n refl (λ m f h. in_half bs m b f h) e

  in_half : (bs : List ℕ) (n : ℕ) (high : ℕ) → quoted_length HalfHex bs ≡ Some n → is_hex_digit high ≡ true → HasPieces (92 ∷ 120 ∷ high ∷ take n bs)
  in_half [] n high e h = absurd cc
  in_half (b ∷ bs) n high e h = half_byte (is_hex_digit b) high b bs n h refl (in_plain bs) e

pub quote_unescapes : (bs : List ℕ) (n : ℕ) → quoted_length Plain bs ≡ Some n → (bytes : List ℕ) × IsUnescaped (take n bs) (Ok bytes)
quote_unescapes bs n e = let h = in_plain bs n e in (pieces_bytes h.0, (h.0, h.1, h.2, refl))
