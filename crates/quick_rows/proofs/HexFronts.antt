-- Hexadecimal digits at the front of a text, read pair by pair.
use Rattle.std.proofs.Common.{◌≡◌, ℕ, ◌+◌, ◌*◌, ◌%◌, ◌<◌, ◌≤◌, Bool, true, false, List, [], ◌∷◌, ◌++◌, length, get_or, take, drop, set, eqb, ltb, cond, Option, Some, None, refl, sym, ap, ◌∙◌, subst, arith, append_assoc, eq-eqb, eqb-true, ltb-true, true≢false, ◌-◌}
use Rattle.std.specs.List.{position_or_len}
use Rattle.std.proofs.lemmas.Grind.{common_steps}
use Rattle.std.proofs.lemmas.List.{take_more_set}
use Rattle.scalar_texts.specs.Hex.{hex_bytes, hex_fault, is_lower_hex, is_not_lower_hex, odd_at, or_else}
use Rattle.tsv_text.specs.Lines.{is_tab}
use Rattle.quick_rows.specs.Taking.{Fails, is_plain}
use Rattle.quick_rows.specs.proving.Hexadecimal.{IsHexFront, IsPair, Writes}

pub hex_none : (text bytes : List ℕ) → IsHexFront text (take 0 bytes) text
hex_none text bytes = ([], refl, tt)

-- one byte more
writes_more : (digits bytes : List ℕ) (high low byte : ℕ) → Writes digits bytes → IsPair high low byte → Writes (digits ++ high ∷ low ∷ []) (bytes ++ byte ∷ [])
writes_more [] [] high low byte w h = (h, tt)
writes_more (a ∷ b ∷ digits) (c ∷ bytes) high low byte w h = (w.0, writes_more digits bytes high low byte w.1 h)
writes_more [] (c ∷ bytes) high low byte w h = absurd w
writes_more (a ∷ []) bytes high low byte w h = absurd w
writes_more (a ∷ b ∷ digits) [] high low byte w h = absurd w

hex_next : (text done left : List ℕ) (byte : ℕ) → IsHexFront text done left → 2 ≤ length left → IsPair (get_or left 0 0) (get_or left 1 0) byte → IsHexFront text (done ++ byte ∷ []) (drop 2 left)
hex_next text done [] byte f some h = absurd (omega (arith, some))
hex_next text done (a ∷ []) byte f some h = absurd (omega (arith, some))
hex_next text done (a ∷ b ∷ left) byte f some h = (f.0 ++ a ∷ b ∷ [], f.1 ∙ sym (append_assoc f.0 (a ∷ b ∷ []) left), writes_more f.0 done a b byte f.2 h)

pub rest_two : (xs : List ℕ) → 2 ≤ length xs → take (length xs - 2) (drop 2 xs) ≡ drop 2 xs
rest_two [] some = absurd (omega (arith, some))
rest_two (a ∷ []) some = absurd (omega (arith, some))
rest_two (a ∷ b ∷ xs) some = grind (arith, common_steps)

pub hex_more : (text bytes left after : List ℕ) (count byte : ℕ) → IsHexFront text (take count bytes) left → count < length bytes → 2 ≤ length left → IsPair (get_or left 0 0) (get_or left 1 0) byte → after ≡ drop 2 left →
    IsHexFront text (take (count + 1) (set bytes count byte)) after
hex_more text bytes left after count byte f room some h is =
    subst (IsHexFront text (take (count + 1) (set bytes count byte))) (sym is) (subst (λ done. IsHexFront text done (drop 2 left)) (sym (take_more_set bytes count byte room)) (hex_next text (take count bytes) left byte f some h))

-- what such digits are
writes_long : (digits bytes : List ℕ) → Writes digits bytes → length digits ≡ 2 * length bytes
writes_long [] [] w = refl
writes_long (a ∷ b ∷ digits) (c ∷ bytes) w = omega (arith, writes_long digits bytes w.1)
writes_long [] (c ∷ bytes) w = absurd w
writes_long (a ∷ []) bytes w = absurd w
writes_long (a ∷ b ∷ digits) [] w = absurd w

writes_lower : (digits bytes : List ℕ) → Writes digits bytes → position_or_len is_not_lower_hex digits ≡ length digits
writes_lower [] [] w = refl
writes_lower (a ∷ b ∷ digits) (c ∷ bytes) w = rw (w.0.0, w.0.1) (omega (arith, writes_lower digits bytes w.1))
writes_lower [] (c ∷ bytes) w = absurd w
writes_lower (a ∷ []) bytes w = absurd w
writes_lower (a ∷ b ∷ digits) [] w = absurd w

not_below : (n : ℕ) → ltb n n ≡ false
not_below n = by (ltb n n) refl
  where
    by : (t : Bool) → ltb n n ≡ t → ltb n n ≡ false
    by true e = let below = ltb-true n n e in absurd (omega (arith, below))
    by false e = e

none_of : (n m : ℕ) → n ≡ m → (let o : Option ℕ = cond (ltb n m) (Some n) None in o) ≡ None
none_of n m same = let no = ap (λ k. ltb k m) same ∙ not_below m in rw no refl

even : (n m : ℕ) → n ≡ 2 * m → odd_at n ≡ None
even n m twice = let no = eq-eqb (n % 2) 0 (omega (arith, twice)) in rw no refl

pub writes_fault : (digits bytes : List ℕ) → Writes digits bytes → hex_fault digits ≡ None
writes_fault digits bytes w =
    ap (λ o. or_else o (odd_at (length digits))) (none_of (position_or_len is_not_lower_hex digits) (length digits) (writes_lower digits bytes w)) ∙ even (length digits) (length bytes) (writes_long digits bytes w)

pub writes_bytes : (digits bytes : List ℕ) → Writes digits bytes → hex_bytes digits ≡ bytes
writes_bytes [] [] w = refl
writes_bytes (a ∷ b ∷ digits) (c ∷ bytes) w = λ i. sym w.0.2 i ∷ writes_bytes digits bytes w.1 i
writes_bytes [] (c ∷ bytes) w = absurd w
writes_bytes (a ∷ []) bytes w = absurd w
writes_bytes (a ∷ b ∷ digits) [] w = absurd w

-- none of them is another byte
other : (b n : ℕ) → is_lower_hex b ≡ true → is_lower_hex n ≡ false → eqb b n ≡ false
other b n lower upper = by (eqb b n) refl
  where
    by : (t : Bool) → eqb b n ≡ t → eqb b n ≡ false
    by true e = absurd (true≢false (sym lower ∙ ap is_lower_hex (eqb-true b n e) ∙ upper))
    by false e = e

pub writes_plain : (digits bytes : List ℕ) → Writes digits bytes → Fails is_tab digits × (is_plain digits ≡ true)
writes_plain [] [] w = (tt, refl)
writes_plain (a ∷ b ∷ digits) (c ∷ bytes) w =
    let more = writes_plain digits bytes w.1 in
    ((other a 9 w.0.0 refl, (other b 9 w.0.1 refl, more.0)), rw (other a 92 w.0.0 refl, other b 92 w.0.1 refl) more.1)
writes_plain [] (c ∷ bytes) w = absurd w
writes_plain (a ∷ []) bytes w = absurd w
writes_plain (a ∷ b ∷ digits) [] w = absurd w
