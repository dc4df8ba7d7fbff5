-- The number of a type that has some bits.
use Rattle.std.proofs.Common.{◌≡◌, true, false, ltb, ℕ, suc, ◌-◌, ◌*◌, ◌^◌, ◌<◌, ◌≤◌, pos, negsuc, ◌-ℤ◌, refl, sym, ap, ◌∙◌, arith}
use Rattle.std.proofs.lemmas.Bool.{le-ltb}
use Rattle.std.proofs.lemmas.Int.{ints}
use mir.Syntax.{Width, w8, w16, w32, w64, w128}
use mir.Val.{bits, hbits, sel}
use Rattle.std.specs.Int.{cast_signed}
use Rattle.agg_terms.specs.Chains.{Arr, MapTy, Nullable, Signed, StateOf, Str, Ty, Whole}
use Rattle.agg_terms.specs.Types.{is_signed}
use Rattle.agg_meaning.specs.Functions.{bits_in, from_bits_in}

width_low : (w : Width) (b : ℕ) → 2 * b < 2 ^ bits w → pos b ≡ cast_signed w b
width_low w8 b h = omega (arith, ints)
width_low w16 b h = omega (arith, ints)
width_low w32 b h = omega (arith, ints)
width_low w64 b h = omega (arith, ints)
width_low w128 b h = omega (arith, ints)

-- a number with its highest bit set
pub high : (n half whole : ℕ) → half ≤ n → n < whole → pos n -ℤ pos whole ≡ sel (ltb n half) (pos n) (negsuc (whole - suc n))
high n half whole h k =
    let e : ltb n half ≡ false = le-ltb n half h in
    let f : pos n -ℤ pos whole ≡ negsuc (whole - suc n) = omega (arith, ints) in
    f ∙ sym (ap (λ b. sel b (pos n) (negsuc (whole - suc n))) e)

width_high : (w : Width) (b : ℕ) → 2 ^ bits w ≤ 2 * b → b < 2 ^ bits w → pos b -ℤ pos (2 ^ bits w) ≡ cast_signed w b
width_high w8 b h k = high b (2 ^ hbits w8) (2 ^ bits w8) (omega arith) k
width_high w16 b h k = high b (2 ^ hbits w16) (2 ^ bits w16) (omega arith) k
width_high w32 b h k = high b (2 ^ hbits w32) (2 ^ bits w32) (omega arith) k
width_high w64 b h k = high b (2 ^ hbits w64) (2 ^ bits w64) (omega arith) k
width_high w128 b h k = high b (2 ^ hbits w128) (2 ^ bits w128) (omega arith) k

pub bits_low : (t : Ty) (b : ℕ) → 2 * b < 2 ^ bits_in t → pos b ≡ from_bits_in t b
bits_low (Whole n) b h = refl
bits_low (Signed w) b h = width_low w b h
bits_low Str b h = refl
bits_low (Arr t) b h = refl
bits_low (MapTy k t) b h = refl
bits_low (Nullable t) b h = bits_low t b h
bits_low (StateOf c ts) b h = refl

pub bits_high : (t : Ty) (b : ℕ) → is_signed t ≡ true → 2 ^ bits_in t ≤ 2 * b → b < 2 ^ bits_in t → pos b -ℤ pos (2 ^ bits_in t) ≡ from_bits_in t b
bits_high (Whole n) b e h k = cc
bits_high (Signed w) b e h k = width_high w b h k
bits_high Str b e h k = cc
bits_high (Arr t) b e h k = cc
bits_high (MapTy u t) b e h k = cc
bits_high (Nullable t) b e h k = bits_high t b e h k
bits_high (StateOf c ts) b e h k = cc

pub bits_whole : (t : Ty) (b : ℕ) → is_signed t ≡ false → pos b ≡ from_bits_in t b
bits_whole (Whole n) b e = refl
bits_whole (Signed w) b e = cc
bits_whole Str b e = refl
bits_whole (Arr t) b e = refl
bits_whole (MapTy k t) b e = refl
bits_whole (Nullable t) b e = bits_whole t b e
bits_whole (StateOf c ts) b e = refl

pub ruleset bits_laws = (bits_low, bits_high, bits_whole)
