-- A number is read from its bytes, and its bytes are spelled from it.
use Rattle.std.proofs.Common.{◌≡◌, ℕ, zero, suc, ◌+◌, ◌-◌, ◌*◌, ◌/◌, ◌%◌, ◌^◌, ◌<◌, List, [], ◌∷◌, length, ℤ, pos, negsuc, Bool, true, false, ltb, refl, sym, ap, ap₂, subst, ◌∙◌, arith}
use Rattle.std.proofs.lemmas.Nat.{div-mul-add, mod-mul-add, div-add-mod'}
use Rattle.std.proofs.Math.Nat.{pow-suc, div-lt_iff_lt-mul}
use Rattle.agg_terms.specs.Lists.{Each}
use Rattle.std.specs.Int.{Width, w8, w16, w32, w64, w128, byte_at, byte_len, bytes_high_first, cast_signed, cast_unsigned}
use mir.Val.{bits, of_z, sel}
use Rattle.std.proofs.Math.Nat.{mod-eq_of_lt}
use Rattle.std.proofs.Math.Arith.{mod-mul}
use Rattle.state_texts.specs.Figures.{high, low, worth}

abbrev pub AreBytes : List ℕ → Type 0
AreBytes bytes = Each (λ b. b < 256) bytes

pub length_high : (k n : ℕ) → length (high k n) ≡ k
length_high zero n = refl
length_high (suc k) n = ap suc (length_high k (n % 256 ^ k))

power_pos : (k : ℕ) → 0 < 256 ^ k
power_pos zero = omega arith
power_pos (suc k) = omega (arith, power_pos k, pow-suc 256 k)

head_fits : (b w p : ℕ) → b < 256 → w < p → b * p + w < 256 * p
head_fits b w p l k = grind arith

pub worth_below : (bs : List ℕ) → AreBytes bs → worth bs < 256 ^ length bs
worth_below [] k = omega arith
worth_below (b ∷ bs) k = subst (λ p. b * 256 ^ length bs + worth bs < p) (omega (arith, pow-suc 256 (length bs))) (head_fits b (worth bs) (256 ^ length bs) k.0 (worth_below bs k.1))

pub high_worth : (bs : List ℕ) → AreBytes bs → high (length bs) (worth bs) ≡ bs
high_worth [] k = refl
high_worth (b ∷ bs) k =
    let l = worth_below bs k.1 in
    ap₂ ◌∷◌ (div-mul-add b (256 ^ length bs) (worth bs) l) (ap (high (length bs)) (mod-mul-add b (256 ^ length bs) (worth bs) l) ∙ high_worth bs k.1)

rest_fits : (k n : ℕ) → n % 256 ^ k < 256 ^ k
rest_fits k n = omega (arith, power_pos k)

pub worth_high : (k n : ℕ) → n < 256 ^ k → worth (high k n) ≡ n
worth_high zero n l = omega arith
worth_high (suc k) n l =
    ap₂ (λ m w. n / 256 ^ k * 256 ^ m + w) (length_high k (n % 256 ^ k)) (worth_high k (n % 256 ^ k) (rest_fits k n))
    ∙ div-add-mod' n (256 ^ k)

head_below : (k n : ℕ) → n < 256 ^ suc k → n / 256 ^ k < 256
head_below k n l = (div-lt_iff_lt-mul (power_pos k)).1 (omega (arith, pow-suc 256 k, l))

pub high_bytes : (k n : ℕ) → n < 256 ^ k → AreBytes (high k n)
high_bytes zero n l = tt
high_bytes (suc k) n l = (head_below k n l, high_bytes k (n % 256 ^ k) (rest_fits k n))

-- a number in two's complement
pub low_pos : (k n : ℕ) → n < 256 ^ k → low k (pos n) ≡ n
low_pos k n l = mod-eq_of_lt l

below_half : (w : Width) (k n : ℕ) (b : Bool) → n < 2 ^ bits w → 256 ^ k ≡ 2 ^ bits w → (2 ^ 128 - (2 ^ bits w - n)) % 2 ^ bits w ≡ n →
    of_z w128 (sel b (pos n) (negsuc (2 ^ bits w - suc n))) % 256 ^ k ≡ n
below_half w k n true l e h = mod-eq_of_lt (omega (arith, l, e))
below_half w k n false l e h =
    let turn : 2 ^ 128 - suc (2 ^ bits w - suc n) ≡ 2 ^ 128 - (2 ^ bits w - n) = omega (arith, l) in
    ap (λ m. m % 256 ^ k) turn ∙ ap (λ m. (2 ^ 128 - (2 ^ bits w - n)) % m) e ∙ h

pub low_signed : (w : Width) (n : ℕ) → n < 2 ^ bits w → low (byte_len w) (cast_signed w n) ≡ n
low_signed w8 n l = below_half w8 1 n (ltb n (2 ^ 7)) l refl (omega (arith, l))
low_signed w16 n l = below_half w16 2 n (ltb n (2 ^ 15)) l refl (omega (arith, l))
low_signed w32 n l = below_half w32 4 n (ltb n (2 ^ 31)) l refl (omega (arith, l))
low_signed w64 n l = below_half w64 8 n (ltb n (2 ^ 63)) l refl (omega (arith, l))
low_signed w128 n l = below_half w128 16 n (ltb n (2 ^ 127)) l refl (omega (arith, l))

pub low_below : (k : ℕ) (z : ℤ) → low k z < 256 ^ k
low_below k z = rest_fits k (cast_unsigned w128 z)

-- the bytes that std gives
parted : (k n : ℕ) → n % 256 ^ suc k ≡ (n / 256 ^ k % 256) * 256 ^ k + n % 256 ^ k
parted k n =
    let e : 256 ^ suc k ≡ 256 * 256 ^ k = omega (arith, pow-suc 256 k) in
    ap (λ m. n % m) e ∙ mod-mul n (omega arith) (power_pos k)

byte_is : (k n : ℕ) → byte_at k n ≡ n / 256 ^ k % 256
byte_is zero n = omega arith
byte_is (suc k) n = refl

pub bytes_high : (k n : ℕ) → bytes_high_first k n ≡ high k (n % 256 ^ k)
bytes_high zero n = refl
bytes_high (suc k) n =
    let c = 256 ^ k in
    let d = n / c % 256 in
    let first : (n % 256 ^ suc k) / c ≡ d = ap (λ m. m / c) (parted k n) ∙ div-mul-add d c (n % c) (rest_fits k n) in
    let rest : (n % 256 ^ suc k) % c ≡ n % c = ap (λ m. m % c) (parted k n) ∙ mod-mul-add d c (n % c) (rest_fits k n) in
    ap₂ ◌∷◌ (byte_is k n ∙ sym first) (bytes_high k n ∙ ap (high k) (sym rest))
