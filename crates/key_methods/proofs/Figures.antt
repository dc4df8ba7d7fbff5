-- A number is read from its bytes, and bytes are written from the number that they spell.
use Rattle.std.proofs.Common.{◌≡◌, ℕ, zero, suc, ◌+◌, ◌-◌, ◌*◌, ◌/◌, ◌%◌, ◌^◌, ◌<◌, ◌≤◌, List, [], ◌∷◌, ◌++◌, length, drop, refl, sym, ap, ap₂, subst, ◌∙◌, arith, pow-suc, mul_comm}
use Rattle.std.proofs.Math.Nat.{pow-le-pow_right, div-div-eq-div-mul}
use Rattle.std.proofs.Math.Arith.{mod-mul}
use Rattle.std.proofs.lemmas.Nat.{div-mul-add, pow-add}
use mir.Syntax.{Width, w8, w16, w32, w64, w128}
use mir.Val.{bits}
use Rattle.std.specs.Int.{byte_len}
use Rattle.std.specs.Int.{byte_at, bytes_high_first}
use Rattle.agg_terms.specs.Lists.{Each}
use Rattle.key_methods.specs.Figures.{worth, worth_behind}

abbrev pub AreBytes : List ℕ → Type 0
AreBytes bytes = Each (λ b. b < 2 ^ 8) bytes

pub power_positive : (k : ℕ) → 0 < 256 ^ k
power_positive k = pow-le-pow_right {n = 256} (omega arith) {i = 0} {j = k} (omega arith)

pub wider : (k : ℕ) → 256 ^ suc k ≡ 256 * 256 ^ k
wider k = pow-suc 256 k ∙ mul_comm (256 ^ k) 256

pub power_bits : (k : ℕ) → 256 ^ k ≡ 2 ^ (8 * k)
power_bits zero = refl
power_bits (suc k) = omega (arith, wider k, power_bits k, ap (λ i. 2 ^ i) (eight k), pow-add 2 8 (8 * k))
  where
    eight : (i : ℕ) → 8 * suc i ≡ 8 + 8 * i
    eight i = omega arith

pub width_bits : (w : Width) → 256 ^ byte_len w ≡ 2 ^ bits w
width_bits w8 = refl
width_bits w16 = refl
width_bits w32 = refl
width_bits w64 = refl
width_bits w128 = refl

-- ---- read

-- one more byte in front of the low k bytes
byte_on : (k n high : ℕ) → (high * 256 + byte_at k n) * 256 ^ k + n % 256 ^ k ≡ high * 256 ^ suc k + n % 256 ^ suc k
byte_on zero n high = omega arith
byte_on (suc k) n high = rw (wider (suc k), mod-mul n {m = 256} {c = 256 ^ suc k} (omega arith) (power_positive (suc k))) (omega arith)

pub worth-bytes : (k n high : ℕ) → worth_behind high (bytes_high_first k n) ≡ high * 256 ^ k + n % 256 ^ k
worth-bytes zero n high = omega arith
worth-bytes (suc k) n high = worth-bytes k n (high * 256 + byte_at k n) ∙ byte_on k n high

pub worth-append : (xs ys : List ℕ) (n : ℕ) → worth_behind n (xs ++ ys) ≡ worth_behind (worth_behind n xs) ys
worth-append [] ys n = refl
worth-append (x ∷ xs) ys n = worth-append xs ys (n * 256 + x)

-- bytes behind a number take it up by their places
in_room : (n b p q : ℕ) → n < p → b < 256 → q ≡ 256 * p → n * 256 + b < q
in_room n b p q h k e = omega (arith, h, k, e)

pub worth-below : (bs : List ℕ) (n j : ℕ) → n < 256 ^ j → AreBytes bs → worth_behind n bs < 256 ^ (j + length bs)
worth-below [] n j h all = subst (λ m. n < 256 ^ m) (omega arith) h
worth-below (b ∷ bs) n j h all =
    subst (λ m. worth_behind (n * 256 + b) bs < 256 ^ m) (omega arith)
    (worth-below bs (n * 256 + b) (suc j) (in_room n b (256 ^ j) (256 ^ suc j) h all.0 (wider j)) all.1)

-- a further byte of at most 8 has room in 64 bits
pub byte_room : (n i k : ℕ) → n < 256 ^ i → i < k → k ≤ 8 → n * 256 + 255 < 2 ^ 64
byte_room n i k h below most =
    let seven = pow-le-pow_right {n = 256} (omega arith) {i = i} {j = 7} (omega (arith, below, most)) in
    omega (arith, h, seven)

-- ---- written
pub length-bytes : (k n : ℕ) → length (bytes_high_first k n) ≡ k
length-bytes zero n = refl
length-bytes (suc k) n = ap suc (length-bytes k n)

byte_below : (k n : ℕ) → byte_at k n < 2 ^ 8
byte_below zero n = omega arith
byte_below (suc k) n = omega arith

pub all_bytes : (k n : ℕ) → AreBytes (bytes_high_first k n)
all_bytes zero n = tt
all_bytes (suc k) n = (byte_below k n, all_bytes k n)

-- the last k of more bytes
pub last-bytes : (j k m n : ℕ) → m ≡ j + k → drop j (bytes_high_first m n) ≡ bytes_high_first k n
last-bytes zero k m n e = ap (λ i. bytes_high_first i n) (omega (arith, e))
last-bytes (suc j) k zero n e = absurd (omega (arith, e))
last-bytes (suc j) k (suc m) n e = last-bytes j k m n (omega (arith, e))

byte_up : (j n b : ℕ) → b < 2 ^ 8 → byte_at (suc j) (n * 256 + b) ≡ byte_at j n
byte_up zero n b h = omega arith
byte_up (suc j) n b h =
    ap (λ p. (n * 256 + b) / p % 256) (wider (suc j))
    ∙ ap (λ q. q % 256) (sym (div-div-eq-div-mul (n * 256 + b) 256 (256 ^ suc j)))
    ∙ ap (λ q. q / 256 ^ suc j % 256) (div-mul-add n 256 b h)

-- one byte behind a number
byte_behind : (j n b : ℕ) → b < 2 ^ 8 → bytes_high_first (suc j) (n * 256 + b) ≡ bytes_high_first j n ++ b ∷ []
byte_behind zero n b h = ap (λ x. x ∷ []) (omega arith)
byte_behind (suc j) n b h = ap₂ ◌∷◌ (byte_up j n b h) (byte_behind j n b h)

append_one : (xs ys : List ℕ) (b : ℕ) → (xs ++ b ∷ []) ++ ys ≡ xs ++ b ∷ ys
append_one [] ys b = refl
append_one (x ∷ xs) ys b = ap (λ zs. x ∷ zs) (append_one xs ys b)

append_none : (xs : List ℕ) → xs ≡ xs ++ []
append_none [] = refl
append_none (x ∷ xs) = ap (λ zs. x ∷ zs) (append_none xs)

bytes_back : (bs : List ℕ) (n j : ℕ) → AreBytes bs → bytes_high_first (length bs + j) (worth_behind n bs) ≡ bytes_high_first j n ++ bs
bytes_back [] n j all = ap (λ m. bytes_high_first m n) (omega arith) ∙ append_none (bytes_high_first j n)
bytes_back (b ∷ bs) n j all =
    ap (λ m. bytes_high_first m (worth_behind (n * 256 + b) bs)) (omega arith)
    ∙ bytes_back bs (n * 256 + b) (suc j) all.1
    ∙ ap (λ front. front ++ bs) (byte_behind j n b all.0)
    ∙ append_one (bytes_high_first j n) bs b

pub bytes-worth : (bs : List ℕ) → AreBytes bs → bytes_high_first (length bs) (worth bs) ≡ bs
bytes-worth bs all = ap (λ m. bytes_high_first m (worth bs)) (omega arith) ∙ bytes_back bs 0 0 all

-- the bytes of a number of 64 bits, and of 128
pub last_of_8 : (k n : ℕ) → k ≤ 8 → drop (8 - k) (bytes_high_first 8 n) ≡ bytes_high_first k n
last_of_8 k n h = last-bytes (8 - k) k 8 n (omega (arith, h))

pub last_of_16 : (k n : ℕ) → k ≤ 16 → drop (16 - k) (bytes_high_first 16 n) ≡ bytes_high_first k n
last_of_16 k n h = last-bytes (16 - k) k 16 n (omega (arith, h))

pub ruleset figure_laws = (last_of_8, last_of_16)
