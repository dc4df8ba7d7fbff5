-- What the text of a number says.
use Rattle.std.specs.Prelude.{◌≡◌, ◌==◌, ℕ, ◌≤◌, ◌^◌, ℤ, pos, neg_ℤ, Bool, true, false, List, [], ◌∷◌, if◌then◌else◌, Result, Ok, Err}
use Rattle.std.specs.Str.Parse.{digits_value}
use Rattle.agg_terms.specs.Chains.{Ty, Whole, Signed}
use Rattle.agg_terms.specs.Fitting.{fits_bits, fits_width}
use Rattle.field_texts.specs.Syntax.{IsDigits, IsNumber}
use Rattle.scalar_texts.specs.declared.numbers.NumberFault.{NumberFault}
use Rattle.scalar_texts.specs.declared.numbers.NumberFault.TheVariants.{NotNumber, OutOfRange}

-- Whether a minus stands first, and what stands behind the sign.
abbrev pub split_sign : List ℕ → Bool × List ℕ
split_sign [] = (false, [])
split_sign (b ∷ text) = if b == 45 then (true, text) else (if b == 43 then (false, text) else (false, b ∷ text))

abbrev pub signed : Bool → ℕ → ℤ
signed true n = neg_ℤ (pos n)
signed false n = pos n

-- The number that a sign and digits write: `-0` is 0.
abbrev pub number_value : List ℕ → ℤ
number_value text = signed (split_sign text).0 (digits_value 10 (split_sign text).1)

-- A type of numbers.
abbrev pub HasRange : Ty → Type 0
HasRange (Whole n) = Unit {0}
HasRange (Signed w) = Unit {0}
HasRange _ = ⊥

-- Whether the number is in the range of the type.
abbrev pub in_range : Ty → ℤ → Bool
in_range (Whole n) z = fits_bits n z
in_range (Signed w) z = fits_width w z
in_range _ z = false

-- The answer to digits: the number below 2^64 that they write.
abbrev pub IsDigitsAnswer : List ℕ → Result ℕ NumberFault → Type 0
IsDigitsAnswer text (Ok n) = IsDigits text × (digits_value 10 text ≡ n)
IsDigitsAnswer text (Err NotNumber) = IsDigits text → ⊥
IsDigitsAnswer text (Err OutOfRange) = IsDigits text × (2 ^ 64 ≤ digits_value 10 text)

-- The answer to the text of a number of this range.
abbrev pub IsNumberAnswer : (ℤ → Bool) → List ℕ → Result ℤ NumberFault → Type 0
IsNumberAnswer fits text (Ok z) = IsNumber text × (number_value text ≡ z) × (fits z ≡ true)
IsNumberAnswer fits text (Err NotNumber) = IsNumber text → ⊥
IsNumberAnswer fits text (Err OutOfRange) = IsNumber text × (fits (number_value text) ≡ false)

-- The same, where the sign was split off.
abbrev pub IsSignedAnswer : (ℤ → Bool) → Bool → List ℕ → Result ℤ NumberFault → Type 0
IsSignedAnswer fits minus digits (Ok z) = IsDigits digits × (signed minus (digits_value 10 digits) ≡ z) × (fits z ≡ true)
IsSignedAnswer fits minus digits (Err NotNumber) = IsDigits digits → ⊥
IsSignedAnswer fits minus digits (Err OutOfRange) = IsDigits digits × (fits (signed minus (digits_value 10 digits)) ≡ false)
