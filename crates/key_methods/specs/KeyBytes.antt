-- The bytes of a key: its values one behind another. A number has the bytes of its width, the highest first, in two's complement where the type is signed;
-- a String its length in 8 bytes and its bytes; under Nullable there is a byte before, 0 for NULL and 1 for a value. A String that is the whole key is its
-- bytes alone.
use Rattle.std.specs.Prelude.{ℕ, ℤ, pos, negsuc, FitsSigned, ◌/◌, ◌<◌, ◌^◌, Bool, true, false, unsigned_abs, List, [], ◌∷◌, ◌++◌, length}
use Rattle.std.specs.Int.{byte_len, bytes_high_first, cast_unsigned}
use Rattle.agg_terms.specs.Chains.{Nullable, Signed, Str, Ty, Whole}
use Rattle.agg_terms.specs.Lists.{Each}
use Rattle.agg_terms.specs.Values.{Bytes, Num, Value, is_null}
use Rattle.key_methods.specs.declared.kind.KeyKind.{KeyKind}
use Rattle.key_methods.specs.declared.kind.KeyKind.TheVariants.{KeyString}

-- the number that a number's bytes spell
abbrev pub word_of : Ty → Value → ℕ
word_of (Whole n) (Num z) = unsigned_abs z
word_of (Signed w) (Num z) = cast_unsigned w z
word_of _ _ = 0

-- a number of the type
abbrev pub IsNumberOf : Ty → ℤ → Type 0
IsNumberOf (Whole n) (pos k) = k < 2 ^ n
IsNumberOf (Whole n) (negsuc k) = ⊥
IsNumberOf (Signed w) z = FitsSigned w z
IsNumberOf _ z = Unit {0}

-- the bytes of a String
abbrev pub text_of : Value → List ℕ
text_of (Bytes bytes) = bytes
text_of _ = []

abbrev pub text_bytes : List ℕ → List ℕ
text_bytes bytes = bytes_high_first 8 (length bytes) ++ bytes

abbrev pub flagged : Bool → List ℕ → List ℕ
flagged true bytes = 0 ∷ []
flagged false bytes = 1 ∷ bytes

abbrev pub value_bytes : Ty → Value → List ℕ
value_bytes (Whole n) v = bytes_high_first (n / 8) (word_of (Whole n) v)
value_bytes (Signed w) v = bytes_high_first (byte_len w) (word_of (Signed w) v)
value_bytes Str v = text_bytes (text_of v)
value_bytes (Nullable t) v = flagged (is_null v) (value_bytes t v)
value_bytes _ v = []

abbrev pub values_bytes : List Ty → List Value → List ℕ
values_bytes [] vs = []
values_bytes (t ∷ ts) [] = []
values_bytes (t ∷ ts) (v ∷ vs) = value_bytes t v ++ values_bytes ts vs

-- a String that is the whole key
abbrev pub only_text : List Value → List ℕ
only_text [] = []
only_text (v ∷ vs) = text_of v

abbrev pub bytes_by : KeyKind → List Ty → List Value → List ℕ
bytes_by KeyString ts vs = only_text vs
bytes_by _ ts vs = values_bytes ts vs

-- a String has fewer than 2^64 bytes, so that its length has 8
abbrev pub IsShort : Value → Type 0
IsShort (Bytes bytes) = length bytes < 2 ^ 64
IsShort _ = Unit {0}

abbrev pub AreShort : List Value → Type 0
AreShort vs = Each IsShort vs
