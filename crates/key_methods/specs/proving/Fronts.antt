-- What stands at the front of the bytes of a key, and what follows it: as much as there is, where bytes of a key stand there or not.
use Rattle.std.specs.Prelude.{ℕ, zero, suc, ◌/◌, pos, List, [], ◌∷◌, take, drop}
use Rattle.std.specs.Int.{byte_len, cast_signed}
use Rattle.agg_terms.specs.Chains.{Nullable, Signed, Str, Ty, Whole}
use Rattle.agg_terms.specs.Values.{Bytes, Nil, Num, Value}
use Rattle.key_methods.specs.declared.kind.KeyKind.{KeyKind}
use Rattle.key_methods.specs.declared.kind.KeyKind.TheVariants.{KeyString}
use Rattle.key_methods.specs.Figures.{worth}

-- the number that a word stands for
abbrev pub number_at : Ty → ℕ → Value
number_at (Signed w) word = Num (cast_signed w word)
number_at _ word = Num (pos word)

-- a number of so many bytes
abbrev pub number_front : Ty → ℕ → List ℕ → Value × List ℕ
number_front t width bytes = (number_at t (worth (take width bytes)), drop width bytes)

-- a String of so many bytes
abbrev pub text_front : ℕ → List ℕ → Value × List ℕ
text_front count bytes = (Bytes (take count bytes), drop count bytes)

-- behind the byte 0 nothing, behind another byte a value
abbrev pub flag_front : (List ℕ → Value × List ℕ) → List ℕ → Value × List ℕ
flag_front front [] = (Nil, [])
flag_front front (zero ∷ rest) = (Nil, rest)
flag_front front (suc flag ∷ rest) = front rest

abbrev pub value_front : Ty → List ℕ → Value × List ℕ
value_front (Whole n) bytes = number_front (Whole n) (n / 8) bytes
value_front (Signed w) bytes = number_front (Signed w) (byte_len w) bytes
value_front Str bytes = text_front (worth (take 8 bytes)) (drop 8 bytes)
value_front (Nullable t) bytes = flag_front (value_front t) bytes
value_front _ bytes = (Nil, bytes)

-- one value of each type
abbrev pub values_front : List Ty → List ℕ → List Value
values_front [] bytes = []
values_front (t ∷ ts) bytes = (value_front t bytes).0 ∷ values_front ts (value_front t bytes).1

abbrev pub values_by : KeyKind → List Ty → List ℕ → List Value
values_by KeyString ts bytes = Bytes bytes ∷ []
values_by _ ts bytes = values_front ts bytes
