-- The key of a tuple: plain numbers as the number that their bytes spell, all else as the bytes themselves.
use Rattle.std.specs.Prelude.{ℕ, ◌==◌, if◌then◌else◌, ◌/◌, ◌^◌, ◌≤◌, List, length}
use Rattle.std.specs.Int.{bytes_high_first}
use Rattle.agg_terms.specs.Chains.{Ty}
use Rattle.agg_terms.specs.Values.{Value}
use Rattle.key_methods.specs.declared.kind.KeyKind.{KeyKind}
use Rattle.key_methods.specs.declared.kind.KeyKind.TheVariants.{Packed128, KeyString, Serialized}
use Rattle.key_methods.specs.declared.key.Key.{Key}
use Rattle.key_methods.specs.declared.key.Key.TheVariants.{Small, Wide, Long}
use Rattle.key_methods.specs.Figures.{worth}
use Rattle.key_methods.specs.Hash.{hash_of}
use Rattle.key_methods.specs.KeyBytes.{bytes_by}
use Rattle.key_methods.specs.Kinds.{kind_of}

-- these bytes as a key
abbrev pub key_with : KeyKind → List ℕ → Key
key_with Packed128 bytes = Wide (worth bytes) (length bytes)
key_with KeyString bytes = Long bytes
key_with Serialized bytes = Long bytes
key_with _ bytes = Small (worth bytes) (length bytes)

-- the key of a tuple
abbrev pub key_by : KeyKind → List Ty → List Value → Key
key_by kind ts vs = key_with kind (bytes_by kind ts vs)

abbrev pub key_of : List Ty → List Value → Key
key_of ts vs = key_by (kind_of ts) ts vs

-- the bytes of a key
abbrev pub bytes_of : Key → List ℕ
bytes_of (Small word width) = bytes_high_first width word
bytes_of (Wide word width) = bytes_high_first width word
bytes_of (Long bytes) = bytes

-- a key whose word has as many bytes as it says
abbrev pub IsKey : Key → Type 0
IsKey (Small word width) = width ≤ 8
IsKey (Wide word width) = width ≤ 16
IsKey (Long bytes) = Unit {0}

-- the top 8 bits of a hash
abbrev pub top_byte : ℕ → ℕ
top_byte hash = hash / 2 ^ 56

-- A key's bucket: the top 8 bits of the hash of its bytes, and 0 for the one key of no columns.
abbrev pub bucket_of : Key → ℕ
bucket_of (Small word width) = if width == 0 then 0 else top_byte (hash_of (bytes_high_first width word))
bucket_of (Wide word width) = top_byte (hash_of (bytes_high_first width word))
bucket_of (Long bytes) = top_byte (hash_of bytes)
