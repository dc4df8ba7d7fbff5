-- The hash of bytes: FNV-1a of 64 bits.
use Rattle.std.specs.Prelude.{ℕ, ◌*◌, ◌%◌, ◌^◌, List, [], ◌∷◌, bit_xor}

-- a byte more
abbrev pub hash_step : ℕ → ℕ → ℕ
hash_step hash byte = (bit_xor hash byte * 1099511628211) % 2 ^ 64

-- more bytes behind those that this is the hash of
abbrev pub hash_behind : ℕ → List ℕ → ℕ
hash_behind hash [] = hash
hash_behind hash (b ∷ bs) = hash_behind (hash_step hash b) bs

abbrev pub hash_of : List ℕ → ℕ
hash_of bytes = hash_behind 14695981039346656037 bytes
