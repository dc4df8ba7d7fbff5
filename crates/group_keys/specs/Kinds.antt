-- Which kinds of keys are kept as what.
use Rattle.std.specs.Prelude.{Bool, true, false}
use Rattle.key_methods.specs.declared.kind.KeyKind.{KeyKind}
use Rattle.key_methods.specs.declared.kind.KeyKind.TheVariants.{Key8, Key16, Key32, Key64, KeyString, Serialized}

-- keys of one number
abbrev pub is_one_number : KeyKind → Bool
is_one_number Key8 = true
is_one_number Key16 = true
is_one_number Key32 = true
is_one_number Key64 = true
is_one_number _ = false

-- keys that are bytes
abbrev pub is_bytes : KeyKind → Bool
is_bytes KeyString = true
is_bytes Serialized = true
is_bytes _ = false
