-- What keys come to.
use Rattle.std.specs.Prelude.{◌≡◌, List, map}
use Rattle.agg_terms.specs.Values.{Value}
use Rattle.value_types.specs.Folds.{ty_of}
use Rattle.value_types.specs.declared.ty.Ty.{Ty}
use Rattle.key_methods.specs.KeyBytes.{bytes_by}
use Rattle.key_methods.specs.Keys.{bytes_of, key_of}
use Rattle.key_methods.specs.Kinds.{AreKeyTypes, kind_of}
use Rattle.key_methods.specs.Tuples.{IsTuple}

-- tuples of one list of types that have one key are one tuple
abbrev pub KeysAreOneToOne : Type 0
KeysAreOneToOne = (types : List Ty) (vs ws : List Value) → AreKeyTypes types → IsTuple types vs → IsTuple types ws →
    key_of (map ty_of types) vs ≡ key_of (map ty_of types) ws → vs ≡ ws

-- the bytes of a tuple's key are the tuple's bytes
abbrev pub KeysHaveTheBytes : Type 0
KeysHaveTheBytes = (types : List Ty) (vs : List Value) → AreKeyTypes types → IsTuple types vs →
    bytes_of (key_of (map ty_of types) vs) ≡ bytes_by (kind_of (map ty_of types)) (map ty_of types) vs
