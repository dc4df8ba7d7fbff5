-- What the reader of names answers, where the definition says what a name spells or where it stops.
use Rattle.std.specs.Prelude.{◌≡◌, ℕ, ◌<◌, ◌≤◌, length, Result, Ok, Err}
use Rattle.agg_typing.specs.Names.{Shape}
use Rattle.type_names.specs.declared.chain_name.NameShape.{NameShape}
use Rattle.type_names.specs.declared.chain_name.NameFault.{NameFault}

-- A name as the definitions see it.
abbrev pub shape_of : NameShape → Shape
shape_of s = record { leaf = s.leaf; suffixes = s.suffixes }

-- All was read, and there are more than eight suffixes.
abbrev pub HasTooMany : Result Shape ℕ → Type 0
HasTooMany (Ok shape) = 8 < length shape.suffixes
HasTooMany (Err at) = ⊥

-- The name that was read has at most eight suffixes. A fault tells where reading stopped, or that it has more than eight.
abbrev pub IsReadAs : Result Shape ℕ → Result NameShape NameFault → Type 0
IsReadAs reading (Ok name) = (reading ≡ Ok (shape_of name)) × (length name.suffixes ≤ 8)
IsReadAs reading (Err (NameFault.Unknown at)) = reading ≡ Err at
IsReadAs reading (Err NameFault.TooManySuffixes) = HasTooMany reading
IsReadAs reading (Err NameFault.OutOfMemory) = Unit {0}
