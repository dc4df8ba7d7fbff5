-- The shape of a type as it is written, and which written type has which shape (manual: "Data types").
use Rattle.std.specs.Prelude.{◌≡◌, ℕ, suc, max, List, [], ◌∷◌, codes, Option, Some, None, if◌then◌else◌}
use Rattle.std.specs.Str.{bytes_eq}
use mir.Syntax.{Width, w8, w16, w32, w64}
use Rattle.agg_typing.specs.Literals.{Literal}
use Rattle.type_names.specs.TypeTexts.{WrittenType as Written, WrittenTypes as WrittenTypes, plain, array, map_of, nullable, state, none, and_one}
use Rattle.type_shapes.specs.Literals.{AreRead}

mutual
  -- Whole n are the numbers of n bits, UInt8 to UInt64 where n is 8 to 64, and Signed w those of the width w. A state type
  -- has a name, literals and types.
  pub data Shape : Type 0 where
    Whole : ℕ → Shape
    Signed : Width → Shape
    Str : Shape
    Arr : Shape → Shape
    MapOf : Shape → Shape → Shape
    Nullable : Shape → Shape
    State : List ℕ → List Literal → Shapes → Shape

  pub data Shapes : Type 0 where
    no_shapes : Shapes
    a_shape : Shape → Shapes → Shapes

-- a list of shapes as the family has it
abbrev pub shapes : List Shape → Shapes
shapes [] = no_shapes
shapes (s ∷ ss) = a_shape s (shapes ss)

-- the type of this name, if it is one without parts
abbrev pub plain_shape : List ℕ → Option Shape
plain_shape w = if bytes_eq w (codes "UInt8") then Some (Whole 8) else (if bytes_eq w (codes "UInt16") then Some (Whole 16) else
    (if bytes_eq w (codes "UInt32") then Some (Whole 32) else (if bytes_eq w (codes "UInt64") then Some (Whole 64) else
    (if bytes_eq w (codes "Int8") then Some (Signed w8) else (if bytes_eq w (codes "Int16") then Some (Signed w16) else
    (if bytes_eq w (codes "Int32") then Some (Signed w32) else (if bytes_eq w (codes "Int64") then Some (Signed w64) else
    (if bytes_eq w (codes "String") then Some Str else None))))))))

abbrev mutual
  -- The written type has this shape.
  pub Spells : Written → Shape → Type 0
  Spells (plain name) s = plain_shape name ≡ Some s
  Spells (array ty) (Arr s) = Spells ty s
  Spells (map_of key ty) (MapOf k s) = Spells key k × Spells ty s
  Spells (nullable ty) (Nullable s) = Spells ty s
  Spells (state name literals types) (State n ls ss) = (n ≡ name) × AreRead literals ls × AllSpell types ss
  Spells ty s = ⊥

  -- the same of types, one by one
  pub AllSpell : WrittenTypes → Shapes → Type 0
  AllSpell none no_shapes = Unit {0}
  AllSpell (and_one ty types) (a_shape s ss) = Spells ty s × AllSpell types ss
  AllSpell types ss = ⊥

abbrev mutual
  -- How deep types stand in one another: a type without a part is at 1, any other one more than its deepest part.
  pub nesting : Written → ℕ
  nesting (plain name) = 1
  nesting (array ty) = suc (nesting ty)
  nesting (map_of key ty) = suc (max (nesting key) (nesting ty))
  nesting (nullable ty) = suc (nesting ty)
  nesting (state name literals types) = suc (deepest types)

  pub deepest : WrittenTypes → ℕ
  deepest none = 0
  deepest (and_one ty types) = max (nesting ty) (deepest types)
