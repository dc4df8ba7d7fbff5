-- The shapes of the types of one name.
use Rattle.std.proofs.Common.{◌≡◌, subst, ℕ, List, Bool, true, false, if◌then◌else◌, Option, Some, None, codes}
use Rattle.std.specs.Str.{bytes_eq}
use mir.Syntax.{Width, w8, w16, w32, w64}
use Rattle.type_shapes.specs.Shapes.{Shape, Whole, Signed, Str, plain_shape}

module _ (P : Shape → Type 0) (whole : (n : ℕ) → P (Whole n)) (signed : (w : Width) → P (Signed w)) (text : P Str) where
  abbrev IfSome : Option Shape → Type 0
  IfSome None = Unit {0}
  IfSome (Some s) = P s

  chosen : (a b c d e f g h i : Bool) → IfSome (if a then Some (Whole 8) else (if b then Some (Whole 16) else (if c then Some (Whole 32) else (if d then Some (Whole 64) else
      (if e then Some (Signed w8) else (if f then Some (Signed w16) else (if g then Some (Signed w32) else (if h then Some (Signed w64) else (if i then Some Str else None)))))))))
  chosen true b c d e f g h i = whole 8
  chosen false true c d e f g h i = whole 16
  chosen false false true d e f g h i = whole 32
  chosen false false false true e f g h i = whole 64
  chosen false false false false true f g h i = signed w8
  chosen false false false false false true g h i = signed w16
  chosen false false false false false false true h i = signed w32
  chosen false false false false false false false true i = signed w64
  chosen false false false false false false false false true = text
  chosen false false false false false false false false false = tt

  -- what holds of numbers and texts holds of the shape of a name
  pub each_name : (name : List ℕ) (s : Shape) → plain_shape name ≡ Some s → P s
  each_name name s e =
      subst IfSome e (chosen (bytes_eq name (codes "UInt8")) (bytes_eq name (codes "UInt16")) (bytes_eq name (codes "UInt32")) (bytes_eq name (codes "UInt64"))
      (bytes_eq name (codes "Int8")) (bytes_eq name (codes "Int16")) (bytes_eq name (codes "Int32")) (bytes_eq name (codes "Int64")) (bytes_eq name (codes "String")))
