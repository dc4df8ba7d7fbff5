-- Whether two chains are the same, by cases.
use Rattle.std.specs.Prelude.{ℕ, nat_eq, ℤ, int_le, Bool, true, false, ◌&&◌, List, [], ◌∷◌, Option, Some, None}
use Rattle.agg_terms.specs.Chains.{Op, Below, BelowOrAt, At, AtOrAbove, Above, PatItem, Cond, Any, PatLink, Next, Gap, Time, Pattern, BitOp, And, Or, Xor, Leaf, Chain}
use Rattle.agg_terms.specs.Chains as C

abbrev pub same_list : {X : Type 0} → (X → X → Bool) → List X → List X → Bool
same_list same [] [] = true
same_list same (x ∷ xs) (y ∷ ys) = same x y && same_list same xs ys
same_list same _ _ = false

abbrev pub same_op : Op → Op → Bool
same_op Below Below = true
same_op BelowOrAt BelowOrAt = true
same_op At At = true
same_op AtOrAbove AtOrAbove = true
same_op Above Above = true
same_op _ _ = false

abbrev pub same_item : PatItem → PatItem → Bool
same_item (Cond a) (Cond b) = nat_eq a b
same_item Any Any = true
same_item _ _ = false

abbrev pub same_link : PatLink → PatLink → Bool
same_link Next Next = true
same_link Gap Gap = true
same_link (Time o a) (Time p b) = same_op o p && nat_eq a b
same_link _ _ = false

abbrev pub same_pattern : Pattern → Pattern → Bool
same_pattern a b = same_list same_item a.items b.items && same_list same_link a.links b.links

abbrev pub same_bit : BitOp → BitOp → Bool
same_bit And And = true
same_bit Or Or = true
same_bit Xor Xor = true
same_bit _ _ = false

abbrev pub same_bool : Bool → Bool → Bool
same_bool true true = true
same_bool false false = true
same_bool _ _ = false

abbrev pub same_most : Option ℕ → Option ℕ → Bool
same_most None None = true
same_most (Some a) (Some b) = nat_eq a b
same_most _ _ = false

abbrev pub same_leaf : Leaf → Leaf → Bool
same_leaf C.Count C.Count = true
same_leaf C.Sum C.Sum = true
same_leaf C.Min C.Min = true
same_leaf C.Max C.Max = true
same_leaf C.ArgMin C.ArgMin = true
same_leaf C.ArgMax C.ArgMax = true
same_leaf (C.GroupArray m) (C.GroupArray n) = same_most m n
same_leaf C.UniqExact C.UniqExact = true
same_leaf (C.QuantileExact a) (C.QuantileExact b) = nat_eq a b
same_leaf (C.WindowFunnel a s) (C.WindowFunnel b t) = nat_eq a b && same_bool s t
same_leaf (C.SequenceMatch a) (C.SequenceMatch b) = same_pattern a b
same_leaf C.Retention C.Retention = true
same_leaf (C.GroupBit a) (C.GroupBit b) = same_bit a b
same_leaf _ _ = false

abbrev pub same_int : ℤ → ℤ → Bool
same_int a b = int_le a b && int_le b a

abbrev pub same_chain : Chain → Chain → Bool
same_chain (C.Of f) (C.Of g) = same_leaf f g
same_chain (C.If c) (C.If d) = same_chain c d
same_chain (C.Array c) (C.Array d) = same_chain c d
same_chain (C.MapOf c) (C.MapOf d) = same_chain c d
same_chain (C.ForEach c) (C.ForEach d) = same_chain c d
same_chain (C.OrNull c) (C.OrNull d) = same_chain c d
same_chain (C.OrDefault c) (C.OrDefault d) = same_chain c d
same_chain (C.Distinct c) (C.Distinct d) = same_chain c d
same_chain (C.State c) (C.State d) = same_chain c d
same_chain (C.Merge c) (C.Merge d) = same_chain c d
same_chain (C.Resample s e k c) (C.Resample t f l d) = same_int s t && (same_int e f && (nat_eq k l && same_chain c d))
same_chain _ _ = false
