-- Functions, chains of suffixes, patterns and types, as the definitions speak of them.
use Rattle.std.specs.Prelude.{Bool, ℕ, ℤ, List, [], ◌∷◌, Option}
use mir.Syntax.{Width}

-- how the time between two events stands to a number: `(?t<n)` and its like (manual: "sequenceMatch", pattern syntax)
pub data Op : Type 0 where
  Below BelowOrAt At AtOrAbove Above : Op

-- one item of a pattern: `(?N)`, an event that meets condition N, or `.`, any event
pub data PatItem : Type 0 where
  Cond : ℕ → PatItem
  Any : PatItem

-- what stands between two items: nothing, so that they are neighbours; `.*`; or a bound on the time between them
pub data PatLink : Type 0 where
  Next Gap : PatLink
  Time : Op → ℕ → PatLink

-- a pattern: its items, and a link between each two of them
pub record Pattern : Type 0 where
  pub items : List PatItem
  pub links : List PatLink

-- the folds of groupBitAnd, groupBitOr and groupBitXor
pub data BitOp : Type 0 where
  And Or Xor : BitOp

-- The aggregate functions with their parameters (manual: "Aggregate functions", a page for each). groupArray has its most values, if there is a limit;
-- quantileExact its level in billionths; windowFunnel its window and whether it is strict.
pub data Leaf : Type 0 where
  Count Sum Min Max ArgMin ArgMax : Leaf
  GroupArray : Option ℕ → Leaf
  UniqExact : Leaf
  QuantileExact : ℕ → Leaf
  WindowFunnel : ℕ → Bool → Leaf
  SequenceMatch : Pattern → Leaf
  Retention : Leaf
  GroupBit : BitOp → Leaf

-- A function with suffixes (manual: "Aggregate function combinators"). The outermost suffix, the last in the name, comes first.
-- Resample has its start, its end and its step.
pub data Chain : Type 0 where
  Of : Leaf → Chain
  If Array MapOf ForEach OrNull OrDefault Distinct State Merge : Chain → Chain
  Resample : ℤ → ℤ → ℕ → Chain → Chain

mutual
  -- Types (manual: "Data types"). Whole n are the numbers of n bits, UInt8 to UInt64 where n is 8 to 64, and Signed w those of the width w;
  -- StateOf c ts are the states of the chain c over arguments of the types ts (manual: "AggregateFunction").
  pub data Ty : Type 0 where
    Whole : ℕ → Ty
    Signed : Width → Ty
    Str : Ty
    Arr : Ty → Ty
    MapTy : Ty → Ty → Ty
    Nullable : Ty → Ty
    StateOf : Chain → Tys → Ty

  pub data Tys : Type 0 where
    no_tys : Tys
    a_ty : Ty → Tys → Tys

-- a list of types as the family has it, and back
abbrev pub tys_list : Tys → List Ty
tys_list no_tys = []
tys_list (a_ty t ts) = t ∷ tys_list ts

abbrev pub tys : List Ty → Tys
tys [] = no_tys
tys (t ∷ ts) = a_ty t (tys ts)
