-- What contracts see of a state, and the state of a function that it is.
use Rattle.std.specs.Prelude.{◌<◌, ◌≤◌, ◌^◌, ℕ, Bool, Option}
use mir.Syntax.{w8, w16, w32, w64}
use Rattle.agg_terms.specs.Chains.{And, Arr, Count, GroupBit, Leaf, Max, Min, Or, Retention, Signed, Sum, Ty, Whole, Xor}
use Rattle.agg_meaning.specs.Functions.{bits_in}
use Rattle.agg_meaning.specs.Results.{nullable_if}
use Rattle.agg_meaning.specs.States as states
use Rattle.agg_meaning.specs.States.{Held}
use Rattle.int_leaves.specs.Words.{IfWord, KeepsWord, word_tree, word_type}
use Rattle.int_leaves.specs.declared.function.Function.{Function}
use Rattle.int_leaves.specs.declared.function.Function.TheVariants as function
use Rattle.int_leaves.specs.declared.made.Made.{Made}
use Rattle.int_leaves.specs.declared.number.Number.{Number}
use Rattle.int_leaves.specs.declared.number.Number.TheVariants as number

-- a type of numbers as the definitions have it
abbrev pub number_ty : Number → Ty
number_ty number.U8 = Whole 8
number_ty number.U16 = Whole 16
number_ty number.U32 = Whole 32
number_ty number.U64 = Whole 64
number_ty number.I8 = Signed w8
number_ty number.I16 = Signed w16
number_ty number.I32 = Signed w32
number_ty number.I64 = Signed w64

-- a function
abbrev pub function_leaf : Function → Leaf
function_leaf function.Count = Count
function_leaf function.Sum = Sum
function_leaf function.Min = Min
function_leaf function.Max = Max
function_leaf function.BitAnd = GroupBit And
function_leaf function.BitOr = GroupBit Or
function_leaf function.BitXor = GroupBit Xor
function_leaf function.Retention = Retention

-- its result type, for numbers of a type that may be Nullable
abbrev pub function_result : Function → Number → Bool → Ty
function_result function.Count n b = Whole 64
function_result function.Retention n b = Arr (Whole 8)
function_result _ n b = nullable_if b (number_ty n)

-- what a state is seen as: what it was made for, and the bits of its word where a row was fed
pub record Parts : Type 0 where
  pub made : Made
  pub word : Option ℕ

-- the type of its word
abbrev pub held_type : Made → Ty
held_type m = word_type (function_leaf m.function) (function_result m.function m.number m.nullable)

-- what a state was made for, as the definitions have it
abbrev pub made_of : Made → states.Made
made_of m = record { leaf = function_leaf m.function; result = function_result m.function m.number m.nullable; arguments = m.arguments }

-- the state of a function that these parts are
abbrev pub held : Parts → Held
held p = record { made = made_of p.made; tree = word_tree (held_type p.made) p.word }

-- a word has no more bits than its type
abbrev pub IsKept : Parts → Type 0
IsKept p =
    KeepsWord (function_leaf p.made.function) (number_ty p.made.number)
    × (p.made.arguments ≤ 32)
    × IfWord (λ x. x < 2 ^ bits_in (word_type (function_leaf p.made.function) (number_ty p.made.number))) p.word
