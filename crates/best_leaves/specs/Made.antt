-- What a state was made for, as the definitions have it.
use Rattle.std.specs.Prelude.{ℕ}
use mir.Syntax.{w8, w16, w32, w64}
use Rattle.agg_terms.specs.Chains.{ArgMax, ArgMin, Leaf, Max, Min, Signed, Str, Ty, Whole}
use Rattle.agg_meaning.specs.Results.{nullable_if}
use Rattle.agg_meaning.specs.States as states
use Rattle.best_leaves.specs.declared.function.Function.{Function}
use Rattle.best_leaves.specs.declared.function.Function.TheVariants as function
use Rattle.best_leaves.specs.declared.kind.Kind.{Kind}
use Rattle.best_leaves.specs.declared.kind.Kind.TheVariants as kind
use Rattle.best_leaves.specs.declared.made.Made.{Made}

-- a function
abbrev pub function_leaf : Function → Leaf
function_leaf function.Min = Min
function_leaf function.Max = Max
function_leaf function.ArgMin = ArgMin
function_leaf function.ArgMax = ArgMax

-- how many arguments it has
abbrev pub arguments_of : Function → ℕ
arguments_of function.Min = 1
arguments_of function.Max = 1
arguments_of function.ArgMin = 2
arguments_of function.ArgMax = 2

-- a type of numbers, or String
abbrev pub kind_ty : Kind → Ty
kind_ty kind.U8 = Whole 8
kind_ty kind.U16 = Whole 16
kind_ty kind.U32 = Whole 32
kind_ty kind.U64 = Whole 64
kind_ty kind.I8 = Signed w8
kind_ty kind.I16 = Signed w16
kind_ty kind.I32 = Signed w32
kind_ty kind.I64 = Signed w64
kind_ty kind.Text = Str

-- what a state was made for
abbrev pub made_of : Made → states.Made
made_of m = record {
  leaf = function_leaf m.function;
  result = nullable_if m.nullable (kind_ty m.kind);
  arguments = arguments_of m.function;
}
