-- Rows fed by place, whatever the argument types of the chain are that give its function these.
use Rattle.std.specs.Prelude.{◌≡◌, ◌<◌, ◌+◌, ℕ, zero, suc, nat_eq, pos, Bool, false, List, [], ◌∷◌, ◌++◌, map, length, get_or, Option, Some, None}
use Rattle.agg_terms.specs.Chains.{Chain, If, Ty}
use Rattle.agg_terms.specs.Lists.{Each}
use Rattle.agg_terms.specs.Values as family
use Rattle.agg_terms.specs.Values.{Value}
use Rattle.agg_meaning.specs.Lawful.{IsSound}
use Rattle.agg_meaning.specs.Views.{items_at}
use Rattle.agg_typing.specs.Legal.{function_of}
use Rattle.typed_columns.specs.TypedValues.{TypedValues}
use Rattle.value_types.specs.declared.ty.Ty.TheVariants as ty
use Rattle.value_types.specs.declared.value.Value.TheVariants.{Num}
use Rattle.running_states.specs.declared.running.Running.{Running}
use Rattle.running_states.specs.Shapes.{IsState}
use Rattle.chain_links.specs.proving.Words.{FeedsAll}
use Rattle.chain_states.specs.declared.state.State.{State}
use Rattle.chain_states.specs.Calls.{batch_row, reaching}

-- states of a chain
abbrev pub AreStates : Chain → List Ty → List State → Type 0
AreStates c us ss = Each (λ s. IsState c us s.running) ss

-- a column, one without values where there is none, and the numbers of a column
abbrev pub column_at : List TypedValues → ℕ → TypedValues
column_at columns a = get_or columns a (record { ty = ty.U8; values = [] })

abbrev pub IsConditions : List TypedValues → ℕ → List ℕ → Type 0
IsConditions columns a conditions = (a < length columns) × ((column_at columns a).values ≡ map (λ n. Num (pos n)) conditions)

pub record FeedsAt (c : Chain) (us : List Ty) (ps : List ℕ) (rs : List (List Value)) (ss vv : List State) : Type 0 where
  pub long : length vv ≡ length ss
  pub at : (g : ℕ) (d : State) → g < length ss → FeedsAll c us (reaching g ps rs) (get_or ss g d).running (get_or vv g d).running

-- the arguments that columns have at a number, and n rows from a number on
abbrev pub row_of : List TypedValues → List ℕ → ℕ → List Value
row_of columns arguments n = items_at arguments (batch_row columns n)

abbrev pub rows_from : (ℕ → List Value) → ℕ → ℕ → List (List Value)
rows_from row from zero = []
rows_from row from (suc n) = rows_from row from n ++ row (from + n) ∷ []

-- Conditions of rows, where there are any: whether a row is left out, a row with its condition behind, and the chain of such rows.
abbrev pub is_left : {X : Type 0} → (X → List ℕ) → Option X → ℕ → Bool
is_left of None n = false
is_left of (Some x) n = nat_eq (get_or (of x) n 0) 0

abbrev pub with_condition : {X : Type 0} → (X → List ℕ) → Option X → (ℕ → List Value) → ℕ → List Value
with_condition of None row n = row n
with_condition of (Some x) row n = row n ++ family.Num (pos (get_or (of x) n 0)) ∷ []

abbrev pub with_if : {X : Type 0} → Option X → Chain → Chain
with_if None c = c
with_if (Some x) c = If c

-- A chain whose states are those of another, which rows reach as they reach the other's.
pub record IsFedAs (c d : Chain) : Type 0 where
  pub sound : IsSound c → IsSound d
  pub function : function_of d ≡ function_of c
  pub inward : (us : List Ty) (s : Running) → IsState c us s → IsState d us s
  pub outward : (us : List Ty) (s : Running) → IsState d us s → IsState c us s
  pub all : (us : List Ty) (rs : List (List Value)) (s v : Running) → FeedsAll d us rs s v → FeedsAll c us rs s v
  pub met : (us : List Ty) (rs : List (List Value)) (s v : Running) → FeedsAll (If d) us rs s v → FeedsAll (If c) us rs s v
