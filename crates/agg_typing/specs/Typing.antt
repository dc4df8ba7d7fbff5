-- Which calls are allowed: nine rules in their order, and the first that is broken. Within one rule the outermost link
-- comes first, and within one link what stands further left. The order is this project's own choice.
use Rattle.std.specs.Prelude.{ℕ, not, List, length, reverse, Result, Ok, Err}
use Rattle.agg_terms.specs.declared.words.Suffix.{Suffix}
use Rattle.agg_terms.specs.Chains.{Chain, Ty, StateOf, tys}
use Rattle.agg_terms.specs.Lists.{numbered}
use Rattle.agg_meaning.specs.Results.{result, state_type}
use Rattle.agg_typing.specs.Literals.{Literal}
use Rattle.agg_typing.specs.Names.{Shape, read_name}
use Rattle.agg_typing.specs.Faults.{Fault, UnknownName, TooManySuffixes, ArrayOutsideIf, ParamCount, WrongState, and_then, check, no_breach}
use Rattle.agg_typing.specs.Suffixes.{has_few_suffixes, has_array_outside_if, takes_param_count, arguments_reaching}
use Rattle.agg_typing.specs.Parameters.{PatternReader, pattern_conditions, read_chain}
use Rattle.agg_typing.specs.Counts.{arg_count}
use Rattle.agg_typing.specs.Kinds.{arg_types}
use Rattle.agg_typing.specs.States.{wrong_state, is_state_or_merge}

-- Unknown name: the name is a function followed by suffixes.
abbrev pub known_name : Result Shape ℕ → Result Shape Fault
known_name (Ok shape) = Ok shape
known_name (Err at) = Err UnknownName

-- The rules behind the name, in their order: the chain where none is broken, otherwise the first breach.
abbrev pub allowed_shape : PatternReader → Shape → List Literal → List Ty → Result Chain Fault
allowed_shape reads shape params args =
    let outermost_first : List Suffix = reverse shape.suffixes in
    let pattern_size : ℕ = pattern_conditions (arguments_reaching outermost_first (length args)) in
    and_then (check (has_few_suffixes outermost_first) TooManySuffixes) (λ (_ : Unit {0}).
    and_then (check (not (has_array_outside_if outermost_first)) ArrayOutsideIf) (λ (_ : Unit {0}).
    and_then (check (takes_param_count shape.leaf outermost_first (length params)) ParamCount) (λ (_ : Unit {0}).
    -- the parameters, and then the pattern
    and_then (read_chain reads pattern_size shape.leaf 1 outermost_first params) (λ (c : Chain).
    and_then (no_breach (arg_count c (length args))) (λ (_ : Unit {0}).
    and_then (no_breach (arg_types c (numbered 1 args))) (λ (_ : Unit {0}).
    and_then (no_breach (wrong_state c (numbered 1 args))) (λ (_ : Unit {0}). Ok c)))))))

-- all nine rules: the chain of a call that breaks none of them, otherwise the first breach
abbrev pub allowed : PatternReader → List ℕ → List Literal → List Ty → Result Chain Fault
allowed reads name params args =
    and_then (known_name (read_name name)) (λ (shape : Shape). allowed_shape reads shape params args)

-- a chain with its argument types, its result's type and its states' type
pub record TypedCall : Type 0 where
  pub chain : Chain
  pub args : List Ty
  pub result : Ty
  pub state : Ty

abbrev pub call_of : Chain → List Ty → TypedCall
call_of c ts = record { chain = c; args = ts; result = result c ts; state = state_type c ts }

-- what a call of a request stands for, or why it is refused
abbrev pub resolved : PatternReader → List ℕ → List Literal → List Ty → Result TypedCall Fault
resolved reads name params args = and_then (allowed reads name params args) (λ (c : Chain). Ok (call_of c args))

-- the type that the text of a state type names: by the same rules, and then its chain is no State and no Merge
abbrev pub resolved_state : PatternReader → List ℕ → List Literal → List Ty → Result Ty Fault
resolved_state reads name params args =
    and_then (allowed reads name params args) (λ (c : Chain).
    and_then (check (not (is_state_or_merge c)) (WrongState 0)) (λ (_ : Unit {0}). Ok (StateOf c (tys args))))
