-- The rule on the states that a Merge takes.
use Rattle.std.specs.Prelude.{Bool, true, false, cond, not, ◌&&◌, List, [], ◌∷◌, Option, Some, None}
use Rattle.agg_terms.specs.Chains.{Chain, Ty}
use Rattle.agg_terms.specs.Chains as C
use Rattle.agg_terms.specs.Lists.{front}
use Rattle.agg_terms.specs.Types.{element, map_part}
use Rattle.agg_typing.specs.Faults.{Fault, WrongState}
use Rattle.agg_typing.specs.Same.{same_chain}
use Rattle.agg_typing.specs.Kinds.{Arg, with_parts}

-- a State or a Merge at the outermost link: such a chain has the states of its inner chain, and no state type names it
abbrev pub is_state_or_merge : Chain → Bool
is_state_or_merge (C.State c) = true
is_state_or_merge (C.Merge c) = true
is_state_or_merge _ = false

-- a state type of exactly this chain, which is no State and no Merge
abbrev pub is_state_of : Chain → Ty → Bool
is_state_of c (C.StateOf d ts) = same_chain c d && not (is_state_or_merge c)
is_state_of c t = false

-- Wrong state: the first that isn't a state type of the chain.
abbrev pub each_state : Chain → List Arg → Option Fault
each_state c [] = None
each_state c (a ∷ args) = cond (is_state_of c a.1) (each_state c args) (Some (WrongState a.0))

-- Wrong state, at the Merge of a chain: it takes a state of exactly its inner chain (manual: "Aggregate function
-- combinators", -Merge).
abbrev pub wrong_state : Chain → List Arg → Option Fault
wrong_state (C.Of f) args = None
wrong_state (C.If c) args = wrong_state c (front args)
wrong_state (C.Resample start end step c) args = wrong_state c (front args)
wrong_state (C.Array c) args = wrong_state c (with_parts element args)
wrong_state (C.ForEach c) args = wrong_state c (with_parts element args)
wrong_state (C.MapOf c) args = wrong_state c (with_parts map_part args)
wrong_state (C.Distinct c) args = wrong_state c args
wrong_state (C.OrNull c) args = wrong_state c args
wrong_state (C.OrDefault c) args = wrong_state c args
wrong_state (C.State c) args = wrong_state c args
wrong_state (C.Merge c) args = each_state c args
