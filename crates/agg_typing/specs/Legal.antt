-- Which chains with types are legal, and which types.
use Rattle.std.specs.Prelude.{ℕ, ◌*◌, ◌^◌, nat_lt, nat_le, ℤ, int_lt, Bool, true, false, not, ◌&&◌, List, [], ◌∷◌, length, Option, Some, None, is_none}
use Rattle.std.specs.List.{list_all}
use Rattle.agg_terms.specs.declared.words.Suffix.{Suffix}
use Rattle.agg_terms.specs.Chains.{PatItem, Cond, Any, PatLink, Next, Gap, Time, Pattern, Leaf, Chain, Ty, Tys, no_tys, a_ty, tys_list}
use Rattle.agg_terms.specs.Chains as C
use Rattle.agg_terms.specs.Lists.{numbered}
use Rattle.agg_terms.specs.Types.{intervals}
use Rattle.agg_typing.specs.Suffixes.{has_few_suffixes, has_array_outside_if, arguments_reaching}
use Rattle.agg_typing.specs.Parameters.{is_int64, most_intervals, pattern_conditions}
use Rattle.agg_typing.specs.Counts.{arg_count}
use Rattle.agg_typing.specs.Kinds.{arg_types}
use Rattle.agg_typing.specs.States.{wrong_state, is_state_or_merge}

-- the suffixes of a chain from the outermost inward
abbrev pub suffixes_of : Chain → List Suffix
suffixes_of (C.Of f) = []
suffixes_of (C.If c) = Suffix.If ∷ suffixes_of c
suffixes_of (C.Array c) = Suffix.Array ∷ suffixes_of c
suffixes_of (C.MapOf c) = Suffix.MapOf ∷ suffixes_of c
suffixes_of (C.ForEach c) = Suffix.ForEach ∷ suffixes_of c
suffixes_of (C.OrNull c) = Suffix.OrNull ∷ suffixes_of c
suffixes_of (C.OrDefault c) = Suffix.OrDefault ∷ suffixes_of c
suffixes_of (C.Distinct c) = Suffix.Distinct ∷ suffixes_of c
suffixes_of (C.State c) = Suffix.State ∷ suffixes_of c
suffixes_of (C.Merge c) = Suffix.Merge ∷ suffixes_of c
suffixes_of (C.Resample start end step c) = Suffix.Resample ∷ suffixes_of c

-- the innermost link: the function
abbrev pub function_of : Chain → Leaf
function_of (C.Of f) = f
function_of (C.If c) = function_of c
function_of (C.Array c) = function_of c
function_of (C.MapOf c) = function_of c
function_of (C.ForEach c) = function_of c
function_of (C.OrNull c) = function_of c
function_of (C.OrDefault c) = function_of c
function_of (C.Distinct c) = function_of c
function_of (C.State c) = function_of c
function_of (C.Merge c) = function_of c
function_of (C.Resample start end step c) = function_of c

-- the chain inside the outermost link, if that is a suffix
abbrev pub inner_chain : Chain → Option Chain
inner_chain (C.Of f) = None
inner_chain (C.If c) = Some c
inner_chain (C.Array c) = Some c
inner_chain (C.MapOf c) = Some c
inner_chain (C.ForEach c) = Some c
inner_chain (C.OrNull c) = Some c
inner_chain (C.OrDefault c) = Some c
inner_chain (C.Distinct c) = Some c
inner_chain (C.State c) = Some c
inner_chain (C.Merge c) = Some c
inner_chain (C.Resample start end step c) = Some c

-- an item of a pattern over n conditions
abbrev pub is_item : ℕ → PatItem → Bool
is_item n (Cond i) = nat_le 1 i && nat_le i n
is_item n Any = true

-- whether an item is a condition
abbrev pub is_cond : PatItem → Bool
is_cond (Cond i) = true
is_cond Any = false

-- a time stands between two conditions
abbrev pub is_link : PatItem → PatLink → PatItem → Bool
is_link a (Time op v) b = is_cond a && (is_cond b && nat_lt v (2 ^ 64))
is_link a link b = true

-- one item or more, and a link between each two
abbrev pub are_linked : List PatItem → List PatLink → Bool
are_linked (a ∷ []) [] = true
are_linked (a ∷ b ∷ items) (l ∷ links) = is_link a l b && are_linked (b ∷ items) links
are_linked _ _ = false

-- A pattern over n conditions: 1 to 64 items, a link between each two, a time between conditions alone
-- (manual: "sequenceMatch").
abbrev pub is_pattern : ℕ → Pattern → Bool
is_pattern n p = nat_le (length p.items) 64 && (list_all (is_item n) p.items && are_linked p.items p.links)

-- a function's parameters are in their ranges, where n conditions reach a pattern
abbrev pub leaf_in_range : ℕ → Leaf → Bool
leaf_in_range n (C.GroupArray (Some most)) = nat_le 1 most && nat_lt most (2 ^ 32)
leaf_in_range n (C.QuantileExact level) = nat_le level (10 ^ 9)
leaf_in_range n (C.WindowFunnel window strict) = nat_lt window (2 ^ 64)
leaf_in_range n (C.SequenceMatch pattern) = is_pattern n pattern
leaf_in_range n _ = true

-- a Resample's parameters are in their ranges, where the Resamples around it have so many intervals
abbrev pub is_range : ℕ → ℤ → ℤ → ℕ → Bool
is_range further_out start end step =
    is_int64 start
    && (is_int64 end
    && (int_lt start end
    && (nat_le 1 step && (nat_lt step (2 ^ 64) && nat_le (further_out * intervals start end step) most_intervals))))

-- the parameters of a chain are in their ranges
abbrev pub in_range : ℕ → ℕ → Chain → Bool
in_range n further_out (C.Of f) = leaf_in_range n f
in_range n further_out (C.If c) = in_range n further_out c
in_range n further_out (C.Array c) = in_range n further_out c
in_range n further_out (C.MapOf c) = in_range n further_out c
in_range n further_out (C.ForEach c) = in_range n further_out c
in_range n further_out (C.OrNull c) = in_range n further_out c
in_range n further_out (C.OrDefault c) = in_range n further_out c
in_range n further_out (C.Distinct c) = in_range n further_out c
in_range n further_out (C.State c) = in_range n further_out c
in_range n further_out (C.Merge c) = in_range n further_out c
in_range n further_out (C.Resample start end step c) =
    is_range further_out start end step && in_range n (further_out * intervals start end step) c

-- the rules on the suffixes and parameters of a chain, where n arguments reach it
abbrev pub is_formed : Chain → ℕ → Bool
is_formed c n =
    has_few_suffixes (suffixes_of c)
    && (not (has_array_outside_if (suffixes_of c))
    && in_range (pattern_conditions (arguments_reaching (suffixes_of c) n)) 1 c)

-- the rules on the arguments of a chain
abbrev pub is_typed : Chain → List Ty → Bool
is_typed c ts =
    is_none (arg_count c (length ts)) && (is_none (arg_types c (numbered 1 ts)) && is_none (wrong_state c (numbered 1 ts)))

-- a chain with types that breaks none of the rules
abbrev pub is_legal : Chain → List Ty → Bool
is_legal c ts = is_formed c (length ts) && is_typed c ts

-- a number type or String
abbrev pub is_basic : Ty → Bool
is_basic (C.Whole n) = true
is_basic (C.Signed w) = true
is_basic C.Str = true
is_basic _ = false

-- A type whose Nullable and Map have the parts that they may have, and whose state types have legal chains over legal
-- types, with no State or Merge at the outermost link.
abbrev mutual
  pub is_legal_type : Ty → Bool
  is_legal_type (C.Whole n) = true
  is_legal_type (C.Signed w) = true
  is_legal_type C.Str = true
  is_legal_type (C.Arr t) = is_legal_type t
  is_legal_type (C.MapTy k t) = is_basic k && is_legal_type t
  is_legal_type (C.Nullable t) = is_basic t
  is_legal_type (C.StateOf c ts) = is_legal c (tys_list ts) && (not (is_state_or_merge c) && all_legal ts)

  pub all_legal : Tys → Bool
  all_legal no_tys = true
  all_legal (a_ty t ts) = is_legal_type t && all_legal ts

-- a list of legal types
abbrev pub are_legal_types : List Ty → Bool
are_legal_types ts = list_all is_legal_type ts
