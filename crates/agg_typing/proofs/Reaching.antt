-- The arguments that reach a link, and what changes on the way to the next one inward.
use Rattle.std.proofs.Common.{◌≡◌, refl, ap, sym, ◌∙◌, ℕ, suc, ◌-◌, ◌≤◌, Bool, true, false, cond, List, [], ◌∷◌, map, length, Some, None, arith}
use Rattle.agg_terms.specs.Chains.{Chain, Leaf, Ty, Tys, a_ty, no_tys, tys_list}
use Rattle.agg_terms.specs.Chains as C
use Rattle.agg_terms.specs.Lists.{Each, front, numbered}
use Rattle.agg_terms.specs.Types.{element, map_part}
use Rattle.agg_typing.specs.Faults.{Fault, ArgType, WrongState}
use Rattle.agg_typing.specs.Kinds.{Arg, arg_types, each_is, holds_no_state, is_array, is_condition, is_map, is_number, is_number_or_text, is_time, last_is, leaf_types, time_and_conditions, with_parts}
use Rattle.agg_typing.specs.States.{each_state, is_state_of, wrong_state}
use Rattle.agg_typing.specs.Legal.{all_legal, are_legal_types, is_basic, is_legal_type}
use Rattle.agg_typing.proofs.Same.{both}
use Rattle.agg_typing.proofs.Tests.{types, IsLegalType, cond_none, or_none}

-- the types further in
pub types-front : (args : List Arg) → types (front args) ≡ front (types args)
types-front [] = refl
types-front (a ∷ []) = refl
types-front (a ∷ b ∷ args) = ap (λ ts. a.1 ∷ ts) (types-front (b ∷ args))

pub length-front : (args : List Arg) → length (front args) ≡ length args - 1
length-front [] = omega arith
length-front (a ∷ []) = omega arith
length-front (a ∷ b ∷ args) = let h : length (front (b ∷ args)) ≡ length (b ∷ args) - 1 = length-front (b ∷ args) in omega arith

pub each-front : (P : Ty → Type 0) (args : List Arg) → Each P (types args) → Each P (types (front args))
each-front P [] h = tt
each-front P (a ∷ []) h = tt
each-front P (a ∷ b ∷ args) h = (h.0, each-front P (b ∷ args) h.1)

pub types-within : (part : Ty → Ty) (args : List Arg) → types (with_parts part args) ≡ map part (types args)
types-within part [] = refl
types-within part (a ∷ args) = ap (λ ts. part a.1 ∷ ts) (types-within part args)

pub length-within : (part : Ty → Ty) (args : List Arg) → length (with_parts part args) ≡ length args
length-within part [] = refl
length-within part (a ∷ args) = ap suc (length-within part args)

pub each-within : (P : Ty → Type 0) (part : Ty → Ty) (keeps : (t : Ty) → P t → P (part t)) (args : List Arg) → Each P (types args) → Each P (types (with_parts part args))
each-within P part keeps [] h = tt
each-within P part keeps (a ∷ args) h = (keeps a.1 h.0, each-within P part keeps args h.1)

pub legal-element : (t : Ty) → IsLegalType t → IsLegalType (element t)
legal-element (C.Arr t) h = h
legal-element (C.Whole n) h = h
legal-element (C.Signed w) h = h
legal-element C.Str h = h
legal-element (C.MapTy k t) h = h
legal-element (C.Nullable t) h = h
legal-element (C.StateOf c ts) h = h

pub legal-map_part : (t : Ty) → IsLegalType t → IsLegalType (map_part t)
legal-map_part (C.MapTy k t) h = (both (is_basic k) (is_legal_type t) h).1
legal-map_part (C.Arr t) h = h
legal-map_part (C.Whole n) h = h
legal-map_part (C.Signed w) h = h
legal-map_part C.Str h = h
legal-map_part (C.Nullable t) h = h
legal-map_part (C.StateOf c ts) h = h

pub types-numbered : (i : ℕ) (ts : List Ty) → types (numbered i ts) ≡ ts
types-numbered i [] = refl
types-numbered i (t ∷ ts) = ap (λ us. t ∷ us) (types-numbered (suc i) ts)

pub length-numbered : (i : ℕ) (ts : List Ty) → length (numbered i ts) ≡ length ts
length-numbered i [] = refl
length-numbered i (t ∷ ts) = ap suc (length-numbered (suc i) ts)

pub each-legal : (i : ℕ) (ts : List Ty) → are_legal_types ts ≡ true → Each IsLegalType (types (numbered i ts))
each-legal i [] h = tt
each-legal i (t ∷ ts) h = let two = both (is_legal_type t) (are_legal_types ts) h in (two.0, each-legal (suc i) ts two.1)

-- legal types in a list, and in a state type
pub legal-each : (ts : List Ty) → Each IsLegalType ts → are_legal_types ts ≡ true
legal-each [] h = refl
legal-each (t ∷ ts) h = rw (h.0, legal-each ts h.1)

pub legal-tys_list : (ts : Tys) → all_legal ts ≡ true → are_legal_types (tys_list ts) ≡ true
legal-tys_list no_tys h = refl
legal-tys_list (a_ty t ts) h = let two = both (is_legal_type t) (all_legal ts) h in rw (two.0, legal-tys_list ts two.1)

-- the state that a Merge takes
pub is_state : (c : Chain) (args : List Arg) → 1 ≤ length args → length args ≤ 1 → each_state c args ≡ None → (a : Arg) × (args ≡ a ∷ []) × (is_state_of c a.1 ≡ true)
is_state c [] l g h = absurd (omega arith)
is_state c (a ∷ []) l g h = (a, refl, (cond_none (is_state_of c a.1) None (WrongState a.0) h).0)
is_state c (a ∷ b ∷ args) l g h = absurd (omega arith)

-- Arguments of the same types under other numbers break no other rule.
abbrev pub SameTypes : List Arg → List Arg → Type 0
SameTypes [] [] = Unit {0}
SameTypes (a ∷ args) (b ∷ others) = (a.1 ≡ b.1) × SameTypes args others
SameTypes _ _ = ⊥

pub same-numbered : (i : ℕ) (args : List Arg) → SameTypes args (numbered i (types args))
same-numbered i [] = tt
same-numbered i (a ∷ args) = (refl, same-numbered (suc i) args)

pub same-front : (args others : List Arg) → SameTypes args others → SameTypes (front args) (front others)
same-front [] [] s = tt
same-front [] (b ∷ others) s = absurd s
same-front (a ∷ args) [] s = absurd s
same-front (a ∷ []) (b ∷ []) s = tt
same-front (a ∷ []) (b ∷ d ∷ others) s = absurd s.1
same-front (a ∷ e ∷ args) (b ∷ []) s = absurd s.1
same-front (a ∷ e ∷ args) (b ∷ d ∷ others) s = (s.0, same-front (e ∷ args) (d ∷ others) s.1)

pub same-within : (part : Ty → Ty) (args others : List Arg) → SameTypes args others → SameTypes (with_parts part args) (with_parts part others)
same-within part [] [] s = tt
same-within part [] (b ∷ others) s = absurd s
same-within part (a ∷ args) [] s = absurd s
same-within part (a ∷ args) (b ∷ others) s = (ap part s.0, same-within part args others s.1)

pub same_each : (kind : Ty → Bool) (args others : List Arg) → SameTypes args others → each_is kind args ≡ None → each_is kind others ≡ None
same_each kind [] [] s h = refl
same_each kind [] (b ∷ others) s h = absurd s
same_each kind (a ∷ args) [] s h = absurd s
same_each kind (a ∷ args) (b ∷ others) s h =
    let two = cond_none (kind a.1) (each_is kind args) (ArgType a.0) h in
    let here : kind b.1 ≡ true = ap kind (sym s.0) ∙ two.0 in
    rw (here, same_each kind args others s.1 two.1)

pub same_last : (kind : Ty → Bool) (args others : List Arg) → SameTypes args others → last_is kind args ≡ None → last_is kind others ≡ None
same_last kind [] [] s h = refl
same_last kind [] (b ∷ others) s h = absurd s
same_last kind (a ∷ args) [] s h = absurd s
same_last kind (a ∷ []) (b ∷ d ∷ others) s h = absurd s.1
same_last kind (a ∷ e ∷ args) (b ∷ []) s h = absurd s.1
same_last kind (a ∷ []) (b ∷ []) s h =
    let here : kind b.1 ≡ true = ap kind (sym s.0) ∙ (cond_last (kind a.1) (ArgType a.0) h) in rw here
  where
    cond_last : (b : Bool) (e : Fault) → cond b None (Some e) ≡ None → b ≡ true
    cond_last true e h = refl
    cond_last false e h = cc h
same_last kind (a ∷ e ∷ args) (b ∷ d ∷ others) s h = same_last kind (e ∷ args) (d ∷ others) s.1 h

pub same_timed : (args others : List Arg) → SameTypes args others → time_and_conditions args ≡ None → time_and_conditions others ≡ None
same_timed [] [] s h = refl
same_timed [] (b ∷ others) s h = absurd s
same_timed (a ∷ args) [] s h = absurd s
same_timed (a ∷ args) (b ∷ others) s h =
    let two = cond_none (is_time a.1) (each_is is_condition args) (ArgType a.0) h in
    let here : is_time b.1 ≡ true = ap is_time (sym s.0) ∙ two.0 in
    rw (here, same_each is_condition args others s.1 two.1)

pub same_leaf_types : (f : Leaf) (args others : List Arg) → SameTypes args others → leaf_types f args ≡ None → leaf_types f others ≡ None
same_leaf_types C.Count args others s h = refl
same_leaf_types C.Sum args others s h = same_each is_number args others s h
same_leaf_types C.Min args others s h = same_each is_number_or_text args others s h
same_leaf_types C.Max args others s h = same_each is_number_or_text args others s h
same_leaf_types C.ArgMin args others s h = same_each is_number_or_text args others s h
same_leaf_types C.ArgMax args others s h = same_each is_number_or_text args others s h
same_leaf_types (C.GroupBit op) args others s h = same_each is_number args others s h
same_leaf_types (C.GroupArray most) args others s h = same_each holds_no_state args others s h
same_leaf_types C.UniqExact args others s h = same_each holds_no_state args others s h
same_leaf_types (C.QuantileExact l) args others s h = same_each is_number args others s h
same_leaf_types (C.WindowFunnel window strict) args others s h = same_timed args others s h
same_leaf_types (C.SequenceMatch pattern) args others s h = same_timed args others s h
same_leaf_types C.Retention args others s h = same_each is_condition args others s h

pub same_arg_types : (c : Chain) (args others : List Arg) → SameTypes args others → arg_types c args ≡ None → arg_types c others ≡ None
same_arg_types (C.Of f) args others s h = same_leaf_types f args others s h
same_arg_types (C.If c) args others s h =
    let t = or_none (last_is is_condition args) (arg_types c (front args)) h in
    rw (same_last is_condition args others s t.0, same_arg_types c (front args) (front others) (same-front args others s) t.1)
same_arg_types (C.Resample start end step c) args others s h =
    let t = or_none (last_is is_number args) (arg_types c (front args)) h in
    rw (same_last is_number args others s t.0, same_arg_types c (front args) (front others) (same-front args others s) t.1)
same_arg_types (C.Array c) args others s h =
    let t = or_none (each_is is_array args) (arg_types c (with_parts element args)) h in
    rw (same_each is_array args others s t.0, same_arg_types c (with_parts element args) (with_parts element others) (same-within element args others s) t.1)
same_arg_types (C.ForEach c) args others s h =
    let t = or_none (each_is is_array args) (arg_types c (with_parts element args)) h in
    rw (same_each is_array args others s t.0, same_arg_types c (with_parts element args) (with_parts element others) (same-within element args others s) t.1)
same_arg_types (C.MapOf c) args others s h =
    let t = or_none (each_is is_map args) (arg_types c (with_parts map_part args)) h in
    rw (same_each is_map args others s t.0, same_arg_types c (with_parts map_part args) (with_parts map_part others) (same-within map_part args others s) t.1)
same_arg_types (C.Distinct c) args others s h =
    let t = or_none (each_is holds_no_state args) (arg_types c args) h in
    rw (same_each holds_no_state args others s t.0, same_arg_types c args others s t.1)
same_arg_types (C.OrNull c) args others s h = same_arg_types c args others s h
same_arg_types (C.OrDefault c) args others s h = same_arg_types c args others s h
same_arg_types (C.State c) args others s h = same_arg_types c args others s h
same_arg_types (C.Merge c) args others s h = refl

pub same_each_state : (c : Chain) (args others : List Arg) → SameTypes args others → each_state c args ≡ None → each_state c others ≡ None
same_each_state c [] [] s h = refl
same_each_state c [] (b ∷ others) s h = absurd s
same_each_state c (a ∷ args) [] s h = absurd s
same_each_state c (a ∷ args) (b ∷ others) s h =
    let two = cond_none (is_state_of c a.1) (each_state c args) (WrongState a.0) h in
    let here : is_state_of c b.1 ≡ true = ap (is_state_of c) (sym s.0) ∙ two.0 in
    rw (here, same_each_state c args others s.1 two.1)

pub same_wrong_state : (c : Chain) (args others : List Arg) → SameTypes args others → wrong_state c args ≡ None → wrong_state c others ≡ None
same_wrong_state (C.Of f) args others s h = refl
same_wrong_state (C.If c) args others s h = same_wrong_state c (front args) (front others) (same-front args others s) h
same_wrong_state (C.Resample start end step c) args others s h = same_wrong_state c (front args) (front others) (same-front args others s) h
same_wrong_state (C.Array c) args others s h = same_wrong_state c (with_parts element args) (with_parts element others) (same-within element args others s) h
same_wrong_state (C.ForEach c) args others s h = same_wrong_state c (with_parts element args) (with_parts element others) (same-within element args others s) h
same_wrong_state (C.MapOf c) args others s h = same_wrong_state c (with_parts map_part args) (with_parts map_part others) (same-within map_part args others s) h
same_wrong_state (C.Distinct c) args others s h = same_wrong_state c args others s h
same_wrong_state (C.OrNull c) args others s h = same_wrong_state c args others s h
same_wrong_state (C.OrDefault c) args others s h = same_wrong_state c args others s h
same_wrong_state (C.State c) args others s h = same_wrong_state c args others s h
same_wrong_state (C.Merge c) args others s h = same_each_state c args others s h
