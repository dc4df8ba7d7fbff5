-- The printed name and parameters of a legal chain are allowed, and stand for that chain.
use Rattle.std.proofs.Common.{◌≡◌, ℕ, ◌+◌, ◌-◌, ◌≤◌, Bool, true, false, cond, not, nat_le, ◌&&◌, List, [], ◌∷◌, ◌++◌, length, reverse, Option, Some, None, is_none, Result, Ok, refl, ap, ◌∙◌, arith}
use Rattle.std.proofs.lemmas.Bool.{le-leb, leb-true, and_from, and_parts}
use Rattle.std.proofs.lemmas.List.{reverse-append}
use Rattle.agg_terms.specs.declared.words.Suffix.{Suffix}
use Rattle.agg_terms.specs.Chains.{Chain, Ty, Tys, no_tys, a_ty, tys, tys_list}
use Rattle.agg_terms.specs.Chains as terms
use Rattle.agg_terms.specs.Lists.{numbered}
use Rattle.agg_typing.specs.Counts.{arg_count}
use Rattle.agg_typing.specs.Faults.{Fault, TooManySuffixes, ArrayOutsideIf, ParamCount, WrongState, and_then, check, no_breach}
use Rattle.agg_typing.specs.Kinds.{arg_types}
use Rattle.agg_typing.specs.Legal.{function_of, suffixes_of, is_formed, is_typed, is_legal}
use Rattle.agg_typing.specs.Parameters.{most_conditions, pattern_conditions, read_chain}
use Rattle.agg_typing.specs.States.{wrong_state, is_state_or_merge}
use Rattle.agg_typing.specs.Suffixes.{has_few_suffixes, has_array_outside_if, takes_param_count, arguments_reaching, resample_params, fewest_params, most_params}
use Rattle.agg_typing.specs.Typing.{known_name, allowed_shape, allowed, resolved_state}
use Rattle.agg_typing.proofs.Formed.{formed}
use Rattle.agg_typing.proofs.Reading.{read-spelled}
use Rattle.agg_typing.proofs.Tests.{is_none_is}
use Rattle.pattern_texts.specs.Machine.{pattern_reader}
use Rattle.type_texts.specs.ChainNames.{leaf_name, chain_name}
use Rattle.type_texts.specs.ChainNames as printed
use Rattle.type_shapes.specs.ReadsBack.{literals_of}
use Rattle.type_laws.proofs.Fitting.{leaf_count, literals_count}
use Rattle.type_laws.proofs.Params.{chain_read}

-- the suffixes from the inside out, and from the outermost inward
snoc : (ss outer : List Suffix) (s : Suffix) → reverse ss ≡ outer → reverse (ss ++ s ∷ []) ≡ s ∷ outer
snoc ss outer s h = reverse-append ss (s ∷ []) ∙ ap (λ z. s ∷ z) h

outermost_first : (c : Chain) → reverse (printed.written_suffixes c) ≡ suffixes_of c
outermost_first (terms.Of f) = refl
outermost_first (terms.If c) = snoc (printed.written_suffixes c) (suffixes_of c) Suffix.If (outermost_first c)
outermost_first (terms.Array c) = snoc (printed.written_suffixes c) (suffixes_of c) Suffix.Array (outermost_first c)
outermost_first (terms.MapOf c) = snoc (printed.written_suffixes c) (suffixes_of c) Suffix.MapOf (outermost_first c)
outermost_first (terms.ForEach c) = snoc (printed.written_suffixes c) (suffixes_of c) Suffix.ForEach (outermost_first c)
outermost_first (terms.OrNull c) = snoc (printed.written_suffixes c) (suffixes_of c) Suffix.OrNull (outermost_first c)
outermost_first (terms.OrDefault c) = snoc (printed.written_suffixes c) (suffixes_of c) Suffix.OrDefault (outermost_first c)
outermost_first (terms.Distinct c) = snoc (printed.written_suffixes c) (suffixes_of c) Suffix.Distinct (outermost_first c)
outermost_first (terms.State c) = snoc (printed.written_suffixes c) (suffixes_of c) Suffix.State (outermost_first c)
outermost_first (terms.Merge c) = snoc (printed.written_suffixes c) (suffixes_of c) Suffix.Merge (outermost_first c)
outermost_first (terms.Resample start end step c) = snoc (printed.written_suffixes c) (suffixes_of c) Suffix.Resample (outermost_first c)

-- a pattern has 1 to 32 conditions
some_conditions : (o : Option ℕ) → (1 ≤ pattern_conditions o) × (pattern_conditions o ≤ most_conditions)
some_conditions None = (omega arith, omega arith)
some_conditions (Some n) = by_tests (nat_le 1 (n - 1)) (nat_le (n - 1) most_conditions) refl refl
  where
    by_tests : (a b : Bool) → nat_le 1 (n - 1) ≡ a → nat_le (n - 1) most_conditions ≡ b → (1 ≤ cond (a && b) (n - 1) most_conditions) × (cond (a && b) (n - 1) most_conditions ≤ most_conditions)
    by_tests true true e f = (leb-true 1 (n - 1) e, leb-true (n - 1) most_conditions f)
    by_tests true false e f = (omega arith, omega arith)
    by_tests false b e f = (omega arith, omega arith)

right_count : (c : Chain) → takes_param_count (leaf_name (function_of c)) (suffixes_of c) (length (literals_of c)) ≡ true
right_count c =
    let n = length (literals_of c) in
    let r = resample_params (suffixes_of c) in
    let own = leaf_count (function_of c) in
    let few = own.0 in
    let many = own.1 in
    let whole = literals_count c in
    and_from _ _ (le-leb (r + fewest_params (leaf_name (function_of c))) n (omega (arith, few, whole))) (le-leb n (r + most_params (leaf_name (function_of c))) (omega (arith, many, whole)))

-- no rule is broken
all_pass : (few order count : Bool) (read : Result Chain Fault) (counts types states : Chain → Option Fault) (c : Chain) → few ≡ true → order ≡ true → count ≡ true → read ≡ Ok c → counts c ≡ None → types c ≡ None → states c ≡ None
    → and_then (check few TooManySuffixes) (λ (_ : Unit {0}). and_then (check order ArrayOutsideIf) (λ (_ : Unit {0}). and_then (check count ParamCount) (λ (_ : Unit {0}). and_then read (λ (d : Chain).
    and_then (no_breach (counts d)) (λ (_ : Unit {0}). and_then (no_breach (types d)) (λ (_ : Unit {0}). and_then (no_breach (states d)) (λ (_ : Unit {0}). Ok d))))))) ≡ Ok c
all_pass few order count read counts types states c p q r s t u v = rw (p, q, r, s, t, u, v)

-- what the rules on arguments found
pub record Passes (c : Chain) (ts : List Ty) : Type 0 where
  pub counts : arg_count c (length ts) ≡ None
  pub types : arg_types c (numbered 1 ts) ≡ None
  pub states : wrong_state c (numbered 1 ts) ≡ None

passes : (c : Chain) (ts : List Ty) → is_typed c ts ≡ true → Passes c ts
passes c ts h =
    let two = and_parts (is_none (arg_count c (length ts))) (is_none (arg_types c (numbered 1 ts)) && is_none (wrong_state c (numbered 1 ts))) h in
    let more = and_parts (is_none (arg_types c (numbered 1 ts))) (is_none (wrong_state c (numbered 1 ts))) two.1 in
    record { counts = is_none_is _ two.0; types = is_none_is _ more.0; states = is_none_is _ more.1 }

pub legal_passes : (c : Chain) (ts : List Ty) → is_legal c ts ≡ true → Passes c ts
legal_passes c ts h = passes c ts (and_parts (is_formed c (length ts)) (is_typed c ts) h).1

-- the conditions of a pattern under suffixes
abbrev size : List Ty → List Suffix → ℕ
size ts ss = pattern_conditions (arguments_reaching ss (length ts))

-- the rules behind the name, under suffixes
abbrev rules : Chain → List Ty → List Suffix → Result Chain Fault
rules c ts ss =
    and_then (check (has_few_suffixes ss) TooManySuffixes) (λ (_ : Unit {0}).
    and_then (check (not (has_array_outside_if ss)) ArrayOutsideIf) (λ (_ : Unit {0}).
    and_then (check (takes_param_count (leaf_name (function_of c)) ss (length (literals_of c))) ParamCount) (λ (_ : Unit {0}).
    and_then (read_chain pattern_reader (size ts ss) (leaf_name (function_of c)) 1 ss (literals_of c)) (λ (d : Chain).
    and_then (no_breach (arg_count d (length ts))) (λ (_ : Unit {0}).
    and_then (no_breach (arg_types d (numbered 1 ts))) (λ (_ : Unit {0}).
    and_then (no_breach (wrong_state d (numbered 1 ts))) (λ (_ : Unit {0}). Ok d)))))))

rules_pass : (c : Chain) (ts : List Ty) → is_legal c ts ≡ true → rules c ts (suffixes_of c) ≡ Ok c
rules_pass c ts h =
    let f = formed c (length ts) (and_parts (is_formed c (length ts)) (is_typed c ts) h).0 in
    let p = legal_passes c ts h in
    let n = some_conditions (arguments_reaching (suffixes_of c) (length ts)) in
    all_pass (has_few_suffixes (suffixes_of c)) (not (has_array_outside_if (suffixes_of c))) (takes_param_count (leaf_name (function_of c)) (suffixes_of c) (length (literals_of c)))
    (read_chain pattern_reader (size ts (suffixes_of c)) (leaf_name (function_of c)) 1 (suffixes_of c) (literals_of c))
    (λ d. arg_count d (length ts)) (λ d. arg_types d (numbered 1 ts)) (λ d. wrong_state d (numbered 1 ts)) c
    f.few f.order (right_count c) (chain_read (size ts (suffixes_of c)) n.0 n.1 c 1 f.range) p.counts p.types p.states

call_allowed : (c : Chain) (ts : List Ty) → is_legal c ts ≡ true → allowed pattern_reader (chain_name c) (literals_of c) ts ≡ Ok c
call_allowed c ts h =
    ap (λ r. and_then (known_name r) (λ shape. allowed_shape pattern_reader shape (literals_of c) ts)) (read-spelled (leaf_name (function_of c)) (printed.written_suffixes c))
    ∙ ap (rules c ts) (outermost_first c) ∙ rules_pass c ts h

tys_back : (ts : Tys) → tys (tys_list ts) ≡ ts
tys_back no_tys = refl
tys_back (a_ty t ts) = ap (a_ty t) (tys_back ts)

-- the state type of a legal chain that is no State and no Merge
pub state_read : (c : Chain) (ts : Tys) → is_legal c (tys_list ts) ≡ true → not (is_state_or_merge c) ≡ true → resolved_state pattern_reader (chain_name c) (literals_of c) (tys_list ts) ≡ Ok (terms.StateOf c ts)
state_read c ts legal inner =
    ap (λ r. and_then r (λ (d : Chain). and_then (check (not (is_state_or_merge d)) (WrongState 0)) (λ (_ : Unit {0}). Ok (terms.StateOf d (tys (tys_list ts)))))) (call_allowed c (tys_list ts) legal)
    ∙ ap (λ b. and_then (check b (WrongState 0)) (λ (_ : Unit {0}). Ok (terms.StateOf c (tys (tys_list ts))))) inner
    ∙ ap (λ z. Ok (terms.StateOf c z)) (tys_back ts)
