-- What a ready call brings: its chain is sound, its function has a state over its types, and it takes few arguments.
use Rattle.std.proofs.Common.{◌≡◌, ◌⊎◌, inl, inr, ℕ, zero, suc, ◌+◌, ◌<◌, ◌≤◌, max, nat_eq, nat_le, nat_lt, Bool, true, false, ◌&&◌, ◌||◌, cond, List, [], ◌∷◌, length, Option, Some, None, refl, sym, ap, ◌∙◌, subst, arith}
use Rattle.std.specs.List.{list_all}
use Rattle.std.proofs.lemmas.Bool.{eq-eqb, le-leb, leb-true}
use Rattle.agg_terms.specs.Chains as C
use Rattle.agg_terms.specs.Chains.{Chain, Leaf, Of, Pattern, PatItem, PatLink, Ty}
use Rattle.agg_terms.specs.Lists.{numbered}
use Rattle.agg_terms.specs.Types.{bare, inward, is_number_type}
use Rattle.agg_meaning.specs.Lawful.{IsSound}
use Rattle.agg_typing.specs.Counts.{greatest, leaf_greatest}
use Rattle.agg_typing.specs.Faults.{ArgType, Fault}
use Rattle.agg_typing.specs.Kinds.{each_is, holds_no_state, is_number, is_number_or_text}
use Rattle.agg_typing.specs.Legal.{are_linked, function_of, is_formed, is_item, is_link, is_pattern, is_typed, suffixes_of}
use Rattle.agg_typing.specs.Promises.{IsLegalCall}
use Rattle.agg_typing.specs.Suffixes.{has_few_suffixes, most_suffixes}
use Rattle.agg_typing.proofs.Formed.{Formed, formed}
use Rattle.agg_typing.proofs.Inward.{Passes, inner_is_legal, legal_passes}
use Rattle.agg_typing.proofs.Reaching.{length-numbered}
use Rattle.agg_typing.proofs.Same.{both}
use Rattle.agg_typing.proofs.Soundness.{legal_is_lawful}
use Rattle.best_leaves.specs.Served as best
use Rattle.event_leaves.specs.Served.{is_searched}
use Rattle.link_types.specs.Links.{inner_types}
use Rattle.running_states.specs.Served.{is_served}

-- a chain that breaks no rule is sound
pub sound : (c : Chain) (ts : List Ty) → IsLegalCall c ts → IsSound c
sound c ts l = (legal_is_lawful c ts l).0

-- an argument of a kind, and what its state asks of its type
kind_true : (b : Bool) (n : ℕ) → cond {A = Option Fault} b None (Some (ArgType n)) ≡ None → b ≡ true
kind_true true n h = refl
kind_true false n h = cc

one_kind : (kind : Ty → Bool) (ts : List Ty) → 1 ≤ length ts → length ts ≤ 1 → each_is kind (numbered 1 ts) ≡ None → (t : Ty) × (ts ≡ t ∷ []) × (kind t ≡ true)
one_kind kind [] l h k = absurd (omega arith)
one_kind kind (t ∷ []) l h k = (t, refl, kind_true (kind t) 1 k)
one_kind kind (t ∷ u ∷ ts) l h k = absurd (omega arith)

two_kinds : (kind : Ty → Bool) (ts : List Ty) → 2 ≤ length ts → length ts ≤ 2 → each_is kind (numbered 1 ts) ≡ None → (t : Ty) × (u : Ty) × (ts ≡ t ∷ u ∷ []) × (kind t ≡ true) × (kind u ≡ true)
two_kinds kind [] l h k = absurd (omega arith)
two_kinds kind (t ∷ []) l h k = absurd (omega arith)
two_kinds kind (t ∷ u ∷ []) l h k = go (kind t) refl k
  where
    go : (b : Bool) → kind t ≡ b → cond {A = Option Fault} b (cond (kind u) None (Some (ArgType 2))) (Some (ArgType 1)) ≡ None → (v : Ty) × (w : Ty) × ((t ∷ u ∷ []) ≡ v ∷ w ∷ []) × (kind v ≡ true) × (kind w ≡ true)
    go true e k = (t, u, refl, e, kind_true (kind u) 2 k)
    go false e k = cc
two_kinds kind (t ∷ u ∷ v ∷ ts) l h k = absurd (omega arith)

number_bare : (t : Ty) → is_number t ≡ true → is_number_type (bare t) ≡ true
number_bare (C.Whole n) h = refl
number_bare (C.Signed w) h = refl
number_bare C.Str h = cc h
number_bare (C.Arr t) h = cc h
number_bare (C.MapTy k t) h = cc h
number_bare (C.Nullable t) h = number_bare t h
number_bare (C.StateOf c ts) h = cc h

single_bare : (t : Ty) → is_number_or_text t ≡ true → best.is_single (bare t) ≡ true
single_bare (C.Whole n) h = refl
single_bare (C.Signed w) h = refl
single_bare C.Str h = refl
single_bare (C.Arr t) h = cc h
single_bare (C.MapTy k t) h = cc h
single_bare (C.Nullable t) h = single_bare t h
single_bare (C.StateOf c ts) h = cc h

lone_bare : (t : Ty) → is_number_or_text t ≡ true → (rest : Bool) → (is_number_type (bare t) || (best.is_text (bare t) || rest)) ≡ true
lone_bare (C.Whole n) h rest = refl
lone_bare (C.Signed w) h rest = refl
lone_bare C.Str h rest = refl
lone_bare (C.Arr t) h rest = cc h
lone_bare (C.MapTy k t) h rest = cc h
lone_bare (C.Nullable t) h rest = lone_bare t h rest
lone_bare (C.StateOf c ts) h rest = cc h

or_true : (a b : Bool) → a ≡ true → (a || b) ≡ true
or_true a b h = rw h refl

and_true : (a b : Bool) → a ≡ true → b ≡ true → (a && b) ≡ true
and_true a b h k = rw (h, k) refl

linked : (items : List PatItem) (links : List PatLink) → are_linked items links ≡ true → (1 ≤ length items) × (length links + 1 ≡ length items)
linked [] links h = cc h
linked (a ∷ []) [] h = (omega arith, omega arith)
linked (a ∷ []) (l ∷ ls) h = cc h
linked (a ∷ b ∷ items) [] h = cc h
linked (a ∷ b ∷ items) (l ∷ ls) h =
    let k = linked (b ∷ items) ls (both (is_link a l b) (are_linked (b ∷ items) ls) h).1 in
    let n : length ls + 1 ≡ length (b ∷ items) = k.1 in
    (omega arith, omega arith)

searched : (n : ℕ) (p : Pattern) → is_pattern n p ≡ true → is_searched p ≡ true
searched n p h =
    let a = both (nat_le (length p.items) 64) (list_all (is_item n) p.items && are_linked p.items p.links) h in
    let b = both (list_all (is_item n) p.items) (are_linked p.items p.links) a.1 in
    let k = linked p.items p.links b.1 in
    and_true (nat_le 1 (length p.items)) (nat_le (length p.items) 64 && nat_eq (length p.links + 1) (length p.items)) (le-leb 1 (length p.items) k.0)
    (and_true (nat_le (length p.items) 64) (nat_eq (length p.links + 1) (length p.items)) a.0 (eq-eqb (length p.links + 1) (length p.items) k.1))

-- the function of a legal call has a state
module _ (ts : List Ty) where
  count : length (numbered 1 ts) ≡ length ts
  count = length-numbered 1 ts

  events : (pattern : Bool) → pattern ≡ true → 2 ≤ length ts → length ts ≤ 33 → ((nat_le 2 (length ts) && nat_le (length ts) 33) && pattern) ≡ true
  events pattern e l h = and_true (nat_le 2 (length ts) && nat_le (length ts) 33) pattern (and_true (nat_le 2 (length ts)) (nat_le (length ts) 33) (le-leb 2 (length ts) l) (le-leb (length ts) 33 h)) e

  served_leaf : (f : Leaf) → IsLegalCall (Of f) ts → is_served f ts ≡ true
  served_leaf C.Count l = let p = legal_passes (Of C.Count) ts l in or_true _ _ (le-leb (length ts) 32 (omega (arith, count, p.greatest_ok)))
  served_leaf C.Retention l = let p = legal_passes (Of C.Retention) ts l in or_true _ _ (le-leb (length ts) 32 (omega (arith, count, p.greatest_ok)))
  served_leaf C.Sum l =
      let p = legal_passes (Of C.Sum) ts l in let k = one_kind is_number ts (omega (arith, count, p.least_ok)) (omega (arith, count, p.greatest_ok)) p.types_ok in
      subst (λ us. is_served C.Sum us ≡ true) (sym k.1) (or_true _ _ (number_bare k.0 k.2))
  served_leaf (C.GroupBit op) l =
      let p = legal_passes (Of (C.GroupBit op)) ts l in let k = one_kind is_number ts (omega (arith, count, p.least_ok)) (omega (arith, count, p.greatest_ok)) p.types_ok in
      subst (λ us. is_served (C.GroupBit op) us ≡ true) (sym k.1) (or_true _ _ (number_bare k.0 k.2))
  served_leaf C.Min l =
      let p = legal_passes (Of C.Min) ts l in let k = one_kind is_number_or_text ts (omega (arith, count, p.least_ok)) (omega (arith, count, p.greatest_ok)) p.types_ok in
      subst (λ us. is_served C.Min us ≡ true) (sym k.1) (lone_bare k.0 k.2 _)
  served_leaf C.Max l =
      let p = legal_passes (Of C.Max) ts l in let k = one_kind is_number_or_text ts (omega (arith, count, p.least_ok)) (omega (arith, count, p.greatest_ok)) p.types_ok in
      subst (λ us. is_served C.Max us ≡ true) (sym k.1) (lone_bare k.0 k.2 _)
  served_leaf C.ArgMin l =
      let p = legal_passes (Of C.ArgMin) ts l in let k = two_kinds is_number_or_text ts (omega (arith, count, p.least_ok)) (omega (arith, count, p.greatest_ok)) p.types_ok in
      subst (λ us. is_served C.ArgMin us ≡ true) (sym k.2) (or_true _ _ (and_true _ _ (single_bare k.0 k.3) (single_bare k.1 k.4)))
  served_leaf C.ArgMax l =
      let p = legal_passes (Of C.ArgMax) ts l in let k = two_kinds is_number_or_text ts (omega (arith, count, p.least_ok)) (omega (arith, count, p.greatest_ok)) p.types_ok in
      subst (λ us. is_served C.ArgMax us ≡ true) (sym k.2) (or_true _ _ (and_true _ _ (single_bare k.0 k.3) (single_bare k.1 k.4)))
  served_leaf (C.GroupArray None) l =
      let p = legal_passes (Of (C.GroupArray None)) ts l in let k = one_kind holds_no_state ts (omega (arith, count, p.least_ok)) (omega (arith, count, p.greatest_ok)) p.types_ok in
      subst (λ us. is_served (C.GroupArray None) us ≡ true) (sym k.1) (or_true _ _ k.2)
  served_leaf (C.GroupArray (Some zero)) l = absurd (let r = (legal_passes (Of (C.GroupArray (Some zero))) ts l).formed_ok.range in cc r)
  served_leaf (C.GroupArray (Some (suc n))) l =
      let p = legal_passes (Of (C.GroupArray (Some (suc n)))) ts l in let k = one_kind holds_no_state ts (omega (arith, count, p.least_ok)) (omega (arith, count, p.greatest_ok)) p.types_ok in
      subst (λ us. is_served (C.GroupArray (Some (suc n))) us ≡ true) (sym k.1) (or_true _ _ k.2)
  served_leaf (C.QuantileExact level) l =
      let p = legal_passes (Of (C.QuantileExact level)) ts l in let k = one_kind is_number ts (omega (arith, count, p.least_ok)) (omega (arith, count, p.greatest_ok)) p.types_ok in
      subst (λ us. is_served (C.QuantileExact level) us ≡ true) (sym k.1) (or_true _ _ (number_bare k.0 k.2))
  served_leaf C.UniqExact l =
      let p = legal_passes (Of C.UniqExact) ts l in
      or_true _ _ (and_true _ _ (le-leb 1 (length ts) (omega (arith, count, p.least_ok))) (le-leb (length ts) 32 (omega (arith, count, p.greatest_ok))))
  served_leaf (C.WindowFunnel window strict) l =
      let p = legal_passes (Of (C.WindowFunnel window strict)) ts l in
      or_true _ _ (and_true _ _ (le-leb 2 (length ts) (omega (arith, count, p.least_ok))) (le-leb (length ts) 33 (omega (arith, count, p.greatest_ok))))
  served_leaf (C.SequenceMatch pattern) l =
      let p = legal_passes (Of (C.SequenceMatch pattern)) ts l in
      events (is_searched pattern) (searched _ pattern p.formed_ok.range) (omega (arith, count, p.least_ok)) (omega (arith, count, p.greatest_ok))

pub served : (c : Chain) (ts : List Ty) → IsLegalCall c ts → is_served (function_of c) (inner_types c ts) ≡ true
served (Of f) ts l = served_leaf ts f l
served (C.If c) ts l = served c (inward (C.If c) ts) (inner_is_legal (C.If c) c ts refl l)
served (C.Array c) ts l = served c (inward (C.Array c) ts) (inner_is_legal (C.Array c) c ts refl l)
served (C.MapOf c) ts l = served c (inward (C.MapOf c) ts) (inner_is_legal (C.MapOf c) c ts refl l)
served (C.ForEach c) ts l = served c (inward (C.ForEach c) ts) (inner_is_legal (C.ForEach c) c ts refl l)
served (C.OrNull c) ts l = served c ts (inner_is_legal (C.OrNull c) c ts refl l)
served (C.OrDefault c) ts l = served c ts (inner_is_legal (C.OrDefault c) c ts refl l)
served (C.Distinct c) ts l = served c ts (inner_is_legal (C.Distinct c) c ts refl l)
served (C.State c) ts l = served c ts (inner_is_legal (C.State c) c ts refl l)
served (C.Merge c) ts l = served c (inward (C.Merge c) ts) (inner_is_legal (C.Merge c) c ts refl l)
served (C.Resample start end step c) ts l = served c (inward (C.Resample start end step c) ts) (inner_is_legal (C.Resample start end step c) c ts refl l)

-- a legal call has at most 64 arguments
greatest_few : (c : Chain) → greatest c ≤ 33 + length (suffixes_of c)
greatest_few (Of f) = leaf f
  where
    leaf : (f : Leaf) → leaf_greatest f ≤ 33 + 0
    leaf C.ArgMin = omega arith
    leaf C.ArgMax = omega arith
    leaf C.UniqExact = omega arith
    leaf (C.WindowFunnel window strict) = omega arith
    leaf (C.SequenceMatch pattern) = omega arith
    leaf C.Retention = omega arith
    leaf C.Count = omega arith
    leaf C.Sum = omega arith
    leaf C.Min = omega arith
    leaf C.Max = omega arith
    leaf (C.GroupArray most) = omega arith
    leaf (C.QuantileExact level) = omega arith
    leaf (C.GroupBit op) = omega arith
greatest_few (C.If c) = omega (arith, greatest_few c)
greatest_few (C.Array c) = omega (arith, greatest_few c)
greatest_few (C.MapOf c) = omega arith
greatest_few (C.ForEach c) = omega (arith, greatest_few c)
greatest_few (C.OrNull c) = omega (arith, greatest_few c)
greatest_few (C.OrDefault c) = omega (arith, greatest_few c)
greatest_few (C.Distinct c) = omega (arith, greatest_few c)
greatest_few (C.State c) = omega (arith, greatest_few c)
greatest_few (C.Merge c) = omega arith
greatest_few (C.Resample start end step c) = omega (arith, greatest_few c)

pub few : (c : Chain) (ts : List Ty) → IsLegalCall c ts → length ts ≤ 64
few c ts l =
    let p = legal_passes c ts l in
    let s : length (suffixes_of c) ≤ 8 = leb-true (length (suffixes_of c)) most_suffixes p.formed_ok.few in
    omega (arith, length-numbered 1 ts, p.greatest_ok, greatest_few c, s)

-- of a call that is ready
pub ready_sound : (c : Chain) (ts us : List Ty) → IsLegalCall c ts → us ≡ inner_types c ts → IsSound c
ready_sound c ts us l e = sound c ts l

pub ready_served : (c : Chain) (ts us : List Ty) → IsLegalCall c ts → us ≡ inner_types c ts → is_served (function_of c) us ≡ true
ready_served c ts us l e = subst (λ ys. is_served (function_of c) ys ≡ true) (sym e) (served c ts l)

pub ruleset ready_laws = (ready_sound, ready_served)
