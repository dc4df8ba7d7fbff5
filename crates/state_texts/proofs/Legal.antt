-- What a legal chain over types of the program has is what texts need.
use Rattle.std.proofs.Common.{◌≡◌, ℕ, ◌*◌, ◌/◌, ◌<◌, ◌≤◌, Bool, true, false, ◌&&◌, List, [], ◌∷◌, length, map, Option, Some, None, refl, sym, ap, subst, ◌∙◌, arith}
use Rattle.std.proofs.lemmas.Bool.{and_parts}
use Rattle.agg_terms.specs.Chains.{ArgMax, ArgMin, Arr, Array, Chain, Count, Distinct, ForEach, GroupArray, GroupBit, If, Leaf, MapOf, MapTy, Max, Merge, Min, Nullable, Of, OrDefault, OrNull, QuantileExact, Resample, Retention, SequenceMatch, Signed, State, StateOf, Str, Sum, Ty, Tys, UniqExact, Whole, WindowFunnel, a_ty, no_tys, tys_list}
use Rattle.agg_terms.specs.Chains as terms
use Rattle.agg_terms.specs.Lists.{Each, front, numbered}
use Rattle.agg_terms.specs.Types.{bare, conditions, element, first_type, intervals, inward, key_type, map_part, state_args}
use Rattle.agg_meaning.specs.Lawful.{IsNumber, IsTyped}
use Rattle.agg_typing.specs.Legal.{are_legal_types, in_range, is_basic, is_legal_type, is_range, suffixes_of}
use Rattle.agg_typing.specs.Parameters.{pattern_conditions}
use Rattle.agg_typing.specs.Suffixes.{arguments_reaching}
use Rattle.agg_typing.specs.Promises.{IsLegalCall}
use Rattle.agg_typing.proofs.Formed.{Proper, proper, some_interval}
use Rattle.agg_typing.proofs.Inward.{Passes, inner_is_legal, legal_passes}
use Rattle.agg_typing.proofs.Reaching.{length-numbered}
use Rattle.agg_typing.proofs.Soundness.{typed}
use Rattle.value_types.specs.declared.chain.Chain.{Chain as ChainCode}
use Rattle.value_types.specs.declared.ty.Ty.{Ty as Code}
use Rattle.value_types.specs.declared.ty.Ty.TheOpen.{Ty-F}
use Rattle.value_types.specs.declared.ty.Ty.TheFolds.{fold-roll-Ty, ind-Ty, map-Ty}
use Rattle.value_types.specs.Folds.{chain_of, ty_of, ty_step}
use Rattle.state_texts.specs.Spelled.{AreSpelledTypes, IsBase, IsSpelledChain, IsSpelledLeaf, IsSpelledType}

-- ---- the numbers of the program's types have whole bytes

abbrev mutual
  pub HasBytes : Ty → Type 0
  HasBytes (Whole n) = (n ≡ 8 * (n / 8)) × (0 < n)
  HasBytes (Signed w) = Unit {0}
  HasBytes Str = Unit {0}
  HasBytes (Arr t) = HasBytes t
  HasBytes (MapTy k t) = HasBytes k × HasBytes t
  HasBytes (Nullable t) = HasBytes t
  HasBytes (StateOf c ts) = HaveBytes ts

  pub HaveBytes : Tys → Type 0
  HaveBytes no_tys = Unit {0}
  HaveBytes (a_ty t ts) = HasBytes t × HaveBytes ts

abbrev Whole_bytes : Code → Type 0
Whole_bytes t = HasBytes (ty_of t)

abbrev Inside : Type 0
Inside = (t : Code) × Whole_bytes t

abbrev plain : Ty-F Inside → Ty-F Code
plain = map-Ty Inside Code (λ t. t.0)

args_have : (ts : List Inside) → HaveBytes (terms.tys (map ty_of (map (λ t. t.0) ts)))
args_have [] = tt
args_have (t ∷ ts) = (t.1, args_have ts)

layer_has : (layer : Ty-F Inside) → HasBytes (ty_step (map-Ty Code Ty ty_of (plain layer)))
layer_has Ty-F.U8 = (refl, omega arith)
layer_has Ty-F.U16 = (refl, omega arith)
layer_has Ty-F.U32 = (refl, omega arith)
layer_has Ty-F.U64 = (refl, omega arith)
layer_has Ty-F.I8 = tt
layer_has Ty-F.I16 = tt
layer_has Ty-F.I32 = tt
layer_has Ty-F.I64 = tt
layer_has Ty-F.Str = tt
layer_has (Ty-F.Arr t) = t.1
layer_has (Ty-F.Map k t) = (k.1, t.1)
layer_has (Ty-F.Nullable t) = t.1
layer_has (Ty-F.State c ts) = args_have ts

has_bytes : (t : Code) → HasBytes (ty_of t)
has_bytes = ind-Ty Whole_bytes (λ layer parts is.
    subst HasBytes (sym (fold-roll-Ty Ty ty_step layer ∙ ap (λ z. ty_step (map-Ty Code Ty ty_of z)) (sym is))) (layer_has parts))

have_bytes : (ts : List Code) → Each HasBytes (map ty_of ts)
have_bytes [] = tt
have_bytes (t ∷ ts) = (has_bytes t, have_bytes ts)

-- ---- legal types

basic_base : (t : Ty) → is_basic t ≡ true → IsBase t
basic_base (Whole n) e = tt
basic_base (Signed w) e = tt
basic_base Str e = tt
basic_base (Arr t) e = absurd cc
basic_base (MapTy k t) e = absurd cc
basic_base (Nullable t) e = absurd cc
basic_base (StateOf c ts) e = absurd cc

base_spelled : (t : Ty) → IsBase t → HasBytes t → IsSpelledType t
base_spelled (Whole n) b h = h
base_spelled (Signed w) b h = tt
base_spelled Str b h = tt
base_spelled (Arr t) b h = absurd b
base_spelled (MapTy k t) b h = absurd b
base_spelled (Nullable t) b h = absurd b
base_spelled (StateOf c ts) b h = absurd b

type_spelled : (t : Ty) → is_legal_type t ≡ true → HasBytes t → IsSpelledType t
type_spelled (Whole n) l h = h
type_spelled (Signed w) l h = tt
type_spelled Str l h = tt
type_spelled (Arr t) l h = type_spelled t l h
type_spelled (MapTy k t) l h =
    let p = and_parts (is_basic k) (is_legal_type t) l in (base_spelled k (basic_base k p.0) h.0, type_spelled t p.1 h.1)
type_spelled (Nullable t) l h = let b = basic_base t l in (b, base_spelled t b h)
type_spelled (StateOf c ts) l h = tt

base_bare : (t : Ty) → IsBase t → IsSpelledType t → IsSpelledType (bare t)
base_bare (Whole n) b s = s
base_bare (Signed w) b s = s
base_bare Str b s = s
base_bare (Arr t) b s = absurd b
base_bare (MapTy k t) b s = absurd b
base_bare (Nullable t) b s = absurd b
base_bare (StateOf c ts) b s = absurd b

bare_spelled : (t : Ty) → IsSpelledType t → IsSpelledType (bare t)
bare_spelled (Whole n) s = s
bare_spelled (Signed w) s = s
bare_spelled Str s = s
bare_spelled (Arr t) s = s
bare_spelled (MapTy k t) s = s
bare_spelled (Nullable t) s = base_bare t s.0 s.1
bare_spelled (StateOf c ts) s = s

key_spelled : (t : Ty) → IsSpelledType t → IsSpelledType (key_type t)
key_spelled (Whole n) s = s
key_spelled (Signed w) s = s
key_spelled Str s = s
key_spelled (Arr t) s = s
key_spelled (MapTy k t) s = s.0
key_spelled (Nullable t) s = s
key_spelled (StateOf c ts) s = s

are_spelled : (ts : List Ty) → are_legal_types ts ≡ true → Each HasBytes ts → Each IsSpelledType ts
are_spelled [] l h = tt
are_spelled (t ∷ ts) l h = let p = and_parts (is_legal_type t) (are_legal_types ts) l in (type_spelled t p.0 h.0, are_spelled ts p.1 h.1)

all_bare : (ts : List Ty) → Each IsSpelledType ts → AreSpelledTypes ts
all_bare [] s = tt
all_bare (t ∷ ts) s = (bare_spelled t s.0, all_bare ts s.1)

first_spelled : (ts : List Ty) → Each IsSpelledType ts → IsSpelledType (first_type ts)
first_spelled [] s = tt
first_spelled (t ∷ ts) s = s.0

-- ---- the types at the next link

front_has : (ts : List Ty) → Each HasBytes ts → Each HasBytes (front ts)
front_has [] h = tt
front_has (t ∷ []) h = tt
front_has (t ∷ u ∷ ts) h = (h.0, front_has (u ∷ ts) h.1)

element_has : (t : Ty) → HasBytes t → HasBytes (element t)
element_has (Whole n) h = h
element_has (Signed w) h = h
element_has Str h = h
element_has (Arr t) h = h
element_has (MapTy k t) h = h
element_has (Nullable t) h = h
element_has (StateOf c ts) h = h

elements_have : (ts : List Ty) → Each HasBytes ts → Each HasBytes (map element ts)
elements_have [] h = tt
elements_have (t ∷ ts) h = (element_has t h.0, elements_have ts h.1)

part_has : (t : Ty) → HasBytes t → HasBytes (map_part t)
part_has (Whole n) h = h
part_has (Signed w) h = h
part_has Str h = h
part_has (Arr t) h = h
part_has (MapTy k t) h = h.1
part_has (Nullable t) h = h
part_has (StateOf c ts) h = h

parts_have : (ts : List Ty) → Each HasBytes ts → Each HasBytes (map map_part ts)
parts_have [] h = tt
parts_have (t ∷ ts) h = (part_has t h.0, parts_have ts h.1)

list_has : (ts : Tys) → HaveBytes ts → Each HasBytes (tys_list ts)
list_has no_tys h = tt
list_has (a_ty t ts) h = (h.0, list_has ts h.1)

args_of_have : (t : Ty) → HasBytes t → Each HasBytes (state_args t)
args_of_have (Whole n) h = tt
args_of_have (Signed w) h = tt
args_of_have Str h = tt
args_of_have (Arr t) h = tt
args_of_have (MapTy k t) h = tt
args_of_have (Nullable t) h = tt
args_of_have (StateOf c ts) h = list_has ts h

state_args_have : (ts : List Ty) → Each HasBytes ts → Each HasBytes (state_args (first_type ts))
state_args_have [] h = tt
state_args_have (t ∷ ts) h = args_of_have t h.0

-- ---- functions and chains

behind_first : (n : ℕ) (ts : List Ty) → length ts ≤ 33 → conditions ts ≤ 32
behind_first n [] l = omega arith
behind_first n (t ∷ ts) l = omega (arith, l)

leaf_spelled : (f : Leaf) (ts : List Ty) → IsLegalCall (Of f) ts → Each IsSpelledType ts → IsTyped (Of f) ts → Passes (Of f) (numbered 1 ts) → IsSpelledLeaf f ts
leaf_spelled Count ts l s k p = tt
leaf_spelled Sum ts l s k p = tt
leaf_spelled Min ts l s k p = bare_spelled (first_type ts) (first_spelled ts s)
leaf_spelled Max ts l s k p = bare_spelled (first_type ts) (first_spelled ts s)
leaf_spelled ArgMin ts l s k p = (k.0, k.1, k.2, all_bare ts s)
leaf_spelled ArgMax ts l s k p = (k.0, k.1, k.2, all_bare ts s)
leaf_spelled (GroupArray most) ts l s k p = bare_spelled (first_type ts) (first_spelled ts s)
leaf_spelled UniqExact ts l s k p = (all_bare ts s, omega (arith, p.least_ok, length-numbered 1 ts))
leaf_spelled (QuantileExact level) ts l s k p = bare_spelled (first_type ts) (first_spelled ts s)
leaf_spelled (WindowFunnel window strict) ts l s k p = behind_first 0 ts (omega (arith, p.greatest_ok, length-numbered 1 ts))
leaf_spelled (SequenceMatch pattern) ts l s k p = behind_first 0 ts (omega (arith, p.greatest_ok, length-numbered 1 ts))
leaf_spelled Retention ts l s k p = omega (arith, p.greatest_ok, length-numbered 1 ts)
leaf_spelled (GroupBit op) ts l s k p =
    (subst (λ us. IsNumber (bare (first_type us))) (sym k.1) k.2, bare_spelled (first_type ts) (first_spelled ts s))

pub chain_spelled : (c : Chain) (ts : List Ty) → IsLegalCall c ts → Each HasBytes ts → IsSpelledChain c ts
chain_spelled (Of f) ts l h = leaf_spelled f ts l (are_spelled ts l.1 h) (typed (Of f) ts l) (legal_passes (Of f) ts l)
chain_spelled (If c) ts l h = chain_spelled c (front ts) (inner_is_legal (If c) c ts refl l) (front_has ts h)
chain_spelled (Array c) ts l h = chain_spelled c (map element ts) (inner_is_legal (Array c) c ts refl l) (elements_have ts h)
chain_spelled (MapOf c) ts l h =
    (key_spelled (first_type ts) (first_spelled ts (are_spelled ts l.1 h)), chain_spelled c (map map_part ts) (inner_is_legal (MapOf c) c ts refl l) (parts_have ts h))
chain_spelled (ForEach c) ts l h = chain_spelled c (map element ts) (inner_is_legal (ForEach c) c ts refl l) (elements_have ts h)
chain_spelled (OrNull c) ts l h = chain_spelled c ts (inner_is_legal (OrNull c) c ts refl l) h
chain_spelled (OrDefault c) ts l h = chain_spelled c ts (inner_is_legal (OrDefault c) c ts refl l) h
chain_spelled (Distinct c) ts l h =
    let p = legal_passes (Distinct c) ts l in (all_bare ts (are_spelled ts l.1 h), omega (arith, p.least_ok, length-numbered 1 ts))
chain_spelled (State c) ts l h = chain_spelled c ts (inner_is_legal (State c) c ts refl l) h
chain_spelled (Merge c) ts l h = chain_spelled c (state_args (first_type ts)) (inner_is_legal (Merge c) c ts refl l) (state_args_have ts h)
chain_spelled (Resample start end step c) ts l h =
    let p = legal_passes (Resample start end step c) ts l in
    (omega (arith, some_interval start end step (proper_here p)), chain_spelled c (front ts) (inner_is_legal (Resample start end step c) c ts refl l) (front_has ts h))
  where
    proper_here : Passes (Resample start end step c) (numbered 1 ts) → Proper start end step
    proper_here p =
        let n = pattern_conditions (arguments_reaching (suffixes_of (Resample start end step c)) (length (numbered 1 ts))) in
        proper 1 start end step (and_parts (is_range 1 start end step) (in_range n (1 * intervals start end step) c) p.formed_ok.range).0

pub legal_spelled : (chain : ChainCode) (types : List Code) → IsLegalCall (chain_of chain) (map ty_of types) → IsSpelledChain (chain_of chain) (map ty_of types)
legal_spelled chain types l = chain_spelled (chain_of chain) (map ty_of types) l (have_bytes types)
