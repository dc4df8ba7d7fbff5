-- Where the numbers of types have the widths that there are, so have those of the types at the next link inward.
use Rattle.std.proofs.Common.{inl, inr, ℕ, ◌≤◌, List, [], ◌∷◌, arith}
use Rattle.agg_terms.specs.Chains.{Arr, Array, Chain, Distinct, ForEach, If, MapOf, MapTy, Merge, Nullable, Of, OrDefault, OrNull, Resample, Signed, State, StateOf, Str, Ty, Tys, Whole, a_ty, no_tys, tys_list}
use Rattle.agg_terms.specs.Lists.{Each, front}
use Rattle.agg_terms.specs.Types.{element, first_type, inward, map_part, state_args}
use Rattle.agg_terms.specs.Widths.{HasWidths, HaveWidths, IsNarrow, IsWholeWidth, most_bits}
use Rattle.agg_meaning.proofs.LeafTrees.{each_map}

whole_narrow : (n : ℕ) → IsWholeWidth n → n ≤ most_bits
whole_narrow n h = elim h [
  | inl e ↦ omega (arith, e)
  | inr h ↦ elim h [
    | inl e ↦ omega (arith, e)
    | inr h ↦ elim h [ inl e ↦ omega (arith, e) | inr e ↦ omega (arith, e) ]
  ]
]

-- a type with these widths is narrow
pub widths_narrow : (t : Ty) → HasWidths t → IsNarrow t
widths_narrow (Whole n) h = whole_narrow n h
widths_narrow (Signed w) h = h
widths_narrow Str h = tt
widths_narrow (Arr t) h = widths_narrow t h
widths_narrow (MapTy k t) h = (widths_narrow k h.0, widths_narrow t h.1)
widths_narrow (Nullable t) h = widths_narrow t h
widths_narrow (StateOf c ts) h = tt

element_wide : (t : Ty) → HasWidths t → HasWidths (element t)
element_wide (Arr t) h = h
element_wide (Whole n) h = h
element_wide (Signed w) h = h
element_wide Str h = h
element_wide (MapTy k t) h = h
element_wide (Nullable t) h = h
element_wide (StateOf c ts) h = h

part_wide : (t : Ty) → HasWidths t → HasWidths (map_part t)
part_wide (MapTy k t) h = h.1
part_wide (Arr t) h = h
part_wide (Whole n) h = h
part_wide (Signed w) h = h
part_wide Str h = h
part_wide (Nullable t) h = h
part_wide (StateOf c ts) h = h

front_wide : (ts : List Ty) → Each HasWidths ts → Each HasWidths (front ts)
front_wide [] h = tt
front_wide (t ∷ []) h = tt
front_wide (t ∷ u ∷ ts) h = (h.0, front_wide (u ∷ ts) h.1)

-- the types that a state was made over
listed_wide : (ts : Tys) → HaveWidths ts → Each HasWidths (tys_list ts)
listed_wide no_tys h = tt
listed_wide (a_ty t ts) h = (h.0, listed_wide ts h.1)

state_wide : (t : Ty) → HasWidths t → Each HasWidths (state_args t)
state_wide (StateOf c ts) h = listed_wide ts h
state_wide (Whole n) h = tt
state_wide (Signed w) h = tt
state_wide Str h = tt
state_wide (Arr t) h = tt
state_wide (MapTy k t) h = tt
state_wide (Nullable t) h = tt

first_wide : (ts : List Ty) → Each HasWidths ts → HasWidths (first_type ts)
first_wide [] h = tt
first_wide (t ∷ ts) h = h.0

pub inward_wide : (c : Chain) (ts : List Ty) → Each HasWidths ts → Each HasWidths (inward c ts)
inward_wide (Of f) ts h = h
inward_wide (If c) ts h = front_wide ts h
inward_wide (Resample start end step c) ts h = front_wide ts h
inward_wide (Array c) ts h = each_map HasWidths HasWidths element element_wide ts h
inward_wide (ForEach c) ts h = each_map HasWidths HasWidths element element_wide ts h
inward_wide (MapOf c) ts h = each_map HasWidths HasWidths map_part part_wide ts h
inward_wide (Merge c) ts h = state_wide (first_type ts) (first_wide ts h)
inward_wide (OrNull c) ts h = h
inward_wide (OrDefault c) ts h = h
inward_wide (Distinct c) ts h = h
inward_wide (State c) ts h = h
