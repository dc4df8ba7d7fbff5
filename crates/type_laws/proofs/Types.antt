-- A printed type is read as that type.
use Rattle.std.proofs.Common.{◌≡◌, true, not, ◌&&◌, length, Result, Ok, Err, refl, sym, ap, subst, ◌∙◌}
use Rattle.std.proofs.lemmas.Bool.{leb-true, and_parts}
use Rattle.agg_terms.specs.Chains.{Chain, Ty, Tys, no_tys, a_ty, tys_list}
use Rattle.agg_terms.specs.Chains as terms
use Rattle.agg_terms.specs.Widths.{HasWidths, HaveWidths}
use Rattle.agg_typing.specs.Counts.{takes_count, inside_maps}
use Rattle.agg_typing.specs.Legal.{suffixes_of, is_formed, is_typed, is_legal, is_basic, is_legal_type, all_legal}
use Rattle.agg_typing.specs.Parameters.{pattern_conditions}
use Rattle.agg_typing.specs.Suffixes.{most_suffixes, arguments_reaching}
use Rattle.agg_typing.specs.States.{is_state_or_merge}
use Rattle.agg_typing.proofs.Formed.{Formed, formed}
use Rattle.agg_typing.proofs.Tests.{or_none}
use Rattle.value_types.specs.Folds.{ty_of}
use Rattle.value_types.proofs.Images.{wide}
use Rattle.type_shapes.specs.declared.shape.TypeShape.{TypeShape}
use Rattle.type_shapes.specs.declared.shape.ShapeFault.{ShapeFault}
use Rattle.type_shapes.specs.ReadsBack.{shape_in, shapes_in, HasParts, HaveParts, IsShapeUnlessMemory, TypesReadBack}
use Rattle.shape_types.specs.Countable.{IsCountable, AreCountable}
use Rattle.shape_types.specs.Types.{type_of_shape, types_of_shapes}
use Rattle.type_laws.specs.Types.{IsTypeUnlessMemory, PrintedTypesAreRead}
use Rattle.type_laws.proofs.Fitting.{fits_chain, few_literals, few_types}
use Rattle.type_laws.proofs.Calls.{legal_passes, state_read}

-- ---- legal types, part by part

-- the parts of a legal state type
record Parts (c : Chain) (ts : Tys) : Type 0 where
  legal : is_legal c (tys_list ts) ≡ true
  inner : not (is_state_or_merge c) ≡ true
  types : all_legal ts ≡ true
  formed : Formed c (length (tys_list ts))

parts : (c : Chain) (ts : Tys) → is_legal_type (terms.StateOf c ts) ≡ true → Parts c ts
parts c ts h =
    let one = and_parts (is_legal c (tys_list ts)) (not (is_state_or_merge c) && all_legal ts) h in
    let two = and_parts (not (is_state_or_merge c)) (all_legal ts) one.1 in
    record { legal = one.0; inner = two.0; types = two.1; formed = formed c (length (tys_list ts)) (and_parts (is_formed c (length (tys_list ts))) (is_typed c (tys_list ts)) one.0).0 }

-- a number type or String stands alone
basic_legal : (t : Ty) → is_basic t ≡ true → is_legal_type t ≡ true
basic_legal (terms.Whole n) h = refl
basic_legal (terms.Signed w) h = refl
basic_legal terms.Str h = refl
basic_legal (terms.Arr t) h = absurd cc
basic_legal (terms.MapTy k t) h = absurd cc
basic_legal (terms.Nullable t) h = absurd cc
basic_legal (terms.StateOf c ts) h = absurd cc

mutual
  has_parts : (t : Ty) → HasWidths t → is_legal_type t ≡ true → HasParts t
  has_parts (terms.Whole n) w h = w
  has_parts (terms.Signed s) w h = w
  has_parts terms.Str w h = tt
  has_parts (terms.Arr t) w h = has_parts t w h
  has_parts (terms.MapTy k t) w h = let two = and_parts (is_basic k) (is_legal_type t) h in (two.0, has_parts k w.0 (basic_legal k two.0), has_parts t w.1 two.1)
  has_parts (terms.Nullable t) w h = (h, has_parts t w (basic_legal t h))
  has_parts (terms.StateOf c ts) w h =
      let p = parts c ts h in (fits_chain (pattern_conditions (arguments_reaching (suffixes_of c) (length (tys_list ts)))) 1 c p.formed.range, have_parts ts w p.types)

  have_parts : (ts : Tys) → HaveWidths ts → all_legal ts ≡ true → HaveParts ts
  have_parts no_tys w h = tt
  have_parts (a_ty t ts) w h = let two = and_parts (is_legal_type t) (all_legal ts) h in (has_parts t w.0 two.0, have_parts ts w.1 two.1)

-- lists of 32 bits
state_countable : (c : Chain) (ts : Tys) → Parts c ts → AreCountable (shapes_in ts) → IsCountable (shape_in (terms.StateOf c ts))
state_countable c ts p more =
    let few = leb-true (length (suffixes_of c)) most_suffixes p.formed.few in
    let counts = or_none (takes_count c (length (tys_list ts))) (inside_maps c) (legal_passes c (tys_list ts) p.legal).counts in
    (few_literals c few, few_types c ts few counts.0, more)

mutual
  countable : (t : Ty) → is_legal_type t ≡ true → IsCountable (shape_in t)
  countable (terms.Whole n) h = tt
  countable (terms.Signed s) h = tt
  countable terms.Str h = tt
  countable (terms.Arr t) h = countable t h
  countable (terms.MapTy k t) h = let two = and_parts (is_basic k) (is_legal_type t) h in (countable k (basic_legal k two.0), countable t two.1)
  countable (terms.Nullable t) h = countable t (basic_legal t h)
  countable (terms.StateOf c ts) h = let p = parts c ts h in state_countable c ts p (all_countable ts p.types)

  all_countable : (ts : Tys) → all_legal ts ≡ true → AreCountable (shapes_in ts)
  all_countable no_tys h = tt
  all_countable (a_ty t ts) h = let two = and_parts (is_legal_type t) (all_legal ts) h in (countable t two.0, all_countable ts two.1)

-- the shape of a legal type stands for that type
mutual
  type_read : (t : Ty) → is_legal_type t ≡ true → type_of_shape (shape_in t) ≡ Ok t
  type_read (terms.Whole n) h = refl
  type_read (terms.Signed s) h = refl
  type_read terms.Str h = refl
  type_read (terms.Arr t) h = rw (type_read t h)
  type_read (terms.MapTy k t) h = let two = and_parts (is_basic k) (is_legal_type t) h in rw (type_read k (basic_legal k two.0), type_read t two.1)
  type_read (terms.Nullable t) h = rw (type_read t (basic_legal t h))
  type_read (terms.StateOf c ts) h = let p = parts c ts h in rw (types_read ts p.types) (state_read c ts p.legal p.inner)

  types_read : (ts : Tys) → all_legal ts ≡ true → types_of_shapes (shapes_in ts) ≡ Ok (tys_list ts)
  types_read no_tys h = refl
  types_read (a_ty t ts) h = let two = and_parts (is_legal_type t) (all_legal ts) h in rw (type_read t two.0, types_read ts two.1)

by_answer : (t : Ty) (answer : Result TypeShape ShapeFault) → is_legal_type t ≡ true → IsShapeUnlessMemory (shape_in t) answer → IsTypeUnlessMemory t answer
by_answer t (Ok shape) legal h = (subst IsCountable (sym h) (countable t legal), ap type_of_shape h ∙ type_read t legal)
by_answer t (Err fault) legal h = h

pub printed_types_are_read : TypesReadBack → PrintedTypesAreRead
printed_types_are_read back ty answer legal few h = by_answer (ty_of ty) answer legal (back (ty_of ty) answer (has_parts (ty_of ty) (wide ty) legal) few h)
