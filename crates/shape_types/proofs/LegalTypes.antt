-- What a text spells stands for a legal type.
use Rattle.std.proofs.Common.{◌≡◌, refl, ap, subst, ◌∙◌, ℕ, true, ◌&&◌, Bool, List, ◌∷◌, Result, Ok, Err}
use Rattle.agg_terms.specs.Chains.{Ty}
use Rattle.agg_terms.specs.Chains as terms
use Rattle.agg_typing.specs.Faults.{Fault, and_then}
use Rattle.agg_typing.specs.Legal.{is_basic, is_legal_type, are_legal_types}
use Rattle.agg_typing.specs.Literals.{Literal}
use Rattle.agg_typing.specs.Promises.{AllowedStateIsLegal}
use Rattle.agg_typing.specs.Typing.{resolved_state}
use Rattle.pattern_texts.specs.Machine.{pattern_reader}
use Rattle.pattern_texts.proofs.Law.{reader_gives}
use Rattle.type_names.specs.TypeTexts as written
use Rattle.type_names.specs.TypeTexts.{ShapeFits, ShapesFit, IsOneWord}
use Rattle.type_shapes.specs.Folds.{shape_of}
use Rattle.type_shapes.specs.Shapes.{Shape, Shapes, Arr, MapOf, Nullable, State, no_shapes, a_shape, Spells, AllSpell}
use Rattle.shape_types.specs.Legal.{ReadTypesAreLegal}
use Rattle.shape_types.specs.Types.{type_of_shape, types_of_shapes}
use Rattle.shape_types.proofs.PlainNames.{each_name}

abbrev pub IfType : (Ty → Bool) → Result Ty Fault → Type 0
IfType test (Ok t) = test t ≡ true
IfType test (Err f) = Unit {0}

abbrev pub IfTypes : Result (List Ty) Fault → Type 0
IfTypes (Ok ts) = are_legal_types ts ≡ true
IfTypes (Err f) = Unit {0}

basic : (w : written.WrittenType) (s : Shape) → IsOneWord w → Spells w s → IfType is_basic (type_of_shape s)
basic (written.plain name) s p h = each_name (λ x. IfType is_basic (type_of_shape x)) (λ n. refl) (λ w. refl) refl name s h
basic (written.array ty) s p h = absurd p
basic (written.map_of key ty) s p h = absurd p
basic (written.nullable ty) s p h = absurd p
basic (written.state name literals types) s p h = absurd p

basic_legal : (t : Ty) → is_basic t ≡ true → is_legal_type t ≡ true
basic_legal (terms.Whole n) h = refl
basic_legal (terms.Signed w) h = refl
basic_legal terms.Str h = refl
basic_legal (terms.Arr t) h = absurd cc
basic_legal (terms.MapTy k t) h = absurd cc
basic_legal (terms.Nullable t) h = absurd cc
basic_legal (terms.StateOf c ts) h = absurd cc

one_legal : (r : Result Ty Fault) → IfType is_basic r → IfType is_legal_type r
one_legal (Ok t) h = basic_legal t h
one_legal (Err f) h = tt

pub array_legal : (r : Result Ty Fault) → IfType is_legal_type r → IfType is_legal_type (and_then r (λ (t : Ty). Ok (terms.Arr t)))
array_legal (Ok t) h = h
array_legal (Err f) h = tt

pub nullable_legal : (r : Result Ty Fault) → IfType is_basic r → IfType is_legal_type (and_then r (λ (t : Ty). Ok (terms.Nullable t)))
nullable_legal (Ok t) h = h
nullable_legal (Err f) h = tt

pub map_legal : (q r : Result Ty Fault) → IfType is_basic q → IfType is_legal_type r → IfType is_legal_type (and_then q (λ (k : Ty). and_then r (λ (t : Ty). Ok (terms.MapTy k t))))
map_legal (Ok k) (Ok t) h g = ap (λ b. b && is_legal_type t) h ∙ g
map_legal (Ok k) (Err f) h g = tt
map_legal (Err f) r h g = tt

pub more_legal : (q : Result Ty Fault) (r : Result (List Ty) Fault) → IfType is_legal_type q → IfTypes r → IfTypes (and_then q (λ (t : Ty). and_then r (λ (ts : List Ty). Ok (t ∷ ts))))
more_legal (Ok t) (Ok ts) h g = ap (λ b. b && are_legal_types ts) h ∙ g
more_legal (Ok t) (Err f) h g = tt
more_legal (Err f) r h g = tt

each_type : (r : Result Ty Fault) → ((t : Ty) → r ≡ Ok t → is_legal_type t ≡ true) → IfType is_legal_type r
each_type (Ok t) h = h t refl
each_type (Err f) h = tt

pub state_legal : AllowedStateIsLegal → (name : List ℕ) (ls : List Literal) (r : Result (List Ty) Fault) → IfTypes r →
    IfType is_legal_type (and_then r (λ (ts : List Ty). resolved_state pattern_reader name ls ts))
state_legal law name ls (Ok ts) h = each_type (resolved_state pattern_reader name ls ts) (λ t e. law pattern_reader reader_gives name ls ts t h e)
state_legal law name ls (Err f) h = tt

mutual
  pub legal : AllowedStateIsLegal → (w : written.WrittenType) (s : Shape) → ShapeFits w → Spells w s → IfType is_legal_type (type_of_shape s)
  legal law (written.plain name) s f h = one_legal (type_of_shape s) (basic (written.plain name) s tt h)
  legal law (written.array ty) (Arr s) f h = array_legal (type_of_shape s) (legal law ty s f h)
  legal law (written.map_of key ty) (MapOf k s) f h = map_legal (type_of_shape k) (type_of_shape s) (basic key k f.0 h.0) (legal law ty s f.2 h.1)
  legal law (written.nullable ty) (Nullable s) f h = nullable_legal (type_of_shape s) (basic ty s f.0 h)
  legal law (written.state name literals types) (State n ls ss) f h = state_legal law n ls (types_of_shapes ss) (all_legal law types ss f.1 h.2)
  legal law (written.array ty) s f h = absurd h
  legal law (written.map_of key ty) s f h = absurd h
  legal law (written.nullable ty) s f h = absurd h
  legal law (written.state name literals types) s f h = absurd h

  all_legal : AllowedStateIsLegal → (ws : written.WrittenTypes) (ss : Shapes) → ShapesFit ws → AllSpell ws ss → IfTypes (types_of_shapes ss)
  all_legal law written.none no_shapes f h = refl
  all_legal law (written.and_one w ws) (a_shape s ss) f h = more_legal (type_of_shape s) (types_of_shapes ss) (legal law w s f.0 h.0) (all_legal law ws ss f.1 h.1)
  all_legal law written.none (a_shape s ss) f h = absurd h
  all_legal law (written.and_one w ws) no_shapes f h = absurd h

pub read_legal : AllowedStateIsLegal → ReadTypesAreLegal
read_legal law text shape t h e = subst (IfType is_legal_type) e (legal law h.0 (shape_of shape) h.1.0 h.2)
