-- Fields and rows of legal types can be read.
use Rattle.std.proofs.Common.{◌≡◌, true, [], ◌∷◌, map}
use Rattle.std.proofs.lemmas.Bool.{and_parts}
use Rattle.std.proofs.lemmas.List.Elements.{All-cons, All-nil}
use Rattle.agg_terms.specs.Chains.{Arr, MapTy, Nullable, Signed, StateOf, Str, Ty, Whole}
use Rattle.agg_typing.specs.Legal.{are_legal_types, is_basic, is_legal_type}
use Rattle.scalar_texts.specs.States.{AllStates}
use Rattle.tsv_values.specs.Answer.{KeysArePlain}
use Rattle.value_types.specs.Folds.{ty_of}
use Rattle.value_types.specs.declared.ty.Ty.{Ty as Code}
use Rattle.legal_fields.specs.Readable.{LegalFieldsAreReadable, LegalRowsAreReadable, TakesLegal}

-- a number or String has no state
basic_states : (takes : Ty → Type 0) (t : Ty) → is_basic t ≡ true → AllStates takes t
basic_states takes (Whole n) h = tt
basic_states takes (Signed w) h = tt
basic_states takes Str h = tt
basic_states takes (Arr t) h = absurd cc
basic_states takes (MapTy k t) h = absurd cc
basic_states takes (Nullable t) h = absurd cc
basic_states takes (StateOf c ts) h = absurd cc

basic_keys : (t : Ty) → is_basic t ≡ true → KeysArePlain t
basic_keys (Whole n) h = tt
basic_keys (Signed w) h = tt
basic_keys Str h = tt
basic_keys (Arr t) h = absurd cc
basic_keys (MapTy k t) h = absurd cc
basic_keys (Nullable t) h = absurd cc
basic_keys (StateOf c ts) h = absurd cc

legal_states : (takes : Ty → Type 0) → TakesLegal takes → (t : Ty) → is_legal_type t ≡ true → AllStates takes t
legal_states takes law (Whole n) h = tt
legal_states takes law (Signed w) h = tt
legal_states takes law Str h = tt
legal_states takes law (Arr t) h = legal_states takes law t h
legal_states takes law (MapTy k t) h =
    let p = and_parts (is_basic k) (is_legal_type t) h in (basic_states takes k p.0, legal_states takes law t p.1)
legal_states takes law (Nullable t) h = basic_states takes t h
legal_states takes law (StateOf c ts) h = law c ts h

legal_keys : (t : Ty) → is_legal_type t ≡ true → KeysArePlain t
legal_keys (Whole n) h = tt
legal_keys (Signed w) h = tt
legal_keys Str h = tt
legal_keys (Arr t) h = legal_keys t h
legal_keys (MapTy k t) h =
    let p = and_parts (is_basic k) (is_legal_type t) h in (basic_states (λ _. ⊥) k p.0, legal_keys t p.1)
legal_keys (Nullable t) h = basic_keys t h
legal_keys (StateOf c ts) h = tt

pub fields_readable : (takes : Ty → Type 0) → LegalFieldsAreReadable takes
fields_readable takes law t h = (legal_states takes law t h, legal_keys t h)

pub rows_readable : (takes : Ty → Type 0) → LegalRowsAreReadable takes
rows_readable takes law [] h = All-nil (λ (t : Code). AllStates takes (ty_of t) × KeysArePlain (ty_of t))
rows_readable takes law (t ∷ ts) h =
    let p = and_parts (is_legal_type (ty_of t)) (are_legal_types (map ty_of ts)) h in
    All-cons (λ (t : Code). AllStates takes (ty_of t) × KeysArePlain (ty_of t)) t ts (fields_readable takes law (ty_of t) p.0) (rows_readable takes law ts p.1)
