-- Fields and rows of legal types can be read.
use Rattle.std.specs.Prelude.{◌≡◌, true, List, map}
use Rattle.agg_terms.specs.Chains.{Chain, StateOf, Ty, Tys}
use Rattle.agg_typing.specs.Legal.{are_legal_types, is_legal_type}
use Rattle.row_texts.specs.Rows.{AreReadable}
use Rattle.scalar_texts.specs.States.{AllStates}
use Rattle.tsv_values.specs.Answer.{KeysArePlain}
use Rattle.value_types.specs.Folds.{ty_of}
use Rattle.value_types.specs.declared.ty.Ty.{Ty as Code}

-- every legal state type is taken
abbrev pub TakesLegal : (Ty → Type 0) → Type 0
TakesLegal takes = (c : Chain) (ts : Tys) → is_legal_type (StateOf c ts) ≡ true → takes (StateOf c ts)

-- Of a legal type all states are taken, and no key has a state in it.
abbrev pub LegalFieldsAreReadable : (Ty → Type 0) → Type 0
LegalFieldsAreReadable takes = TakesLegal takes → (t : Ty) → is_legal_type t ≡ true → AllStates takes t × KeysArePlain t

-- The same of the types of a table's columns.
abbrev pub LegalRowsAreReadable : (Ty → Type 0) → Type 0
LegalRowsAreReadable takes = TakesLegal takes → (types : List Code) → are_legal_types (map ty_of types) ≡ true → AreReadable takes types
