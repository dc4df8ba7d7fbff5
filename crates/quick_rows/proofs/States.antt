-- A field that a reader takes as a state.
use Rattle.std.proofs.Common.{◌≡◌, ℕ, true, List, [], ◌∷◌, ◌++◌, map, ap, sym, subst, ◌∙◌}
use Rattle.std.specs.Prelude.{Result, Ok, Err}
use Rattle.std.proofs.lemmas.List.{map-append}
use Rattle.value_lists.specs.declared.out_of_memory.OutOfMemory.{OutOfMemory}
use Rattle.agg_terms.specs.Chains as terms
use Rattle.agg_terms.specs.Fitting.{fits_value}
use Rattle.agg_terms.specs.Values as family
use Rattle.value_types.specs.Folds.{chain_of, tree_of, ty_of}
use Rattle.value_types.specs.declared.chain.Chain.{Chain}
use Rattle.value_types.specs.declared.ty.Ty.{Ty}
use Rattle.value_types.specs.declared.value.Tree.{Tree}
use Rattle.value_types.specs.declared.value.Value.{Value}
use Rattle.value_types.specs.declared.value.Value.TheVariants as value
use Rattle.value_types.proofs.FoldLaws.{ty_of-State, value_of-Cell}
use Rattle.scalar_texts.specs.Answer.{Agrees, cell_of, not_hex_or, state_answer}
use Rattle.scalar_texts.specs.Hex.{hex_bytes}
use Rattle.scalar_texts.specs.States.{AllStates, IsStateRead, ReadsStates}
use Rattle.tsv_values.specs.Answer.{IsFilledAnswer}
use Rattle.typed_columns.specs.Growth.{Fits}
use Rattle.typed_columns.specs.TypedValues.{TypedValues}
use Rattle.quick_rows.specs.declared.field.Front.{Front}
use Rattle.quick_rows.specs.declared.field.Front.TheVariants as front
use Rattle.quick_rows.specs.Keeping.{IsState}
use Rattle.quick_rows.specs.Taking.{IsFront, SaysBy, TakesField, TakesFirst, TakesFront, is_plain}
use Rattle.quick_rows.specs.proving.Walking.{IsStateAt, IsWalkedBy, TakesBy, states_seen}
use Rattle.quick_rows.specs.proving.Hexadecimal.{IsHexFront}
use Rattle.quick_rows.proofs.HexFronts.{writes_bytes, writes_fault, writes_plain}
use Rattle.quick_rows.proofs.FieldLaws.{unnulled}
use Rattle.quick_rows.proofs.FirstLaws.{plain_some}

-- what is said whatever reads the states, one that reads them says
pub taken_by : (reads : ReadsStates) (old new : TypedValues) (text : List ℕ) (r : Result Front OutOfMemory) → TakesFirst TakesField old text new r → TakesFirst (TakesBy reads) old text new r
taken_by reads old new text (Ok (front.Taken left)) h = (h.0, h.1, (h.2.0, h.2.1, h.2.2 reads, h.2.3))
taken_by reads old new text (Ok front.Irregular) h = h
taken_by reads old new text (Err fault) h = h

-- what a type of states is in the definitions
abbrev state_type : Chain → List Ty → terms.Ty
state_type chain args = terms.StateOf (chain_of chain) (terms.tys (map ty_of args))

state_form : (t : Ty) (is : IsState t) → ty_of t ≡ state_type is.0 is.1
state_form t is = ap ty_of is.2 ∙ ty_of-State is.0 is.1

-- the reader takes a type of states that is readable
pub takes_state : (takes : terms.Ty → Type 0) (t : Ty) → IsState t → AllStates takes (ty_of t) → takes (ty_of t)
takes_state takes t is all =
    let form = state_form t is in
    subst takes (sym form) (subst (AllStates takes) form all)

-- a field that is no `\N` and has an answer as a state
pub state_says : (reads : ReadsStates) (t : Ty) (field : List ℕ) (v : Value) → IsState t → is_plain field ≡ true → Agrees (state_answer reads (ty_of t) field) (Ok v) → SaysBy reads t field v
state_says reads t field v is plain said =
    let form = state_form t is in
    unnulled reads (ty_of t) field v (plain_some field plain)
    (subst (λ u. IsFilledAnswer reads u field (Ok v)) (sym form) (subst (λ u. Agrees (state_answer reads u field) (Ok v)) form said))

-- one that a text begins with, read from few bytes or from its field
pub field_state : (reads : ReadsStates) (t : Ty) (text field left : List ℕ) (tree : Tree) → IsState t → IsFront text field left → is_plain field ≡ true → Agrees (state_answer reads (ty_of t) field) (Ok (value.Cell tree)) →
    Fits t (value.Cell tree) → IsStateAt reads t text tree left
field_state reads t text field left tree is split plain said fits = (field, split, fits, state_says reads t field (value.Cell tree) is plain said)

pub hex_state : (reads : ReadsStates) (t : Ty) (text bytes left : List ℕ) (tree : Tree) → IsState t → IsHexFront text bytes left → IsStateRead (reads (ty_of t) bytes) (Ok tree) →
    fits_value (ty_of t) (family.Cell (tree_of tree)) ≡ true → IsStateAt reads t text tree left
hex_state reads t text bytes left tree is front read fits =
    let digits = front.0 in
    let plain = writes_plain digits bytes front.2 in
    let told = ap (λ bs. cell_of (reads (ty_of t) bs)) (writes_bytes digits bytes front.2) ∙ ap cell_of read ∙ ap Ok (sym (value_of-Cell tree)) in
    field_state reads t text digits left tree is (front.1, plain.0) plain.1 (ap (λ o. not_hex_or o (cell_of (reads (ty_of t) (hex_bytes digits)))) (writes_fault digits bytes front.2) ∙ told)
    (ap (fits_value (ty_of t)) (value_of-Cell tree) ∙ fits)

pub state_walked : (reads : ReadsStates) (t : Ty) (text left : List ℕ) (tree : Tree) → IsStateAt reads t text tree left → IsWalkedBy reads t text left
state_walked reads t text left tree at = (at.0, at.1, value.Cell tree, at.2, at.3)

pub state_taken : (reads : ReadsStates) (t : Ty) (text left : List ℕ) (tree : Tree) (trees after : List Tree) → IsStateAt reads t text tree left → after ≡ trees ++ tree ∷ [] →
    TakesFront (TakesBy reads) (states_seen t trees) text (states_seen t after) left
state_taken reads t text left tree trees after at grown =
    (at.0, at.1, (value.Cell tree, at.2, at.3, ap (states_seen t) grown ∙ (λ i. record { ty = t; values = map-append value.Cell trees (tree ∷ []) i })))
