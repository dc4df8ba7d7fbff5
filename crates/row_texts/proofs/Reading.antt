-- A row that is read from the left: what is told of the fields that are left is told of the line.
use Rattle.std.proofs.Common.{◌≡◌, ℕ, zero, Result, true, false, ◌+◌, ◌<◌, List, [], ◌∷◌, ◌++◌, Option, None, Some, Bor, Ok, Err, MatchOption, get_or, length, drop, suc, inl, inr, refl, sym, ap, ◌∙◌, subst, drop-cons, length-append, append_assoc, arith, ◌≢◌}
use Rattle.value_types.specs.declared.ty.Ty.{Ty}
use Rattle.value_types.specs.declared.value.Value.{Value}
use Rattle.tsv_text.specs.Lines.{fields_of}
use Rattle.scalar_texts.specs.States.{ReadsStates}
use Rattle.scalar_texts.specs.declared.fault.FieldFault.{FieldFault}
use Rattle.scalar_texts.specs.declared.fault.FieldFault.TheVariants as faults
use Rattle.value_types.specs.Folds.{ty_of}
use Rattle.tsv_values.specs.Answer.{IsFieldAnswer}
use Rattle.typed_columns.specs.Growth.{Fits}
use Rattle.columns.specs.Rows.{RowFits}
use Rattle.std.proofs.lemmas.List.{append-nil}
use Rattle.row_texts.specs.Rows.{AreValues, IsFirstFault, IsRowAnswer, refusal_of}

-- the fields that are left
abbrev pub fields_left : Option (Bor (List ℕ)) → List (List ℕ)
fields_left None = []
fields_left (Some text) = fields_of text.now

abbrev pub bytes_left : Option (Bor (List ℕ)) → ℕ
bytes_left None = 0
bytes_left (Some text) = length text.now + 1

-- these values were read, and what the other fields come to settles the line
pub record IsReadSoFar (reads : ReadsStates) (types : List Ty) (line : List ℕ) (row : List Value) (left : Option (Bor (List ℕ))) : Type 0 where
  pub count : length row + length (fields_left left) ≡ length types
  pub values : (vs : List Value) → AreValues reads (drop (length row) types) (fields_left left) vs → AreValues reads types (fields_of line) (row ++ vs)
  pub fault : (column : ℕ) (fault : FieldFault) → IsFirstFault reads (length row + 1) (drop (length row) types) (fields_left left) column fault → IsFirstFault reads 1 types (fields_of line) column fault
  pub fits : (vs : List Value) → RowFits (drop (length row) types) vs → RowFits types (row ++ vs)

-- the first fault of a line with the right number of fields is its answer
pub first-fault : (reads : ReadsStates) (types : List Ty) (line : List ℕ) (column : ℕ) (fault : FieldFault)
    → length (fields_of line) ≡ length types → IsFirstFault reads 1 types (fields_of line) column fault → IsRowAnswer reads types line (Err (refusal_of column fault))
first-fault reads types line column faults.OutOfMemory count first = tt
first-fault reads types line column faults.NotNumber count first = (count, λ e. cc, first)
first-fault reads types line column faults.OutOfRange count first = (count, λ e. cc, first)
first-fault reads types line column (faults.Text fault) count first = (count, λ e. cc, first)
first-fault reads types line column (faults.BadArray at) count first = (count, λ e. cc, first)
first-fault reads types line column (faults.BadMap at) count first = (count, λ e. cc, first)
first-fault reads types line column faults.NotNullable count first = (count, λ e. cc, first)
first-fault reads types line column (faults.NotHex at) count first = (count, λ e. cc, first)
first-fault reads types line column (faults.BadState fault) count first = (count, λ e. cc, first)

-- no field is read yet
pub start : (reads : ReadsStates) (types : List Ty) (line : Bor (List ℕ)) → length (fields_of line.now) ≡ length types → IsReadSoFar reads types line.now [] (Some line)
start reads types line count = record { count = omega (arith, count); values = λ vs h. h; fault = λ column fault h. h; fits = λ vs h. h }

-- the type of the next field
next-type : (types : List Ty) (n at : ℕ) (ty : Ty) → n < length types → at ≡ n → ty ≡ get_or types at ty → drop n types ≡ ty ∷ drop (n + 1) types
next-type types n at ty within at_is ty_is =
    let one_more : suc n ≡ n + 1 = omega arith in
    let here : get_or types n ty ≡ ty = sym (ty_is ∙ ap (λ (k : ℕ). get_or types k ty) at_is) in
    drop-cons types n ty within ∙ ap (λ (k : ℕ). get_or types n ty ∷ drop k types) one_more ∙ ap (λ (t : Ty). t ∷ drop (n + 1) types) here

fields-next : (text field : List ℕ) (after : Option (Bor (List ℕ)))
    → MatchOption after (fields_of text ≡ field ∷ []) (λ a. fields_of text ≡ field ∷ fields_of a.now) → fields_of text ≡ field ∷ fields_left after
fields-next text field None h = h
fields-next text field (Some a) h = h

-- one more field is read
pub more : (reads : ReadsStates) (types : List Ty) (line : List ℕ) (row next : List Value) (text : Bor (List ℕ)) (field : List ℕ) (after : Option (Bor (List ℕ))) (at : ℕ) (ty : Ty) (v : Value)
    → IsReadSoFar reads types line row (Some text)
    → MatchOption after (fields_of text.now ≡ field ∷ []) (λ a. fields_of text.now ≡ field ∷ fields_of a.now)
    → at ≡ length row → ty ≡ get_or types at ty → IsFieldAnswer reads (ty_of ty) field (Ok v) → Fits ty v → next ≡ row ++ v ∷ [] → IsReadSoFar reads types line next after
more reads types line row next text field after at ty v so_far cut at_is ty_is said fit next_is =
    let fields = fields-next text.now field after cut in
    let count : length row + (length (fields_left after) + 1) ≡ length types = omega (arith, so_far.count, ap length fields) in
    let type_is = next-type types (length row) at ty (omega (arith, count)) at_is ty_is in
    let long : length next ≡ length row + 1 = ap length next_is ∙ length-append row (v ∷ []) in
    record {
      count = omega (arith, count, long);
      values = λ vs h.
          subst (λ (all : List Value). AreValues reads types (fields_of line) all) (sym (ap (λ (x : List Value). x ++ vs) next_is ∙ append_assoc row (v ∷ []) vs))
          (so_far.values (v ∷ vs) (rw (type_is, fields) (said, subst (λ (k : ℕ). AreValues reads (drop k types) (fields_left after) vs) long h)));
      fault = λ column fault h.
          so_far.fault column fault (rw (type_is, fields) (inr (v, said, subst (λ (k : ℕ). IsFirstFault reads (k + 1) (drop k types) (fields_left after) column fault) long h)));
      fits = λ vs h.
          subst (λ (all : List Value). RowFits types all) (sym (ap (λ (x : List Value). x ++ vs) next_is ∙ append_assoc row (v ∷ []) vs))
          (so_far.fits (v ∷ vs) (rw type_is (fit, subst (λ (k : ℕ). RowFits (drop k types) vs) long h)));
    }

-- the next field is refused
pub refused : (reads : ReadsStates) (types : List Ty) (line : List ℕ) (row : List Value) (text : Bor (List ℕ)) (field : List ℕ) (after : Option (Bor (List ℕ))) (at : ℕ) (ty : Ty) (fault : FieldFault)
    → IsReadSoFar reads types line row (Some text)
    → MatchOption after (fields_of text.now ≡ field ∷ []) (λ a. fields_of text.now ≡ field ∷ fields_of a.now)
    → at ≡ length row → ty ≡ get_or types at ty → IsFieldAnswer reads (ty_of ty) field (Err fault) → IsFirstFault reads 1 types (fields_of line) (length row + 1) fault
refused reads types line row text field after at ty fault so_far cut at_is ty_is said =
    let fields = fields-next text.now field after cut in
    let count : length row + (length (fields_left after) + 1) ≡ length types = omega (arith, so_far.count, ap length fields) in
    let type_is = next-type types (length row) at ty (omega (arith, count)) at_is ty_is in
    so_far.fault (length row + 1) fault (rw (type_is, fields) (inl (refl, said)))

drop-none : {X : Type 0} (xs : List X) (n : ℕ) → length xs ≡ n → drop n xs ≡ []
drop-none [] zero e = refl
drop-none [] (suc n) e = refl
drop-none (x ∷ xs) zero e = absurd (omega arith)
drop-none (x ∷ xs) (suc n) e = drop-none xs n (omega arith)

-- all fields are read
pub whole : (reads : ReadsStates) (types : List Ty) (line : List ℕ) (row : List Value) → IsReadSoFar reads types line row None → AreValues reads types (fields_of line) row
whole reads types line row so_far =
    let all_read = drop-none types (length row) (omega (arith, so_far.count)) in
    subst (AreValues reads types (fields_of line)) (append-nil row) (so_far.values [] (rw all_read tt))

pub whole-fits : (reads : ReadsStates) (types : List Ty) (line : List ℕ) (row : List Value) → IsReadSoFar reads types line row None → RowFits types row
whole-fits reads types line row so_far =
    let all_read = drop-none types (length row) (omega (arith, so_far.count)) in
    subst (RowFits types) (append-nil row) (so_far.fits [] (rw all_read tt))
