-- Rows that are pushed line by line.
use Rattle.std.proofs.Common.{◌≡◌, ℕ, List, [], ◌∷◌, ◌++◌, Ok, Err, length, refl, sym, ap, ◌∙◌, arith, subst, append_assoc}
use Rattle.std.proofs.lemmas.List.{append-nil}
use Rattle.value_types.specs.declared.ty.Ty.{Ty}
use Rattle.value_types.specs.declared.value.Value.{Value}
use Rattle.tsv_text.specs.Lines.{lines_of}
use Rattle.columns.specs.Rows.{Rows, with_row, with_rows}
use Rattle.scalar_texts.specs.States.{ReadsStates}
use Rattle.row_texts.specs.Rows.{AreRows, IsRowAnswer}
use Rattle.row_texts.specs.declared.refusal.LineRefusal.{LineRefusal}
use Rattle.line_reader.proofs.Lines.{lines_of-nil}
use Rattle.batch_reader.specs.proving.Pushing.{StopsBefore}

pub rows-append : (reads : ReadsStates) (types : List Ty) (lines more : List (List ℕ)) (rows others : List (List Value))
    → AreRows reads types lines rows → AreRows reads types more others → AreRows reads types (lines ++ more) (rows ++ others)
rows-append reads types [] more [] others a b = b
rows-append reads types (line ∷ lines) more (row ∷ rows) others a b = (a.0, rows-append reads types lines more rows others a.1 b)
rows-append reads types [] more (row ∷ rows) others a b = absurd a
rows-append reads types (line ∷ lines) more [] others a b = absurd a

-- the rows of the lines so far
pub record IsPushed (reads : ReadsStates) (first now : Rows) (text left : List ℕ) : Type 0 where
  pub before : List (List ℕ)
  pub split : lines_of text ≡ before ++ lines_of left
  pub rows : List (List Value)
  pub read : AreRows reads first.types before rows
  pub pushed : now ≡ with_rows first rows

pub start : (reads : ReadsStates) (first : Rows) (text : List ℕ) → IsPushed reads first first text text
start reads first text = record {
  before = [];
  split = refl;
  rows = [];
  read = tt;
  pushed = λ i. record { types = first.types; rows = sym (append-nil first.rows) i };
}

pub one-more : (reads : ReadsStates) (first now next : Rows) (text left line rest : List ℕ) (row : List Value) → IsPushed reads first now text left
    → lines_of left ≡ line ∷ lines_of rest → IsRowAnswer reads now.types line (Ok row) → next ≡ with_row now row → IsPushed reads first next text rest
one-more reads first now next text left line rest row so_far cut said next_is =
    let types_are : now.types ≡ first.types = ap (λ (b : Rows). b.types) so_far.pushed in
    record {
      before = so_far.before ++ line ∷ [];
      split = so_far.split ∙ ap (λ (xs : List (List ℕ)). so_far.before ++ xs) cut ∙ sym (append_assoc so_far.before (line ∷ []) (lines_of rest));
      rows = so_far.rows ++ row ∷ [];
      read = rows-append reads first.types so_far.before (line ∷ []) so_far.rows (row ∷ []) so_far.read (subst (λ (ts : List Ty). IsRowAnswer reads ts line (Ok row)) types_are said, tt);
      pushed = next_is ∙ ap (λ (b : Rows). with_row b row) so_far.pushed ∙ (λ i. record { types = first.types; rows = append_assoc first.rows so_far.rows (row ∷ []) i });
    }

nil-of : (xs : List ℕ) → length xs ≡ 0 → xs ≡ []
nil-of [] e = refl
nil-of (x ∷ xs) e = absurd (omega arith)

pub all-pushed : (reads : ReadsStates) (first now : Rows) (text left : List ℕ) → IsPushed reads first now text left → length left ≡ 0
    → (rows : List (List Value)) × AreRows reads first.types (lines_of text) rows × (now ≡ with_rows first rows)
all-pushed reads first now text left so_far empty =
    let none : left ≡ [] = nil-of left empty in
    let whole : lines_of text ≡ so_far.before = so_far.split ∙ ap (λ (xs : List ℕ). so_far.before ++ lines_of xs) none ∙ ap (λ (xs : List (List ℕ)). so_far.before ++ xs) lines_of-nil ∙ append-nil so_far.before in
    (so_far.rows, subst (λ (xs : List (List ℕ)). AreRows reads first.types xs so_far.rows) (sym whole) so_far.read, so_far.pushed)

pub stopped : (reads : ReadsStates) (first now after : Rows) (text left line rest : List ℕ) (refusal : LineRefusal) → IsPushed reads first now text left
    → lines_of left ≡ line ∷ lines_of rest → (after ≡ now) × IsRowAnswer reads now.types line (Err refusal) → StopsBefore reads first after (lines_of text) refusal
stopped reads first now after text left line rest refusal so_far cut said =
    let types_are : now.types ≡ first.types = ap (λ (b : Rows). b.types) so_far.pushed in
    record {
      before = so_far.before;
      line = line;
      behind = lines_of rest;
      split = so_far.split ∙ ap (λ (xs : List (List ℕ)). so_far.before ++ xs) cut;
      rows = so_far.rows;
      read = so_far.read;
      pushed = said.0 ∙ so_far.pushed;
      refused = subst (λ (ts : List Ty). IsRowAnswer reads ts line (Err refusal)) types_are said.1;
    }
