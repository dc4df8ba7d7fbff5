-- What the rows come to, told from the front of the input on.
use Rattle.std.proofs.Common.{◌≡◌, ℕ, suc, ◌+◌, ◌-◌, List, [], ◌∷◌, length, Option, Some, None, Result, Ok, Err, refl, sym, ap, subst, ◌∙◌, arith, IfSome}
use Rattle.agg_terms.specs.Lists.{Each}
use Rattle.batch_reader.specs.Reading.{AreRowsUpTo, IsBatchAnswer, IsFront, IsTakenOpen, ReadsRows, RefusesAt, schema_types}
use Rattle.batch_reader.specs.declared.fault.RowFault.{RowFault}
use Rattle.batch_reader.specs.declared.fault.RowFault.TheVariants as fault
use Rattle.columns.specs.Rows.{Rows}
use Rattle.line_reader.specs.Ahead.{Ahead, new_ahead}
use Rattle.line_reader.specs.Limits.{AreShort, IsTooLarge, IsTooLong}
use Rattle.row_texts.specs.Rows.{AreRows, AreValues}
use Rattle.row_texts.specs.declared.refusal.LineRefusal.{LineRefusal}
use Rattle.row_texts.specs.declared.refusal.LineRefusal.TheVariants as line
use Rattle.scalar_texts.specs.States.{ReadsStates}
use Rattle.tsv_text.specs.Lines.{fields_of, lines_of}
use Rattle.value_types.specs.declared.ty.Ty.{Ty}
use Rattle.value_types.specs.declared.value.Value.{Value}
use Rattle.request_text.specs.declared.query.Query.{Query}
use Rattle.state_codec.specs.Codec.{state_reading}
use Rattle.query_run.specs.Outcome.{AtLine, IsQueryOutcome, IsTableThen, judged_rows, most_input, most_line, status_of}
use Rattle.query_run.specs.Runs.{IsQueryRun, Tells}
use Rattle.query_run.specs.proving.Answering.{AnswersRows}
use Rattle.query_run.specs.proving.Heads.{HasHead}
use Rattle.query_run.proofs.Inputs.{one-input, some-input}
use Rattle.query_run.proofs.Requests.{outcome-of}

module _ (reads : ReadsStates) (types : List Ty) (a b : Ahead) (most : a.most_line ≡ b.most_line) (room : a.room ≡ b.room) where
  same-front : (input front rest : List ℕ) → IsFront a input front rest → IsFront b input front rest
  same-front input front rest h = record {
    split = h.split;
    whole = h.whole;
    short = subst (λ m. AreShort m (lines_of front)) most h.short;
    within = omega (arith, room, h.within);
  }

  same-refused : (input : List ℕ) (row : ℕ) (refusal : LineRefusal) → RefusesAt reads types a input row refusal → RefusesAt reads types b input row refusal
  same-refused input row refusal h = record { front = h.front; rest = h.rest; is_front = same-front input h.front h.rest h.is_front; refused = h.refused }

  same-rows : (input : List ℕ) (P Q : ℕ → List (List Value) → List ℕ → Type 0) → ((rows : List (List Value)) (front rest : List ℕ) → P (a.room - length front) rows rest → Q (b.room - length front) rows rest)
      → AreRowsUpTo reads types a input P → AreRowsUpTo reads types b input Q
  same-rows input P Q f h = record {
    front = h.front;
    rest = h.rest;
    is_front = same-front input h.front h.rest h.is_front;
    rows = h.rows;
    read = h.read;
    holds = f h.rows h.front h.rest h.holds;
  }

  -- only the limits of a reader are asked
  pub same-ahead : (now : Option (List ℕ)) (input : List ℕ) (answer : Result Rows RowFault) → IsBatchAnswer reads types now a input answer → IsBatchAnswer reads types now b input answer
  same-ahead now input (Ok batch) h = (h.0, h.1, same-front input input [] h.2, h.3)
  same-ahead now input (Err (fault.Row row column f)) h = same-refused input row (line.Field column f) h
  same-ahead now input (Err (fault.FieldCount row want have)) h = same-refused input row (line.FieldCount want have) h
  same-ahead now input (Err (fault.TooLong row)) h =
      same-rows input (λ r rows rest. (row ≡ length rows + 1) × IsTooLong a.most_line r rest) (λ r rows rest. (row ≡ length rows + 1) × IsTooLong b.most_line r rest)
      (λ rows front rest g. (g.0, subst (λ m. IsTooLong m (b.room - length front) rest) most (subst (λ r. IsTooLong a.most_line (r - length front) rest) room g.1))) h
  same-ahead now input (Err fault.TooLarge) h =
      same-rows input (λ r rows rest. IsTooLarge a.most_line r rest) (λ r rows rest. IsTooLarge b.most_line r rest)
      (λ rows front rest g. subst (λ m. IsTooLarge m (b.room - length front) rest) most (subst (λ r. IsTooLarge a.most_line (r - length front) rest) room g)) h
  same-ahead now input (Err fault.Read) h =
      same-rows input (λ r rows rest. IsTakenOpen now a.most_line r rest) (λ r rows rest. IsTakenOpen now b.most_line r rest)
      (λ rows front rest g. subst (λ m. IsTakenOpen now m (b.room - length front) rest) most (subst (λ r. IsTakenOpen now a.most_line (r - length front) rest) room g)) h
  same-ahead now input (Err fault.OutOfMemory) h = tt

if-some : (o : Option (List ℕ)) (P Q : List ℕ → Type 0) → ((x : List ℕ) → P x → Q x) → IfSome o P → IfSome o Q
if-some None P Q f h = tt
if-some (Some x) P Q f h = f x h

module _ {A : Type 0} (left : A → Option (List ℕ)) (old mid new : A) (ahead : Ahead) (query : Query) (most : ahead.most_line ≡ most_line) (head : Tells left → HasHead left old mid ahead query) where
  -- behind the head all comes to what the rows come to
  comes-to : Tells left → (rows : Result Rows RowFault) → ReadsRows state_reading (schema_types query.schema) (left mid) (left new) ahead rows
      → IfSome (left old) (λ input. AtLine (left new) (judged_rows query rows) most_input input (IsTableThen (left new) (judged_rows query rows)))
  comes-to tells rows h =
      let first = head tells in
      if-some (left old) _ _ (λ input go. go (left new) rows
      (same-ahead state_reading (schema_types query.schema) ahead (new_ahead most_line ahead.room) most refl (left new) first.rest rows
      (subst (λ i. IsBatchAnswer state_reading (schema_types query.schema) (left new) ahead i rows) (one-input (left mid) ahead h.input first.rest (tells mid).0 (tells mid).1 h.from first.to) h.reading))) first.comes

  pub rows-answered : (text : List ℕ) → AnswersRows query (left mid) (left new) ahead text → IsQueryRun left old new (Ok text)
  rows-answered text h tells =
      if-some (left old) _ (λ input. IsQueryOutcome (left new) input (Ok text))
      (λ input go. subst (λ t. AtLine (left new) (Ok t) most_input input (IsTableThen (left new) (Ok t))) (sym h.is) go) (comes-to tells (Ok h.rows) h.reads)

  pub rows-refused : (f : RowFault) → ReadsRows state_reading (schema_types query.schema) (left mid) (left new) ahead (Err f) → IsQueryRun left old new (Err (status_of f))
  rows-refused f h tells =
      if-some (left old) _ (λ input. IsQueryOutcome (left new) input (Err (status_of f))) (λ input go. outcome-of (left new) input (status_of f) (λ told. go)) (comes-to tells (Err f) h)

-- want of memory says nothing
pub no-memory : (reads : ReadsStates) (types : List Ty) (left now : Option (List ℕ)) (ahead : Ahead) → ReadsRows reads types left now ahead (Err fault.OutOfMemory)
no-memory reads types left now ahead = let all = some-input left ahead in record { input = all.0; from = all.1; reading = tt }

pub ruleset memory_laws = (no-memory)

-- Rows are as long as their types.

values-long : (reads : ReadsStates) (ts : List Ty) (fs : List (List ℕ)) (vs : List Value) → AreValues reads ts fs vs → length vs ≡ length ts
values-long reads [] [] [] h = refl
values-long reads (t ∷ ts) (f ∷ fs) (v ∷ vs) h = ap suc (values-long reads ts fs vs h.1)
values-long reads [] [] (v ∷ vs) h = absurd h
values-long reads [] (f ∷ fs) vs h = absurd h
values-long reads (t ∷ ts) [] vs h = absurd h
values-long reads (t ∷ ts) (f ∷ fs) [] h = absurd h

pub rows-long : (reads : ReadsStates) (types : List Ty) (n : ℕ) (lines : List (List ℕ)) (rows : List (List Value)) → length types ≡ n → AreRows reads types lines rows → Each (λ (row : List Value). length row ≡ n) rows
rows-long reads types n [] [] e h = tt
rows-long reads types n (l ∷ lines) (r ∷ rows) e h = (values-long reads types (fields_of l) r h.0 ∙ e, rows-long reads types n lines rows e h.1)
rows-long reads types n [] (r ∷ rows) e h = absurd h
rows-long reads types n (l ∷ lines) [] e h = absurd h
