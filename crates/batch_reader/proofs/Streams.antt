-- Rows that come batch by batch.
use Rattle.std.proofs.Common.{◌≡◌, ℕ, ◌+◌, Bool, List, [], ◌∷◌, ◌++◌, Option, Result, Ok, Err, length, map, refl, ap, ◌∙◌, arith, subst, length-append}
use Rattle.value_types.specs.declared.ty.Ty.{Ty}
use Rattle.value_types.specs.declared.value.Value.{Value}
use Rattle.tsv_text.specs.Lines.{lines_of}
use Rattle.columns.specs.Rows.{Rows, no_rows}
use Rattle.scalar_texts.specs.States.{ReadsStates}
use Rattle.row_texts.specs.declared.refusal.LineRefusal.{LineRefusal}
use Rattle.row_texts.specs.declared.refusal.LineRefusal.TheVariants as line
use Rattle.line_reader.specs.Ahead.{Ahead}
use Rattle.line_reader.specs.Answers.{ReadsBlock}
use Rattle.line_reader.specs.declared.stop.Stop.{Stop}
use Rattle.line_reader.specs.declared.stop.Stop.TheVariants as stop
use Rattle.batch_reader.specs.proving.Faults.{fault_of}
use Rattle.batch_reader.specs.proving.Pushing.{PushesBlock, PushesLines}
use Rattle.batch_reader.specs.Reading.{RowCause}
use Rattle.batch_reader.specs.Streaming.{Coming, HasRead, LeadsTo, ReadsMore}
use Rattle.batch_reader.specs.proving.Streaming.{KeepsBehind, stop_answer}
use Rattle.batch_reader.specs.proving.Keeping.{KeepsLines}
use Rattle.quick_rows.specs.Keeping.{kept, kept_rows}
use Rattle.std.specs.Prelude.{OnOk}
use Rattle.batch_reader.specs.declared.fault.RowFault.{RowFault}
use Rattle.batch_reader.specs.declared.fault.RowFault.TheVariants as fault
use Rattle.batch_reader.proofs.Blocks.{Exit, IsReadTo, block-done, block-refused, no-memory, read-refused, read-start, stop-answer, text-pushed}

abbrev pub rows_with : List Ty → List (List Value) → Rows
rows_with types rows = record { types = types; rows = rows }

-- what was pushed onto an empty batch, behind rows
pub pushed-behind : (reads : ReadsStates) (types : List Ty) (rows : List (List Value)) (lines : List (List ℕ)) (after : Rows) (pushed : Result (Unit {0}) LineRefusal)
    → PushesLines reads (no_rows types) lines after pushed → PushesLines reads (rows_with types rows) lines (rows_with types (rows ++ after.rows)) pushed
pushed-behind reads types rows lines after (Ok done) h = (h.0, h.1, ap (λ (b : Rows). rows_with types (rows ++ b.rows)) h.2)
pushed-behind reads types rows lines after (Err refusal) h = record {
  before = h.before;
  line = h.line;
  behind = h.behind;
  split = h.split;
  rows = h.rows;
  read = h.read;
  pushed = ap (λ (b : Rows). rows_with types (rows ++ b.rows)) h.pushed;
  refused = h.refused;
}

pub pushed-types : (reads : ReadsStates) (types : List Ty) (lines : List (List ℕ)) (after : Rows) (pushed : Result (Unit {0}) LineRefusal) → PushesLines reads (no_rows types) lines after pushed → after.types ≡ types
pushed-types reads types lines after (Ok done) h = ap (λ (b : Rows). b.types) h.2
pushed-types reads types lines after (Err refusal) h = ap (λ (b : Rows). b.types) h.pushed

pub refusal-quiet : (before now number : ℕ) (refusal : LineRefusal) → RowCause {A = Bool} before now (Err (fault_of number refusal))
refusal-quiet before now number (line.FieldCount want have) = tt
refusal-quiet before now number (line.Field column f) = tt
refusal-quiet before now number line.OutOfMemory = tt

-- what was pushed, as rows of the types
whole-of : (reads : ReadsStates) (types : List Ty) (lines : List (List ℕ)) (all : Rows) (pushed : Result (Unit {0}) LineRefusal) → PushesLines reads (no_rows types) lines all pushed → all ≡ rows_with types all.rows
whole-of reads types lines all pushed h = λ i. record { types = pushed-types reads types lines all pushed h i; rows = all.rows }

count-kept : (keep : List Bool) (rows : List (List Value)) → length (map (kept keep) rows) ≡ length rows
count-kept keep [] = refl
count-kept keep (row ∷ rows) = omega (arith, count-kept keep rows)

pub kept-count : (keep : List Bool) (all after : Rows) → after ≡ kept_rows keep all → length after.rows ≡ length all.rows
kept-count keep all after stands = ap (λ (b : Rows). length b.rows) stands ∙ count-kept keep all.rows

pub behind-done : (reads : ReadsStates) (types : List Ty) (keep : List Bool) (lines : List (List ℕ)) (after : Rows) (next number : ℕ) → KeepsLines reads types keep lines after (Ok tt) → number ≡ next + length after.rows
    → KeepsBehind reads types keep next lines after (Ok number)
behind-done reads types keep lines after next number h number_is =
    let all = h.all in
    record {
      more = all.rows;
      stands = h.stands ∙ ap (kept_rows keep) (whole-of reads types lines all (Ok tt) h.pushes);
      leads = λ rows next_is.
          block-done reads (rows_with types rows) (rows_with types (rows ++ all.rows)) lines number (pushed-behind reads types rows lines all (Ok tt) h.pushes)
          (omega (arith, number_is, next_is, kept-count keep all after h.stands, length-append rows all.rows));
    }

pub behind-refused : (reads : ReadsStates) (types : List Ty) (keep : List Bool) (lines : List (List ℕ)) (after : Rows) (next number : ℕ) (refusal : LineRefusal) → KeepsLines reads types keep lines after (Err refusal)
    → number ≡ next + length after.rows → KeepsBehind reads types keep next lines after (Err (fault_of number refusal))
behind-refused reads types keep lines after next number refusal h number_is =
    let all = h.all in
    record {
      more = all.rows;
      stands = tt;
      leads = λ rows next_is.
          block-refused reads (rows_with types rows) (rows_with types (rows ++ all.rows)) lines number refusal
          (text-pushed reads (rows_with types rows) (rows_with types (rows ++ all.rows)) lines (Err refusal) (pushed-behind reads types rows lines all (Err refusal) h.pushes))
          (omega (arith, number_is, next_is, kept-count keep all after h.stands, length-append rows all.rows));
    }

pub behind-none : (reads : ReadsStates) (types : List Ty) (keep : List Bool) (lines : List (List ℕ)) (after : Rows) (next : ℕ) → KeepsBehind reads types keep next lines after (Err fault.OutOfMemory)
behind-none reads types keep lines after next = record { more = []; stands = tt; leads = λ rows next_is. tt }

pub ruleset behind_laws = (behind-done, behind-refused, behind-none, refusal-quiet)

-- nothing was read yet
pub none-read : (reads : ReadsStates) (types : List Ty) (left : Option (List ℕ)) (first : Ahead) → HasRead reads types left left first first []
none-read reads types left first =
    let start = read-start reads types left first (no_rows types) refl in
    record {
      front = start.front;
      taken = start.taken;
      moved = start.moved;
      consumed = start.consumed;
      whole = start.whole;
      short = start.short;
      most_line = start.most_line;
      room = start.room;
      read = start.read;
    }

pub ruleset start_laws = (none-read)

to-rows : (reads : ReadsStates) (types : List Ty) (start now : Option (List ℕ)) (first ahead : Ahead) (rows : List (List Value)) → HasRead reads types start now first ahead rows
    → IsReadTo reads types start now first ahead (rows_with types rows) stop.More
to-rows reads types start now first ahead rows h = record {
  front = h.front;
  taken = h.taken;
  moved = h.moved;
  consumed = h.consumed;
  whole = h.whole;
  short = h.short;
  most_line = h.most_line;
  room = h.room;
  types_are = refl;
  read = h.read;
}

leads-on : (reads : ReadsStates) (types : List Ty) (start now : Option (List ℕ)) (first ahead : Ahead) (rows : List (List Value)) (number : ℕ) (stops : Stop)
    → Exit reads types start now first ahead (rows_with types rows) number stops → LeadsTo reads types start now first ahead rows (stop_answer number stops)
leads-on reads types start now first ahead rows number stop.More h = record {
  front = h.front;
  taken = h.taken;
  moved = h.moved;
  consumed = h.consumed;
  whole = h.whole;
  short = h.short;
  most_line = h.most_line;
  room = h.room;
  read = h.read;
}
leads-on reads types start now first ahead rows number stop.End h = h
leads-on reads types start now first ahead rows number stop.Read h = h
leads-on reads types start now first ahead rows number stop.TooLong h = h
leads-on reads types start now first ahead rows number stop.TooLarge h = h

kept-answer : (before : Coming) (batch : Rows) (more : List (List Value)) (number : ℕ) (stops : Stop) → batch ≡ kept_rows before.keep (rows_with before.types more)
    → OnOk (stop_answer number stops) (batch ≡ kept_rows before.keep (rows_with before.types more))
kept-answer before batch more number stop.More h = h
kept-answer before batch more number stop.End h = h
kept-answer before batch more number stop.Read h = tt
kept-answer before batch more number stop.TooLong h = tt
kept-answer before batch more number stop.TooLarge h = tt

-- what each batch is, behind whatever was read before
pub stream-on : (reads : ReadsStates) (left now : Option (List ℕ)) (before after : Coming) (types : List Ty) (keep : List Bool) (block text : List ℕ) (batch : Rows) (number : ℕ) (stops : Stop)
    → ReadsBlock left now before.ahead after.ahead block stops → text ≡ block → types ≡ before.types → keep ≡ before.keep → KeepsBehind reads types keep before.next (lines_of text) batch (Ok number)
    → ReadsMore reads left now before after batch (stop_answer number stops)
stream-on reads left now before after types keep block text batch number stops one text_is types_is keep_is pushed = record {
  more = pushed.more;
  stands = kept-answer before batch pushed.more number stops (pushed.stands ∙ (λ i. kept_rows (keep_is i) (rows_with (types_is i) pushed.more)));
  leads = λ start first rows next_is so_far.
      leads-on reads before.types start now first after.ahead (rows ++ pushed.more) number stops
      (stop-answer reads before.types start left now first before.ahead after.ahead (rows_with before.types rows) (rows_with before.types (rows ++ pushed.more)) block text number stops stops
      (to-rows reads before.types start left first before.ahead rows so_far) one text_is
      (subst (λ (ts : List Ty). PushesBlock reads (rows_with ts rows) (lines_of text) (rows_with ts (rows ++ pushed.more)) (Ok number)) types_is (pushed.leads rows next_is)) refl);
}

pub stream-refused : (reads : ReadsStates) (left now : Option (List ℕ)) (before after : Coming) (types : List Ty) (keep : List Bool) (block text : List ℕ) (batch : Rows) (stops : Stop) (f : RowFault)
    → ReadsBlock left now before.ahead after.ahead block stops → text ≡ block → types ≡ before.types → KeepsBehind reads types keep before.next (lines_of text) batch (Err f)
    → ReadsMore reads left now before after batch (Err f)
stream-refused reads left now before after types keep block text batch stops f one text_is types_is pushed = record {
  more = pushed.more;
  stands = tt;
  leads = λ start first rows next_is so_far.
      read-refused reads before.types start left now now first before.ahead after.ahead (rows_with before.types rows) (rows_with before.types (rows ++ pushed.more)) block stops
      (to-rows reads before.types start left first before.ahead rows so_far) one f
      (subst (λ (t : List ℕ). PushesBlock reads (rows_with before.types rows) (lines_of t) (rows_with before.types (rows ++ pushed.more)) (Err f)) text_is
      (subst (λ (ts : List Ty). PushesBlock reads (rows_with ts rows) (lines_of text) (rows_with ts (rows ++ pushed.more)) (Err f)) types_is (pushed.leads rows next_is)));
}

pub stream-cut : (reads : ReadsStates) (left now : Option (List ℕ)) (before after : Coming) (batch : Rows) → ReadsMore reads left now before after batch (Err fault.OutOfMemory)
stream-cut reads left now before after batch = record { more = []; stands = tt; leads = λ start first rows next_is so_far. no-memory reads before.types start now first }

pub ruleset stream_laws = (stream-cut)
