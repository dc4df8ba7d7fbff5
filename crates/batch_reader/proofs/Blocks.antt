-- The rows of an input that is read block by block.
use Rattle.std.proofs.Common.{◌≡◌, ℕ, ◌+◌, ◌-◌, true, List, [], ◌∷◌, ◌++◌, Option, None, Some, Result, Ok, Err, length, refl, sym, ap, ◌∙◌, arith, subst, append_assoc, length-append}
use mathlib.Core.Logic.{◌⊎◌, inl, inr}
use Rattle.std.proofs.lemmas.List.{append-nil}
use Rattle.std.specs.Io.KnownBytes.{Consumes, IsAtEnd}
use Rattle.value_types.specs.declared.ty.Ty.{Ty}
use Rattle.value_types.specs.declared.value.Value.{Value}
use Rattle.tsv_text.specs.Lines.{lines_of}
use Rattle.columns.specs.Rows.{Rows, no_rows, with_rows}
use Rattle.scalar_texts.specs.States.{ReadsStates}
use Rattle.row_texts.specs.Rows.{AreRows, IsRowAnswer}
use Rattle.row_texts.specs.declared.refusal.LineRefusal.{LineRefusal}
use Rattle.row_texts.specs.declared.refusal.LineRefusal.TheVariants as line
use Rattle.line_reader.specs.Ahead.{Ahead, IsInput}
use Rattle.line_reader.specs.Answers.{IsWhole, ReadsBlock, StopsAt}
use Rattle.line_reader.specs.Filling.{FillCause}
use Rattle.line_reader.specs.declared.stop.Stop.{Stop}
use Rattle.line_reader.specs.declared.stop.Stop.TheVariants as stop
use Rattle.line_reader.specs.Limits.{ends_line, AreShort, IsBegun, IsTooLong, IsTooLarge}
use Rattle.line_reader.proofs.Filled.{consumes-none, consumes-more}
use Rattle.line_reader.proofs.Handed.{input-before, told_of, told-is}
use Rattle.line_reader.proofs.Lines.{lines_of-append, lines_of-nil, ends_line-append, short-append}
use Rattle.batch_reader.specs.proving.Faults.{fault_of}
use Rattle.batch_reader.specs.proving.Pushing.{PushesBlock, PushesLines, PushesText, RefusesBehind, StopsBefore}
use Rattle.batch_reader.specs.Reading.{AreRowsUpTo, IsFront, IsBatchAnswer, IsTakenOpen, ReadsRows, RefusesAt, RowCause, ends_as}
use Rattle.batch_reader.specs.declared.fault.RowFault.{RowFault}
use Rattle.batch_reader.specs.declared.fault.RowFault.TheVariants as fault
use Rattle.batch_reader.proofs.Pushed.{rows-append}

-- lines that are pushed one by one
pub text-pushed : (reads : ReadsStates) (batch after : Rows) (lines : List (List ℕ)) (pushed : Result (Unit {0}) LineRefusal) → PushesLines reads batch lines after pushed → PushesText reads batch lines after pushed
text-pushed reads batch after lines (Ok done) h = h
text-pushed reads batch after lines (Err (line.FieldCount want have)) h = h
text-pushed reads batch after lines (Err (line.Field column f)) h = h
text-pushed reads batch after lines (Err line.OutOfMemory) h = tt

-- and in pieces whose lines are those of the text
pub text-of-pieces : (reads : ReadsStates) (batch after : Rows) (pieces lines : List (List ℕ)) (pushed : Result (Unit {0}) LineRefusal) → PushesText reads batch pieces after pushed → pieces ≡ lines → PushesText reads batch lines after pushed
text-of-pieces reads batch after pieces lines pushed h is = subst (λ (l : List (List ℕ)). PushesText reads batch l after pushed) is h

pub ruleset text_laws = (text-pushed, text-of-pieces)

-- all lines of a block are rows
pub block-done : (reads : ReadsStates) (batch after : Rows) (lines : List (List ℕ)) (next : ℕ) → PushesText reads batch lines after (Ok tt) → next ≡ length after.rows + 1
    → PushesBlock reads batch lines after (Ok next)
block-done reads batch after lines next pushed next_is = (pushed.0, pushed.1, pushed.2, next_is)

count-rows : (reads : ReadsStates) (types : List Ty) (lines : List (List ℕ)) (rows : List (List Value)) → AreRows reads types lines rows → length rows ≡ length lines
count-rows reads types [] [] h = refl
count-rows reads types (l ∷ ls) (r ∷ rs) h = omega (arith, count-rows reads types ls rs h.1)
count-rows reads types [] (r ∷ rs) h = absurd h
count-rows reads types (l ∷ ls) [] h = absurd h

behind-of : (reads : ReadsStates) (batch after : Rows) (lines : List (List ℕ)) (next : ℕ) (refusal : LineRefusal) → StopsBefore reads batch after lines refusal → next ≡ length after.rows + 1
    → RefusesBehind reads batch lines next refusal
behind-of reads batch after lines next refusal stops next_is = record {
  before = stops.before;
  line = stops.line;
  behind = stops.behind;
  split = stops.split;
  rows = stops.rows;
  read = stops.read;
  place = omega (arith, next_is, ap (λ (b : Rows). length b.rows) stops.pushed, length-append batch.rows stops.rows);
  refused = stops.refused;
}

-- a line of a block is refused
pub block-refused : (reads : ReadsStates) (batch after : Rows) (lines : List (List ℕ)) (next : ℕ) (refusal : LineRefusal) → PushesText reads batch lines after (Err refusal) → next ≡ length after.rows + 1
    → PushesBlock reads batch lines after (Err (fault_of next refusal))
block-refused reads batch after lines next (line.FieldCount want have) stops next_is = behind-of reads batch after lines next (line.FieldCount want have) stops next_is
block-refused reads batch after lines next (line.Field column f) stops next_is = behind-of reads batch after lines next (line.Field column f) stops next_is
block-refused reads batch after lines next line.OutOfMemory stops next_is = tt

pub ruleset block_laws = (block-done, block-refused)

-- Want of memory says nothing of the input.
pub no-memory : (reads : ReadsStates) (types : List Ty) (left now : Option (List ℕ)) (ahead : Ahead) → ReadsRows reads types left now ahead (Err fault.OutOfMemory)
no-memory reads types left now ahead = record { input = ahead.held ++ told_of left; from = (told_of left, refl, told-is left); reading = tt }

pub ruleset read_laws = (no-memory)

-- What was read of the input, all of it rows of the batch: bytes that end a line, but for the last ones of the input.
pub record IsReadTo (reads : ReadsStates) (types : List Ty) (left now : Option (List ℕ)) (first ahead : Ahead) (batch : Rows) (stops : Stop) : Type 0 where
  pub front : List ℕ
  pub taken : List ℕ
  pub moved : first.held ++ taken ≡ front ++ ahead.held
  pub consumed : Consumes left now taken
  pub whole : IsWhole front stops
  pub short : AreShort first.most_line (lines_of front)
  pub most_line : ahead.most_line ≡ first.most_line
  pub room : ahead.room + length front ≡ first.room
  pub types_are : batch.types ≡ types
  pub read : AreRows reads types (lines_of front) batch.rows

pub read-start : (reads : ReadsStates) (types : List Ty) (left : Option (List ℕ)) (first : Ahead) (batch : Rows) → batch ≡ no_rows types → IsReadTo reads types left left first first batch stop.More
read-start reads types left first batch none = record {
  front = [];
  taken = [];
  moved = append-nil first.held;
  consumed = consumes-none left;
  whole = refl;
  short = subst (AreShort first.most_line) (sym lines_of-nil) tt;
  most_line = refl;
  room = omega arith;
  types_are = ap (λ (b : Rows). b.types) none;
  read = subst (λ (b : Rows). AreRows reads types (lines_of []) b.rows) (sym none) (subst (λ (ls : List (List ℕ)). AreRows reads types ls []) (sym lines_of-nil) tt);
}

whole-more : (front block : List ℕ) (stops : Stop) → ends_line front ≡ true → IsWhole block stops → IsWhole (front ++ block) stops
whole-more front block stop.More a b = ends_line-append front block a b
whole-more front block stop.End a b = tt
whole-more front block stop.Read a b = ends_line-append front block a b
whole-more front block stop.TooLong a b = ends_line-append front block a b
whole-more front block stop.TooLarge a b = ends_line-append front block a b

-- one block more
pub read-more : (reads : ReadsStates) (types : List Ty) (left mid now : Option (List ℕ)) (first ahead after : Ahead) (batch next : Rows) (block : List ℕ) (stops : Stop)
    → IsReadTo reads types left mid first ahead batch stop.More → ReadsBlock mid now ahead after block stops
    → (rows : List (List Value)) → AreRows reads batch.types (lines_of block) rows → next ≡ with_rows batch rows → IsReadTo reads types left now first after next stops
read-more reads types left mid now first ahead after batch next block stops so_far one rows read next_is =
    let lines = lines_of-append so_far.front block so_far.whole in
    record {
      front = so_far.front ++ block;
      taken = so_far.taken ++ one.taken;
      moved = sym (append_assoc first.held so_far.taken one.taken) ∙ ap (λ (xs : List ℕ). xs ++ one.taken) so_far.moved ∙ append_assoc so_far.front ahead.held one.taken
          ∙ ap (λ (xs : List ℕ). so_far.front ++ xs) one.moved ∙ sym (append_assoc so_far.front block after.held);
      consumed = consumes-more left mid now so_far.taken one.taken so_far.consumed one.consumed;
      whole = whole-more so_far.front block stops so_far.whole one.whole;
      short = subst (AreShort first.most_line) (sym lines) (short-append first.most_line (lines_of so_far.front) (lines_of block) so_far.short (subst (λ (m : ℕ). AreShort m (lines_of block)) so_far.most_line one.short));
      most_line = one.most_line ∙ so_far.most_line;
      room = omega (arith, so_far.room, one.room, length-append so_far.front block);
      types_are = ap (λ (b : Rows). b.types) next_is ∙ so_far.types_are;
      read = subst (λ (b : Rows). AreRows reads types (lines_of (so_far.front ++ block)) b.rows) (sym next_is)
          (subst (λ (ls : List (List ℕ)). AreRows reads types ls (batch.rows ++ rows)) (sym lines)
          (rows-append reads types (lines_of so_far.front) (lines_of block) batch.rows rows so_far.read (subst (λ (ts : List Ty). AreRows reads ts (lines_of block) rows) so_far.types_are read)));
    }

-- the front of the input that was read
front-read : (reads : ReadsStates) (types : List Ty) (left now : Option (List ℕ)) (first ahead : Ahead) (batch : Rows) (stops : Stop) (so_far : IsReadTo reads types left now first ahead batch stops)
    → (rest : List ℕ) → (ends_line so_far.front ≡ true) ⊎ (rest ≡ []) → IsFront first (so_far.front ++ rest) so_far.front rest
front-read reads types left now first ahead batch stops so_far rest whole = record { split = refl; whole = whole; short = so_far.short; within = omega (arith, so_far.room) }

-- what follows what was read
up-to : (reads : ReadsStates) (types : List Ty) (left now : Option (List ℕ)) (first ahead : Ahead) (batch : Rows) (stops : Stop) (so_far : IsReadTo reads types left now first ahead batch stops)
    → (rest : List ℕ) → ends_line so_far.front ≡ true → (Holds : ℕ → List (List Value) → List ℕ → Type 0) → Holds ahead.room batch.rows rest
    → AreRowsUpTo reads types first (so_far.front ++ rest) Holds
up-to reads types left now first ahead batch stops so_far rest whole Holds holds =
    let room_is : ahead.room ≡ first.room - length so_far.front = omega (arith, so_far.room) in
    record {
      front = so_far.front;
      rest = rest;
      is_front = front-read reads types left now first ahead batch stops so_far rest (inl whole);
      rows = batch.rows;
      read = so_far.read;
      holds = subst (λ (room : ℕ). Holds room batch.rows rest) room_is holds;
    }

input-read : (reads : ReadsStates) (types : List Ty) (left now : Option (List ℕ)) (first ahead : Ahead) (batch : Rows) (stops : Stop) (so_far : IsReadTo reads types left now first ahead batch stops)
    → (rest : List ℕ) → IsInput now ahead rest → IsInput left first (so_far.front ++ rest)
input-read reads types left now first ahead batch stops so_far rest to = input-before left now first ahead so_far.taken so_far.front rest so_far.moved so_far.consumed to

-- the end of the input
told-none : (now : Option (List ℕ)) (ahead : Ahead) (rest : List ℕ) → IsInput now ahead rest → rest ≡ [] → IsAtEnd now
told-none None ahead rest to none = tt
told-none (Some bytes) ahead rest to none = sym to.2 ∙ none-behind ahead.held to.0 (sym to.1 ∙ none)
  where
    none-behind : (xs ys : List ℕ) → xs ++ ys ≡ [] → ys ≡ []
    none-behind [] ys e = e
    none-behind (x ∷ xs) ys e = cc

pub read-end : (reads : ReadsStates) (types : List Ty) (left now : Option (List ℕ)) (first ahead : Ahead) (batch : Rows) → IsReadTo reads types left now first ahead batch stop.End
    → (rest : List ℕ) → IsInput now ahead rest → rest ≡ [] → ReadsRows reads types left now first (Ok batch)
read-end reads types left now first ahead batch so_far rest to none =
    let all : so_far.front ++ rest ≡ so_far.front = ap (λ (xs : List ℕ). so_far.front ++ xs) none ∙ append-nil so_far.front in
    let whole = front-read reads types left now first ahead batch stop.End so_far [] (inr refl) in
    record {
      input = so_far.front;
      from = subst (IsInput left first) all (input-read reads types left now first ahead batch stop.End so_far rest to);
      reading = (so_far.types_are, told-none now ahead rest to none, record { split = sym (append-nil so_far.front); whole = inr refl; short = so_far.short; within = omega (arith, so_far.room) }, so_far.read);
    }

-- a fault of reading, or a broken limit
pub read-fault : (reads : ReadsStates) (types : List Ty) (left now : Option (List ℕ)) (first ahead : Ahead) (batch : Rows) → IsReadTo reads types left now first ahead batch stop.Read
    → (block rest : List ℕ) → IsInput now ahead rest → StopsAt ahead block rest stop.Read → ReadsRows reads types left now first (Err fault.Read)
read-fault reads types left now first ahead batch so_far block rest to begun = record {
  input = so_far.front ++ rest;
  from = input-read reads types left now first ahead batch stop.Read so_far rest to;
  reading = up-to reads types left now first ahead batch stop.Read so_far rest so_far.whole (λ room rows after. IsTakenOpen now first.most_line room after)
      (record { held = ahead.held; behind = to.0; split = to.1; begun = subst (λ (m : ℕ). IsBegun m ahead.room ahead.held) so_far.most_line begun; told = to.2 });
}

pub read-long : (reads : ReadsStates) (types : List Ty) (left now : Option (List ℕ)) (first ahead : Ahead) (batch : Rows) → IsReadTo reads types left now first ahead batch stop.TooLong
    → (block rest : List ℕ) → IsInput now ahead rest → StopsAt ahead block rest stop.TooLong → (row : ℕ) → row ≡ length batch.rows + 1 → ReadsRows reads types left now first (Err (fault.TooLong row))
read-long reads types left now first ahead batch so_far block rest to long row row_is = record {
  input = so_far.front ++ rest;
  from = input-read reads types left now first ahead batch stop.TooLong so_far rest to;
  reading = up-to reads types left now first ahead batch stop.TooLong so_far rest so_far.whole (λ room rows after. (row ≡ length rows + 1) × IsTooLong first.most_line room after)
      (row_is, subst (λ (m : ℕ). IsTooLong m ahead.room rest) so_far.most_line long);
}

pub read-large : (reads : ReadsStates) (types : List Ty) (left now : Option (List ℕ)) (first ahead : Ahead) (batch : Rows) → IsReadTo reads types left now first ahead batch stop.TooLarge
    → (block rest : List ℕ) → IsInput now ahead rest → StopsAt ahead block rest stop.TooLarge → ReadsRows reads types left now first (Err fault.TooLarge)
read-large reads types left now first ahead batch so_far block rest to large = record {
  input = so_far.front ++ rest;
  from = input-read reads types left now first ahead batch stop.TooLarge so_far rest to;
  reading = up-to reads types left now first ahead batch stop.TooLarge so_far rest so_far.whole (λ room rows after. IsTooLarge first.most_line room after)
      (subst (λ (m : ℕ). IsTooLarge m ahead.room rest) so_far.most_line large);
}

-- a refused row
whole-or-end : (block rest : List ℕ) (ahead : Ahead) (stops : Stop) → IsWhole block stops → StopsAt ahead block rest stops → (front : List ℕ) → ends_line front ≡ true → (ends_line (front ++ block) ≡ true) ⊎ (rest ≡ [])
whole-or-end block rest ahead stop.More whole at front ends = inl (ends_line-append front block ends whole)
whole-or-end block rest ahead stop.End whole at front ends = inr at
whole-or-end block rest ahead stop.Read whole at front ends = inl (ends_line-append front block ends whole)
whole-or-end block rest ahead stop.TooLong whole at front ends = inl (ends_line-append front block ends whole)
whole-or-end block rest ahead stop.TooLarge whole at front ends = inl (ends_line-append front block ends whole)

refuses-at : (reads : ReadsStates) (types : List Ty) (left mid now : Option (List ℕ)) (first ahead after : Ahead) (batch : Rows) (block : List ℕ) (stops : Stop)
    → (so_far : IsReadTo reads types left mid first ahead batch stop.More) → (one : ReadsBlock mid now ahead after block stops)
    → (row : ℕ) (refusal : LineRefusal) → RefusesBehind reads batch (lines_of block) row refusal → RefusesAt reads types first ((so_far.front ++ block) ++ one.rest) row refusal
refuses-at reads types left mid now first ahead after batch block stops so_far one row refusal refuses =
    let lines = lines_of-append so_far.front block so_far.whole in
    let before_rows = subst (λ (ts : List Ty). AreRows reads ts refuses.before refuses.rows) so_far.types_are refuses.read in
    record {
      front = so_far.front ++ block;
      rest = one.rest;
      is_front = record {
        split = refl;
        whole = whole-or-end block one.rest after stops one.whole one.stop so_far.front so_far.whole;
        short = subst (AreShort first.most_line) (sym lines) (short-append first.most_line (lines_of so_far.front) (lines_of block) so_far.short (subst (λ (m : ℕ). AreShort m (lines_of block)) so_far.most_line one.short));
        within = omega (arith, so_far.room, one.room, length-append so_far.front block);
      };
      refused = record {
        before = lines_of so_far.front ++ refuses.before;
        line = refuses.line;
        after = refuses.behind;
        split = lines ∙ ap (λ (ls : List (List ℕ)). lines_of so_far.front ++ ls) refuses.split ∙ sym (append_assoc (lines_of so_far.front) refuses.before (refuses.line ∷ refuses.behind));
        rows = batch.rows ++ refuses.rows;
        read = rows-append reads types (lines_of so_far.front) refuses.before batch.rows refuses.rows so_far.read before_rows;
        place = omega (arith, refuses.place, length-append (lines_of so_far.front) refuses.before, count-rows reads types (lines_of so_far.front) batch.rows so_far.read, count-rows reads types refuses.before refuses.rows before_rows);
        refused = subst (λ (ts : List Ty). IsRowAnswer reads ts refuses.line (Err refusal)) so_far.types_are refuses.refused;
      };
    }

pub read-refused : (reads : ReadsStates) (types : List Ty) (left mid now last : Option (List ℕ)) (first ahead after : Ahead) (batch next : Rows) (block : List ℕ) (stops : Stop)
    → IsReadTo reads types left mid first ahead batch stop.More → ReadsBlock mid now ahead after block stops
    → (f : RowFault) → PushesBlock reads batch (lines_of block) next (Err f) → ReadsRows reads types left last first (Err f)
read-refused reads types left mid now last first ahead after batch next block stops so_far one f pushed = record {
  input = (so_far.front ++ block) ++ one.rest;
  from = subst (IsInput left first) (sym (append_assoc so_far.front block one.rest))
      (input-read reads types left mid first ahead batch stop.More so_far (block ++ one.rest) (input-before mid now ahead after one.taken block one.rest one.moved one.consumed one.to));
  reading = by_fault f pushed;
}
  where
    by_fault : (f : RowFault) → PushesBlock reads batch (lines_of block) next (Err f) → IsBatchAnswer reads types last first ((so_far.front ++ block) ++ one.rest) (Err f)
    by_fault (fault.Row row column why) p = refuses-at reads types left mid now first ahead after batch block stops so_far one row (line.Field column why) p
    by_fault (fault.FieldCount row want have) p = refuses-at reads types left mid now first ahead after batch block stops so_far one row (line.FieldCount want have) p
    by_fault (fault.TooLong row) p = absurd p
    by_fault fault.TooLarge p = absurd p
    by_fault fault.Read p = absurd p
    by_fault fault.OutOfMemory p = tt

-- a refused row is no fault of reading
pub refused-cause : (reads : ReadsStates) (batch next : Rows) (lines : List (List ℕ)) (before now : ℕ) (f : RowFault) → PushesBlock reads batch lines next (Err f) → RowCause {A = Rows} before now (Err f)
refused-cause reads batch next lines before now (fault.Row row column why) p = tt
refused-cause reads batch next lines before now (fault.FieldCount row want have) p = tt
refused-cause reads batch next lines before now (fault.TooLong row) p = absurd p
refused-cause reads batch next lines before now fault.TooLarge p = absurd p
refused-cause reads batch next lines before now fault.Read p = absurd p
refused-cause reads batch next lines before now fault.OutOfMemory p = tt

-- what a block leads to, by why it ends
abbrev pub Exit : ReadsStates → List Ty → Option (List ℕ) → Option (List ℕ) → Ahead → Ahead → Rows → ℕ → Stop → Type 0
Exit reads types left now first after batch n stop.More = IsReadTo reads types left now first after batch stop.More
Exit reads types left now first after batch n stop.End = ReadsRows reads types left now first (Ok batch)
Exit reads types left now first after batch n stop.Read = ReadsRows reads types left now first (Err fault.Read)
Exit reads types left now first after batch n stop.TooLong = ReadsRows reads types left now first (Err (fault.TooLong n))
Exit reads types left now first after batch n stop.TooLarge = ReadsRows reads types left now first (Err fault.TooLarge)

exit-of : (reads : ReadsStates) (types : List Ty) (left mid now : Option (List ℕ)) (first ahead after : Ahead) (next : Rows) (block : List ℕ) (n : ℕ) (stops : Stop)
    → IsReadTo reads types left now first after next stops → ReadsBlock mid now ahead after block stops → n ≡ length next.rows + 1 → Exit reads types left now first after next n stops
exit-of reads types left mid now first ahead after next block n stop.More read one n_is = read
exit-of reads types left mid now first ahead after next block n stop.End read one n_is = read-end reads types left now first after next read one.rest one.to one.stop
exit-of reads types left mid now first ahead after next block n stop.Read read one n_is = read-fault reads types left now first after next read block one.rest one.to one.stop
exit-of reads types left mid now first ahead after next block n stop.TooLong read one n_is = read-long reads types left now first after next read block one.rest one.to one.stop n n_is
exit-of reads types left mid now first ahead after next block n stop.TooLarge read one n_is = read-large reads types left now first after next read block one.rest one.to one.stop

pub stop-answer : (reads : ReadsStates) (types : List Ty) (left mid now : Option (List ℕ)) (first ahead after : Ahead) (batch next : Rows) (block text : List ℕ) (n : ℕ) (stops told : Stop)
    → IsReadTo reads types left mid first ahead batch stop.More → ReadsBlock mid now ahead after block stops → text ≡ block → PushesBlock reads batch (lines_of text) next (Ok n) → stops ≡ told
    → Exit reads types left now first after next n told
stop-answer reads types left mid now first ahead after batch next block text n stops told so_far one text_is pushed told_is =
    let rows = subst (λ (t : List ℕ). AreRows reads batch.types (lines_of t) pushed.0) text_is pushed.1 in
    let read = read-more reads types left mid now first ahead after batch next block stops so_far one pushed.0 rows pushed.2 in
    subst (Exit reads types left now first after next n) told_is (exit-of reads types left mid now first ahead after next block n stops read one pushed.3)

-- what the last block leads to is what its end is answered with
pub ended : (reads : ReadsStates) (types : List Ty) (left now : Option (List ℕ)) (first after : Ahead) (batch : Rows) (n : ℕ) (stops : Stop)
    → Exit reads types left now first after batch n stops → ReadsRows reads types left now first (ends_as stops batch n)
ended reads types left now first after batch n stop.More exit = no-memory reads types left now first
ended reads types left now first after batch n stop.End exit = exit
ended reads types left now first after batch n stop.Read exit = exit
ended reads types left now first after batch n stop.TooLong exit = exit
ended reads types left now first after batch n stop.TooLarge exit = exit

pub ended-cause : (before faults count n : ℕ) (batch : Rows) (stops : Stop) → faults ≡ before → FillCause faults count stops → RowCause before count (ends_as stops batch n)
ended-cause before faults count n batch stop.More quiet cause = tt
ended-cause before faults count n batch stop.End quiet cause = cause ∙ quiet
ended-cause before faults count n batch stop.Read quiet cause = subst (λ (k : ℕ). FillCause k count stop.Read) quiet cause
ended-cause before faults count n batch stop.TooLong quiet cause = tt
ended-cause before faults count n batch stop.TooLarge quiet cause = tt
