-- What the rows of an input come to is one thing.
use Rattle.std.proofs.Common.{◌≡◌, ◌≢◌, ◌⊎◌, ℕ, ◌-◌, ◌≤◌, ◌<◌, List, [], ◌∷◌, ◌++◌, length, Option, Ok, Err, refl, sym, ap, subst, ◌∙◌, inl, inr, arith, append-nil, append_assoc}
use Rattle.batch_reader.specs.Reading.{AreRowsUpTo, IsBatchAnswer, IsFront, RefusesAt}
use Rattle.batch_reader.specs.declared.fault.RowFault.{RowFault}
use Rattle.batch_reader.specs.declared.fault.RowFault.TheVariants as fault
use Rattle.columns.specs.Rows.{Rows}
use Rattle.line_reader.specs.Ahead.{Ahead}
use Rattle.line_reader.specs.Limits.{IsTooLarge, IsTooLong, IsWithin, next_of}
use Rattle.refusals.specs.declared.status.RowWhy.{RowWhy}
use Rattle.refusals.specs.declared.status.Size.{Size}
use Rattle.refusals.specs.declared.status.Status.{Status}
use Rattle.row_texts.specs.OneRow.{OneFirstRefused, RowsOrRefused}
use Rattle.row_texts.specs.Rows.{AreRows, IsFirstRefused}
use Rattle.row_texts.specs.declared.refusal.LineRefusal.{LineRefusal}
use Rattle.row_texts.specs.declared.refusal.LineRefusal.TheVariants as line
use Rattle.scalar_texts.specs.States.{ReadsStates}
use Rattle.scalar_texts.specs.declared.fault.FieldFault.{FieldFault}
use Rattle.tsv_text.specs.Lines.{lines_of}
use Rattle.value_types.specs.declared.ty.Ty.{Ty}
use Rattle.value_types.specs.declared.value.Value.{Value}
use Rattle.query_run.specs.Laws.{IsOfInput}
use Rattle.query_run.specs.Outcome.{refused_field, status_of}
use Rattle.query_run.proofs.Fronts.{Begins, lines-behind, next-within, nothing-more, one-begins, whole-within}

-- Rows of a front.

record HasRows (reads : ReadsStates) (types : List Ty) (lines : List (List ℕ)) : Type 0 where
  rows : List (List Value)
  read : AreRows reads types lines rows

rows-front : (reads : ReadsStates) (types : List Ty) (xs ys : List (List ℕ)) (rows : List (List Value)) → AreRows reads types (xs ++ ys) rows → HasRows reads types xs
rows-front reads types [] ys rows h = record { rows = []; read = tt }
rows-front reads types (x ∷ xs) ys [] h = absurd h
rows-front reads types (x ∷ xs) ys (r ∷ rows) h = let more = rows-front reads types xs ys rows h.1 in record { rows = r ∷ more.rows; read = (h.0, more.read) }

-- the status of a refused line
abbrev status_at : ℕ → LineRefusal → Status
status_at row (line.Field column f) = refused_field row column f
status_at row (line.FieldCount want have) = Status.BadRow row (RowWhy.Count want have)
status_at row line.OutOfMemory = Status.OutOfMemory

-- a limit that is broken at a line
abbrev Breaks : ℕ → Size → ℕ → List ℕ → Type 0
Breaks most Size.Line room rest = IsTooLong most room rest
Breaks most Size.Input room rest = IsTooLarge most room rest
Breaks most Size.Script room rest = ⊥

broken : (most : ℕ) (size : Size) (room : ℕ) (rest : List ℕ) → Breaks most size room rest → IsWithin most room rest → ⊥
broken most Size.Line room rest h w = absurd (omega (arith, h.0, w.0))
broken most Size.Input room rest h w = absurd (omega (arith, h.0, w.1))
broken most Size.Script room rest h w = absurd h

pub long-large : (most room : ℕ) (rest : List ℕ) → IsTooLong most room rest → IsTooLarge most room rest → ⊥
long-large most room rest h g = by g.1
  where
    by : (length (next_of rest) ≤ most) ⊎ (room < most) → ⊥
    by (inl short) = absurd (omega (arith, h.0, short))
    by (inr few) = absurd (omega (arith, h.1, few))

one-limit : (most : ℕ) (p q : Size) (room : ℕ) (rest : List ℕ) → Breaks most p room rest → Breaks most q room rest → p ≡ q
one-limit most Size.Line Size.Line room rest h g = refl
one-limit most Size.Input Size.Input room rest h g = refl
one-limit most Size.Line Size.Input room rest h g = absurd (long-large most room rest h g)
one-limit most Size.Input Size.Line room rest h g = absurd (long-large most room rest g h)
one-limit most Size.Script q room rest h g = absurd h
one-limit most p Size.Script room rest h g = absurd g

module _ (either : RowsOrRefused) (refusals : OneFirstRefused) (reads : ReadsStates) (types : List Ty) (a : Ahead) (input : List ℕ) where
  -- the first refused line of a front is that of a longer one
  refused-longer : (front rest longer behind : List ℕ) → IsFront a input front rest → IsFront a input longer behind → Begins front rest longer behind → (row : ℕ) (refusal : LineRefusal)
      → IsFirstRefused reads types (lines_of front) row refusal → IsFirstRefused reads types (lines_of longer) row refusal
  refused-longer front rest longer behind one other b row refusal h = record {
    before = h.before;
    line = h.line;
    after = h.after ++ lines_of b.more;
    split =
        lines-behind a input front rest longer behind b.more one other b.longer_is b.rest_is ∙ ap (λ ls. ls ++ lines_of b.more) h.split
        ∙ append_assoc h.before (h.line ∷ h.after) (lines_of b.more);
    rows = h.rows;
    read = h.read;
    place = h.place;
    refused = h.refused;
  }

  one-refusal : (m n : ℕ) (one other : LineRefusal) → one ≢ line.OutOfMemory → other ≢ line.OutOfMemory → RefusesAt reads types a input m one → RefusesAt reads types a input n other → (m ≡ n) × (one ≡ other)
  one-refusal m n one other first second h g = by (one-begins h.front h.rest g.front g.rest (sym h.is_front.split ∙ g.is_front.split))
    where
      by : Begins h.front h.rest g.front g.rest ⊎ Begins g.front g.rest h.front h.rest → (m ≡ n) × (one ≡ other)
      by (inl b) = refusals reads types (lines_of g.front) m n one other first second (refused-longer h.front h.rest g.front g.rest h.is_front g.is_front b m one h.refused) g.refused
      by (inr b) = refusals reads types (lines_of h.front) m n one other first second h.refused (refused-longer g.front g.rest h.front h.rest g.is_front h.is_front b n other g.refused)

  abbrev StopsFor : Size → Type 0
  StopsFor size = AreRowsUpTo reads types a input (λ room rows rest. Breaks a.most_line size room rest)

  -- a front with a refused line is none of rows
  not-rows : (front rest longer behind : List ℕ) → IsFront a input front rest → IsFront a input longer behind → Begins front rest longer behind → (row : ℕ) (refusal : LineRefusal) → refusal ≢ line.OutOfMemory
      → IsFirstRefused reads types (lines_of front) row refusal → (rows : List (List Value)) → AreRows reads types (lines_of longer) rows → ⊥
  not-rows front rest longer behind one other b row refusal apart h rows read =
      let first =
      rows-front reads types (lines_of front) (lines_of b.more) rows
      (subst (λ ls. AreRows reads types ls rows) (lines-behind a input front rest longer behind b.more one other b.longer_is b.rest_is) read) in
      either reads types (lines_of front) first.rows row refusal apart first.read h

  -- no limit is broken in front of a refused line, and none is refused in front of a broken limit
  refused-or-stopped : (row : ℕ) (refusal : LineRefusal) (size : Size) → refusal ≢ line.OutOfMemory → RefusesAt reads types a input row refusal → StopsFor size → ⊥
  refused-or-stopped row refusal size apart h g = by (one-begins h.front h.rest g.front g.rest (sym h.is_front.split ∙ g.is_front.split))
    where
      longer : (more : List ℕ) → h.front ≡ g.front ++ more → g.rest ≡ more ++ h.rest → ⊥
      longer [] is follows =
          let same = nothing-more g.front g.rest h.front h.rest is follows in
          either reads types (lines_of g.front) g.rows row refusal apart g.read (subst (λ l. IsFirstRefused reads types (lines_of l) row refusal) same.0 h.refused)
      longer (x ∷ xs) is follows =
          broken a.most_line size (a.room - length g.front) g.rest g.holds (next-within a input g.front g.rest h.front h.rest (x ∷ xs) g.is_front h.is_front is follows x xs refl)

      by : Begins h.front h.rest g.front g.rest ⊎ Begins g.front g.rest h.front h.rest → ⊥
      by (inl b) = not-rows h.front h.rest g.front g.rest h.is_front g.is_front b row refusal apart h.refused g.rows g.read
      by (inr b) = longer b.more b.longer_is b.rest_is

  stops-once : (p q : Size) (h : StopsFor p) (g : StopsFor q) (more : List ℕ) → g.front ≡ h.front ++ more → h.rest ≡ more ++ g.rest → p ≡ q
  stops-once p q h g [] is follows =
      let same = nothing-more h.front h.rest g.front g.rest is follows in
      one-limit a.most_line p q (a.room - length h.front) h.rest h.holds
      (subst (λ r. Breaks a.most_line q (a.room - length h.front) r) (sym same.1) (subst (λ f. Breaks a.most_line q (a.room - length f) g.rest) same.0 g.holds))
  stops-once p q h g (x ∷ xs) is follows =
      absurd (broken a.most_line p (a.room - length h.front) h.rest h.holds (next-within a input h.front h.rest g.front g.rest (x ∷ xs) h.is_front g.is_front is follows x xs refl))

  one-stop : (p q : Size) → StopsFor p → StopsFor q → p ≡ q
  one-stop p q h g = by (one-begins h.front h.rest g.front g.rest (sym h.is_front.split ∙ g.is_front.split))
    where
      by : Begins h.front h.rest g.front g.rest ⊎ Begins g.front g.rest h.front h.rest → p ≡ q
      by (inl b) = stops-once p q h g b.more b.longer_is b.rest_is
      by (inr b) = sym (stops-once q p g h b.more b.longer_is b.rest_is)

  -- Faults.

  -- a refused line
  record Refused (f : RowFault) : Type 0 where
    row : ℕ
    refusal : LineRefusal
    apart : refusal ≢ line.OutOfMemory
    refuses : RefusesAt reads types a input row refusal
    status_is : status_of f ≡ status_at row refusal

  -- a broken limit
  record Stopped (f : RowFault) : Type 0 where
    size : Size
    stops : StopsFor size
    status_is : status_of f ≡ Status.TooLarge size

  field-fault : (column : ℕ) (f : FieldFault) → line.Field column f ≢ line.OutOfMemory
  field-fault column f e = cc

  count-fault : (want have : ℕ) → line.FieldCount want have ≢ line.OutOfMemory
  count-fault want have e = cc

  kind-of-fault : (now : Option (List ℕ)) (f : RowFault) → IsOfInput (Err (status_of f)) → IsBatchAnswer reads types now a input (Err f) → Refused f ⊎ Stopped f
  kind-of-fault now (fault.Row row column f) told h = inl (record { row = row; refusal = line.Field column f; apart = field-fault column f; refuses = h; status_is = refl })
  kind-of-fault now (fault.FieldCount row want have) told h = inl (record { row = row; refusal = line.FieldCount want have; apart = count-fault want have; refuses = h; status_is = refl })
  kind-of-fault now (fault.TooLong row) told h =
      inr (record { size = Size.Line; stops = record { front = h.front; rest = h.rest; is_front = h.is_front; rows = h.rows; read = h.read; holds = h.holds.1 }; status_is = refl })
  kind-of-fault now fault.TooLarge told h = inr (record { size = Size.Input; stops = record { front = h.front; rest = h.rest; is_front = h.is_front; rows = h.rows; read = h.read; holds = h.holds }; status_is = refl })
  kind-of-fault now fault.Read told h = absurd told
  kind-of-fault now fault.OutOfMemory told h = absurd told

  pub one-fault : (now later : Option (List ℕ)) (f g : RowFault) → IsOfInput (Err (status_of f)) → IsOfInput (Err (status_of g)) → IsBatchAnswer reads types now a input (Err f) → IsBatchAnswer reads types later a input (Err g) → status_of f ≡ status_of g
  one-fault now later f g told heard h i = by (kind-of-fault now f told h) (kind-of-fault later g heard i)
    where
      by : Refused f ⊎ Stopped f → Refused g ⊎ Stopped g → status_of f ≡ status_of g
      by (inl p) (inl q) = let same = one-refusal p.row q.row p.refusal q.refusal p.apart q.apart p.refuses q.refuses in p.status_is ∙ (λ i. status_at (same.0 i) (same.1 i)) ∙ sym q.status_is
      by (inl p) (inr q) = absurd (refused-or-stopped p.row p.refusal q.size p.apart p.refuses q.stops)
      by (inr p) (inl q) = absurd (refused-or-stopped q.row q.refusal p.size q.apart q.refuses p.stops)
      by (inr p) (inr q) = p.status_is ∙ ap Status.TooLarge (one-stop p.size q.size p.stops q.stops) ∙ sym q.status_is

  -- what is all rows has no fault
  pub no-fault : (now later : Option (List ℕ)) (batch : Rows) (f : RowFault) → IsOfInput (Err (status_of f)) → IsBatchAnswer reads types now a input (Ok batch) → IsBatchAnswer reads types later a input (Err f) → ⊥
  no-fault now later batch f told h i = by (kind-of-fault later f told i)
    where
      by : Refused f ⊎ Stopped f → ⊥
      by (inl p) =
          not-rows p.refuses.front p.refuses.rest input [] p.refuses.is_front h.2
          (record { more = p.refuses.rest; longer_is = p.refuses.is_front.split; rest_is = sym (append-nil p.refuses.rest) })
          p.row p.refusal p.apart p.refuses.refused batch.rows h.3
      by (inr p) = broken a.most_line p.size (a.room - length p.stops.front) p.stops.rest p.stops.holds (whole-within a input p.stops.front p.stops.rest p.stops.is_front h.2)
