-- A loop over batches.
use Rattle.std.proofs.Common.{◌≡◌, ℕ, ◌+◌, Bool, true, false, List, [], ◌++◌, Option, Ok, Err, Result, length, refl, sym, ap, ◌∙◌, arith, subst, length-append}
use Rattle.std.proofs.lemmas.List.{map-append}
use Rattle.value_types.specs.declared.ty.Ty.{Ty}
use Rattle.value_types.specs.declared.value.Value.{Value}
use Rattle.columns.specs.Rows.{Rows, no_rows, with_rows}
use Rattle.quick_rows.specs.Keeping.{kept, kept_rows}
use Rattle.scalar_texts.specs.States.{ReadsStates}
use Rattle.line_reader.specs.Ahead.{Ahead}
use Rattle.batch_reader.specs.Streaming.{Coming, HasRead, LeadsTo, ReadsKept, ReadsMore}
use Rattle.batch_reader.specs.declared.fault.RowFault.{RowFault}
use Rattle.batch_reader.proofs.Streams.{kept-count, rows_with}

-- What is kept of all rows that were read stands in one batch, and what the stream has left follows them.
pub record IsCollected (reads : ReadsStates) (types : List Ty) (keep : List Bool) (start now : Option (List ℕ)) (first : Ahead) (stream : Coming) (batch all : Rows) (before count : ℕ) : Type 0 where
  pub rows : List (List Value)
  pub of : stream.types ≡ types
  pub marks : stream.keep ≡ keep
  pub same : batch.types ≡ kept keep types
  pub stands : all ≡ kept_rows keep (rows_with types rows)
  pub next : stream.next ≡ length rows + 1
  pub read : HasRead reads types start now first stream.ahead rows
  pub quiet : count ≡ before

pub collected-none : (reads : ReadsStates) (types : List Ty) (keep : List Bool) (left : Option (List ℕ)) (first : Ahead) (stream : Coming) (batch all : Rows) (before : ℕ)
    → stream.types ≡ types → stream.keep ≡ keep → stream.ahead ≡ first → stream.next ≡ 1 → batch ≡ no_rows (kept stream.keep stream.types) → all ≡ no_rows (kept stream.keep stream.types)
    → HasRead reads stream.types left left stream.ahead stream.ahead [] → IsCollected reads types keep left left first stream batch all before before
collected-none reads types keep left first stream batch all before of marks ahead next none empty read = record {
  rows = [];
  of = of;
  marks = marks;
  same = ap (λ (b : Rows). b.types) none ∙ (λ i. kept (marks i) (of i));
  stands = empty ∙ (λ i. no_rows (kept (marks i) (of i)));
  next = next;
  read = subst (λ (a : Ahead). HasRead reads types left left a stream.ahead []) ahead (subst (λ (ts : List Ty). HasRead reads ts left left stream.ahead stream.ahead []) of read);
  quiet = refl;
}

-- what a batch more leads to
leads : (reads : ReadsStates) (types : List Ty) (keep : List Bool) (start mid now : Option (List ℕ)) (first : Ahead) (stream after : Coming) (batch next all : Rows) (before count : ℕ) (answer : Result Bool RowFault)
    → (so_far : IsCollected reads types keep start mid first stream batch all before count) → (one : ReadsMore reads mid now stream after next answer) → LeadsTo reads types start now first after.ahead (so_far.rows ++ one.more) answer
leads reads types keep start mid now first stream after batch next all before count answer so_far one =
    subst (λ (ts : List Ty). LeadsTo reads ts start now first after.ahead (so_far.rows ++ one.more) answer) so_far.of
    (one.leads start first so_far.rows so_far.next (subst (λ (ts : List Ty). HasRead reads ts start mid first stream.ahead so_far.rows) (sym so_far.of) so_far.read))

-- one batch behind another
joined-kept : (keep : List Bool) (types : List Ty) (rows more : List (List Value)) (all next with : Rows) → all ≡ kept_rows keep (rows_with types rows) → next ≡ kept_rows keep (rows_with types more)
    → with ≡ with_rows all next.rows → with ≡ kept_rows keep (rows_with types (rows ++ more))
joined-kept keep types rows more all next with all_is next_is with_is =
    with_is ∙ (λ i. with_rows (all_is i) (next_is i).rows) ∙ (λ i. rows_with (kept keep types) (sym (map-append (kept keep) rows more) i))

kept-as : (stream : Coming) (keep : List Bool) (types : List Ty) (next : Rows) (more : List (List Value)) → stream.keep ≡ keep → stream.types ≡ types → next ≡ kept_rows stream.keep (rows_with stream.types more)
    → next ≡ kept_rows keep (rows_with types more)
kept-as stream keep types next more marks of is = is ∙ (λ i. kept_rows (marks i) (rows_with (of i) more))

pub collected-more : (reads : ReadsStates) (types : List Ty) (keep : List Bool) (start mid now : Option (List ℕ)) (first : Ahead) (stream after : Coming) (batch next all with : Rows) (before count later : ℕ)
    → IsCollected reads types keep start mid first stream batch all before count → ReadsMore reads mid now stream after next (Ok true) → after.types ≡ stream.types → after.keep ≡ stream.keep
    → next.types ≡ batch.types → after.next ≡ stream.next + length next.rows → with ≡ with_rows all next.rows → later ≡ count → IsCollected reads types keep start now first after next with before later
collected-more reads types keep start mid now first stream after batch next all with before count later so_far one of marks same counts with_is quiet =
    let here = kept-as stream keep types next one.more so_far.marks so_far.of one.stands in
    record {
      rows = so_far.rows ++ one.more;
      of = of ∙ so_far.of;
      marks = marks ∙ so_far.marks;
      same = same ∙ so_far.same;
      stands = joined-kept keep types so_far.rows one.more all next with so_far.stands here with_is;
      next = omega (arith, counts, so_far.next, kept-count keep (rows_with types one.more) next here, length-append so_far.rows one.more);
      read = leads reads types keep start mid now first stream after batch next all before count (Ok true) so_far one;
      quiet = quiet ∙ so_far.quiet;
    }

pub collected-all : (reads : ReadsStates) (types : List Ty) (keep : List Bool) (start mid now : Option (List ℕ)) (first : Ahead) (stream after : Coming) (batch next all with : Rows) (before count : ℕ)
    → IsCollected reads types keep start mid first stream batch all before count → ReadsMore reads mid now stream after next (Ok false) → with ≡ with_rows all next.rows → ReadsKept reads types keep start now first (Ok with)
collected-all reads types keep start mid now first stream after batch next all with before count so_far one with_is = (
  so_far.rows ++ one.more,
  leads reads types keep start mid now first stream after batch next all before count (Ok false) so_far one,
  joined-kept keep types so_far.rows one.more all next with so_far.stands (kept-as stream keep types next one.more so_far.marks so_far.of one.stands) with_is,
)

pub collected-fault : (reads : ReadsStates) (types : List Ty) (keep : List Bool) (start mid now : Option (List ℕ)) (first : Ahead) (stream after : Coming) (batch next all : Rows) (before count : ℕ) (f : RowFault)
    → IsCollected reads types keep start mid first stream batch all before count → ReadsMore reads mid now stream after next (Err f) → ReadsKept reads types keep start now first (Err f)
collected-fault reads types keep start mid now first stream after batch next all before count f so_far one =
    leads reads types keep start mid now first stream after batch next all before count (Err f) so_far one
