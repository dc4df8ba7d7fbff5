-- Rows of a stream that are fed to a table, batch by batch.
use Rattle.std.proofs.Common.{◌≡◌, ℕ, ◌+◌, ◌-◌, Bool, true, false, List, [], ◌∷◌, ◌++◌, length, map, Option, Result, Ok, Err, refl, sym, ap, subst, ◌∙◌, arith, take_all, length-append}
use Rattle.std.specs.List.{slice_range}
use Rattle.agg_meaning.specs.Views.{of_row}
use Rattle.batch_reader.specs.Streaming.{Coming, HasRead, LeadsTo, ReadsMore}
use Rattle.batch_reader.specs.declared.fault.RowFault.{RowFault}
use Rattle.batch_reader.specs.declared.fault.RowFault.TheVariants as fault
use Rattle.columns.specs.Rows.{Rows}
use Rattle.group_tables.specs.Groupings.{view_of}
use Rattle.group_tables.specs.Tables.{AreTables, TakesRowsOf}
use Rattle.group_tables.specs.declared.grouping.Grouping.{Grouping}
use Rattle.group_tables.specs.declared.table.GroupTable.{GroupTable}
use Rattle.line_reader.specs.Ahead.{Ahead}
use Rattle.quick_rows.specs.Keeping.{kept}
use Rattle.scalar_texts.specs.States.{ReadsStates}
use Rattle.value_types.specs.Folds.{value_of}
use Rattle.value_types.specs.declared.ty.Ty.{Ty}
use Rattle.value_types.specs.declared.value.Value.{Value}
use Rattle.query_run.specs.proving.Feeding.{FeedsAll, FeedsMore, contributed}
use Rattle.query_run.proofs.Batches.{no-memory}

-- all rows of a batch
pub whole-range : {A : Type 0} (xs : List A) (n : ℕ) → n ≡ length xs → slice_range xs 0 n ≡ xs
whole-range xs n e = take_all (n - 0) xs (omega (arith, e))

kept-count : (keep : List Bool) (rows : List (List Value)) → length (map (kept keep) rows) ≡ length rows
kept-count keep [] = refl
kept-count keep (row ∷ rows) = omega (arith, kept-count keep rows)

-- the next batch was fed
pub fed-next : (reads : ReadsStates) (left now : Option (List ℕ)) (before after : Coming) (batch : Rows) (g : Grouping) (old new : GroupTable) (answer : Bool)
    → ReadsMore reads left now before after batch (Ok answer) → after.next ≡ before.next + length batch.rows → TakesRowsOf g batch.rows old new → FeedsMore reads left now before after g old new (Ok answer)
fed-next reads left now before after batch g old new answer h next fed =
    let rows-are : batch.rows ≡ map (kept before.keep) h.more = ap (λ (b : Rows). b.rows) h.stands in
    record {
      more = h.more;
      fed = subst (λ rs. TakesRowsOf g rs old new) rows-are fed;
      next = next ∙ ap (λ n. before.next + n) (ap length rows-are ∙ kept-count before.keep h.more);
      leads = h.leads;
    }

pub fed-refused : (reads : ReadsStates) (left now : Option (List ℕ)) (before after : Coming) (batch : Rows) (g : Grouping) (old new : GroupTable) (f : RowFault)
    → ReadsMore reads left now before after batch (Err f) → FeedsMore reads left now before after g old new (Err f)
fed-refused reads left now before after batch g old new f h = record { more = h.more; fed = tt; next = tt; leads = h.leads }

pub fed-none : (reads : ReadsStates) (left now : Option (List ℕ)) (before after : Coming) (g : Grouping) (old new : GroupTable) → FeedsMore reads left now before after g old new (Err fault.OutOfMemory)
fed-none reads left now before after g old new = record { more = []; fed = tt; next = tt; leads = λ start first rows next_is so_far. no-memory reads before.types start now first }

pub ruleset fed_laws = (fed-none)

-- Contributions of rows behind rows.

join : {X Y : Type 0} (f : X → Y) (xs ys : List X) → map f (xs ++ ys) ≡ map f xs ++ map f ys
join f [] ys = refl
join f (x ∷ xs) ys = ap (◌∷◌ (f x)) (join f xs ys)

pub contributed-more : (g : Grouping) (keep : List Bool) (rows more : List (List Value)) → contributed g keep (rows ++ more) ≡ contributed g keep rows ++ contributed g keep more
contributed-more g keep rows more =
    ap (λ (l : List (List Value)). map (of_row (view_of g)) (map (map value_of) l)) (join (kept keep) rows more)
    ∙ ap (map (of_row (view_of g))) (join (map value_of) (map (kept keep) rows) (map (kept keep) more))
    ∙ join (of_row (view_of g)) (map (map value_of) (map (kept keep) rows)) (map (map value_of) (map (kept keep) more))

-- What was read of a stream so far, and fed.
pub record IsFed (reads : ReadsStates) (types : List Ty) (keep : List Bool) (start now : Option (List ℕ)) (first : Ahead) (stream : Coming) (g : Grouping) (table : GroupTable) : Type 0 where
  pub rows : List (List Value)
  pub types_are : stream.types ≡ types
  pub keep_is : stream.keep ≡ keep
  pub next_is : stream.next ≡ length rows + 1
  pub has_read : HasRead reads types start now first stream.ahead rows
  pub tables : AreTables g table (contributed g keep rows)

pub fed-start : (reads : ReadsStates) (types : List Ty) (keep : List Bool) (start : Option (List ℕ)) (stream : Coming) (g : Grouping) (table : GroupTable) → stream.types ≡ types → stream.keep ≡ keep → stream.next ≡ 1
    → HasRead reads types start start stream.ahead stream.ahead [] → AreTables g table [] → IsFed reads types keep start start stream.ahead stream g table
fed-start reads types keep start stream g table types_are keep_is next none tables = record { rows = []; types_are = types_are; keep_is = keep_is; next_is = next; has_read = none; tables = tables }

module _ (reads : ReadsStates) (types : List Ty) (keep : List Bool) (start left now : Option (List ℕ)) (first : Ahead) (before after : Coming) (g : Grouping) (old new : GroupTable)
    (so_far : IsFed reads types keep start left first before g old) where
  rows-lead : (answer : Result Bool RowFault) (h : FeedsMore reads left now before after g old new answer) → LeadsTo reads types start now first after.ahead (so_far.rows ++ h.more) answer
  rows-lead answer h =
      subst (λ ts. LeadsTo reads ts start now first after.ahead (so_far.rows ++ h.more) answer) so_far.types_are
      (h.leads start first so_far.rows so_far.next_is (subst (λ ts. HasRead reads ts start left first before.ahead so_far.rows) (sym so_far.types_are) so_far.has_read))

  tables-grow : (more : List (List Value)) → TakesRowsOf g (map (kept before.keep) more) old new → AreTables g new (contributed g keep (so_far.rows ++ more))
  tables-grow more h =
      subst (AreTables g new) (sym (contributed-more g keep so_far.rows more))
      (subst (λ k. AreTables g new (contributed g keep so_far.rows ++ contributed g k more)) so_far.keep_is (h.tables (contributed g keep so_far.rows) so_far.tables))

  -- more may come
  pub fed-on : FeedsMore reads left now before after g old new (Ok true) → after.types ≡ before.types → after.keep ≡ before.keep → IsFed reads types keep start now first after g new
  fed-on h types_are keep_is = record {
    rows = so_far.rows ++ h.more;
    types_are = types_are ∙ so_far.types_are;
    keep_is = keep_is ∙ so_far.keep_is;
    next_is = omega (arith, h.next, so_far.next_is, length-append so_far.rows h.more);
    has_read = rows-lead (Ok true) h;
    tables = tables-grow h.more h.fed;
  }

  -- these were the last
  pub fed-last : FeedsMore reads left now before after g old new (Ok false) → FeedsAll reads types keep start now first g new (Ok tt)
  fed-last h = (so_far.rows ++ h.more, rows-lead (Ok false) h, tables-grow h.more h.fed)

  -- or something is wrong with them
  pub fed-wrong : (f : RowFault) → FeedsMore reads left now before after g old new (Err f) → FeedsAll reads types keep start now first g new (Err f)
  fed-wrong f h = rows-lead (Err f) h
