use Rattle.std.proofs.Common.{◌≡◌, ◌≤◌, ◌-◌, ◌∙◌, ap, length, map, subst, sym, arith}
use Rattle.std.specs.List.{All, slice_range}
use Rattle.columns.specs.Rows.{AreTyped}
use Rattle.columns.proofs.Rows.{count_rows}
use Rattle.group_tables.specs.proving.Rows.{rows_between}
use Rattle.group_tables.specs.Tables.{TakesRowsOf}
use Rattle.group_tables.proofs.CallColumns.{ok_then}
use Rattle.group_tables.proofs.Facts.{long-enough, rows-are}
use Rattle.group_tables.proofs.table.GroupTable.feed_batch.Goals as goal

pub feed_columns-requires-clause-types : goal.feed_columns-requires-clause-types
feed_columns-requires-clause-types c =
    subst (λ l. map (λ d. d.ty) l ≡ c.args.grouping.now.types) (sym c.as_slice-columns.ensures.value) (ap (λ r. r.types) c.batch.view_is ∙ c.requires.types)

pub feed_columns-requires-clause-typed : goal.feed_columns-requires-clause-typed
feed_columns-requires-clause-typed c = subst AreTyped (sym c.as_slice-columns.ensures.value) c.batch.invariant.1

pub feed_columns-requires-clause-within : goal.feed_columns-requires-clause-within
feed_columns-requires-clause-within c =
    let all = c.batch.inside.columns.items in
    let count = c.batch.inside.count in
    let within : c.args.to ≤ count = omega (arith, c.requires.within, ap (λ r. length r.rows) c.batch.view_is, count_rows all count) in
    subst (All (λ d. c.args.to ≤ length d.values)) (sym c.as_slice-columns.ensures.value) (long-enough all count c.args.to c.batch.invariant.0 within)

pub returns : goal.returns
returns c =
    let all = c.batch.inside.columns.items in
    let count = c.batch.inside.count in
    let within : c.args.to ≤ count = omega (arith, c.requires.within, ap (λ r. length r.rows) c.batch.view_is, count_rows all count) in
    ok_then c.feed_columns.result c.feed_columns.ensures
    (λ t. subst (λ rows. TakesRowsOf c.args.grouping.now rows c.args.self.now c.feed_columns.new.self)
    (ap (λ l. rows_between l c.args.from (c.args.to - c.args.from)) c.as_slice-columns.ensures.value ∙ sym (rows-are all count c.args.from c.args.to c.requires.order within)
    ∙ ap (λ r. slice_range r.rows c.args.from c.args.to) c.batch.view_is) t)
