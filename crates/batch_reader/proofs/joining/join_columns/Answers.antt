use Rattle.std.proofs.Common.{◌≡◌, ◌∙◌, All, ap, arith, drop, get_or, length, map, refl, subst}
use Rattle.std.proofs.Crossing.{crosses}
use Rattle.std.proofs.lemmas.List.{take_at}
use denote.Param.Send.{sendable}
use Rattle.typed_columns.specs.TypedValues.{TypedValues}
use Rattle.typed_columns.specs.Growth.{trim}
use Rattle.batch_reader.specs.proving.Pieces.{rows_in}
use Rattle.batch_reader.proofs.Joined.{each-joins, joined-each, trimmed-each, types-at}
use Rattle.batch_reader.proofs.Crossing.{column-sync}
use Rattle.batch_reader.proofs.joining.join_columns.Goals as goal

pub for_each_apart-done-requires-sync-F : goal.for_each_apart-done-requires-sync-F
for_each_apart-done-requires-sync-F g c κs within = search (sendable, crosses, column-sync) depth 60 fits 4000

pub for_each_apart-done-requires-clause-accepts : goal.for_each_apart-done-requires-clause-accepts
for_each_apart-done-requires-clause-accepts g c κs sent =
    let cs = c.args.columns.now.items in
    let same = c.deref_mut.ensures.value in
    λ i p within is. types-at cs c.args.lanes.now i p.now c.requires.types (omega (arith, within, ap length same)) (is ∙ ap (λ l. get_or l i p.now) same)

pub returns-then-are_long-clause-ok : goal.returns-then-are_long-clause-ok
returns-then-are_long-clause-ok g c =
    let cs = c.args.columns.now.items in
    let ds = c.for_each_apart-done.new.items in
    let rows = rows_in c.args.lanes.now in
    let same = c.deref_mut.ensures.value in
    let long : length ds ≡ length cs = c.for_each_apart-done.auto.items ∙ ap length same in
    let written = take_at ds (drop (length ds) cs) c.args.columns.now.len (omega (arith, long, c.args.columns.now.ok)) in
    let all = subst (All (λ (d : TypedValues). length d.values ≡ c.args.total)) (c.deref.ensures.value ∙ written) (c.if-are_long.ensures.0 refl) in
    let each = each-joins rows cs c.deref_mut.result.now ds same (λ i d within. let at = (c.for_each_apart-done.ensures.items i d within).1 in (at.argument.now, at.after_call.now, at.call, at.argument_is, at.left)) in
    written ∙ joined-each 0 c.args.count c.args.total rows cs ds long c.requires.long c.requires.total all each

pub returns-clause-err : goal.returns-clause-err
returns-clause-err g c =
    let cs = c.args.columns.now.items in
    let ds = c.for_each_apart-done.new.items in
    let rows = rows_in c.args.lanes.now in
    let same = c.deref_mut.ensures.value in
    let long : length ds ≡ length cs = c.for_each_apart-done.auto.items ∙ ap length same in
    let written = take_at ds (drop (length ds) cs) c.args.columns.now.len (omega (arith, long, c.args.columns.now.ok)) in
    let each = each-joins rows cs c.deref_mut.result.now ds same (λ i d within. let at = (c.for_each_apart-done.ensures.items i d within).1 in (at.argument.now, at.after_call.now, at.call, at.argument_is, at.left)) in
    c.trim_each.ensures ∙ ap (map (trim c.args.count)) written ∙ trimmed-each 0 c.args.count rows cs ds long c.requires.long each
