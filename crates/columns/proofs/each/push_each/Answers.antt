use Rattle.std.proofs.Common.{map, take, ap, sym, ◌∙◌, add-one, arith, set, get_or}
use Rattle.std.proofs.lemmas.List.{set-get_or, take_all}
use Rattle.typed_columns.specs.Growth.{trim}
use Rattle.columns.specs.Rows.{pushed}
use Rattle.columns.proofs.Rows.{pushed_none, pushed_more, pushed_at, fit_here, trimmed}
use Rattle.columns.proofs.each.push_each.Goals as goal

pub loop-i-init : goal.loop-i-init
loop-i-init c = sym (pushed_none _)

pub push-requires : goal.push-requires
push-requires c =
    let cs = c.args.columns.now.items in
    let i = c.loop-i.i in
    let here = c.index_mut.ensures.value ∙ ap (λ all. get_or all i c.index_mut.result.now) c.loop-i.invariant ∙ pushed_at cs c.args.row.now i c.index_mut.result.now in
    fit_here cs c.args.row.now i c.index_mut.result.now c.index-row-i.result c.requires.fit
    (omega (arith, c.loop-i-test.true, c.len-i-end.ensures, c.args.columns.now.ok)) here c.index-row-i.is

pub returns-in-Err-clause-err : goal.returns-in-Err-clause-err
returns-in-Err-clause-err c =
    let cs = c.args.columns.now.items in
    let all = c.loop-i.columns.items in
    let i = c.loop-i.i in
    let same = c.in-Err.ensures.err ∙ c.index_mut.ensures.value in
    c.trim_each.ensures
    ∙ ap (λ xs. map (trim c.args.count) xs) (ap (λ x. set all i x) same ∙ set-get_or all i c.index_mut.result.now ∙ c.loop-i.invariant)
    ∙ trimmed cs (take i c.args.row.now) c.args.count c.requires.long

pub loop-i-preserved : goal.loop-i-preserved
loop-i-preserved c =
    let cs = c.args.columns.now.items in
    let i = c.loop-i.i in
    let e = c.index_mut.result.now in
    let here = c.index_mut.ensures.value ∙ ap (λ all. get_or all i e) c.loop-i.invariant ∙ pushed_at cs c.args.row.now i e in
    ap (λ all. set all i c.push.new.self) c.loop-i.invariant
    ∙ rw add-one (pushed_more cs c.args.row.now i c.push.new.self e c.index-row-i.result
    (omega (arith, c.loop-i-test.true, c.len-i-end.ensures, c.args.columns.now.ok))
    (omega (arith, c.loop-i-test.true, c.len-i-end.ensures, c.args.columns.now.ok, c.requires.same)) c.in_default.ensures.ok here c.index-row-i.is)

pub returns-clause-ok : goal.returns-clause-ok
returns-clause-ok c =
    c.loop-i.invariant ∙ ap (pushed c.args.columns.now.items)
    (take_all c.loop-i.i c.args.row.now (omega (arith, c.loop-i-test.false, c.len-i-end.ensures, c.args.columns.now.ok, c.requires.same)))
