use Rattle.std.proofs.Common.{map, take, ap, sym, ◌∙◌, add-one, arith, set, get_or}
use Rattle.std.proofs.lemmas.List.{set-get_or, take_all}
use Rattle.typed_columns.specs.Growth.{trim}
use Rattle.columns.specs.Rows.{joined}
use Rattle.columns.proofs.Rows.{joined_none, joined_more, joined_at, same_length, same_type, unjoined}
use Rattle.columns.proofs.each.append_each.Goals as goal

pub loop-i-init : goal.loop-i-init
loop-i-init c = sym (joined_none _)

pub append-requires : goal.append-requires
append-requires c =
    let cs = c.args.columns.now.items in
    let i = c.loop-i.i in
    let e = c.index_mut.result.now in
    let here = c.index_mut.ensures.value ∙ ap (λ all. get_or all i e) c.loop-i.invariant ∙ joined_at cs c.args.more.now i e in
    same_type cs c.args.more.now i e c.index-more-i.result c.requires.types (omega (arith, c.loop-i-test.true, c.len-i-end.ensures, c.args.columns.now.ok))
    (omega (arith, c.loop-i-test.true, c.len-i-end.ensures, c.args.columns.now.ok, same_length cs c.args.more.now c.requires.types)) here c.index-more-i.is

pub returns-in-Err-clause-err : goal.returns-in-Err-clause-err
returns-in-Err-clause-err c =
    let cs = c.args.columns.now.items in
    let all = c.loop-i.columns.items in
    let i = c.loop-i.i in
    let same = c.in-Err.ensures.err ∙ c.index_mut.ensures.value in
    c.trim_each.ensures
    ∙ ap (λ xs. map (trim c.args.before) xs) (ap (λ x. set all i x) same ∙ set-get_or all i c.index_mut.result.now ∙ c.loop-i.invariant)
    ∙ unjoined cs (take i c.args.more.now) c.args.before c.requires.long

pub loop-i-preserved : goal.loop-i-preserved
loop-i-preserved c =
    let cs = c.args.columns.now.items in
    let i = c.loop-i.i in
    let e = c.index_mut.result.now in
    let here = c.index_mut.ensures.value ∙ ap (λ all. get_or all i e) c.loop-i.invariant ∙ joined_at cs c.args.more.now i e in
    ap (λ all. set all i c.append.new.self) c.loop-i.invariant
    ∙ rw add-one (joined_more cs c.args.more.now i c.append.new.self e c.index-more-i.result
    (omega (arith, c.loop-i-test.true, c.len-i-end.ensures, c.args.columns.now.ok))
    (omega (arith, c.loop-i-test.true, c.len-i-end.ensures, c.args.columns.now.ok, same_length cs c.args.more.now c.requires.types)) c.in_default.ensures.ok here c.index-more-i.is)

pub returns-clause-ok : goal.returns-clause-ok
returns-clause-ok c =
    c.loop-i.invariant ∙ ap (joined c.args.columns.now.items)
    (take_all c.loop-i.i c.args.more.now (omega (arith, c.loop-i-test.false, c.len-i-end.ensures, c.args.columns.now.ok, same_length c.args.columns.now.items c.args.more.now c.requires.types)))
