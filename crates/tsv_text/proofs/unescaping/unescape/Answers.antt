use Rattle.std.proofs.Common.{◌≡◌, ◌≤◌, ◌-◌, ◌++◌, suc, length, refl, sym, ap, ◌∙◌, arith}
use Rattle.tsv_text.proofs.Pieces.{within, at_backslash, escape_read, more_escape, failed, all_read}
use Rattle.tsv_text.proofs.unescaping.unescape.Goals as goal

pub overflow_sub-at : goal.overflow_sub-at
overflow_sub-at c =
    let b = at_backslash c.args.field.now c.loop-plain.rest.now c.loop-plain.bytes.items c.split_at.result.0.now c.split_at.result.1.now _ c.in-Some.plain c.loop-plain.invariant (sym c.in-Some.ensures) c.split_at.ensures.front c.split_at.ensures.back refl in
    omega (arith, within _ _ _ b.read, b.size)

pub loop-plain-preserved : goal.loop-plain-preserved
loop-plain-preserved c =
    let text = c.split_at-in-Some.result.1.now in
    let b = at_backslash c.args.field.now c.loop-plain.rest.now c.loop-plain.bytes.items c.split_at.result.0.now c.split_at.result.1.now text c.in-Some.plain c.loop-plain.invariant (sym c.in-Some.ensures) c.split_at.ensures.front c.split_at.ensures.back c.split_at-in-Some.ensures.back in
    let e = escape_read _ text c.in-Ok.byte c.in-Ok.after.now (sym c.in-Ok.ensures) in
    rw (c.in_ok-push-in-Ok.ensures.items, c.in_ok-extend_from_slice.ensures.items) (more_escape c.args.field.now text c.in-Ok.after.now _ c.in-Ok.byte e b.read)

pub returns-in-Err : goal.returns-in-Err
returns-in-Err c =
    let text = c.split_at-in-Some.result.1.now in
    let b = at_backslash c.args.field.now c.loop-plain.rest.now c.loop-plain.bytes.items c.split_at.result.0.now c.split_at.result.1.now text c.in-Some.plain c.loop-plain.invariant (sym c.in-Some.ensures) c.split_at.ensures.front c.split_at.ensures.back c.split_at-in-Some.ensures.back in
    failed c.args.field.now text _ c.in-Err.fault _ b.read (ap (λ n. length c.args.field.now - n) (sym b.size)) (sym c.in-Err.ensures)

pub returns : goal.returns
returns c =
    rw (c.from_vec.ensures, c.in_ok-extend_from_slice-2.ensures.items) (all_read c.args.field.now c.loop-plain.rest.now c.loop-plain.bytes.items c.loop-plain.invariant (sym c.in_default.ensures))
