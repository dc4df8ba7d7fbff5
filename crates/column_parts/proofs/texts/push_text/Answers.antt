use Rattle.std.proofs.Common.{length, arith, length-append}
use Rattle.column_parts.proofs.Cuts.{cut_push, cuts_push}
use Rattle.column_parts.proofs.texts.push_text.Goals as goal

pub returns-clause-cut : goal.returns-clause-cut
returns-clause-cut c =
    rw (c.in_ok-push.ensures.items, c.in_ok-reserve.ensures.items, c.in_ok-extend_from_slice.ensures.items)
    (cut_push _ (length c.args.bytes.now.items) _ _ c.requires (omega (arith, c.len.ensures, c.in_ok-extend_from_slice.ensures.len, c.args.bytes.now.ok))
    (omega (arith, c.len.ensures, c.in_ok-extend_from_slice.ensures.len, c.args.bytes.now.ok, length-append c.args.bytes.now.items c.args.text.now)))

pub returns-clause-ok : goal.returns-clause-ok
returns-clause-ok c =
    rw (c.in_ok-push.ensures.items, c.in_ok-reserve.ensures.items, c.in_ok-extend_from_slice.ensures.items)
    (cuts_push _ _ _ _ c.requires (omega (arith, c.len.ensures, c.in_ok-extend_from_slice.ensures.len, c.args.bytes.now.ok)))
