use Rattle.std.proofs.Common.{◌≡◌, length, ap, arith, subst, length-append}
use Rattle.column_parts.specs.Cuts.{IsCut}
use Rattle.column_parts.proofs.Cuts.{cut_joined, cuts_joined}
use Rattle.column_parts.proofs.texts.append_texts.Goals as goal

pub returns-in-Ok-clause-cut : goal.returns-in-Ok-clause-cut
returns-in-Ok-clause-cut c =
    let at = c.args.starts.now.items in
    let base : length c.args.bytes.now.items ≡ c.len-base.result = omega (arith, c.len-base.ensures, c.args.bytes.now.ok) in
    rw c.in-Ok.ensures.ok (cut_joined at c.args.more_starts.now c.len-base.result (length c.args.more.now) _ (subst (IsCut at) base c.requires.cut) c.requires.more
    (omega (arith, base, ap length c.in_ok-extend_from_slice.ensures.items, length-append c.args.bytes.now.items c.args.more.now)))

pub returns-in-Ok-clause-ok : goal.returns-in-Ok-clause-ok
returns-in-Ok-clause-ok c =
    let at = c.args.starts.now.items in
    let base : length c.args.bytes.now.items ≡ c.len-base.result = omega (arith, c.len-base.ensures, c.args.bytes.now.ok) in
    rw (c.in-Ok.ensures.ok, c.in_ok-extend_from_slice.ensures.items)
    (cuts_joined at c.args.more_starts.now c.args.bytes.now.items c.args.more.now c.len-base.result (omega (arith, base)) (subst (IsCut at) base c.requires.cut) c.requires.more)
