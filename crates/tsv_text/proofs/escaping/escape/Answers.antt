use Rattle.std.proofs.Common.{◌≡◌, ◌++◌, ◌∷◌, [], suc, get_or, drop, sym, ap, ◌∙◌}
use Rattle.tsv_text.specs.Escapes.{letter_of, escaped}
use Rattle.tsv_text.proofs.Round.{escape-more, escape-end}
use Rattle.tsv_text.proofs.escaping.escape.Goals as goal

pub loop-plain-preserved : goal.loop-plain-preserved
loop-plain-preserved c =
    rw (c.in_ok-push-2.ensures.items, c.in_ok-push.ensures.items, c.in_ok-extend_from_slice.ensures.items)
    (c.loop-plain.invariant ∙ escape-more c.loop-plain.field.items c.loop-plain.rest.now c.split_at.result.0.now c.split_at.result.1.now c.split_at-in-Some.result.1.now c.in-Some.plain _
    (sym c.in-Some.ensures) c.split_at.ensures.front c.split_at.ensures.back c.split_at-in-Some.ensures.back c.letter_of.ensures)

pub returns : goal.returns
returns c =
    rw (c.from_vec.ensures, c.in_ok-extend_from_slice-2.ensures.items) (sym (c.loop-plain.invariant ∙ escape-end c.loop-plain.field.items c.loop-plain.rest.now (sym c.in_default.ensures)))
