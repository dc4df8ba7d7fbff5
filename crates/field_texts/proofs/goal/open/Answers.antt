use Rattle.std.proofs.Common.{◌≡◌, ◌&&◌, false, sym, ◌∙◌}
use Rattle.agg_terms.specs.Types.{may_be_null}
use Rattle.value_types.specs.Folds.{ty_of}
use Rattle.field_texts.specs.proving.Goals.{is_letter_n}
use Rattle.field_texts.proofs.Stacks.{bare_opened, left_false, right_false}
use Rattle.field_texts.proofs.goal.open.Goals as goal
use Rattle.field_texts.proofs.goal.open.Goals.{else-is_letter_n-via-then-is_letter_n+else-is_nullable, else-is_letter_n-via-else-is_letter_n}

pub returns-else-is_letter_n : goal.returns-else-is_letter_n
returns-else-is_letter_n c =
    let ty = ty_of c.args.ty.now in
    let mark = c.args.mark in
    let filled : (is_letter_n mark && may_be_null ty) ≡ false = elim c.else-is_letter_n.branch [
      | else-is_letter_n-via-then-is_letter_n+else-is_nullable w ↦ right_false (is_letter_n mark) (may_be_null ty) (sym w.is_nullable.ensures ∙ w.if-is_nullable.false)
      | else-is_letter_n-via-else-is_letter_n w ↦ left_false (is_letter_n mark) (may_be_null ty) (sym c.is_letter_n.ensures ∙ w.if-is_letter_n.false)
    ] in
    bare_opened c.args.goals.now.items c.open_look.new.goals.items c.open_look.result ty _ mark filled c.look_of.ensures c.open_look.ensures
