use Rattle.std.proofs.Common.{length, ap, sym, ◌∙◌, ◌++◌, ◌∷◌, [], subst, arith}
use Rattle.std.specs.Prelude.{Ok}
use Rattle.column_parts.proofs.Cuts.{cut_push}
use Rattle.quick_rows.specs.Taking.{TakesElements, TakesFirst}
use Rattle.quick_rows.proofs.ListLaws.{list_longer, list_taken}
use Rattle.quick_rows.proofs.list.take_list.Goals as goal

pub returns-in_ok-push-in-Ok-Taken-clause-cut : goal.returns-in_ok-push-in-Ok-Taken-clause-cut
returns-in_ok-push-in-Ok-Taken-clause-cut c =
    let old = c.args.elements.now in
    let new = c.take_elements.new.elements in
    let first = subst (λ f. TakesFirst TakesElements old c.args.text.now new (Ok f)) c.in-Ok-Taken.field-0-is c.in-Ok-Taken.ensures in
    rw (c.in_ok-push-in-Ok-Taken.ensures.items, c.in_ok-reserve.ensures.items)
    (cut_push c.args.starts.now.items (length old.values) c.len.result _ c.requires.cut (omega (arith, c.len.ensures, list_longer old new first.0 first.2)) (sym c.len.ensures))

pub returns-in_ok-push-in-Ok-Taken-clause-taken : goal.returns-in_ok-push-in-Ok-Taken-clause-taken
returns-in_ok-push-in-Ok-Taken-clause-taken c =
    let old = c.args.elements.now in
    let new = c.take_elements.new.elements in
    let first = subst (λ f. TakesFirst TakesElements old c.args.text.now new (Ok f)) c.in-Ok-Taken.field-0-is c.in-Ok-Taken.ensures in (
      first.0,
      first.1,
      list_taken c.args.starts.now.items c.push.new.self.items old new first.0 c.len.result c.requires.cut
          (c.in_ok-push-in-Ok-Taken.ensures.items ∙ ap (λ xs. xs ++ c.len.result ∷ []) c.in_ok-reserve.ensures.items) c.len.ensures first.2,
    )
