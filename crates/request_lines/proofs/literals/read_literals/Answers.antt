use Rattle.std.proofs.Common.{[], ◌∷◌, ◌++◌, refl, ap, ◌∙◌}
use Rattle.line_forms.specs.Selects.{literal_part}
use Rattle.request_lines.specs.proving.Judging.{a_literal, literals}
use Rattle.request_lines.specs.proving.Reads.{LiteralFits, IsLiteralOf}
use Rattle.request_lines.proofs.ListsRead.{list_begins, list_more, list_ends}
use Rattle.request_lines.proofs.Steps.{no_literals}
use Rattle.request_lines.proofs.literals.read_literals.Goals as goal

pub loop-behind-init : goal.loop-behind-init
loop-behind-init c =
    list_begins LiteralFits IsLiteralOf literal_part (a_literal ∷ []) literals c.args.rest c.in_ok-first.left c.in_ok-first.first c.push.new.self c.in_ok-first.ensures.0 c.in_ok-first.ensures.1 c.in_ok-first.ensures.2
    (c.in_ok-push.ensures.ok ∙ ap (λ x. x ++ c.in_ok-first.first ∷ []) c.new-literals.ensures)

pub loop-behind-preserved : goal.loop-behind-preserved
loop-behind-preserved c =
    list_more LiteralFits IsLiteralOf literal_part (a_literal ∷ []) literals (λ s. refl) c.args.rest c.loop-behind.left c.in-Some.behind c.in_ok-literal.after c.in_ok-literal.literal c.loop-behind.literals c.push-in-Some.new.self
    c.in-Some.ensures.letters.0 c.loop-behind.invariant c.in-Some.ensures.letters.1 c.in-Some.ensures.further c.in_ok-literal.ensures.0 c.in_ok-literal.ensures.1 c.in_ok-literal.ensures.2 c.in_ok-push-2.ensures.ok

pub returns : goal.returns
returns c = list_ends LiteralFits IsLiteralOf literal_part (a_literal ∷ []) literals (λ s. refl) no_literals c.args.rest c.loop-behind.left c.loop-behind.literals c.loop-behind.invariant c.in_default.ensures.letters
