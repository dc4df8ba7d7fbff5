use Rattle.std.proofs.Common.{[], ◌∷◌, ◌++◌, refl, ap, ◌∙◌}
use Rattle.line_forms.specs.Letters.{name_part}
use Rattle.request_lines.specs.proving.Judging.{a_name, names}
use Rattle.request_lines.specs.proving.Reads.{NameFits, IsNameOf}
use Rattle.request_lines.proofs.ListsRead.{list_begins, list_more, list_ends}
use Rattle.request_lines.proofs.Steps.{no_names}
use Rattle.request_lines.proofs.names.read_names.Goals as goal

pub loop-behind-init : goal.loop-behind-init
loop-behind-init c =
    list_begins NameFits IsNameOf name_part (a_name ∷ []) names c.args.rest c.in_ok-first.left c.in_ok-first.first c.push.new.self c.in_ok-first.ensures.0 c.in_ok-first.ensures.1 c.in_ok-first.ensures.2
    (c.in_ok-push.ensures.ok ∙ ap (λ x. x ++ c.in_ok-first.first ∷ []) c.new-names.ensures)

pub loop-behind-preserved : goal.loop-behind-preserved
loop-behind-preserved c =
    list_more NameFits IsNameOf name_part (a_name ∷ []) names (λ s. refl) c.args.rest c.loop-behind.left c.in-Some.behind c.in_ok-name.after c.in_ok-name.name c.loop-behind.names c.push-in-Some.new.self
    c.in-Some.ensures.letters.0 c.loop-behind.invariant c.in-Some.ensures.letters.1 c.in-Some.ensures.further c.in_ok-name.ensures.0 c.in_ok-name.ensures.1 c.in_ok-name.ensures.2 c.in_ok-push-2.ensures.ok

pub returns : goal.returns
returns c = list_ends NameFits IsNameOf name_part (a_name ∷ []) names (λ s. refl) no_names c.args.rest c.loop-behind.left c.loop-behind.names c.loop-behind.invariant c.in_default.ensures.letters
