use Rattle.std.proofs.Common.{[], ◌∷◌, ◌++◌, refl, ap, ◌∙◌}
use Rattle.line_forms.specs.Selects.{call_signs, CallFits}
use Rattle.request_lines.specs.proving.Judging.{call, calls}
use Rattle.request_lines.specs.proving.Reads.{IsCallRead}
use Rattle.request_lines.proofs.ListsRead.{list_begins, list_more, list_ends}
use Rattle.request_lines.proofs.Steps.{no_calls}
use Rattle.request_lines.proofs.calls.read_calls.Goals as goal

pub loop-behind-init : goal.loop-behind-init
loop-behind-init c =
    list_begins CallFits IsCallRead call_signs (call ∷ []) calls c.args.rest c.in_ok-first.left c.in_ok-first.first c.push.new.self c.in_ok-first.ensures.0 c.in_ok-first.ensures.1 c.in_ok-first.ensures.2
    (c.in_ok-push.ensures.ok ∙ ap (λ x. x ++ c.in_ok-first.first ∷ []) c.new-calls.ensures)

pub loop-behind-preserved : goal.loop-behind-preserved
loop-behind-preserved c =
    list_more CallFits IsCallRead call_signs (call ∷ []) calls (λ s. refl) c.args.rest c.loop-behind.left c.in-Some.behind c.in_ok-call.after c.in_ok-call.call c.loop-behind.calls c.push-in-Some.new.self
    c.in-Some.ensures.letters.0 c.loop-behind.invariant c.in-Some.ensures.letters.1 c.in-Some.ensures.further c.in_ok-call.ensures.0 c.in_ok-call.ensures.1 c.in_ok-call.ensures.2 c.in_ok-push-2.ensures.ok

pub returns : goal.returns
returns c = list_ends CallFits IsCallRead call_signs (call ∷ []) calls (λ s. refl) no_calls c.args.rest c.loop-behind.left c.loop-behind.calls c.loop-behind.invariant c.in_default.ensures.letters
