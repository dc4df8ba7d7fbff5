use Rattle.std.proofs.Common.{subst, sym}
use Rattle.line_forms.specs.Views.{call_of}
use Rattle.line_forms.specs.declared.select.WrittenCall.{WrittenCall}
use Rattle.request_rules.specs.Selects.{IsFewCall}
use Rattle.request_rules.proofs.Places.{few_at}
use Rattle.request_rules.proofs.calls.judge_calls.Goals as goal

pub judge_call-requires-clause-few : goal.judge_call-requires-clause-few
judge_call-requires-clause-few c =
    subst (λ (call : WrittenCall). IsFewCall (call_of call)) (sym c.written-item.is)
    (few_at c.args.calls.now c.loop-written.written-index c.written-item.result c.loop-written-test.true c.requires.few)
