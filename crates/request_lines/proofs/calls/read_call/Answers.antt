use Rattle.request_lines.proofs.CallsRead.{call_read}
use Rattle.request_lines.proofs.Steps.{call_fails}
use Rattle.request_lines.proofs.calls.read_call.Goals as goal

pub returns-in_default : goal.returns-in_default
returns-in_default c = call_fails c.args.rest c.fault.result c.fault.ensures c.in_default.ensures.letters

pub returns : goal.returns
returns c =
    call_read c.args.rest c.in-Some.first.behind c.in_ok-opened.opened c.in_ok-inside.left c.in-Some.first.word.now c.in-Some.first.at c.in_ok-name.name c.in_ok-inside.inside c.in-Some.ensures.letters c.in-Some.ensures.further
    c.in_ok-opened.ensures.0 c.in_ok-opened.ensures.1 c.in_ok-opened.ensures.2 c.in_ok-inside.ensures.0 c.in_ok-inside.ensures.1 c.in_ok-inside.ensures.2 c.in_ok-name.ensures
