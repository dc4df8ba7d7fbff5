use Rattle.request_lines.proofs.CallsRead.{request_read}
use Rattle.request_lines.proofs.request.read_request.Goals as goal

pub returns : goal.returns
returns c =
    request_read c.args.rest c.in_ok-first.first c.in_ok-calls.behind c.in_ok-keys.left c.in_ok-calls.calls c.in_ok-keys.keys c.in_ok-first.ensures.0 c.in_ok-first.ensures.1 c.in_ok-first.ensures.2
    c.in_ok-calls.ensures.0 c.in_ok-calls.ensures.1 c.in_ok-calls.ensures.2 c.in_ok-keys.ensures.0 c.in_ok-keys.ensures.1 c.in_ok-keys.ensures.2
