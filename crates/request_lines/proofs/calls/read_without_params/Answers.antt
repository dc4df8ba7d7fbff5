use Rattle.request_lines.specs.proving.Letters.{letters_left}
use Rattle.request_lines.proofs.CallsRead.{without_params}
use Rattle.request_lines.proofs.calls.read_without_params.Goals as goal

pub returns : goal.returns
returns c = (
  without_params (letters_left c.args.rest) (letters_left c.in_ok-arguments.left) c.new-params.result c.in_ok-arguments.arguments c.new-params.ensures c.in_ok-arguments.ensures.0,
  c.in_ok-arguments.ensures.1,
  c.in_ok-arguments.ensures.2,
)
