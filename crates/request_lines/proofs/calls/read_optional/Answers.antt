use Rattle.request_lines.specs.proving.Letters.{letters_left}
use Rattle.request_lines.proofs.CallsRead.{empty_alone, empty_then, no_arguments_pass, optional_passes, stays}
use Rattle.request_lines.proofs.ListsRead.{further_on}
use Rattle.request_lines.proofs.calls.read_optional.Goals as goal

pub returns-in_default : goal.returns-in_default
returns-in_default c = (
  empty_alone (letters_left c.args.rest) c.new-params.result c.new-arguments.result c.new-params.ensures c.new-arguments.ensures,
  stays c.args.rest,
  no_arguments_pass c.args.rest c.in_default.ensures.letters,
)

pub returns : goal.returns
returns c = (
  empty_then (letters_left c.args.rest) (letters_left c.in-Some.opened) (letters_left c.in_ok-arguments.left) c.in-Some.ensures.letters.0 c.new-params-2.result c.in_ok-arguments.arguments c.new-params-2.ensures c.in-Some.ensures.letters.1 c.in_ok-arguments.ensures.0,
  further_on c.args.rest c.in-Some.opened c.in_ok-arguments.left c.in-Some.ensures.further c.in_ok-arguments.ensures.1,
  optional_passes c.args.rest c.in-Some.opened c.in_ok-arguments.left c.in-Some.ensures.letters.0 c.in-Some.ensures.letters.1 c.in-Some.ensures.further c.in_ok-arguments.ensures.2,
)
