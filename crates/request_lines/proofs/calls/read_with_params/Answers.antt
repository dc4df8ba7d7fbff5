use Rattle.std.proofs.Common.{[], ◌∷◌}
use Rattle.request_lines.specs.proving.Judging.{a_literal, literals, opening, closing, in_names}
use Rattle.request_lines.proofs.CallsRead.{with_params}
use Rattle.request_lines.proofs.ListsRead.{further_on, passes_on}
use Rattle.request_lines.proofs.calls.read_with_params.Goals as goal

pub returns : goal.returns
returns c = (
  with_params c.args.rest c.in_ok-params.opened c.in_ok-arguments.left c.in_ok-params.params c.in_ok-arguments.arguments c.in_ok-params.ensures.0 c.in_ok-arguments.ensures.0,
  further_on c.args.rest c.in_ok-params.opened c.in_ok-arguments.left c.in_ok-params.ensures.1 c.in_ok-arguments.ensures.1,
  passes_on (a_literal ∷ literals ∷ closing ∷ opening ∷ []) (in_names ∷ []) c.args.rest c.in_ok-params.opened c.in_ok-arguments.left c.in_ok-params.ensures.1 c.in_ok-params.ensures.2 c.in_ok-arguments.ensures.2,
)
