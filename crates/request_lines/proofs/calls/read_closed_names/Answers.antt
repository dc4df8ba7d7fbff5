use Rattle.std.proofs.Common.{[], ◌∷◌}
use Rattle.request_lines.specs.proving.Judging.{a_name, names, closing}
use Rattle.request_lines.proofs.CallsRead.{closed_names}
use Rattle.request_lines.proofs.ListsRead.{further_on, passes_on}
use Rattle.request_lines.proofs.calls.read_closed_names.Goals as goal

pub returns : goal.returns
returns c = (
  closed_names c.args.rest c.in_ok-names.left c.in_ok-closed.closed c.in_ok-names.names c.in_ok-names.ensures.0 c.in_ok-closed.ensures.0,
  further_on c.args.rest c.in_ok-names.left c.in_ok-closed.closed c.in_ok-names.ensures.1 c.in_ok-closed.ensures.1,
  passes_on (a_name ∷ names ∷ []) (closing ∷ []) c.args.rest c.in_ok-names.left c.in_ok-closed.closed c.in_ok-names.ensures.1 c.in_ok-names.ensures.2 c.in_ok-closed.ensures.2,
)
