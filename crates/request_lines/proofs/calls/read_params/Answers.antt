use Rattle.std.proofs.Common.{[], ◌∷◌}
use Rattle.request_lines.specs.proving.Judging.{a_literal, literals, opening, closing}
use Rattle.request_lines.proofs.CallsRead.{params_read}
use Rattle.request_lines.proofs.ListsRead.{further_on, passes_on}
use Rattle.request_lines.proofs.calls.read_params.Goals as goal

pub returns : goal.returns
returns c = (
  params_read c.args.rest c.in_ok-params.left c.in_ok-closed.closed c.in_ok-opened.opened c.in_ok-params.params c.in_ok-params.ensures.0 c.in_ok-closed.ensures.0 c.in_ok-opened.ensures.0,
  further_on c.args.rest c.in_ok-params.left c.in_ok-opened.opened c.in_ok-params.ensures.1 (further_on c.in_ok-params.left c.in_ok-closed.closed c.in_ok-opened.opened c.in_ok-closed.ensures.1 c.in_ok-opened.ensures.1),
  passes_on (a_literal ∷ literals ∷ []) (closing ∷ opening ∷ []) c.args.rest c.in_ok-params.left c.in_ok-opened.opened c.in_ok-params.ensures.1 c.in_ok-params.ensures.2
      (passes_on (closing ∷ []) (opening ∷ []) c.in_ok-params.left c.in_ok-closed.closed c.in_ok-opened.opened c.in_ok-closed.ensures.1 c.in_ok-closed.ensures.2 c.in_ok-opened.ensures.2),
)
