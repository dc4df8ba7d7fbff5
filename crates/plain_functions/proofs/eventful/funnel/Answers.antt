use Rattle.std.proofs.Common.{map, ap, pos, ◌∙◌}
use Rattle.agg_terms.specs.Types.{conditions}
use Rattle.agg_terms.specs.Values.{Num}
use Rattle.agg_meaning.specs.Events.{funnel_level}
use Rattle.value_types.specs.Folds.{event_of, ty_of}
use Rattle.plain_rows.specs.Rows.{rows_of}
use Rattle.plain_functions.proofs.Ordered.{events_cut, events_ordered}
use Rattle.plain_functions.proofs.eventful.funnel.Goals as goal

pub reached-requires-clause-ordered : goal.reached-requires-clause-ordered
reached-requires-clause-ordered c =
    events_ordered (conditions (map ty_of c.args.types.now)) (rows_of c.args.rows.now) (map event_of c.as_slice.result.now)
    (ap (map event_of) c.as_slice.ensures ∙ c.in_ok-events.ensures)

pub returns : goal.returns
returns c =
    c.reached.ensures
    ∙ ap (λ es. Num (pos (funnel_level c.args.window c.args.strict es)))
    (events_cut c.condition_count-conditions.result (conditions (map ty_of c.args.types.now)) (rows_of c.args.rows.now) (map event_of c.as_slice.result.now)
    c.condition_count-conditions.ensures (ap (map event_of) c.as_slice.ensures ∙ c.in_ok-events.ensures))
