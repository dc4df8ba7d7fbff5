use Rattle.std.proofs.Common.{map, ap, ◌∙◌}
use Rattle.agg_terms.specs.Types.{conditions}
use Rattle.value_types.specs.Folds.{event_of, ty_of}
use Rattle.plain_rows.specs.Rows.{rows_of}
use Rattle.plain_functions.proofs.Ordered.{events_ordered}
use Rattle.plain_functions.proofs.eventful.matched.Goals as goal

pub matches-requires-clause-ordered : goal.matches-requires-clause-ordered
matches-requires-clause-ordered c =
    events_ordered (conditions (map ty_of c.args.types.now)) (rows_of c.args.rows.now) (map event_of c.as_slice.result.now)
    (ap (map event_of) c.as_slice.ensures ∙ c.in_ok-events.ensures)
