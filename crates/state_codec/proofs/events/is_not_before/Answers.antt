use Rattle.std.proofs.Common.{rules, sym, ◌∙◌}
use Rattle.agg_terms.specs.Trees.{by_time}
use Rattle.value_types.specs.Folds.{event_of}
use Rattle.state_codec.proofs.Last.{last_holds}
use Rattle.state_codec.proofs.events.is_not_before.Goals as goal

pub returns-in-Some : goal.returns-in-Some
returns-in-Some c = (search rules) ∙ sym (last_holds event_of by_time c.args.earlier.now c.in-Some.field-0-1.now c.in-Some.last.now (event_of c.args.event.now) c.in-Some.ensures.cases.0)
