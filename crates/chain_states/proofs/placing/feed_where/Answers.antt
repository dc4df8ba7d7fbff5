-- Answers for chain_states::placing::feed_where.
use Rattle.std.proofs.Common.{◌-◌, arith, map}
use Rattle.value_types.specs.Folds.{chain_of, ty_of}
use Rattle.chain_states.proofs.Columned.{met_fed}
use Rattle.chain_states.proofs.placing.feed_where.Goals as goal

pub returns-clause-rows : goal.returns-clause-rows
returns-clause-rows c =
    met_fed c.feed_rows.result (chain_of c.args.of.now) (map ty_of c.args.types.now) c.args.places.now c.args.columns.now c.args.arguments.now c.args.from (c.args.to - c.args.from) c.args.states.now.items c.feed_rows.new.states.items
    c.args.condition c.args.conditions.now c.requires.conditions (omega (arith, c.requires.long, c.requires.order)) c.feed_rows.ensures.rows
