use Rattle.std.proofs.Common.{◌∙◌}
use Rattle.state_codec.proofs.Fresh.{is_behind, is_fresh}
use Rattle.state_codec.proofs.distinct.put_behind.Goals as goal

pub returns-clause-fresh : goal.returns-clause-fresh
returns-clause-fresh c = c.in_ok-insert.ensures.added ∙ is_fresh c.args.seen.now.keys (record { values = c.args.values })

pub returns-clause-behind : goal.returns-clause-behind
returns-clause-behind c = is_behind c.args.seen.now.keys c.insert.new.self.keys (record { values = c.args.values }) c.in_ok-insert.field-0 c.in_ok-insert.ensures.added c.in_ok-insert.ensures.keys
