use Rattle.std.proofs.Common.{◌∙◌}
use Rattle.request_rules.proofs.Images.{among}
use Rattle.request_rules.proofs.known.is_among.Goals as goal

pub returns : goal.returns
returns c = c.has_name.ensures ∙ among c.args.columns.now c.args.name.now
