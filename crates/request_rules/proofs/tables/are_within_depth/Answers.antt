use Rattle.std.proofs.Common.{◌∙◌}
use Rattle.request_rules.proofs.Images.{within_depth}
use Rattle.request_rules.proofs.tables.are_within_depth.Goals as goal

pub returns : goal.returns
returns c = c.have_shapes.ensures ∙ within_depth c.args.columns.now
