use Rattle.std.proofs.Common.{ap, ◌∙◌}
use Rattle.agg_terms.specs.Types.{bare}
use Rattle.agg_values.specs.Peels.{peeled_types}
use Rattle.state_codec.proofs.Loop.{gives_as}
use Rattle.state_codec.proofs.ReadKinds.{group_reads, retention_reads}
use Rattle.state_codec.proofs.leaves.leaf_over.Goals as goal

pub returns-in-GroupArray : goal.returns-in-GroupArray
returns-in-GroupArray c =
    gives_as _ c.group_at.result _ _
    (group_reads c.args.from.version c.args.from.whole c.args.leaf.now c.in-GroupArray.most c.bare.result.now (peeled_types c.args.peels.now c.args.types.now) c.args.bytes.now c.in-GroupArray.is
    (c.bare.ensures ∙ ap bare c.requires))
    c.group_at.ensures

pub returns-in-Retention : goal.returns-in-Retention
returns-in-Retention c =
    gives_as _ c.retention_at.result _ _ (retention_reads c.args.from.version c.args.from.whole c.args.leaf.now c.args.peels.now c.args.types.now c.args.bytes.now c.in-Retention.is) c.retention_at.ensures
