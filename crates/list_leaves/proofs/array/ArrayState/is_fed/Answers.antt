use Rattle.list_leaves.specs.Kept.{kept_values}
use Rattle.list_leaves.proofs.Arrays.{fed_when}
use Rattle.list_leaves.proofs.array.ArrayState.is_fed.Goals as goal

pub returns : goal.returns
returns c t = fed_when t c.args.self.now.limit.beyond_first (kept_values c.args.self.now.values) c.len.result c.len.ensures
