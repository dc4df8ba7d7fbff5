use Rattle.std.proofs.Common.{map}
use Rattle.set_leaves.specs.Rows.{rows_in}
use Rattle.set_leaves.specs.Tuples.{values_tuple}
use Rattle.set_leaves.proofs.Keys.{joined_sets}
use Rattle.set_leaves.proofs.rows.Rows.merge_others.Goals as goal

pub returns-clause-ok : goal.returns-clause-ok
returns-clause-ok c =
    joined_sets (map (λ tuple. values_tuple tuple.values) c.merge.new.self) (map (λ tuple. values_tuple tuple.values) c.in_ok-tuples.tuples) (rows_in c.args.self.now)
    (map (λ tuple. values_tuple tuple.values) c.in_ok-more.more) (rows_in c.args.later.now) c.in_ok-tuples.ensures c.in_ok-more.ensures c.in_ok-merge.ensures.ok
