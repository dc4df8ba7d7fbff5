use Rattle.std.proofs.Common.{◌∷◌, [], ap, map}
use Rattle.agg_terms.specs.Order.{compare_rows, different}
use Rattle.set_leaves.specs.Rows.{rows_in}
use Rattle.set_leaves.specs.Tuples.{values_tuple}
use Rattle.set_leaves.proofs.Keys.{joined_sets}
use Rattle.set_leaves.proofs.rows.Rows.insert_other.Goals as goal

pub returns-clause-ok : goal.returns-clause-ok
returns-clause-ok g c =
    joined_sets (map (λ tuple. values_tuple tuple.values) c.insert.new.self) (map (λ tuple. values_tuple tuple.values) c.in_ok-tuples.tuples) (rows_in c.args.self.now)
    (values_tuple c.in_ok-tuple_of.field-0.values ∷ []) (map g.P.Part.part c.args.row.now ∷ [])
    c.in_ok-tuples.ensures (ap (λ r. different compare_rows (r ∷ [])) c.in_ok-tuple_of.ensures) c.in_ok-insert.ensures.ok
